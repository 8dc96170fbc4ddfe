-- What stands before the sections: the reading of it is what the grammar says.
use Rattle.std.proofs.Common.{◌≡◌, ℕ, List, ◌∷◌, codes, refl}
use Rattle.std.proofs.lemmas.Slice.Eq.{bytes_eq-Decides}
use Rattle.pddl_forms.specs.declared.texts.Word.{Word}
use Rattle.pddl_forms.specs.Lexemes.{Lexeme, left, right, name}
use Rattle.pddl_forms.specs.Forms.{IsNameWord, is_name_word}
use Rattle.pddl_forms.specs.Inner.Reading.{got, and_then}
use Rattle.pddl_forms.proofs.Fronts.{and_then-cases, same_got, mark-left, mark-right, literal-name}
use Rattle.pddl_forms.proofs.ItemSteps.{Parses}
use Rattle.pddl_forms.proofs.Exact.{parses_name_word, carried}
use Rattle.pddl_parser.specs.Grammar.{IsOpening, is_opening}
use Rattle.pddl_parser.specs.Inner.SectionReading.{opening}

-- `( define ( KIND NAME )`
name_at : (ts rest : List Lexeme) (w : Word) → IsNameWord ts w rest → ts ≡ name w.text w.at ∷ rest
name_at ts rest w is_name_word = refl

opening_at : (kind : List ℕ) (a b c d e : List Lexeme) (f : List Lexeme) (rest : List Lexeme) (own : Word) (p q r s t : ℕ) → a ≡ left p ∷ b → b ≡ name (codes "define") q ∷ c → c ≡ left r ∷ d → d ≡ name kind s ∷ e → e ≡ name own.text own.at ∷ f → f ≡ right t ∷ rest → IsOpening kind a own rest
opening_at kind a b c d e f rest own p q r s t i j k l m n = rw (i, j, k, l, m, n) is_opening

opening-sound : (kind : List ℕ) (ts rest : List Lexeme) (own : Word) → opening kind ts ≡ got own rest → IsOpening kind ts own rest
unfolding opening
opening-sound kind ts rest own e =
    let a = and_then-cases _ _ _ _ e in
    let b = and_then-cases _ _ _ _ a.3 in
    let c = and_then-cases _ _ _ _ b.3 in
    let d = and_then-cases _ _ _ _ c.3 in
    let f = and_then-cases _ _ _ _ d.3 in
    let g = and_then-cases _ _ _ _ f.3 in
    let same = same_got g.3 in
    let p = mark-left _ _ _ a.2 in
    let q = literal-name (codes "define") _ _ _ b.2 in
    let r = mark-left _ _ _ c.2 in
    let s = literal-name kind _ _ _ d.2 in
    let t = mark-right _ _ _ g.2 in
    carried (IsOpening kind) refl same.0 same.1 (opening_at kind _ _ _ _ _ _ _ _ _ _ _ _ _ p.1 q.1 r.1 s.1 (name_at _ _ _ (parses_name_word.sound _ _ _ f.2)) t.1)

opening-complete : (kind : List ℕ) (ts rest : List Lexeme) (own : Word) → IsOpening kind ts own rest → opening kind ts ≡ got own rest
unfolding opening and_then
opening-complete kind ts rest own is_opening = rw ((bytes_eq-Decides kind kind).1 refl) refl

pub parses_opening : (kind : List ℕ) → Parses (IsOpening kind) (opening kind)
parses_opening kind = record { sound = opening-sound kind; complete = opening-complete kind }
