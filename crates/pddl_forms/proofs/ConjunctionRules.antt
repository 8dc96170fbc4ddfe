-- The conjunctions of atoms and of changes are read as the grammar says.
use Rattle.std.proofs.Common.{◌≡◌, ℕ, ◌+◌, ◌<◌, Bool, true, false, cond, ◌||◌, List, [], ◌∷◌, ◌++◌, length, drop, codes, bytes_eq, refl, sym, ap, ◌∙◌, arith}
use Rattle.std.proofs.lemmas.List.{append-nil}
use Rattle.pddl_lexer.specs.declared.lexer.Kind.TheVariants.{RightParen, Name}
use Rattle.pddl_forms.specs.declared.texts.AtomText.{AtomText}
use Rattle.pddl_forms.specs.declared.formulas.Terms.{Terms}
use Rattle.pddl_forms.specs.declared.formulas.Terms.TheVariants.{NamesAndVariables}
use Rattle.pddl_forms.specs.declared.texts.AtomChange.{AtomChange}
use Rattle.pddl_forms.specs.declared.texts.AtomChange.TheVariants.{Added, Deleted}
use Rattle.pddl_forms.specs.Lexemes.{Lexeme, left, right, name}
use Rattle.pddl_forms.specs.Forms.{is_reserved, IsHead, is_head, IsAtom, is_atom, IsLiftedAtom, Closed, closed, Conjunction, IsChange, is_added, is_deleted, added, deleted}
use Rattle.pddl_forms.specs.Inner.Reading.{got, and_then, comes, comes_as, in_list, atom_body, atom, change_body, closed_item, conjunction}
use Rattle.pddl_forms.proofs.Fronts.{and_then-cases, same_got, mark-left, literal-name}
use Rattle.pddl_forms.proofs.ItemSteps.{Parses}
use Rattle.pddl_forms.proofs.Exact.{IsTermOf, carried, atom-shorter, parses_atom, parses_closed}
use Rattle.pddl_forms.proofs.Conjunctions.{Stays, IsInner, body_stays, parses_conjunction, Conjunction-count}

neither : (a b : Bool) → (a || b) ≡ false → (a ≡ false) × (b ≡ false)
neither true b e = absurd cc
neither false b e = (refl, e)

-- the head of an atom is neither `and` nor `not`
free : (text : List ℕ) → is_reserved text ≡ false → (bytes_eq text (codes "and") ≡ false) × (bytes_eq text (codes "not") ≡ false)
free text e = let one = neither _ _ e in (one.0, (neither _ _ one.1).0)

atom-free : (terms : Terms) (p : ℕ) (ts rest : List Lexeme) (a : AtomText) → IsAtom (IsTermOf terms) (left p ∷ ts) a rest → (comes RightParen ts ≡ false) × (comes_as Name (codes "and") ts ≡ false) × (comes_as Name (codes "not") ts ≡ false)
atom-free terms p ts rest a (is_atom {ts = after} {mid = mid} {head = h} d ds) = go after mid d
  where
    go : (us mid : List Lexeme) → IsHead us h mid → (comes RightParen us ≡ false) × (comes_as Name (codes "and") us ≡ false) × (comes_as Name (codes "not") us ≡ false)
    go us mid (is_head {text = text} e) = (refl, (free text e).0, (free text e).1)

atom_is_inner : (terms : Terms) → IsInner (IsAtom (IsTermOf terms))
atom_is_inner terms = record { shorter = atom-shorter terms; inside = λ p ts rest a d. (atom-free terms p ts rest a d).0; free = λ p ts rest a d. (atom-free terms p ts rest a d).1 }

pub atom_body_stays : (terms : Terms) → Stays (atom_body terms)
atom_body_stays terms = body_stays (IsAtom (IsTermOf terms)) (atom_body terms) (atom_is_inner terms) (parses_atom terms)

pub parses_formula : (terms : Terms) → Parses (Conjunction (IsAtom (IsTermOf terms))) (conjunction (atom_body terms))
parses_formula terms = parses_conjunction (IsAtom (IsTermOf terms)) (atom_body terms) (atom_is_inner terms) (parses_atom terms)

pub formula-count : (terms : Terms) (ts rest : List Lexeme) (atoms : List AtomText) → Conjunction (IsAtom (IsTermOf terms)) ts atoms rest → length atoms + length rest < length ts
formula-count terms = Conjunction-count (IsAtom (IsTermOf terms)) (atom_body terms) (atom_is_inner terms) (parses_atom terms)

-- `not atom )`, or `HEAD term* )`
closed_atom : Parses (Closed IsLiftedAtom) (closed_item (atom NamesAndVariables))
closed_atom = parses_closed IsLiftedAtom (atom NamesAndVariables) (parses_atom NamesAndVariables)

deleted_at : (ts us mid rest left_over : List Lexeme) (p q : ℕ) (a : AtomText) (change : AtomChange) → ts ≡ left p ∷ us → us ≡ name (codes "not") q ∷ mid → Deleted a ≡ change → left_over ≡ rest → Closed IsLiftedAtom mid a left_over → IsChange ts change rest
deleted_at ts us mid rest left_over p q a change is is_not same same_rest d = rw (is, is_not, ← same, ← same_rest) (is_deleted d)

change_body-sound : (p : ℕ) (ts us rest : List Lexeme) (change : AtomChange) → ts ≡ left p ∷ us → (negated : Bool) → comes_as Name (codes "not") us ≡ negated
    → cond negated (and_then (closed_item (atom NamesAndVariables) (drop 1 us)) (λ a rest. got (Deleted a) rest)) (and_then (atom_body NamesAndVariables us) (λ a rest. got (Added a) rest)) ≡ got change rest → IsChange ts change rest
unfolding and_then
change_body-sound p ts us rest change is true n e =
    let one = and_then-cases _ _ _ _ e in
    let same = same_got one.3 in
    let at = literal-name (codes "not") us (drop 1 us) tt (rw n refl) in
    deleted_at ts us (drop 1 us) rest one.1 p at.0 one.0 change is at.1 same.0 same.1 (closed_atom.sound _ _ _ one.2)
change_body-sound p ts us rest change is false n e =
    let one = and_then-cases _ _ _ _ e in
    let same = same_got one.3 in
    carried IsChange is same.0 same.1 (is_added ((parses_atom NamesAndVariables).sound (left p ∷ us) one.1 one.0 one.2))

change-sound : (ts rest : List Lexeme) (change : AtomChange) → in_list change_body ts ≡ got change rest → IsChange ts change rest
unfolding change_body
change-sound ts rest change e =
    let paren = and_then-cases _ _ _ _ e in
    let at = mark-left ts _ _ paren.2 in
    change_body-sound at.0 ts paren.1 rest change at.1 (comes_as Name (codes "not") paren.1) refl paren.3

change-complete : (ts rest : List Lexeme) (change : AtomChange) → IsChange ts change rest → in_list change_body ts ≡ got change rest
unfolding change_body and_then
change-complete ts rest change (is_added {atom = a} (is_atom {p = p} {ts = after} d ds)) =
    let plain = atom-free NamesAndVariables p after rest a (is_atom d ds) in
    let read = (parses_atom NamesAndVariables).complete (left p ∷ after) rest a (is_atom d ds) in
    rw plain.2 (ap (λ r. and_then r (λ a rest. got (Added a) rest)) read)
change-complete ts rest change (is_deleted {ts = after} {atom = a} d) = rw (closed_atom.complete after rest a d) refl

parses_change : Parses IsChange (in_list change_body)
parses_change = record { sound = change-sound; complete = change-complete }

change_is_inner : IsInner IsChange
change_is_inner = record { shorter = shorter; inside = inside; free = free }
  where
    shorter : (ts rest : List Lexeme) (change : AtomChange) → IsChange ts change rest → length rest + 1 < length ts
    shorter ts rest change (is_added {atom = a} d) = atom-shorter NamesAndVariables ts rest a d
    shorter ts rest change (is_deleted {atom = a} (closed {p = p} {ts = after} d)) = omega (arith, atom-shorter NamesAndVariables after (right p ∷ rest) a d)

    inside : (p : ℕ) (ts rest : List Lexeme) (change : AtomChange) → IsChange (left p ∷ ts) change rest → comes RightParen ts ≡ false
    inside p ts rest change (is_added {atom = a} d) = (atom-free NamesAndVariables p ts rest a d).0
    inside p ts rest change (is_deleted d) = refl

    free : (p : ℕ) (ts rest : List Lexeme) (change : AtomChange) → IsChange (left p ∷ ts) change rest → comes_as Name (codes "and") ts ≡ false
    free p ts rest change (is_added {atom = a} d) = (atom-free NamesAndVariables p ts rest a d).1
    free p ts rest change (is_deleted d) = refl

pub change_body_stays : Stays change_body
change_body_stays = body_stays IsChange change_body change_is_inner parses_change

pub parses_effect : Parses (Conjunction IsChange) (conjunction change_body)
parses_effect = parses_conjunction IsChange change_body change_is_inner parses_change

pub effect-count : (ts rest : List Lexeme) (changes : List AtomChange) → Conjunction IsChange ts changes rest → length changes + length rest < length ts
effect-count = Conjunction-count IsChange change_body change_is_inner parses_change

-- what some changes and others add and delete
added_append : (some others : List AtomChange) → added (some ++ others) ≡ added some ++ added others
added_append [] others = refl
added_append (Added a ∷ some) others = ap (λ l. a ∷ l) (added_append some others)
added_append (Deleted a ∷ some) others = added_append some others

deleted_append : (some others : List AtomChange) → deleted (some ++ others) ≡ deleted some ++ deleted others
deleted_append [] others = refl
deleted_append (Added a ∷ some) others = deleted_append some others
deleted_append (Deleted a ∷ some) others = ap (λ l. a ∷ l) (deleted_append some others)

-- one more change that adds an atom, or deletes one
pub with_added : (changes : List AtomChange) (add del : List AtomText) (change : AtomChange) (a : AtomText) → (add ≡ added changes) × (del ≡ deleted changes) → change ≡ Added a → (add ++ a ∷ [] ≡ added (changes ++ change ∷ [])) × (del ≡ deleted (changes ++ change ∷ []))
with_added changes add del change a so_far is =
    rw (is, so_far.0, so_far.1) (sym (added_append changes (Added a ∷ [])), sym (deleted_append changes (Added a ∷ []) ∙ append-nil (deleted changes)))

pub with_deleted : (changes : List AtomChange) (add del : List AtomText) (change : AtomChange) (a : AtomText) → (add ≡ added changes) × (del ≡ deleted changes) → change ≡ Deleted a → (add ≡ added (changes ++ change ∷ [])) × (del ++ a ∷ [] ≡ deleted (changes ++ change ∷ []))
with_deleted changes add del change a so_far is =
    rw (is, so_far.0, so_far.1) (sym (added_append changes (Deleted a ∷ []) ∙ append-nil (added changes)), sym (deleted_append changes (Deleted a ∷ [])))
