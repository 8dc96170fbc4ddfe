-- Lexemes that show the opening or a section of a text are spelled by its rule.
use Rattle.std.proofs.Common.{◌≡◌, ℕ, List, [], ◌∷◌, ◌++◌, codes, refl, append_assoc}
use Rattle.std.specs.Prelude.{All}
use Rattle.flag_rules.specs.Name.{IsName}
use Rattle.pddl_forms.specs.declared.texts.Word.{Word}
use Rattle.pddl_forms.specs.declared.texts.Typed.{Typed}
use Rattle.pddl_forms.specs.Lexemes.{Lexeme}
use Rattle.pddl_forms.specs.Forms.{word, IsNames, IsNameWord, Many}
use Rattle.pddl_parser.specs.Grammar.{IsOpening, is_opening, IsSection, IsRequirement}
use Rattle.pddl_parser.specs.Spelled.{IsRequirementText, IsTypedSpelled}
use Rattle.pddl_printer.specs.Printing.{section, texts_of, typed_words}
use Rattle.pddl_printer.specs.Alike.{AlikeWord, AlikeTyped, AreAlike}
use Rattle.pddl_printer.proofs.Tokens.{kind-name}
use Rattle.pddl_printer.proofs.Lines.{Shown, shown}
use Rattle.pddl_printer.proofs.Shows.{Reads, regroup, read-name, read-words, read-requirement}
use Rattle.pddl_printer.proofs.TypedShows.{read-typed}
use Rattle.pddl_printer.proofs.ActionShows.{read-section}

pub read-opening : (kind : List ℕ) → IsName kind → (own : Word) → IsName own.text → (ws : List (List ℕ)) (ts : List Lexeme) → Shown (codes "(" ∷ codes "define" ∷ (section kind (own.text ∷ []) ++ ws)) ts → Reads (IsOpening kind) (AlikeWord own) ws ts
read-opening kind is own named ws _ (shown a (shown b (shown c (shown d (shown e (shown f {ts = rest} shows)))))) =
    record { item = word own.text e; rest = rest; rule = rw (kind-name kind is, kind-name own.text named) is_opening; alike = refl; shows = shows }

-- a section, where the words in it and its right parenthesis are read so
pub read-listed : {A : Type 0} (Body : List Lexeme → A → List Lexeme → Type 0) (Alike : A → Type 0) (key : List ℕ) (us : List (List ℕ)) → ((ws : List (List ℕ)) (ts : List Lexeme) → Shown (us ++ codes ")" ∷ ws) ts → Reads Body Alike ws ts)
    → (ws : List (List ℕ)) (ts : List Lexeme) → Shown (section (58 ∷ key) us ++ ws) ts → Reads (IsSection (58 ∷ key) Body) Alike ws ts
read-listed Body Alike key us reads ws ts shows =
    read-section Body Alike key ((us ++ codes ")" ∷ []) ++ ws) ws (λ inner within. reads ws inner (regroup us (codes ")" ∷ []) ws inner within)) ts shows

pub read-requirements : (words : List Word) → All (λ (w : Word). IsRequirementText w.text) words → (ws : List (List ℕ)) (ts : List Lexeme) → Shown (section (codes ":requirements") (texts_of words) ++ ws) ts → Reads (IsSection (codes ":requirements") (Many IsRequirement)) (AreAlike AlikeWord words) ws ts
read-requirements words all = read-listed (Many IsRequirement) (AreAlike AlikeWord words) (codes "requirements") (texts_of words) (read-words IsRequirement IsRequirementText read-requirement words all)

pub read-names : (key : List ℕ) (names : List Typed) → All (IsTypedSpelled IsName) names → (ws : List (List ℕ)) (ts : List Lexeme) → Shown (section (58 ∷ key) (typed_words names) ++ ws) ts → Reads (IsSection (58 ∷ key) IsNames) (AreAlike AlikeTyped names) ws ts
read-names key names all = read-listed IsNames (AreAlike AlikeTyped names) key (typed_words names) (λ ws ts shows. read-typed IsNameWord IsName read-name ws names all ts shows)

-- five sections and the end of a text
pub sections-apart : (a b c d e f : List (List ℕ)) → ((((a ++ b) ++ c) ++ d) ++ e) ++ f ≡ a ++ (b ++ (c ++ (d ++ (e ++ f))))
sections-apart a b c d e f = simp append_assoc
