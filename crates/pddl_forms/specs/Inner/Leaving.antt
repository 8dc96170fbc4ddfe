-- The contract of the code for what is read again and again: how many lexemes reading leaves.
use Rattle.std.specs.Prelude.{◌≡◌, ◌<◌, ◌≤◌, List, length}
use Rattle.pddl_forms.specs.Lexemes.{Lexeme}
use Rattle.pddl_forms.specs.Inner.Reading.{Read, got}

-- reading takes a lexeme at least
abbrev pub Shrinks : {A : Type 0} → (List Lexeme → Read A) → Type 0
Shrinks {A} read = (ts rest : List Lexeme) (value : A) → read ts ≡ got value rest → length rest < length ts

-- reading leaves no more lexemes than there were
abbrev pub Stays : {A : Type 0} → (List Lexeme → Read A) → Type 0
Stays {A} read = (ts rest : List Lexeme) (value : A) → read ts ≡ got value rest → length rest ≤ length ts
