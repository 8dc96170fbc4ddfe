-- The contract of the code for what comes in any order: reading keywords and what each brings, lexeme by lexeme, up to a
-- right parenthesis.
use Rattle.std.specs.Prelude.{ℕ, zero, suc, Bool, true, false, not, ◌&&◌, ◌||◌, length, drop, List, [], ◌∷◌, bytes_eq, if◌then◌else◌}
use Rattle.pddl_lexer.specs.declared.lexer.Kind.TheVariants.{RightParen, Keyword}
use Rattle.pddl_forms.specs.declared.stop.Why.{Why}
use Rattle.pddl_forms.specs.declared.stop.Why.TheVariants.{Shape, Unsupported}
use Rattle.pddl_forms.specs.declared.texts.Word.{Word}
use Rattle.pddl_forms.specs.Lexemes.{Lexeme}
use Rattle.pddl_forms.specs.Forms.{is_one_of}
use Rattle.pddl_forms.specs.Offending.{requirement_keywords}
use Rattle.pddl_forms.specs.Inner.Reading.{Read, got, stuck, and_then, is_of, word_of, comes}

-- a value, where nothing is left
abbrev pub ended : {A : Type 0} → A → List Lexeme → Read A
ended value [] = got value []
ended value (t ∷ ts) = stuck Shape (t ∷ ts)

-- a value of all the lexemes
unfoldable pub all_of : {A : Type 0} → (List Lexeme → Read A) → List Lexeme → Read A
all_of read ts = and_then (read ts) ended

-- the lexeme is this keyword
abbrev pub is_keyword : List ℕ → Lexeme → Bool
is_keyword text t = is_of Keyword t && bytes_eq (word_of t).text text

-- why a lexeme may not stand in the place of a keyword, by the keywords of that place, and by whether one of them may stand
abbrev pub why_no_keyword : List (List ℕ) → Bool → Lexeme → Why
why_no_keyword keys may t = if is_of Keyword t && (not (is_one_of keys (word_of t).text) && may) then Unsupported else Shape

-- :strips, or :typing
abbrev pub requirement : List Lexeme → Read Word
requirement [] = stuck Shape []
requirement (t ∷ ts) =
    if is_of Keyword t && is_one_of requirement_keywords (word_of t).text then got (word_of t) ts
    else stuck (why_no_keyword requirement_keywords true t) (t ∷ ts)

-- what may come in any order after others: its keyword, whether it may still come, and what is read after its keyword
pub record Choice (S : Type 0) : Type 0 where
  pub key : List ℕ
  pub may : S → Bool
  pub body : S → List Lexeme → Read S

-- one of some choices may still come
abbrev pub any_may : {S : Type 0} → List (Choice S) → S → Bool
any_may [] seen = false
any_may (c ∷ choices) seen = c.may seen || any_may choices seen

-- this lexeme is the keyword of a choice that may still come
abbrev pub takes_key : {S : Type 0} → List (Choice S) → S → Lexeme → Bool
takes_key [] seen t = false
takes_key (c ∷ choices) seen t = is_keyword c.key t && c.may seen || takes_key choices seen t

-- what is read after the keyword of a choice
abbrev pub after_key : {S : Type 0} → List (Choice S) → S → Lexeme → List Lexeme → Read S
after_key [] seen t ts = stuck Shape ts
after_key (c ∷ choices) seen t ts = if is_keyword c.key t && c.may seen then c.body seen ts else after_key choices seen t ts

-- one of some choices, in a place of these keywords
unfoldable pub choice_of : {S : Type 0} → List (List ℕ) → List (Choice S) → S → List Lexeme → Read S
choice_of keys choices seen [] = stuck Shape []
choice_of keys choices seen (t ∷ ts) =
    if takes_key choices seen t then after_key choices seen t ts
    else stuck (why_no_keyword keys (any_may choices seen) t) (t ∷ ts)

-- items of a state, one after another, at most so many, up to a right parenthesis where the state is whole
abbrev pub turns_within : {S : Type 0} → (S → Bool) → (S → List Lexeme → Read S) → ℕ → S → List Lexeme → Read S
turns_within whole item zero seen ts = stuck Shape ts
turns_within whole item (suc room) seen ts =
    if comes RightParen ts && whole seen then got seen (drop 1 ts)
    else and_then (item seen ts) (λ next rest. turns_within whole item room next rest)

-- the same, as many as there are: each takes a lexeme
unfoldable pub turns : {S : Type 0} → (S → Bool) → (S → List Lexeme → Read S) → S → List Lexeme → Read S
turns whole item seen ts = turns_within whole item (suc (length ts)) seen ts
