-- Reading on: where a reader stands in a document, and where it comes to.
use Rattle.std.specs.Prelude.{◌≡◌, ℕ, ◌+◌, IsTrue, List, ◌++◌, length, Result, Ok, Err}
use Rattle.flag_rules.specs.Line.{line, lines_of}
use Rattle.answer_reader.specs.declared.refusal.AnswerRefusal.{AnswerRefusal}
use Rattle.answer_reader.specs.declared.refusal.AnswerRefusal.TheVariants.{Line, OutOfMemory}
use Rattle.answer_lines.specs.Cuts.{is_free_of}
use Rattle.answer_reader.specs.Inner.Unread.{Unread, TakesLine}
use Rattle.answer_reader.specs.Reading.{IsAstray}
use Rattle.answer_reader.specs.Inner.Following.{Place, at_form, LeadOn}

-- The next line is taken off, and says what is answered; or there is none that says any such thing, and the refusal has its number.
abbrev pub TakesSuch : {A : Type 0} → (A → List ℕ → Type 0) → Unread → Unread → Result A AnswerRefusal → Type 0
TakesSuch Says old new (Ok a) = (text : List ℕ) × TakesLine old new text × Says a text
TakesSuch {A} Says old new (Err (Line number)) =
    (number ≡ old.number) × ((text after : List ℕ) (a : A) → old.rest ≡ line text ++ after → IsTrue (is_free_of 10 text) → Says a text → ⊥)
TakesSuch Says old new (Err OutOfMemory) = ⊥

-- A reader stands at a place of the bytes: the lines before what is left lead there.
pub record StandsAt (texts : List (List ℕ)) (bytes : List ℕ) (left : Unread) (place : Place) : Type 0 where
  pub before : List (List ℕ)
  pub cut : bytes ≡ lines_of before ++ left.rest
  pub number_is : left.number ≡ length before + 1
  pub lead : LeadOn texts at_form before place

-- the reader stands at the place of what is answered, or the refusal tells where the bytes go astray
abbrev pub ComesTo : {A : Type 0} → List (List ℕ) → List ℕ → (A → Place) → Unread → Result A AnswerRefusal → Type 0
ComesTo texts bytes to new (Ok a) = StandsAt texts bytes new (to a)
ComesTo texts bytes to new (Err (Line number)) = IsAstray texts bytes number
ComesTo texts bytes to new (Err OutOfMemory) = Unit {0}

-- a reader that stands at a place reads on, to the place of what is answered
abbrev pub ReadsOn : {A : Type 0} → List (List ℕ) → Place → (A → Place) → Unread → Unread → Result A AnswerRefusal → Type 0
ReadsOn texts from to old new result = (bytes : List ℕ) → StandsAt texts bytes old from → ComesTo texts bytes to new result
