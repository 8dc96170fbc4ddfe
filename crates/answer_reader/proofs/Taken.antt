-- Lines that are taken off: what they say is answered, or the refusal has their number.
use Rattle.std.proofs.Common.{◌≡◌, ℕ, Bool, true, false, List, [], ◌∷◌, refl, sym, ◌∙◌, subst}
use Rattle.std.specs.Prelude.{IsTrue, not, ◌==◌, Option, Some, None, IfSome, IfNone, Result, Ok, Err, IsErrAnd, ok_or}
use Rattle.std.proofs.lemmas.Bool.{and_parts, false≢true}
use Rattle.std.proofs.lemmas.List.Elements.{All-nil, All-cons}
use Rattle.answer_reader.specs.declared.refusal.AnswerRefusal.{AnswerRefusal}
use Rattle.answer_reader.specs.declared.refusal.AnswerRefusal.TheVariants.{Line}
use Rattle.answer_lines.specs.Cuts.{is_free_of}
use Rattle.answer_reader.specs.Inner.Unread.{Unread, TakesLine}
use Rattle.answer_reader.specs.Inner.ReadingOn.{TakesSuch}
use Rattle.answer_reader.proofs.Told.{HasNoFeed}
use Rattle.answer_reader.proofs.Cut.{same_line, no_line}

false_from_not : (b : Bool) → not b ≡ true → b ≡ false
false_from_not false e = refl
false_from_not true e = absurd (false≢true e)

pub no_feed_of : (text : List ℕ) → IsTrue (is_free_of 10 text) → HasNoFeed text
no_feed_of [] e = All-nil (λ b. (b == 10) ≡ false)
no_feed_of (b ∷ bs) e =
    let parts = and_parts (not (b == 10)) (is_free_of 10 bs) e in
    All-cons (λ c. (c == 10) ≡ false) b bs (false_from_not (b == 10) parts.0) (no_feed_of bs parts.1)

-- the line says no such thing
pub says_none : {A : Type 0} (Says : A → List ℕ → Type 0) (old new : Unread) (text : List ℕ) (number : ℕ) → number ≡ old.number → TakesLine old new text → ((a : A) → Says a text → ⊥)
    → TakesSuch Says old new (Err (Line number))
says_none Says old new text number is takes none = (
  is,
  λ other after a e free says.
      let same = same_line other text after new.rest (no_feed_of other free) (no_feed_of text takes.one_line) (sym e ∙ takes.cut) in
      none a (subst (Says a) same.0 says),
)

-- there is no line
pub none_left : {A : Type 0} (Says : A → List ℕ → Type 0) (old new : Unread) (number : ℕ) → number ≡ old.number → IsTrue (is_free_of 10 old.rest) → TakesSuch Says old new (Err (Line number))
none_left Says old new number is free = (is, λ text after a e one_line says. no_line old.rest text after (no_feed_of old.rest free) e)

-- there is no line, the refusal handed on by `?`
pub no_line_left : {A : Type 0} (Says : A → List ℕ → Type 0) (old new : Unread) (refusal : AnswerRefusal) (result : Result A AnswerRefusal) → IsErrAnd result (λ e. e ≡ refusal) → refusal ≡ Line old.number → IsTrue (is_free_of 10 old.rest)
    → TakesSuch Says old new result
no_line_left Says old new refusal (Ok a) is number free = absurd is
no_line_left Says old new refusal (Err e) is number free =
    subst (λ (r : AnswerRefusal). TakesSuch Says old new (Err r)) (sym (is ∙ number)) (none_left Says old new old.number refl free)

-- what the line says, or the refusal
pub told_by : {A : Type 0} (Says : A → List ℕ → Type 0) (old new : Unread) (text : List ℕ) (number : ℕ) (told : Option A) (result : Result A AnswerRefusal) → result ≡ ok_or told (Line number) → number ≡ old.number
    → TakesLine old new text → IfSome told (λ a. Says a text) → IfNone told ((a : A) → Says a text → ⊥) → TakesSuch Says old new result
told_by Says old new text number (Some a) result is same takes some none = subst (TakesSuch Says old new) (sym is) (text, takes, some)
told_by Says old new text number None result is same takes some none = subst (TakesSuch Says old new) (sym is) (says_none Says old new text number same takes none)

pub none_more : {A : Type 0} (P Q : Type 0) (o : Option A) → (P → Q) → IfNone o P → IfNone o Q
none_more P Q (Some a) f none = none
none_more P Q None f none = f none
