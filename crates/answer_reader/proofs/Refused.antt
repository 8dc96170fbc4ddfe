-- A refusal is handed on: it tells the same of the bytes, whatever was to be read.
use Rattle.std.proofs.Common.{◌≡◌, ℕ, List, sym, subst}
use Rattle.std.specs.Prelude.{Result, Ok, Err, IsErrAnd}
use Rattle.answer_reader.specs.declared.refusal.AnswerRefusal.{AnswerRefusal}
use Rattle.answer_reader.specs.declared.refusal.AnswerRefusal.TheVariants.{Line, OutOfMemory}
use Rattle.refutation_tree.specs.declared.evidence.Answer.{Answer}
use Rattle.answer_reader.specs.Inner.Following.{Place}
use Rattle.answer_reader.specs.Reading.{Reads}
use Rattle.answer_reader.specs.Inner.Unread.{Unread}
use Rattle.answer_reader.specs.Inner.ReadingOn.{ComesTo, ReadsOn}

pub still_refused : {A B : Type 0} (texts : List (List ℕ)) (bytes : List ℕ) (to : A → Place) (other : B → Place) (new after : Unread) (refusal : AnswerRefusal)
    → ComesTo texts bytes to new (Err refusal) → ComesTo texts bytes other after (Err refusal)
still_refused texts bytes to other new after (Line number) comes = comes
still_refused texts bytes to other new after OutOfMemory comes = comes

-- the same of reading on
pub still_reads : {A B : Type 0} (texts : List (List ℕ)) (from : Place) (to : A → Place) (other : B → Place) (old new after : Unread) (refusal : AnswerRefusal)
    → ReadsOn texts from to old new (Err refusal) → ReadsOn texts from other old after (Err refusal)
still_reads texts from to other old new after refusal on = λ bytes at. still_refused texts bytes to other new after refusal (on bytes at)

-- the exit of a `?`
pub refused : {A B : Type 0} (texts : List (List ℕ)) (bytes : List ℕ) (to : A → Place) (other : B → Place) (new after : Unread) (refusal : AnswerRefusal) (result : Result B AnswerRefusal)
    → IsErrAnd result (λ e. e ≡ refusal) → ComesTo texts bytes to new (Err refusal) → ComesTo texts bytes other after result
refused texts bytes to other new after refusal (Ok b) is comes = absurd is
refused texts bytes to other new after refusal (Err e) is comes = still_refused texts bytes to other new after e (subst (λ (r : AnswerRefusal). ComesTo texts bytes to new (Err r)) (sym is) comes)

-- the same of the whole document
reads_refusal : {A : Type 0} (texts : List (List ℕ)) (bytes : List ℕ) (to : A → Place) (new : Unread) (refusal : AnswerRefusal) → ComesTo texts bytes to new (Err refusal) → Reads texts bytes (Err refusal)
reads_refusal texts bytes to new (Line number) comes = comes
reads_refusal texts bytes to new OutOfMemory comes = comes

pub document_refused : {A : Type 0} (texts : List (List ℕ)) (bytes : List ℕ) (to : A → Place) (new : Unread) (refusal : AnswerRefusal) (result : Result Answer AnswerRefusal)
    → IsErrAnd result (λ e. e ≡ refusal) → ComesTo texts bytes to new (Err refusal) → Reads texts bytes result
document_refused texts bytes to new refusal (Ok a) is comes = absurd is
document_refused texts bytes to new refusal (Err e) is comes = reads_refusal texts bytes to new e (subst (λ (r : AnswerRefusal). ComesTo texts bytes to new (Err r)) (sym is) comes)
