-- When bytes are the document of an accepted answer.
use Rattle.std.specs.Prelude.{ℕ, List}
use Rattle.program_model.specs.Semantics.{Semantics}
use Rattle.refutation_tree.specs.declared.evidence.Answer.{Answer}
use Rattle.refutation_tree.specs.Accepted.{IsAccepted}
use Rattle.pointer_symmetry.specs.Twins.{twins}
use Rattle.answer_reader.specs.Reading.{IsDocument}

-- the bytes are the document of an answer that is accepted for a machine and a number of lines, where these are the texts of the operations
pub record IsAcceptedDocument {C : Type 0} (m : Semantics C) (texts : List (List ℕ)) (lines : ℕ) (bytes : List ℕ) : Type 0 where
  pub answer : Answer
  pub says : IsDocument texts bytes answer
  pub is_accepted : IsAccepted m (twins m) lines answer
