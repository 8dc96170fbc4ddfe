-- What is said of the document of a file.
use Rattle.std.specs.Prelude.{◌≡◌, ℕ, ◌≤◌, ◌↔◌, IsTrue, Bool, List, length, Option, Ok}
use Rattle.program_model.specs.Semantics.{Semantics}
use Rattle.bfgp_outside.specs.Shelf.{Files, Told}
use Rattle.bfgp_outside.specs.Whole.{whole_of}
use Rattle.document_check.specs.Documents.{IsAcceptedDocument}

-- the answer says whether some bytes, of at most so many, are an accepted document: those of the file of a name, where the shelf tells
-- its files
pub record IsVerdictOn {C : Type 0} (m : Semantics C) (texts : List (List ℕ)) (lines : ℕ) (told : Option Files) (name : List ℕ) (limit : ℕ) (accepted : Bool) : Type 0 where
  pub bytes : List ℕ
  pub within : length bytes ≤ limit
  pub held : Told told name (λ held. whole_of held limit ≡ Ok bytes)
  pub exactly : IsTrue accepted ↔ IsAcceptedDocument m texts lines bytes
