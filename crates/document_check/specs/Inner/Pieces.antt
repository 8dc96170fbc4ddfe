-- What a piece of a document does to what is still to come, byte by byte.
use Rattle.std.specs.Prelude.{ℕ, ◌↔◌, List, ◌++◌}
use Rattle.program_model.specs.Semantics.{Semantics}
use Rattle.document_check.specs.declared.reading.Reading.{Reading}
use Rattle.document_check.specs.Standing.{CompletesReading}

-- the bytes after these complete a reading exactly where they complete another with these before them
abbrev pub Advances : {C : Type 0} → Semantics C → List (List ℕ) → Reading C → List ℕ → Reading C → Type 0
Advances m texts old piece new = (more : List ℕ) → CompletesReading m texts old (piece ++ more) ↔ CompletesReading m texts new more
