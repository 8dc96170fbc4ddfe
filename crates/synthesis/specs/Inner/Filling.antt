-- A program whose undefined lines are filled one after another.
use Rattle.std.specs.Prelude.{◌≡◌, ℕ, ◌<◌, length, slice_get}
use Rattle.program_model.specs.Alphabet.{alphabet}
use Rattle.program_model.specs.Program.{Program, line_at, IsOpen, Extends}

-- the undefined lines below one are filled by the first instructions of their alphabets
pub record FillsBelow (ops : ℕ) (q : Program) (upto : ℕ) (p : Program) : Type 0 where
  pub extends : Extends p q
  pub filled : (line : ℕ) → line < upto → IsOpen q line → line_at p line ≡ slice_get (alphabet ops (length q) line) 0
