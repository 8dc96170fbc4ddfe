-- The front of a line whose end did not come yet.
use Rattle.std.specs.Prelude.{ℕ, List}

-- its bytes, and how many a line may have
pub record LineFront : Type 0 where
  pub bytes : List ℕ
  pub room : ℕ
