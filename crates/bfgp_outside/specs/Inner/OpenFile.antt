-- What a read of an open file gives.
use Rattle.std.specs.Prelude.{◌≡◌, ℕ, List, take, Option, Some, IfSome}
use Rattle.std.specs.Io.KnownBytes.{Consumes}

-- a read of an open file from a place on: the file was moved there, and gave the next bytes, where its place and its bytes are known
pub record ReadsFrom {F : Type 0} (place : F → Option ℕ) (remaining : F → Option (List ℕ)) (old new : F) (from count : ℕ) (into : List ℕ) : Type 0 where
  pub moved : F
  pub there : IfSome (place old) (λ _. place moved ≡ Some from)
  pub given : Consumes (remaining moved) (remaining new) (take count into)
