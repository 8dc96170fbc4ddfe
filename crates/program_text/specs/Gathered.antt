-- Bytes that are gathered before they are put.
use Rattle.std.specs.Prelude.{◌≡◌, ℕ, List, ◌++◌, Option, Result, OnOk}
use Rattle.bfgp_outside.specs.Sink.{Puts}

-- A call gathered these bytes: what was gathered before and these bytes are in two parts, of which the call put the first; with
-- Ok the other is what is gathered now.
pub record Gathers {S T E : Type 0} (written : S → Option (List ℕ)) (faults : S → ℕ) (old new : S) (had has : List ℕ) (result : Result T E) (bytes : List ℕ) : Type 0 where
  pub put : List ℕ
  pub rest : List ℕ
  pub parts : put ++ rest ≡ had ++ bytes
  pub puts : Puts written faults old new result put
  pub kept : OnOk result (has ≡ rest)
