-- When a schema's atom is a ground atom at the objects of its parameters.
use Rattle.std.specs.Prelude.{ℕ, ◌<◌, List, length, All, ⊤}
use Rattle.ground_state.specs.declared.parts.Lifted.{Lifted}
use Rattle.ground_state.specs.declared.parts.Term.{Term}
use Rattle.ground_state.specs.declared.parts.Term.TheVariants.{Param, Object}
use Rattle.ground_state.specs.Instance.{IsFact}
use Rattle.ground_state.specs.Action.{grounded}

-- the parameter of the argument, if it is one, is among so many
abbrev pub IsBound : ℕ → Term → Type 0
IsBound count (Param place) = place < count
IsBound count (Object number) = ⊤

-- a schema's atom that is a ground atom at these objects
pub record IsLiftedAt (objects : ℕ) (arities : List ℕ) (args : List ℕ) (atom : Lifted) : Type 0 where
  pub bound : All (IsBound (length args)) atom.args
  pub fact : IsFact objects arities (grounded args atom)
