-- What a machine means: the values of its configurations, and what it does to them.
use Rattle.std.specs.Prelude.{ℕ, List}
use Rattle.flag_rules.specs.declared.flags.Sign.{Sign}

-- a machine's meaning, by numbers of instances and operations
pub record Semantics (C : Type 0) : Type 0 where
  -- how many instances, operations and pointers there are
  pub instances : ℕ
  pub ops : ℕ
  pub pointers : ℕ
  -- the value at the start of an instance
  pub start : ℕ → C
  -- the value after an operation on an instance: `act t op value`
  pub act : ℕ → ℕ → C → C
  -- the sign of the last result, or the one at the start
  pub sign : C → Sign
  -- how many goal atoms of an instance are missing; its goal is met where none is, and nowhere else
  pub missing : ℕ → C → ℕ
  -- the pointers of an operation, in the order of its places
  pub pointers_of : ℕ → List ℕ
  -- an operation, and a value, whose pointers have other numbers: each is listed under its old one
  pub rename : List ℕ → ℕ → ℕ
  pub renamed : List ℕ → C → C
