-- The partial programs that have no tree yet, while the marks of a tree are read.
use Rattle.std.specs.Prelude.{ℕ, ◌+◌, ◌<◌, List, [], ◌∷◌, ◌++◌, length, drop}
use Rattle.program_model.specs.Program.{Program}
use Rattle.refutation_tree.specs.Grammar.{child_programs}
use Rattle.answer_reader.specs.declared.open_trees.Family.{Family}

-- how many operations there are, and the programs, the next one first
pub record Pending : Type 0 where
  pub ops : ℕ
  pub programs : List Program

-- the children that have no tree yet
abbrev pub waiting : ℕ → Family → List Program
waiting ops family = drop family.rank (child_programs ops family.parent family.line)

-- those of several families, of which the last comes first
abbrev pub waiting_in : ℕ → List Family → List Program
waiting_in ops [] = []
waiting_in ops (family ∷ later) = waiting_in ops later ++ waiting ops family

-- a family that was split at a line that is not the last, and has a child left
pub record IsOpenFamily (ops : ℕ) (family : Family) : Type 0 where
  pub inner : family.line + 1 < length family.parent
  pub left : family.rank < length (child_programs ops family.parent family.line)
