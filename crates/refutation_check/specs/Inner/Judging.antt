-- What is asked of an answer, part by part.
use Rattle.std.specs.Prelude.{◌≡◌, ℕ, ◌+◌, ◌<◌, Some, length, slice_index_or}
use Rattle.program_model.specs.declared.alphabet.TheConstants.{MAX_LINES}
use Rattle.program_model.specs.declared.machine.TheConstants.{MAX_INSTANCES, MAX_POINTERS}
use Rattle.program_model.specs.Semantics.{Semantics}
use Rattle.program_model.specs.Program.{Program, line_at, IsInstr}
use Rattle.program_model.specs.declared.instr.Instr.{Instr}
use Rattle.refutation_tree.specs.declared.evidence.Tree.{Tree}
use Rattle.refutation_tree.specs.declared.evidence.Outcome.{Outcome}
use Rattle.refutation_tree.specs.declared.evidence.Answer.{Answer}
use Rattle.refutation_tree.specs.Grammar.{IsFromOneTo, IsTree, last_size}
use Rattle.refutation_tree.specs.Accepted.{CoversRefuted}
use Rattle.pointer_symmetry.specs.Twins.{twins}

-- the numbers of the answer are those of the machine and the lines that were asked for, in their ranges
pub record IsHeaded {C : Type 0} (m : Semantics C) (lines : ℕ) (a : Answer) : Type 0 where
  pub pointers : a.pointers ≡ m.pointers
  pub asked : a.lines ≡ lines
  pub instances : a.instances ≡ m.instances
  pub pointers_in_range : IsFromOneTo MAX_POINTERS a.pointers
  pub lines_in_range : IsFromOneTo MAX_LINES a.lines
  pub instances_in_range : IsFromOneTo MAX_INSTANCES a.instances
  pub size : IsFromOneTo a.lines (last_size a.lines a.outcome)

-- the tree is the one of a size; it is of the grammar, and covers, if the outcome says that its size is refuted
pub record HoldsAt {C : Type 0} (m : Semantics C) (outcome : Outcome) (size : ℕ) (tree : Tree) : Type 0 where
  pub size_is : tree.size ≡ size
  pub is_tree : IsTree m.ops m.instances tree
  pub covers : CoversRefuted m (twins m) outcome tree

-- there is a tree for each size that has one, in order
pub record HasTrees {C : Type 0} (m : Semantics C) (a : Answer) : Type 0 where
  pub count : length a.trees ≡ last_size a.lines a.outcome
  pub each : (place : ℕ) (d : Tree) → place < length a.trees → HoldsAt m a.outcome (place + 1) (slice_index_or a.trees place d)

-- the line is defined, with an instruction of its alphabet
abbrev pub HasInstr : ℕ → Program → ℕ → Type 0
HasInstr ops program line = (instr : Instr) × (line_at program line ≡ Some instr) × IsInstr ops (length program) line instr
