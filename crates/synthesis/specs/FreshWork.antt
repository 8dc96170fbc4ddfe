-- The fresh work of a search: what the runs of children do beyond those of their parents. A run that waits at another line than the
-- one that is split, or has ended, does nothing more in a child.
use Rattle.std.specs.Prelude.{ℕ, ◌+◌, ◌-◌, ◌<◌, ◌==◌, Bool, false, not, List, [], ◌∷◌, ◌++◌, map, filter, sum_by, length, Option, Some, None}
use Rattle.std.specs.List.{range_with_len}
use Rattle.program_model.specs.declared.instr.Instr.{Instr}
use Rattle.program_model.specs.declared.standing.Stand.{Stand}
use Rattle.program_model.specs.Alphabet.{alphabet}
use Rattle.program_model.specs.Semantics.{Semantics}
use Rattle.program_model.specs.Program.{Program, IsPartial, empty, with_line}
use Rattle.program_model.specs.Run.{Config, at}
use Rattle.program_model.specs.Standing.{IsStanding}
use Rattle.program_model.specs.Counts.{operations_made}
use Rattle.interpreter.specs.Counts.{marks_between}
use Rattle.refutation_tree.specs.declared.evidence.Mark.{Mark}
use Rattle.refutation_tree.specs.declared.evidence.Mark.TheVariants as marks
use Rattle.refutation_tree.specs.declared.evidence.Tree.{Tree}
use Rattle.refutation_tree.specs.Grammar.{child_programs}
use Rattle.synthesis.specs.Search.{Setting}

-- to each partial program and instance the step is given at which the program's run on it comes to its standing; there is at most one
abbrev pub AreStandingSteps : {C : Type 0} → Semantics C → ℕ → (Program → ℕ → ℕ) → Type 0
AreStandingSteps m limit reached = (q : Program) (t : ℕ) → IsPartial m.ops q → t < m.instances → (stand : Stand) × IsStanding m q t limit (reached q t) stand

-- whether a configuration is on a line; where that line is undefined, its run waits there
abbrev pub is_on : {C : Type 0} → ℕ → Option (Config C) → Bool
is_on line None = false
is_on line (Some config) = config.line == line

module _ {C : Type 0} (s : Setting C) (reached : Program → ℕ → ℕ) where
  -- the instances on which the run of a partial program waits at a line
  abbrev pub instances_waiting_at : Program → ℕ → List ℕ
  instances_waiting_at q line = filter (λ t. is_on line (at s.machine q t (reached q t))) (range_with_len 0 s.machine.instances)

  -- the operations of a child of a program that is split at a line: on each instance where the parent's run waits there, those from
  -- that step to the child's standing
  abbrev pub operations_of_child : Program → ℕ → Program → ℕ
  operations_of_child q line child = sum_by (λ t. operations_made s.machine child t (reached child t) - operations_made s.machine child t (reached q t)) (instances_waiting_at q line)

  -- its copies: on each of these instances two, for the run's value and its marked value, and one for each mark step after that step
  -- and up to the child's standing
  abbrev pub copies_of_child : Program → ℕ → Program → ℕ
  copies_of_child q line child = sum_by (λ t. 2 + marks_between (reached q t) (reached child t)) (instances_waiting_at q line)

  -- of the children for some instructions, those that are not passed over
  abbrev pub made_for : Program → ℕ → List Instr → List Program
  made_for q line instrs = map (with_line q line) (filter (λ instr. not (s.skips q instr)) instrs)

  -- the children of a split that are not passed over
  abbrev pub children_made : Program → ℕ → List Program
  children_made q line = made_for q line (alphabet s.machine.ops (length q) line)

  abbrev pub operations_of_split : Program × ℕ → ℕ
  operations_of_split at_line = sum_by (operations_of_child at_line.0 at_line.1) (children_made at_line.0 at_line.1)

  abbrev pub copies_of_split : Program × ℕ → ℕ
  copies_of_split at_line = sum_by (copies_of_child at_line.0 at_line.1) (children_made at_line.0 at_line.1)

  -- the splits that marks stand for, where they are those of some programs in preorder: each the program and its line
  abbrev pub splits_in : List Program → List Mark → List (Program × ℕ)
  splits_in (q ∷ qs) (marks.Split line stamp ∷ ms) = (q, line) ∷ splits_in (child_programs s.machine.ops q line ++ qs) ms
  splits_in (q ∷ qs) (_ ∷ ms) = splits_in qs ms
  splits_in _ _ = []

  abbrev pub splits_made : Tree → List (Program × ℕ)
  splits_made tree = splits_in (empty tree.size ∷ []) tree.marks

  -- the fresh operations of all splits of some trees
  abbrev pub fresh_operations : List Tree → ℕ
  fresh_operations trees = sum_by (λ tree. sum_by operations_of_split (splits_made tree)) trees

  -- and the fresh copies
  abbrev pub fresh_copies : List Tree → ℕ
  fresh_copies trees = sum_by (λ tree. sum_by copies_of_split (splits_made tree)) trees
