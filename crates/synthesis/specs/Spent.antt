-- What an answer shows where its search spent the budget of splits, or the limit of steps of a run.
use Rattle.std.specs.Prelude.{◌≡◌, ◌≢◌, ℕ, ◌<◌, ◌≤◌, ◌/◌, List, [], ◌∷◌, ◌++◌, length, Contains, slice_get, Some}
use Rattle.program_model.specs.Semantics.{Semantics}
use Rattle.program_model.specs.Program.{Program, IsPartial, empty}
use Rattle.program_model.specs.Run.{Config, at}
use Rattle.refutation_tree.specs.declared.evidence.Mark.{Mark}
use Rattle.refutation_tree.specs.declared.evidence.Mark.TheVariants as marks
use Rattle.refutation_tree.specs.declared.evidence.Tree.{Tree}
use Rattle.refutation_tree.specs.Grammar.{child_programs}
use Rattle.refutation_tree.specs.Splits.{splits_of}

-- a mark stands in the last tree, which is that of a size
pub record StandsInLast (mark : Mark) (size : ℕ) (trees : List Tree) : Type 0 where
  pub earlier : List Tree
  pub last : Tree
  pub all : trees ≡ earlier ++ last ∷ []
  pub sized : last.size ≡ size
  pub marked : Contains last.marks mark

-- as many splits were made as the budget allows, while a partial program of a size waits to be split
pub record SpendsBudget (budget size : ℕ) (trees : List Tree) : Type 0 where
  pub splits : splits_of trees ≡ budget
  pub waits : StandsInLast marks.Waiting size trees

-- a program's run on an instance makes so many steps, and comes to no configuration twice in the first third of them
pub record RunsOn {C : Type 0} (m : Semantics C) (program : Program) (t steps : ℕ) : Type 0 where
  pub config : Config C
  pub comes : at m program t steps ≡ Some config
  pub different : (i j : ℕ) → i < j → j ≤ steps / 3 → at m program t i ≢ at m program t j

-- the partial programs that marks stand for, in preorder: behind a split stand the children of its program
abbrev pub marked_programs : ℕ → List Program → List Mark → List Program
marked_programs ops (q ∷ qs) (marks.Split line stamp ∷ ms) = q ∷ marked_programs ops (child_programs ops q line ++ qs) ms
marked_programs ops (q ∷ qs) (_ ∷ ms) = q ∷ marked_programs ops qs ms
marked_programs ops _ _ = []

-- the first mark of a tree that says that a run is at its limit names this instance, and stands for this program
pub record IsFirstLimited (ops : ℕ) (program : Program) (t : ℕ) (tree : Tree) : Type 0 where
  pub place : ℕ
  pub marked : slice_get tree.marks place ≡ Some (marks.AtLimit t)
  pub stands_for : slice_get (marked_programs ops (empty tree.size ∷ []) tree.marks) place ≡ Some program
  pub first : (earlier other : ℕ) → earlier < place → slice_get tree.marks earlier ≢ Some (marks.AtLimit other)

-- the first partial program of a size that has a run at the limit, by the marks of the last tree: its run on an instance makes
-- as many steps as the limit allows
pub record SpendsRun {C : Type 0} (m : Semantics C) (limit size t : ℕ) (trees : List Tree) : Type 0 where
  pub program : Program
  pub is_partial : IsPartial m.ops program
  pub sized : length program ≡ size
  pub within : t < m.instances
  pub runs_on : RunsOn m program t limit
  pub marked : StandsInLast (marks.AtLimit t) size trees
  pub first : IsFirstLimited m.ops program t marked.last
