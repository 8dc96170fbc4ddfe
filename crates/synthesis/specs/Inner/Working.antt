-- The work that a search has done, as its nodes show it while a size is searched.
use Rattle.std.specs.Prelude.{ℕ, List, sum_by}
use Rattle.interpreter.specs.Counts.{RaisedAtMost}
use Rattle.program_model.specs.Program.{Program}
use Rattle.synthesis.specs.Search.{Setting, State, judged, split, twin, Node}
use Rattle.synthesis.specs.FreshWork.{AreStandingSteps, operations_of_split, copies_of_split, fresh_operations, fresh_copies}
use Rattle.refutation_tree.specs.declared.evidence.Tree.{Tree}

-- the counts of a meter: operations and copies
pub record Counts : Type 0 where
  pub acts : ℕ
  pub copies : ℕ

abbrev pub counts : ℕ → ℕ → Counts
counts acts copies = record { acts = acts; copies = copies }

module _ {C : Type 0} (s : Setting C) where
  -- a number for each split of a node, and 0 for each other node
  abbrev pub of_split : (Program × ℕ → ℕ) → Program → State → ℕ
  of_split work q (judged verdict) = 0
  of_split work q (split line stamp) = work (q, line)
  of_split work q twin = 0

  -- the work of the splits of some nodes
  abbrev pub work_of : (Program × ℕ → ℕ) → List Node → ℕ
  work_of work nodes = sum_by (λ (node : Node). of_split work node.program node.state) nodes

  -- the counts rose by no more than the fresh work of nodes
  abbrev pub HasWorked : List Node → Counts → Counts → Type 0
  HasWorked nodes before after = (reached : Program → ℕ → ℕ) → AreStandingSteps s.machine s.limit reached →
      RaisedAtMost (work_of (operations_of_split s reached) nodes) before.acts after.acts × RaisedAtMost (work_of (copies_of_split s reached) nodes) before.copies after.copies

  -- by no more than that of some trees
  abbrev pub HasWorkedFor : List Tree → Counts → Counts → Type 0
  HasWorkedFor trees before after = (reached : Program → ℕ → ℕ) → AreStandingSteps s.machine s.limit reached →
      RaisedAtMost (fresh_operations s reached trees) before.acts after.acts × RaisedAtMost (fresh_copies s reached trees) before.copies after.copies
