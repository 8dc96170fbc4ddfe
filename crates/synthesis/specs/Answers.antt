-- The answer of a search over all sizes.
use Rattle.std.specs.Prelude.{◌≡◌, ℕ, ◌+◌, ◌<◌, List, [], ◌∷◌, ◌++◌, map, length, slice_get, Some, None}
use Rattle.program_model.specs.Alphabet.{alphabet}
use Rattle.program_model.specs.Program.{Program, line_at, IsOpen, Extends}
use Rattle.refutation_tree.specs.declared.evidence.Tree.{Tree}
use Rattle.refutation_tree.specs.declared.evidence.Outcome.TheVariants as outcomes
use Rattle.refutation_tree.specs.declared.evidence.Answer.{Answer}
use Rattle.refutation_tree.specs.Accepted.{AreEndsFrom}
use Rattle.synthesis.specs.Search.{Setting, Node, Close, found, run_spent, budget_spent, refuted, SearchesSize, mark_of}

-- the tree of a size: the marks of its nodes, which stand in preorder
abbrev pub tree_of : ℕ → List Node → Tree
tree_of size nodes = record { size = size; marks = map (λ (node : Node). mark_of node.state) nodes }

-- the sizes up to one were refuted, in turn, with so many splits and these trees
pub data RefutesSizes {C : Type 0} (s : Setting C) (budget : ℕ) : ℕ → ℕ → List Tree → Type 0 where
  none : RefutesSizes s budget 0 0 []
  next : (size from to : ℕ) (trees : List Tree) (nodes : List Node) → RefutesSizes s budget size from trees → SearchesSize s budget (size + 1) from to nodes refuted → RefutesSizes s budget (size + 1) to (trees ++ tree_of (size + 1) nodes ∷ [])

-- a program with its undefined lines filled by the first instructions of their alphabets
pub record Fills (ops : ℕ) (q p : Program) : Type 0 where
  pub extends : Extends p q
  pub filled : (line : ℕ) → IsOpen q line → line_at p line ≡ slice_get (alphabet ops (length q) line) 0

-- what an answer says where a size was closed so: it has a program, with its runs' ends, exactly where one was found
abbrev pub Concludes : {C : Type 0} → Setting C → ℕ → Close → Answer → Type 0
Concludes s size (found q) a = (a.outcome ≡ outcomes.Program size) × ((p : Program) × (a.program ≡ Some p) × Fills s.machine.ops q p × AreEndsFrom s.machine p 0 a.ends)
Concludes s size (run_spent t) a = (a.outcome ≡ outcomes.SpentRun size t) × (a.program ≡ None) × (a.ends ≡ [])
Concludes s size budget_spent a = (a.outcome ≡ outcomes.SpentExpansions size) × (a.program ≡ None) × (a.ends ≡ [])
Concludes s size refuted a = ⊥

-- the search goes through the sizes up to a number: one is closed otherwise than refuted, or all are refuted
pub data Searches {C : Type 0} (s : Setting C) (budget lines : ℕ) (a : Answer) : Type 0 where
  closed : (size from to : ℕ) (trees : List Tree) (nodes : List Node) (close : Close) → RefutesSizes s budget size from trees → size < lines → SearchesSize s budget (size + 1) from to nodes close → Concludes s (size + 1) close a → a.trees ≡ trees ++ tree_of (size + 1) nodes ∷ [] → Searches s budget lines a
  nothing : (stamps : ℕ) → RefutesSizes s budget lines stamps a.trees → a.outcome ≡ outcomes.Nothing → a.program ≡ None → a.ends ≡ [] → Searches s budget lines a

-- the answer of the search over sizes up to a number, with a budget of splits
pub record IsAnswer {C : Type 0} (s : Setting C) (budget lines : ℕ) (a : Answer) : Type 0 where
  pub pointers : a.pointers ≡ s.machine.pointers
  pub asked : a.lines ≡ lines
  pub instances : a.instances ≡ s.machine.instances
  pub searches : Searches s budget lines a
