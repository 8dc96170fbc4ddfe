-- What is asked of the marks of a tree, one after another: of each, that it is of the grammar, and where the tree has to
-- cover, that it shows what it says. Children that are twins may be passed over. And how a walk goes over them.
use Rattle.std.specs.Prelude.{◌≡◌, ℕ, ◌+◌, ◌<◌, ◌≤◌, ◌↔◌, IsTrue, Bool, true, false, Option, Some, None, List, [], ◌∷◌, ◌++◌, All, length, take, drop, reverse, flat_map, count_by, is_none, slice_index_or, option_to_list}
use Rattle.program_model.specs.declared.alphabet.TheConstants.{MAX_LINES}
use Rattle.program_model.specs.Semantics.{Semantics}
use Rattle.program_model.specs.Program.{Program, IsOpen, IsPartial, empty}
use Rattle.program_model.specs.Run.{Unmet, Loops}
use Rattle.refutation_tree.specs.declared.evidence.Mark.{Mark}
use Rattle.refutation_tree.specs.declared.evidence.Mark.TheVariants as marks
use Rattle.refutation_tree.specs.declared.evidence.Tree.{Tree}
use Rattle.refutation_tree.specs.Covers.{Child, children, IsCovered}
use Rattle.refutation_tree.specs.Grammar.{IsInRange, IsTree, child_programs}
use Rattle.pointer_symmetry.specs.Used.{AreUsed}
use Rattle.pointer_symmetry.specs.Twins.{twins}
use Rattle.refutation_check.specs.declared.family.Family.{Family}
use Rattle.refutation_check.specs.declared.walk.TheConstants.{LONGEST_PATH}
use Rattle.refutation_check.specs.declared.walk.Walk.{Walk}
use Rattle.refutation_check.specs.Inner.Runs.{AreRuns, AreTrials, AllStandAt}

-- a split is of an undefined line
abbrev pub SplitsOpen : Program → Mark → Type 0
SplitsOpen q (marks.Split line stamp) = IsOpen q line
SplitsOpen q (marks.Unmet t j) = Unit {0}
SplitsOpen q (marks.Loops t i j) = Unit {0}
SplitsOpen q marks.Twin = Unit {0}
SplitsOpen q marks.Waiting = Unit {0}
SplitsOpen q marks.Solved = Unit {0}
SplitsOpen q (marks.AtLimit t) = Unit {0}

-- the partial programs that a mark brings: the children of the one that it splits
abbrev pub brought : {C : Type 0} → Semantics C → Program → Mark → List Child
brought m q (marks.Split line stamp) = children (twins m) m.ops q line
brought m q (marks.Unmet t j) = []
brought m q (marks.Loops t i j) = []
brought m q marks.Twin = []
brought m q marks.Waiting = []
brought m q marks.Solved = []
brought m q (marks.AtLimit t) = []

-- the mark shows that the partial program is refuted, or splits it, or passes over one that may be passed over
abbrev pub Shows : {C : Type 0} → Semantics C → Child → Mark → Type 0
Shows m c (marks.Split line stamp) = Unit {0}
Shows m c (marks.Unmet t j) = Unmet m c.program t j
Shows m c (marks.Loops t i j) = Loops m c.program t i j
Shows m c marks.Twin = c.skipped ≡ true
Shows m c marks.Waiting = ⊥
Shows m c marks.Solved = ⊥
Shows m c (marks.AtLimit t) = ⊥

-- the mark stands for the partial program, in a tree that has to cover or need not
pub record Stands {C : Type 0} (m : Semantics C) (covering : Bool) (c : Child) (mark : Mark) : Type 0 where
  pub in_range : IsInRange m.instances mark
  pub splits_open : SplitsOpen c.program mark
  pub shows : IsTrue covering → Shows m c mark

-- the marks, read in preorder, stand for these partial programs, one after another
abbrev pub AllStand : {C : Type 0} → Semantics C → Bool → List Child → List Mark → Type 0
AllStand m covering [] [] = Unit {0}
AllStand m covering [] (mark ∷ ms) = ⊥
AllStand m covering (c ∷ cs) [] = ⊥
AllStand m covering (c ∷ cs) (mark ∷ ms) = Stands m covering c mark × AllStand m covering (brought m c.program mark ++ cs) ms

-- the root, if it is there; it may not be passed over
abbrev pub rooted : Option Program → List Child
rooted None = []
rooted (Some q) = record { program = q; skipped = false } ∷ []

-- the tree is of the grammar, and covers, if it has to
pub record Holds {C : Type 0} (m : Semantics C) (covering : Bool) (tree : Tree) : Type 0 where
  pub is_tree : IsTree m.ops m.instances tree
  pub covers : IsTrue covering → IsCovered m (twins m) (empty tree.size) tree.marks

-- ---- a walk

-- the children of a family for which no mark came yet
abbrev pub waiting : {C : Type 0} → Semantics C → Family C → List Child
waiting m family = drop family.rank (children (twins m) m.ops family.parent family.line)

-- those of several families, of which the last comes first
abbrev pub waiting_in : {C : Type 0} → Semantics C → List (Family C) → List Child
waiting_in m families = flat_map (waiting m) (reverse families)

-- the families on the path from the root to the next partial program
abbrev pub path : {C : Type 0} → Walk C → List (Family C)
path walk = take walk.depth walk.families.items

-- the partial programs for which no mark came yet, the next one first
abbrev pub pending : {C : Type 0} → Semantics C → Walk C → List Child
pending m walk = waiting_in m (path walk) ++ rooted walk.root

-- a family that was split at an undefined line, and has a child left; its used pointers and its runs are the parent's
pub record IsOpenFamily {C : Type 0} (m : Semantics C) (belongs : ℕ → C → Type 0) (family : Family C) : Type 0 where
  pub partial : IsPartial m.ops family.parent
  pub short : length family.parent ≤ MAX_LINES
  pub here : IsOpen family.parent family.line
  pub count : family.children ≡ length (child_programs m.ops family.parent family.line)
  pub left : family.rank < length (child_programs m.ops family.parent family.line)
  pub used : AreUsed m family.parent family.used
  pub runs : AllStandAt m belongs family.parent family.runs.items

-- a partial program of a machine that is not too long
pub record IsRoot (ops : ℕ) (q : Program) : Type 0 where
  pub partial : IsPartial ops q
  pub short : length q ≤ MAX_LINES

-- how many lines are undefined
abbrev pub open_lines : Program → ℕ
open_lines q = count_by is_none q

-- the parent at a place of a path has few undefined lines, fewer by the place: so no path is too long
abbrev pub NarrowDown : {C : Type 0} → List (Family C) → Type 0
NarrowDown {C} families = (place : ℕ) (d : Family C) → place < length families → open_lines (slice_index_or families place d).parent + place < MAX_LINES

-- a walk over the partial programs of a machine: what it holds is enough for the longest path of a tree, and for each instance
pub record IsWalk {C : Type 0} (m : Semantics C) (belongs : ℕ → C → Type 0) (walk : Walk C) : Type 0 where
  pub room : length walk.families.items ≡ LONGEST_PATH
  pub within : walk.depth ≤ length walk.families.items
  pub runs : All (λ (family : Family C). AreRuns belongs m.instances family.runs.items) walk.families.items
  pub trials : AreTrials belongs m.instances walk.trials.items
  pub families : All (IsOpenFamily m belongs) (path walk)
  pub narrow : NarrowDown (path walk)
  pub root : All (IsRoot m.ops) (option_to_list walk.root)

-- the walk is where it was
pub record IsSameWalk {C : Type 0} (m : Semantics C) (belongs : ℕ → C → Type 0) (old new : Walk C) : Type 0 where
  pub walk : IsWalk m belongs new
  pub covering : new.covering ≡ old.covering
  pub still : pending m new ≡ pending m old

-- after a mark the walk has taken it, if it stands: what is asked of a mark and those after it is that, and what is asked then
-- of those after it
abbrev pub Takes : {C : Type 0} → Semantics C → Mark → Walk C → Walk C → Bool → Type 0
Takes m mark old new stood = (ms : List Mark) → AllStand m old.covering (pending m old) (mark ∷ ms) ↔ (IsTrue stood × AllStand m new.covering (pending m new) ms)
