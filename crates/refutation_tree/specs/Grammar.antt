-- The grammar of answers: what a document may say, where there are so many operations. Whether it is true is not asked.
use Rattle.std.specs.Prelude.{◌≡◌, ℕ, ◌<◌, ◌≤◌, List, [], ◌∷◌, ◌++◌, map, length, All, Some, None}
use Rattle.std.specs.List.{range_with_len}
use Rattle.program_model.specs.declared.alphabet.TheConstants.{MAX_LINES}
use Rattle.program_model.specs.declared.machine.TheConstants.{MAX_INSTANCES, MAX_POINTERS}
use Rattle.program_model.specs.Alphabet.{alphabet}
use Rattle.program_model.specs.Program.{Program, empty, with_line, IsOpen, IsProgram}
use Rattle.refutation_tree.specs.declared.ranges.TheConstants.{MAX_STEPS, MAX_SPLITS}
use Rattle.refutation_tree.specs.declared.evidence.Mark.{Mark}
use Rattle.refutation_tree.specs.declared.evidence.Mark.TheVariants as marks
use Rattle.refutation_tree.specs.declared.evidence.Tree.{Tree}
use Rattle.refutation_tree.specs.declared.evidence.Outcome.{Outcome}
use Rattle.refutation_tree.specs.declared.evidence.Outcome.TheVariants as outcomes
use Rattle.refutation_tree.specs.declared.evidence.Answer.{Answer}

-- a number from 1 to another
abbrev pub IsFromOneTo : ℕ → ℕ → Type 0
IsFromOneTo most number = (1 ≤ number) × (number ≤ most)

-- the numbers of a mark are within their ranges, where there are so many instances
abbrev pub IsInRange : ℕ → Mark → Type 0
IsInRange instances (marks.Split line stamp) = stamp < MAX_SPLITS
IsInRange instances (marks.Unmet t j) = (t < instances) × (j ≤ MAX_STEPS)
IsInRange instances (marks.Loops t i j) = (t < instances) × (i < j) × (j ≤ MAX_STEPS)
IsInRange instances marks.Twin = Unit {0}
IsInRange instances marks.Waiting = Unit {0}
IsInRange instances marks.Solved = Unit {0}
IsInRange instances (marks.AtLimit t) = t < instances

-- the children of a partial program at a line: one for each instruction of the line's alphabet, in order
abbrev pub child_programs : ℕ → Program → ℕ → List Program
child_programs ops q line = map (with_line q line) (alphabet ops (length q) line)

-- the marks, read in preorder, are trees for these partial programs, one after another; a tree is one mark, or the split of an
-- undefined line and a tree for each child
abbrev pub AreTrees : ℕ → List Program → List Mark → Type 0
AreTrees ops [] [] = Unit {0}
AreTrees ops (q ∷ qs) (marks.Split line stamp ∷ ms) = IsOpen q line × AreTrees ops (child_programs ops q line ++ qs) ms
AreTrees ops (q ∷ qs) (_ ∷ ms) = AreTrees ops qs ms
AreTrees ops _ _ = ⊥

-- the marks of a tree are one tree, from the empty program of its size on
pub record IsTree (ops instances : ℕ) (tree : Tree) : Type 0 where
  pub in_range : All (IsInRange instances) tree.marks
  pub shape : AreTrees ops (empty tree.size ∷ []) tree.marks

-- the greatest size that has a tree, where so many lines were asked for
abbrev pub last_size : ℕ → Outcome → ℕ
last_size lines (outcomes.Program size) = size
last_size lines outcomes.Nothing = lines
last_size lines (outcomes.SpentExpansions size) = size
last_size lines (outcomes.SpentRun size t) = size

-- there is a whole program of so many lines, and a number of steps for each instance
pub record HasProgram (ops size : ℕ) (a : Answer) : Type 0 where
  pub program : Program
  pub given : a.program ≡ Some program
  pub is_program : IsProgram ops program
  pub size_is : length program ≡ size
  pub one_for_each : length a.ends ≡ a.instances
  pub in_range : All (λ j. j ≤ MAX_STEPS) a.ends

-- there is neither a program nor an end of its runs
abbrev pub HasNoProgram : Answer → Type 0
HasNoProgram a = (a.program ≡ None) × (a.ends ≡ [])

-- there is a program exactly where the outcome is that one was found; an instance that the outcome names is one of the answer's
abbrev pub FitsOutcome : ℕ → Answer → Outcome → Type 0
FitsOutcome ops a (outcomes.Program size) = HasProgram ops size a
FitsOutcome ops a outcomes.Nothing = HasNoProgram a
FitsOutcome ops a (outcomes.SpentExpansions size) = HasNoProgram a
FitsOutcome ops a (outcomes.SpentRun size t) = (t < a.instances) × HasNoProgram a

-- the answer is of the grammar: there is a tree for each size from 1 to that of the outcome, or to the lines that were asked for
pub record IsGrammatical (ops : ℕ) (a : Answer) : Type 0 where
  pub pointers : IsFromOneTo MAX_POINTERS a.pointers
  pub lines : IsFromOneTo MAX_LINES a.lines
  pub instances : IsFromOneTo MAX_INSTANCES a.instances
  pub size : IsFromOneTo a.lines (last_size a.lines a.outcome)
  pub sizes : map (λ (tree : Tree). tree.size) a.trees ≡ range_with_len 1 (last_size a.lines a.outcome)
  pub trees : All (IsTree ops a.instances) a.trees
  pub outcome : FitsOutcome ops a a.outcome
