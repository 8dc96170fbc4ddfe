-- When an answer is accepted: it is of the grammar, for this machine and these lines, its trees cover the sizes that it says
-- are refuted, and what it says of its program is true.
use Rattle.std.specs.Prelude.{◌≡◌, ℕ, ◌+◌, ◌<◌, ◌≤◌, List, [], ◌∷◌, length, All, Some, IfSome}
use Rattle.program_model.specs.Semantics.{Semantics}
use Rattle.program_model.specs.Program.{Program, IsProgram, empty}
use Rattle.program_model.specs.Run.{Ends, SolvesAll, IsLeast}
use Rattle.refutation_tree.specs.declared.evidence.Tree.{Tree}
use Rattle.refutation_tree.specs.declared.evidence.Outcome.{Outcome}
use Rattle.refutation_tree.specs.declared.evidence.Outcome.TheVariants.{Program as Found, Nothing, SpentExpansions, SpentRun}
use Rattle.refutation_tree.specs.declared.evidence.Answer.{Answer}
use Rattle.refutation_tree.specs.Covers.{Skips, IsCovered}
use Rattle.refutation_tree.specs.Grammar.{IsGrammatical}

-- the outcome says that no program of so many lines solves every instance
abbrev pub SaysRefuted : Outcome → ℕ → Type 0
SaysRefuted (Found size) lines = lines < size
SaysRefuted Nothing lines = Unit {0}
SaysRefuted (SpentExpansions size) lines = lines < size
SaysRefuted (SpentRun size t) lines = lines < size

-- the tree covers the empty program of its size, if the outcome says that this size is refuted
abbrev pub CoversRefuted : {C : Type 0} → Semantics C → Skips → Outcome → Tree → Type 0
CoversRefuted m skips outcome tree = SaysRefuted outcome tree.size → IsCovered m skips (empty tree.size) tree.marks

-- the steps after which a program's runs end with the goal met, on the instances from t on
abbrev pub AreEndsFrom : {C : Type 0} → Semantics C → Program → ℕ → List ℕ → Type 0
AreEndsFrom m p t [] = t ≡ m.instances
AreEndsFrom m p t (j ∷ js) = (t < m.instances) × Ends m p t j × AreEndsFrom m p (t + 1) js

-- the answer is accepted for a machine and a number of lines
pub record IsAccepted {C : Type 0} (m : Semantics C) (skips : Skips) (lines : ℕ) (a : Answer) : Type 0 where
  pub grammatical : IsGrammatical m.ops a
  pub pointers : a.pointers ≡ m.pointers
  pub asked : a.lines ≡ lines
  pub instances : a.instances ≡ m.instances
  pub covered : All (CoversRefuted m skips a.outcome) a.trees
  pub ends : IfSome a.program (λ program. AreEndsFrom m program 0 a.ends)

-- no program of at most so many lines solves every instance
abbrev pub NoneSolves : {C : Type 0} → Semantics C → ℕ → Type 0
NoneSolves m lines = (p : Program) → IsProgram m.ops p → length p ≤ lines → SolvesAll m p → ⊥

-- no program of fewer than so many lines solves every instance
abbrev pub NoneShorter : {C : Type 0} → Semantics C → ℕ → Type 0
NoneShorter m size = (p : Program) → IsProgram m.ops p → length p < size → SolvesAll m p → ⊥

-- the outcome says that the budget or the limit of a run was spent at this size
abbrev pub IsSpentAt : ℕ → Outcome → Type 0
IsSpentAt size (SpentExpansions at) = at ≡ size
IsSpentAt size (SpentRun at t) = at ≡ size
IsSpentAt size _ = ⊥

-- the answer's program has so many lines, within a number, it solves every instance while none of fewer lines does, and its
-- runs end after the steps that are told
pub record ShowsLeast {C : Type 0} (m : Semantics C) (size lines : ℕ) (a : Answer) : Type 0 where
  pub program : Program
  pub given : a.program ≡ Some program
  pub least : IsLeast m program
  pub size_is : length program ≡ size
  pub within : size ≤ lines
  pub ends : AreEndsFrom m program 0 a.ends
