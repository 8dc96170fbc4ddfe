-- Of the walk over the marks of a tree, what its private functions promise each other.
use Rattle.std.specs.Prelude.{◌≡◌, ℕ, ◌<◌, ◌≤◌, Bool, false, List, [], ◌∷◌, drop}
use Rattle.program_model.specs.Semantics.{Semantics}
use Rattle.program_model.specs.Program.{Program}
use Rattle.program_model.specs.Run.{Unmet, Loops}
use Rattle.refutation_tree.specs.declared.ranges.TheConstants.{MAX_STEPS}
use Rattle.refutation_tree.specs.declared.evidence.Mark.{Mark}
use Rattle.refutation_tree.specs.declared.evidence.Mark.TheVariants as marks
use Rattle.refutation_tree.specs.Covers.{Child}
use Rattle.refutation_check.specs.declared.walk.Walk.{Walk}
use Rattle.refutation_check.specs.Walking.{pending}

-- the run that the mark names shows that the partial program is refuted
abbrev pub Refutes : {C : Type 0} → Semantics C → Program → Mark → Type 0
Refutes m q (marks.Split line stamp) = ⊥
Refutes m q (marks.Unmet t j) = Unmet m q t j
Refutes m q (marks.Loops t i j) = Loops m q t i j
Refutes m q marks.Twin = ⊥
Refutes m q marks.Waiting = ⊥
Refutes m q marks.Solved = ⊥
Refutes m q (marks.AtLimit t) = ⊥

-- the mark names a run on the instance, and its steps are in their range
abbrev pub NamesRun : ℕ → ℕ → Mark → Type 0
NamesRun instances t (marks.Split line stamp) = ⊥
NamesRun instances t (marks.Unmet named j) = (named ≡ t) × (t < instances) × (j ≤ MAX_STEPS)
NamesRun instances t (marks.Loops named i j) = (named ≡ t) × (t < instances) × (i < j) × (j ≤ MAX_STEPS)
NamesRun instances t marks.Twin = ⊥
NamesRun instances t marks.Waiting = ⊥
NamesRun instances t marks.Solved = ⊥
NamesRun instances t (marks.AtLimit named) = ⊥

-- the first step of a run that the mark speaks of; 0 where it names no run
abbrev pub first_step : Mark → ℕ
first_step (marks.Split line stamp) = 0
first_step (marks.Unmet t j) = j
first_step (marks.Loops t i j) = i
first_step marks.Twin = 0
first_step marks.Waiting = 0
first_step marks.Solved = 0
first_step (marks.AtLimit t) = 0

-- whether the first of some partial programs may be passed over
abbrev pub skips_first : List Child → Bool
skips_first [] = false
skips_first (c ∷ cs) = c.skipped

-- a partial program, as the next one that is pending
abbrev pub as_next : {C : Type 0} → Semantics C → Walk C → Program → Child
as_next m walk program = record { program = program; skipped = skips_first (pending m walk) }

-- the partial program is the next one that is pending
abbrev pub IsNext : {C : Type 0} → Semantics C → Walk C → Program → Type 0
IsNext m walk program = pending m walk ≡ as_next m walk program ∷ drop 1 (pending m walk)
