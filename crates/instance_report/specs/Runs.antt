-- What the outcomes of a program's runs on all instances say.
use Rattle.std.specs.Prelude.{ℕ, ◌<◌, ◌≤◌, Bool, true, false, List, sum_by}
use Rattle.program_model.specs.Semantics.{Semantics}
use Rattle.program_model.specs.Program.{Program}
use Rattle.program_model.specs.Run.{Ends}
use Rattle.program_model.specs.declared.standing.Stand.{Stand}
use Rattle.program_model.specs.declared.standing.Stand.TheVariants as stands
use Rattle.program_model.specs.declared.outcome.RunOutcome.{RunOutcome}
use Rattle.program_model.specs.Counts.{operations_made}

-- whether a run ended with the goal met
abbrev pub is_ended : Stand → Bool
is_ended stands.Ended = true
is_ended stands.Unmet = false
is_ended (stands.Repeats from to) = false
is_ended (stands.Waits line) = false
is_ended stands.AtLimit = false
is_ended stands.QuotaUsed = false

-- whether the outcome is that of a run that solves its instance
abbrev pub is_solved : RunOutcome → Bool
is_solved x = is_ended x.standing

-- how many operations the runs make
abbrev pub operations_of : {C : Type 0} → Semantics C → Program → List RunOutcome → ℕ
operations_of m p xs = sum_by (λ x. operations_made m p x.instance x.steps) xs

-- on every instance the program's run ends with the goal met, after steps of at most the limit
abbrev pub SolvesAllWithin : {C : Type 0} → Semantics C → Program → ℕ → Type 0
SolvesAllWithin m p limit = (t : ℕ) → t < m.instances → (j : ℕ) × (j ≤ limit) × Ends m p t j
