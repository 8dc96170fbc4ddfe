-- What the checks say of the faults that they find.
use Rattle.std.specs.Prelude.{ℕ, ◌≡◌, ◌≢◌, ◌⊎◌, ◌<◌, ◌↔◌, List, length, slice_get, slice_index, Option, Some, None, if◌then◌else◌}
use Rattle.pddl_forms.specs.declared.texts.Typed.{Typed}
use Rattle.ground_state.specs.declared.parts.TypeEntry.{TypeEntry}
use Rattle.ground_state.specs.Task.{Reaches}
use Rattle.pddl_task.specs.declared.fault.Fault.{Fault}
use Rattle.pddl_task.specs.declared.fault.FaultKind.TheVariants.{TypeCycle}
use Rattle.pddl_task.specs.Names.{number_of}
use Rattle.pddl_task.specs.Types.{root, type_of}
use Rattle.pddl_task.specs.Faults.{fault_at, comes_before}

-- the earlier of two faults, where there are such
abbrev pub earlier_of : Option Fault → Option Fault → Option Fault
earlier_of None other = other
earlier_of (Some fault) None = Some fault
earlier_of (Some fault) (Some other) = if comes_before other fault then Some other else Some fault

-- what tells of each type whether it reaches type 0: it is told to stand under 0 exactly where it does
abbrev pub AreTops : List TypeEntry → List ℕ → Type 0
AreTops types tops = (length tops ≡ length types) × ((number : ℕ) → number < length types → (slice_index tops number ≡ 0) ↔ Reaches types number 0)

-- a word of `:types` whose top is not type 0, or the word `object` with another parent
abbrev pub IsRootless : List (List ℕ) → List ℕ → Fault → Typed → Type 0
IsRootless names tops fault typed =
    ((slice_get tops (number_of names typed.word.text) ≢ Some 0) ⊎ ((typed.word.text ≡ root) × (type_of typed ≢ root)))
    × (fault ≡ fault_at TypeCycle typed.word)
