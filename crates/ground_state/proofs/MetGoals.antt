-- When a goal is met, by the facts that a problem lists.
use Rattle.std.proofs.Common.{◌≡◌, ◌≢◌, ◌↔◌, true, false, length, map, inl, inr, sym, ◌∙◌, refl, ℕ}
use Rattle.std.specs.Prelude.{Contains}
use Rattle.std.proofs.lemmas.List.{length-map}
use Rattle.std.proofs.lemmas.List.Elements.{All-contains}
use Rattle.ground_state.specs.declared.parts.ObjectEntry.{ObjectEntry}
use Rattle.ground_state.specs.declared.parts.TaskParts.{TaskParts}
use Rattle.ground_state.specs.declared.parts.InstanceParts.{InstanceParts}
use Rattle.ground_state.specs.declared.parts.Fact.{Fact}
use Rattle.ground_state.specs.Task.{arities_of}
use Rattle.ground_state.specs.Instance.{IsInstance, IsFact}
use Rattle.ground_state.specs.GroundAtoms.{ground_atoms, atom_count}
use Rattle.ground_state.specs.State.{State, missing, true_atoms}
use Rattle.ground_state.specs.Ground.{ground_of, Holds, IsStateOf}
use Rattle.ground_state.proofs.Lists.{slice_get-map_at}
use Rattle.ground_state.proofs.Places.{length-ground_atoms}
use Rattle.ground_state.proofs.States.{is_among, Contains-from_test, test_from_Contains, true_at_place}
use Rattle.ground_state.proofs.LawLemmas.{atom_somewhere, none_missing, some_missing}

-- ---- in a state
-- no atom of the goal is missing in a state of so many objects exactly where each fact that the goal lists is true in it
abbrev IsMetExactlyWhereHeld : TaskParts → InstanceParts → State → ℕ → Type 0
IsMetExactlyWhereHeld task instance state objects =
    (missing (ground_of task instance).goal state ≡ 0) ↔ ((fact : Fact) → Contains instance.goal fact → Contains (true_atoms objects (arities_of task) state) fact)

met_where_held : (task : TaskParts) (instance : InstanceParts) (state : State) → IsInstance task instance → length state ≡ atom_count (length instance.objects) (arities_of task) → IsMetExactlyWhereHeld task instance state (length instance.objects)
met_where_held task instance state valid fits =
    let objects = length instance.objects in
    let arities = arities_of task in
    let atoms = ground_atoms objects arities in
    let long : length state ≡ length atoms = fits ∙ sym (length-ground_atoms objects arities) in (
      (λ none fact wanted.
          let place = atom_somewhere objects arities fact (All-contains (IsFact objects arities) instance.goal fact valid.goal wanted) in
          let held = none_missing (is_among instance.goal) atoms state long none place.0 fact place.1 (test_from_Contains instance.goal fact wanted) in
          (true_at_place objects arities state fact place.0 true place.1 held).0 refl),
      (λ held. elim (some_missing (is_among instance.goal) atoms state long) [
        | inl none ↦ none
        | inr found ↦ absurd (
            let there = (true_at_place objects arities state found.atom found.place false found.here found.lacking).1 (held found.atom (Contains-from_test instance.goal found.atom found.wanted)) in
            cc
            )
      ]),
    )

met_over : (task : TaskParts) (instance : InstanceParts) (state : State) (objects : ℕ) → objects ≡ length instance.objects → IsInstance task instance → length state ≡ atom_count objects (arities_of task) → IsMetExactlyWhereHeld task instance state objects
met_over task instance state objects same valid fits = rw same (met_where_held task instance state valid (rw same at fits))

-- so it is in a state of the instance
pub goal_met_where_held : (task : TaskParts) (instance : InstanceParts) (state : State) → IsInstance task instance → IsStateOf (ground_of task instance) state → (missing (ground_of task instance).goal state ≡ 0) ↔ ((fact : Fact) → Contains instance.goal fact → Holds (ground_of task instance) state fact)
goal_met_where_held task instance state valid fits =
    met_over task instance state _ (length-map instance.objects (λ (entry : ObjectEntry). entry.of)) valid fits

-- ---- at the start
-- where no atom of the goal is missing, each fact that the goal lists is listed as true at the start
pub listed_where_met : (task : TaskParts) (instance : InstanceParts) → IsInstance task instance → missing (ground_of task instance).goal (ground_of task instance).initial ≡ 0 → (fact : Fact) → Contains instance.goal fact → Contains instance.init fact
listed_where_met task instance valid none fact wanted =
    let objects = length instance.objects in
    let atoms = ground_atoms objects (arities_of task) in
    let place = atom_somewhere objects (arities_of task) fact (All-contains (IsFact objects (arities_of task)) instance.goal fact valid.goal wanted) in
    let held = none_missing (is_among instance.goal) atoms (map (is_among instance.init) atoms) (length-map atoms (is_among instance.init)) none place.0 fact place.1 (test_from_Contains instance.goal fact wanted) in
    let listed = slice_get-map_at (is_among instance.init) atoms place.0 fact place.1 in
    Contains-from_test instance.init fact (cc)

-- where an atom of the goal is missing, the goal lists a fact that is not listed as true at the start
pub not_listed_where_unmet : (task : TaskParts) (instance : InstanceParts) → missing (ground_of task instance).goal (ground_of task instance).initial ≢ 0 → (fact : Fact) × Contains instance.goal fact × ¬ Contains instance.init fact
not_listed_where_unmet task instance unmet =
    let atoms = ground_atoms (length instance.objects) (arities_of task) in
    elim (some_missing (is_among instance.goal) atoms (map (is_among instance.init) atoms) (length-map atoms (is_among instance.init))) [
      | inl none ↦ absurd (unmet none)
      | inr found ↦ (
        found.atom,
        Contains-from_test instance.goal found.atom found.wanted,
        (λ listed.
            let held = test_from_Contains instance.init found.atom listed in
            let told = slice_get-map_at (is_among instance.init) atoms found.place found.atom found.here in
            let lacking = found.lacking in
            absurd (cc)),
      )
    ]

-- where each fact that the goal lists is listed as true at the start, none is missing
pub met_where_listed : (task : TaskParts) (instance : InstanceParts) → ((fact : Fact) → Contains instance.goal fact → Contains instance.init fact) → missing (ground_of task instance).goal (ground_of task instance).initial ≡ 0
met_where_listed task instance listed =
    let atoms = ground_atoms (length instance.objects) (arities_of task) in
    elim (some_missing (is_among instance.goal) atoms (map (is_among instance.init) atoms) (length-map atoms (is_among instance.init))) [
      | inl none ↦ none
      | inr found ↦ absurd (
          let held = test_from_Contains instance.init found.atom (listed found.atom (Contains-from_test instance.goal found.atom found.wanted)) in
          let told = slice_get-map_at (is_among instance.init) atoms found.place found.atom found.here in
          let lacking = found.lacking in
          cc
          )
    ]
