-- States as sets: which atoms hold in the result of an action and at the start, and which atoms of a goal are missing.
use Rattle.std.proofs.Common.{◌≡◌, ◌≢◌, ◌↔◌, ℕ, zero, suc, ◌+◌, ◌⊎◌, inl, inr, Bool, true, false, cond, ◌&&◌, ◌||◌, not, List, [], ◌∷◌, length, get_or, map, Some, All, Contains, refl, ◌∙◌, ap, sym, subst, arith}
use Rattle.std.specs.List.{slice_get, items_where_true, AllPairs}
use Rattle.std.proofs.lemmas.Bool.{false_from_ne_true}
use Rattle.std.proofs.lemmas.Option.{slice_get_within, slice_get-get_or}
use Rattle.std.proofs.lemmas.List.{length-map}
use Rattle.std.proofs.lemmas.List.Elements.{All-contains, All-map}
use Rattle.std.proofs.lemmas.List.Kept.{AllPairs-cons}
use Rattle.std.proofs.lemmas.Grind.{get_or_picked}
use Rattle.ground_state.specs.declared.parts.ObjectEntry.{ObjectEntry}
use Rattle.ground_state.specs.declared.parts.TaskParts.{TaskParts}
use Rattle.ground_state.specs.declared.parts.InstanceParts.{InstanceParts}
use Rattle.ground_state.specs.declared.parts.Fact.{Fact}
use Rattle.ground_state.specs.Task.{IsTask, arities_of}
use Rattle.ground_state.specs.Instance.{IsInstance, IsFact}
use Rattle.ground_state.specs.GroundAtoms.{ground_atoms, atom_count}
use Rattle.ground_state.specs.State.{State, missing, true_atoms, those_of, with_atoms, without_atoms}
use Rattle.ground_state.specs.Ground.{Ground, ground_of, Holds, IsStateOf, AreMissing}
use Rattle.ground_state.specs.Action.{IsTableOf, IsAction, schema_of, grounded, Adds, Deletes, Applicable, is_applicable, result_of, state_after}
use Rattle.ground_state.proofs.Lists.{slice_get-map_at}
use Rattle.ground_state.proofs.Places.{atom_once, length-ground_atoms}
use Rattle.ground_state.proofs.States.{is_among, Contains-from_test, test_from_Contains, place_of_held, held_at_place, true_at_place}
use Rattle.ground_state.proofs.LawLemmas.{atom_somewhere, missing-cons}
use Rattle.ground_state.proofs.Acting.{action_fits, applicable_exactly}

-- ---- values at places
slice_get-with : (state atoms : State) (n : ℕ) (s a : Bool) → slice_get state n ≡ Some s → slice_get atoms n ≡ Some a → slice_get (with_atoms state atoms) n ≡ Some (s || a)
slice_get-with [] atoms n s a on other = absurd (cc)
slice_get-with (b ∷ state) [] n s a on other = absurd (cc)
slice_get-with (b ∷ state) (c ∷ atoms) zero s a on other = cc
slice_get-with (b ∷ state) (c ∷ atoms) (suc n) s a on other = slice_get-with state atoms n s a on other

slice_get-without : (state atoms : State) (n : ℕ) (s a : Bool) → slice_get state n ≡ Some s → slice_get atoms n ≡ Some a → slice_get (without_atoms state atoms) n ≡ Some (s && not a)
slice_get-without [] atoms n s a on other = absurd (cc)
slice_get-without (b ∷ state) [] n s a on other = absurd (cc)
slice_get-without (b ∷ state) (c ∷ atoms) zero s a on other = cc
slice_get-without (b ∷ state) (c ∷ atoms) (suc n) s a on other = slice_get-without state atoms n s a on other

-- each ground atom has a value in a state
value_at : (objects : ℕ) (arities : List ℕ) (state : State) (fact : Fact) (n : ℕ) → length state ≡ atom_count objects arities → slice_get (ground_atoms objects arities) n ≡ Some fact → (b : Bool) × (slice_get state n ≡ Some b)
value_at objects arities state fact n fits here =
    (_, slice_get-get_or state n false (omega (arith, slice_get_within (ground_atoms objects arities) n fact here, length-ground_atoms objects arities, fits)))

-- ---- the result of an action
-- the value of an atom after some are deleted and then some are added
value_after : (objects : ℕ) (arities : List ℕ) (state : State) (dels adds : List Fact) (fact : Fact) (n : ℕ) (s : Bool) → slice_get (ground_atoms objects arities) n ≡ Some fact → slice_get state n ≡ Some s → slice_get (with_atoms (without_atoms state (those_of objects arities dels)) (those_of objects arities adds)) n ≡ Some ((s && not (is_among dels fact)) || is_among adds fact)
value_after objects arities state dels adds fact n s here on =
    let atoms = ground_atoms objects arities in
    slice_get-with (without_atoms state (those_of objects arities dels)) (those_of objects arities adds) n _ _
    (slice_get-without state (those_of objects arities dels) n s _ on (slice_get-map_at (is_among dels) atoms n fact here))
    (slice_get-map_at (is_among adds) atoms n fact here)

added_or_kept : (s d a : Bool) → ((s && not d) || a) ≡ true → (a ≡ true) ⊎ ((s ≡ true) × (d ≡ false))
added_or_kept s d true on = inl refl
added_or_kept true false false on = inr (refl, refl)
added_or_kept true true false on = absurd (cc)
added_or_kept false d false on = absurd (cc)

on_where_added : (s d a : Bool) → a ≡ true → ((s && not d) || a) ≡ true
on_where_added s d false added = absurd (cc)
on_where_added true true true added = refl
on_where_added true false true added = refl
on_where_added false d true added = refl

on_where_kept : (s d a : Bool) → s ≡ true → d ≡ false → ((s && not d) || a) ≡ true
on_where_kept true false a held kept = refl
on_where_kept true true a held kept = absurd (cc)
on_where_kept false d a held kept = absurd (cc)

held_after : (objects : ℕ) (arities : List ℕ) (state : State) (dels adds : List Fact) (fact : Fact) → length state ≡ atom_count objects arities → All (IsFact objects arities) adds → Contains (true_atoms objects arities (with_atoms (without_atoms state (those_of objects arities dels)) (those_of objects arities adds))) fact ↔ (Contains adds fact ⊎ (Contains (true_atoms objects arities state) fact × ¬ Contains dels fact))
held_after objects arities state dels adds fact fits valid =
    let after = with_atoms (without_atoms state (those_of objects arities dels)) (those_of objects arities adds) in (
      (λ held.
          let place = place_of_held objects arities after fact held in
          let value = value_at objects arities state fact place.0 fits place.2 in
          let told = value_after objects arities state dels adds fact place.0 value.0 place.2 value.1 in
          let on : ((value.0 && not (is_among dels fact)) || is_among adds fact) ≡ true = cc in
          elim (added_or_kept value.0 (is_among dels fact) (is_among adds fact) on) [
            | inl added ↦ inl (Contains-from_test adds fact added)
            | inr kept ↦ inr (
              held_at_place objects arities state fact place.0 (value.1 ∙ ap (λ x. Some x) kept.0) place.2,
              (λ deleted. let listed = test_from_Contains dels fact deleted in let spared = kept.1 in absurd (cc)),
            )
          ]),
      (λ known. elim known [
        | inl added ↦ (
            let place = atom_somewhere objects arities fact (All-contains (IsFact objects arities) adds fact valid added) in
            let value = value_at objects arities state fact place.0 fits place.1 in
            let told = value_after objects arities state dels adds fact place.0 value.0 place.1 value.1 in
            held_at_place objects arities after fact place.0 (told ∙ ap (λ x. Some x) (on_where_added value.0 (is_among dels fact) _ (test_from_Contains adds fact added))) place.1)
        | inr (held, kept) ↦ (
            let place = place_of_held objects arities state fact held in
            let told = value_after objects arities state dels adds fact place.0 true place.2 place.1 in
            let spared = false_from_ne_true _ (λ yes. kept (Contains-from_test dels fact yes)) in
            held_at_place objects arities after fact place.0 (told ∙ ap (λ x. Some x) (on_where_kept true (is_among dels fact) (is_among adds fact) refl spared)) place.2)
      ]),
    )

-- an atom holds in the result of an action exactly where the action adds it, or it held and the action does not delete it
pub holds_in_result : (task : TaskParts) (table : Ground) (schema : ℕ) (args : List ℕ) (state : State) (fact : Fact) → IsTask task → IsTableOf task table → IsAction task table schema args → IsStateOf table state → Holds table (result_of task table schema args state) fact ↔ (Adds task schema args fact ⊎ (Holds table state fact × ¬ Deletes task schema args fact))
holds_in_result task table schema args state fact fit made action fits =
    let objects = length table.object_types in
    let entry = schema_of task schema in
    let lifted = action_fits task table schema args fit made action in
    held_after objects table.arities state (map (grounded args) entry.del) (map (grounded args) entry.add) fact fits
    (All-map (IsFact objects table.arities) (grounded args) entry.add (λ k d within. (lifted.add k d within).fact))

-- acting leads to the result where the action is applicable, and elsewhere changes nothing
pub after_where_applicable : (task : TaskParts) (table : Ground) (schema : ℕ) (args : List ℕ) (state : State) → IsTask task → IsAction task table schema args → Applicable task table schema args state → state_after task table schema args state ≡ result_of task table schema args state
after_where_applicable task table schema args state fit action can =
    rw ((applicable_exactly task table schema args state _ fit action refl).1 can) refl

pub after_elsewhere : (task : TaskParts) (table : Ground) (schema : ℕ) (args : List ℕ) (state : State) → IsTask task → IsAction task table schema args → ¬ Applicable task table schema args state → state_after task table schema args state ≡ state
after_elsewhere task table schema args state fit action cannot =
    rw (false_from_ne_true (is_applicable task table schema args state) (λ yes. cannot ((applicable_exactly task table schema args state _ fit action refl).0 yes))) refl

-- ---- the start
held_where_listed : (objects : ℕ) (arities : List ℕ) (facts : List Fact) (fact : Fact) → All (IsFact objects arities) facts → Contains (true_atoms objects arities (those_of objects arities facts)) fact ↔ Contains facts fact
held_where_listed objects arities facts fact valid = (
  (λ held.
      let place = place_of_held objects arities (those_of objects arities facts) fact held in
      let told = slice_get-map_at (is_among facts) (ground_atoms objects arities) place.0 fact place.2 in
      Contains-from_test facts fact (cc)),
  (λ listed.
      let place = atom_somewhere objects arities fact (All-contains (IsFact objects arities) facts fact valid listed) in
      let told = slice_get-map_at (is_among facts) (ground_atoms objects arities) place.0 fact place.1 in
      held_at_place objects arities (those_of objects arities facts) fact place.0 (told ∙ ap (λ x. Some x) (test_from_Contains facts fact listed)) place.1),
)

-- at the start an atom holds exactly where it is listed
pub holds_at_start : (task : TaskParts) (instance : InstanceParts) (fact : Fact) → IsInstance task instance → Holds (ground_of task instance) (ground_of task instance).initial fact ↔ Contains instance.init fact
holds_at_start task instance fact valid =
    rw (length-map instance.objects (λ (entry : ObjectEntry). entry.of)) (held_where_listed (length instance.objects) (arities_of task) instance.init fact valid.init)

-- ---- the missing atoms of a goal
longer : (b : Bool) (atom : Fact) (state : State) (atoms : List Fact) → length (items_where_true (b ∷ state) (atom ∷ atoms)) ≡ cond b 1 0 + length (items_where_true state atoms)
longer true atom state atoms = omega arith
longer false atom state atoms = omega arith

count_missing : (f : Fact → Bool) (atoms : List Fact) (state : State) → length state ≡ length atoms → missing (map f atoms) state ≡ length (items_where_true (without_atoms (map f atoms) state) atoms)
count_missing f [] state long = refl
count_missing f (atom ∷ atoms) [] long = absurd (cc)
count_missing f (atom ∷ atoms) (held ∷ state) long =
    omega (arith, missing-cons (f atom) held (map f atoms) state, longer (f atom && not held) atom (without_atoms (map f atoms) state) atoms, count_missing f atoms state (cc))

-- items that are picked of a list in which all differ, differ
all_picked : (P : Fact → Type 0) (bs : List Bool) (xs : List Fact) → All P xs → All P (items_where_true bs xs)
all_picked P bs xs all k d within = let found = (get_or_picked bs xs k d within).1 in subst P (sym found.2) (all found.0 d found.1)

pairs_picked : (R : Fact → Fact → Type 0) (bs : List Bool) (xs : List Fact) → AllPairs R xs → AllPairs R (items_where_true bs xs)
pairs_picked R [] xs all = λ i j d low within. absurd (omega arith)
pairs_picked R (b ∷ bs) [] all = λ i j d low within. absurd (omega arith)
pairs_picked R (true ∷ bs) (x ∷ xs) all =
    AllPairs-cons R x (items_where_true bs xs) (all_picked (R x) bs xs (λ k d within. all 0 (suc k) d (omega arith) (omega arith)))
    (pairs_picked R bs xs (λ i j d low within. all (suc i) (suc j) d (omega arith) (omega arith)))
pairs_picked R (false ∷ bs) (x ∷ xs) all = pairs_picked R bs xs (λ i j d low within. all (suc i) (suc j) d (omega arith) (omega arith))

atoms_differ : (objects : ℕ) (arities : List ℕ) → AllPairs (λ one other. one ≢ other) (ground_atoms objects arities)
atoms_differ objects arities = λ i j d low within same.
    let atoms = ground_atoms objects arities in
    let first = slice_get-get_or atoms i d (omega arith) in
    let second = slice_get-get_or atoms j d within ∙ ap (λ x. Some x) (sym same) in
    let place = atom_once objects arities i j (get_or atoms i d) first second in
    absurd (omega arith)

lacking : (g v : Bool) → (g && not v) ≡ true → (g ≡ true) × (v ≡ false)
lacking true false on = (refl, refl)
lacking true true on = absurd (cc)
lacking false v on = absurd (cc)

-- an atom is among the missing exactly where it is listed and does not hold
missing_exactly : (objects : ℕ) (arities : List ℕ) (facts : List Fact) (state : State) (fact : Fact) → length state ≡ atom_count objects arities → All (IsFact objects arities) facts → Contains (true_atoms objects arities (without_atoms (those_of objects arities facts) state)) fact ↔ (Contains facts fact × ¬ Contains (true_atoms objects arities state) fact)
missing_exactly objects arities facts state fact fits valid =
    let atoms = ground_atoms objects arities in
    let goal = those_of objects arities facts in (
      (λ among.
          let place = place_of_held objects arities (without_atoms goal state) fact among in
          let value = value_at objects arities state fact place.0 fits place.2 in
          let told = slice_get-without goal state place.0 _ value.0 (slice_get-map_at (is_among facts) atoms place.0 fact place.2) value.1 in
          let on : (is_among facts fact && not value.0) ≡ true = cc in
          let parts = lacking (is_among facts fact) value.0 on in (
            Contains-from_test facts fact parts.0,
            (λ held. let yes = (true_at_place objects arities state fact place.0 value.0 place.2 value.1).1 held in let no = parts.1 in absurd (cc)),
          )),
      (λ (wanted, lacks).
          let place = atom_somewhere objects arities fact (All-contains (IsFact objects arities) facts fact valid wanted) in
          let value = value_at objects arities state fact place.0 fits place.1 in
          let listed = test_from_Contains facts fact wanted in
          let no : value.0 ≡ false = false_from_ne_true _ (λ yes. lacks (held_at_place objects arities state fact place.0 (value.1 ∙ ap (λ x. Some x) yes) place.1)) in
          let told = slice_get-without goal state place.0 _ value.0 (slice_get-map_at (is_among facts) atoms place.0 fact place.1) value.1 in
          let on : (is_among facts fact && not value.0) ≡ true = rw (listed, no) refl in
          held_at_place objects arities (without_atoms goal state) fact place.0 (told ∙ ap (λ x. Some x) on) place.1),
    )

-- the missing atoms of a goal, each once, are as many as are counted
pub missing_are : (task : TaskParts) (instance : InstanceParts) (state : State) → IsInstance task instance → IsStateOf (ground_of task instance) state → (atoms : List Fact) × AreMissing (ground_of task instance) instance.goal state atoms × (missing (ground_of task instance).goal state ≡ length atoms)
missing_are task instance state valid fits =
    let objects = length instance.objects in
    let arities = arities_of task in
    let all = ground_atoms objects arities in
    let many : length (map (λ (entry : ObjectEntry). entry.of) instance.objects) ≡ objects = length-map instance.objects (λ (entry : ObjectEntry). entry.of) in
    let long : length state ≡ atom_count objects arities = rw many at fits in
    let lacking = without_atoms (those_of objects arities instance.goal) state in (
      true_atoms objects arities lacking,
      record {
        once = pairs_picked (λ one other. one ≢ other) lacking all (atoms_differ objects arities);
        listed = λ fact. rw many (missing_exactly objects arities instance.goal state fact long valid.goal);
      },
      count_missing (is_among instance.goal) all state (long ∙ sym (length-ground_atoms objects arities)),
    )
