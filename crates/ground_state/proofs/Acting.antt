-- Acting: how clearing and setting places deletes and adds atoms, and where an action is applicable.
use Rattle.std.proofs.Common.{◌≡◌, ◌↔◌, ℕ, zero, suc, ◌<◌, ◌≤◌, Bool, true, false, ◌&&◌, ◌||◌, not, List, [], ◌∷◌, ◌++◌, length, length-append, get_or, take, ◌+◌, set, replicate, refl, ◌∙◌, ap, sym, arith, map, Some, All, IsTrue, if◌then◌else◌}
use Rattle.std.specs.List.{slice_get}
use Rattle.std.proofs.lemmas.List.{length-map, map_more, get_or_default}
use Rattle.std.proofs.lemmas.Option.{slice_get_within}
use Rattle.std.proofs.lemmas.List.Elements.{All-map}
use Rattle.std.proofs.lemmas.List.Sums.{AllPass-from_list_all, list_all-from_AllPass}
use Rattle.std.proofs.lemmas.Bool.{and_parts, and_from}
use Rattle.ground_state.specs.declared.parts.ObjectEntry.{ObjectEntry}
use Rattle.ground_state.specs.declared.parts.TaskParts.{TaskParts}
use Rattle.ground_state.specs.declared.parts.SchemaEntry.{SchemaEntry}
use Rattle.ground_state.specs.declared.parts.Lifted.{Lifted}
use Rattle.ground_state.specs.declared.parts.Term.{Term}
use Rattle.ground_state.specs.declared.parts.Term.TheVariants.{Param, Object}
use Rattle.ground_state.specs.declared.parts.Fact.{Fact}
use Rattle.ground_state.specs.Task.{IsTask, IsLifted, AreLifted, IsTerm, arities_of}
use Rattle.ground_state.specs.GroundAtoms.{ground_atoms, atom_count}
use Rattle.ground_state.specs.State.{State, those_of, is_true, true_atoms, with_atoms, without_atoms}
use Rattle.ground_state.specs.Ground.{Ground, IsStateOf}
use Rattle.ground_state.specs.Inner.Lifting.{IsBound, IsLiftedAt}
use Rattle.ground_state.specs.Action.{object_of, grounded, schema_of, IsTableOf, IsAction, Applicable, is_applicable, result_of, state_after}
use Rattle.ground_state.proofs.Places.{atom_once, length-ground_atoms}
use Rattle.ground_state.proofs.Typing.{typed_from_test, test_from_typed}
use Rattle.ground_state.proofs.States.{is_among, Contains-from_test, test_from_Contains, none_listed, set_adds, true_at_place, length-those_of}

-- ---- adding and deleting, place by place
with_atoms-set : (state atoms : State) (n : ℕ) → with_atoms state (set atoms n true) ≡ set (with_atoms state atoms) n true
with_atoms-set [] atoms n = refl
with_atoms-set (b ∷ state) [] n = refl
with_atoms-set (true ∷ state) (a ∷ atoms) zero = refl
with_atoms-set (false ∷ state) (a ∷ atoms) zero = refl
with_atoms-set (b ∷ state) (a ∷ atoms) (suc n) = ap (λ rest. (b || a) ∷ rest) (with_atoms-set state atoms n)

without_atoms-set : (state atoms : State) (n : ℕ) → without_atoms state (set atoms n true) ≡ set (without_atoms state atoms) n false
without_atoms-set [] atoms n = refl
without_atoms-set (b ∷ state) [] n = refl
without_atoms-set (true ∷ state) (a ∷ atoms) zero = refl
without_atoms-set (false ∷ state) (a ∷ atoms) zero = refl
without_atoms-set (b ∷ state) (a ∷ atoms) (suc n) = ap (λ rest. (b && not a) ∷ rest) (without_atoms-set state atoms n)

with_none : (state : State) → state ≡ with_atoms state (replicate (length state) false)
with_none [] = refl
with_none (true ∷ state) = ap (λ rest. true ∷ rest) (with_none state)
with_none (false ∷ state) = ap (λ rest. false ∷ rest) (with_none state)

without_none : (state : State) → state ≡ without_atoms state (replicate (length state) false)
without_none [] = refl
without_none (true ∷ state) = ap (λ rest. true ∷ rest) (without_none state)
without_none (false ∷ state) = ap (λ rest. false ∷ rest) (without_none state)

length-with_atoms : (state atoms : State) → length state ≡ length atoms → length (with_atoms state atoms) ≡ length state
length-with_atoms [] atoms same = refl
length-with_atoms (b ∷ state) [] same = absurd (cc)
length-with_atoms (b ∷ state) (a ∷ atoms) same = ap (λ n. suc n) (length-with_atoms state atoms (cc))

length-without_atoms : (state atoms : State) → length state ≡ length atoms → length (without_atoms state atoms) ≡ length state
length-without_atoms [] atoms same = refl
length-without_atoms (b ∷ state) [] same = absurd (cc)
length-without_atoms (b ∷ state) (a ∷ atoms) same = ap (λ n. suc n) (length-without_atoms state atoms (cc))

-- ---- adding and deleting listed atoms
none_of : (objects : ℕ) (arities : List ℕ) (state : State) → length state ≡ atom_count objects arities → those_of objects arities [] ≡ replicate (length state) false
none_of objects arities state fits =
    none_listed (ground_atoms objects arities) ∙ ap (λ n. replicate n false) (length-ground_atoms objects arities ∙ sym fits)

one_more : (objects : ℕ) (arities : List ℕ) (facts : List Fact) (fact : Fact) (n : ℕ) → slice_get (ground_atoms objects arities) n ≡ Some fact → those_of objects arities (facts ++ fact ∷ []) ≡ set (those_of objects arities facts) n true
one_more objects arities facts fact n here =
    sym (set_adds facts fact (ground_atoms objects arities) n here (λ m there. atom_once objects arities m n fact there here))

pub nothing_added : (objects : ℕ) (arities : List ℕ) (state : State) → length state ≡ atom_count objects arities → state ≡ with_atoms state (those_of objects arities [])
nothing_added objects arities state fits = with_none state ∙ ap (with_atoms state) (sym (none_of objects arities state fits))

pub nothing_deleted : (objects : ℕ) (arities : List ℕ) (state : State) → length state ≡ atom_count objects arities → state ≡ without_atoms state (those_of objects arities [])
nothing_deleted objects arities state fits = without_none state ∙ ap (without_atoms state) (sym (none_of objects arities state fits))

-- one more atom of a schema
one_more_at : (objects : ℕ) (arities args : List ℕ) (atoms : List Lifted) (i : ℕ) (atom : Lifted) (n : ℕ) → i < length atoms → atom ≡ get_or atoms i atom → slice_get (ground_atoms objects arities) n ≡ Some (grounded args atom) → those_of objects arities (map (grounded args) (take (i + 1) atoms)) ≡ set (those_of objects arities (map (grounded args) (take i atoms))) n true
one_more_at objects arities args atoms i atom n within read here =
    let front = map (grounded args) (take i atoms) in
    ap (those_of objects arities) (map_more (grounded args) atoms i atom within ∙ ap (λ (atom : Lifted). front ++ grounded args atom ∷ []) (sym read)) ∙ one_more objects arities front (grounded args atom) n here

pub one_added : (objects : ℕ) (arities args : List ℕ) (atoms : List Lifted) (i : ℕ) (atom : Lifted) (n : ℕ) (state : State) → i < length atoms → atom ≡ get_or atoms i atom → slice_get (ground_atoms objects arities) n ≡ Some (grounded args atom) → set (with_atoms state (those_of objects arities (map (grounded args) (take i atoms)))) n true ≡ with_atoms state (those_of objects arities (map (grounded args) (take (i + 1) atoms)))
one_added objects arities args atoms i atom n state within read here =
    sym (ap (with_atoms state) (one_more_at objects arities args atoms i atom n within read here) ∙ with_atoms-set state _ n)

pub one_deleted : (objects : ℕ) (arities args : List ℕ) (atoms : List Lifted) (i : ℕ) (atom : Lifted) (n : ℕ) (state : State) → i < length atoms → atom ≡ get_or atoms i atom → slice_get (ground_atoms objects arities) n ≡ Some (grounded args atom) → set (without_atoms state (those_of objects arities (map (grounded args) (take i atoms)))) n false ≡ without_atoms state (those_of objects arities (map (grounded args) (take (i + 1) atoms)))
one_deleted objects arities args atoms i atom n state within read here =
    sym (ap (without_atoms state) (one_more_at objects arities args atoms i atom n within read here) ∙ without_atoms-set state _ n)

-- a state keeps its length, so that each atom has a place in it
pub length-added : (objects : ℕ) (arities : List ℕ) (state : State) (facts : List Fact) → length state ≡ atom_count objects arities → length (with_atoms state (those_of objects arities facts)) ≡ atom_count objects arities
length-added objects arities state facts fits = length-with_atoms state _ (fits ∙ sym (length-those_of objects arities facts)) ∙ fits

pub length-deleted : (objects : ℕ) (arities : List ℕ) (state : State) (facts : List Fact) → length state ≡ atom_count objects arities → length (without_atoms state (those_of objects arities facts)) ≡ atom_count objects arities
length-deleted objects arities state facts fits = length-without_atoms state _ (fits ∙ sym (length-those_of objects arities facts)) ∙ fits

-- the state after an action is a state of the table
pub state_after_fits : (task : TaskParts) (table : Ground) (schema : ℕ) (args : List ℕ) (state : State) → IsStateOf table state → IsStateOf table (state_after task table schema args state)
state_after_fits task table schema args state fits = by_test (is_applicable task table schema args state)
  where
    changed : IsStateOf table (result_of task table schema args state)
    changed =
        let objects = length table.object_types in
        length-added objects table.arities _ (map (grounded args) (schema_of task schema).add)
        (length-deleted objects table.arities state (map (grounded args) (schema_of task schema).del) fits)

    by_test : (b : Bool) → IsStateOf table (if b then result_of task table schema args state else state)
    by_test true = changed
    by_test false = fits

pub place_within : (objects : ℕ) (arities : List ℕ) (state : State) (fact : Fact) (n : ℕ) → length state ≡ atom_count objects arities → slice_get (ground_atoms objects arities) n ≡ Some fact → n < length state
place_within objects arities state fact n fits here =
    omega (arith, slice_get_within (ground_atoms objects arities) n fact here, length-ground_atoms objects arities, fits)

-- ---- whether an atom is true
same_truth : (a b : Bool) → (a ≡ true → b ≡ true) → (b ≡ true → a ≡ true) → a ≡ b
same_truth true b forth back = sym (forth refl)
same_truth false true forth back = back refl
same_truth false false forth back = refl

-- the value at the place of an atom says whether it is true
pub truth_at_place : (objects : ℕ) (arities : List ℕ) (state : State) (fact : Fact) (n : ℕ) (b : Bool) → slice_get (ground_atoms objects arities) n ≡ Some fact → slice_get state n ≡ Some b → b ≡ is_true objects arities state fact
truth_at_place objects arities state fact n b here on =
    let exactly = true_at_place objects arities state fact n b here on in
    same_truth b _ (λ yes. test_from_Contains _ fact (exactly.0 yes)) (λ yes. exactly.1 (Contains-from_test _ fact yes))

-- ---- the atoms of a task's schemas at objects of a table
bound : (params constants : ℕ) (term : Term) → IsTerm params constants term → IsBound params term
bound params constants (Param place) fits = fits
bound params constants (Object number) fits = tt

object_low : (constants objects : ℕ) (args : List ℕ) (term : Term) → constants ≤ objects → All (λ object. object < objects) args → IsTerm (length args) constants term → object_of args term < objects
object_low constants objects args (Param place) few low fits = low place 0 fits
object_low constants objects args (Object number) few low fits = omega arith

lifted_at : (task : TaskParts) (table : Ground) (args : List ℕ) (atom : Lifted) → IsTableOf task table → All (λ object. object < length table.object_types) args → IsLifted task (length args) atom → IsLiftedAt (length table.object_types) table.arities args atom
lifted_at task table args atom made low fits =
    let objects = length table.object_types in
    let constants : length task.constants ≤ objects = omega (arith, ap (λ (t : Ground). length t.object_types) made.made, length-map made.instance.objects (λ (entry : ObjectEntry). entry.of), ap length made.fits.constants.1, length-append task.constants made.fits.constants.0) in
    let arities : table.arities ≡ arities_of task = ap (λ (t : Ground). t.arities) made.made in
    record {
      bound = λ k d within. bound (length args) (length task.constants) _ (fits.args k d within);
      fact = record {
        arity = rw (arities, length-map atom.args (object_of args)) fits.arity;
        args = All-map (λ object. object < objects) (object_of args) atom.args (λ k d within. object_low (length task.constants) objects args _ constants low (fits.args k d within));
      };
    }

-- the schema that is read at a number
pub schema_read : (task : TaskParts) (number : ℕ) (entry : SchemaEntry) → number < length task.schemas → entry ≡ get_or task.schemas number entry → entry ≡ schema_of task number
schema_read task number entry within read = read ∙ get_or_default task.schemas number entry _ within

-- the atoms of a schema are ground atoms at the objects of an action
pub record AreLiftedAt (table : Ground) (args : List ℕ) (schema : SchemaEntry) : Type 0 where
  pub pre : All (IsLiftedAt (length table.object_types) table.arities args) schema.pre
  pub add : All (IsLiftedAt (length table.object_types) table.arities args) schema.add
  pub del : All (IsLiftedAt (length table.object_types) table.arities args) schema.del

pub action_fits : (task : TaskParts) (table : Ground) (number : ℕ) (args : List ℕ) → IsTask task → IsTableOf task table → IsAction task table number args → AreLiftedAt table args (schema_of task number)
action_fits task table number args fit made action =
    let schema = schema_of task number in
    let fits = fit.schemas.each number _ action.known in
    let all = λ (atoms : List Lifted) (valid : AreLifted task (length schema.params) atoms) (k : ℕ) (d : Lifted) (within : k < length atoms). lifted_at task table args (get_or atoms k d) made action.objects (rw action.count (valid.each k d within)) in
    record { pre = all schema.pre fits.pre; add = all schema.add fits.add; del = all schema.del fits.del }

-- ---- where an action is applicable
pub object_types_known : (task : TaskParts) (table : Ground) → IsTableOf task table → All (λ number. number < length task.types) table.object_types
object_types_known task table made =
    let P : ℕ → Type 0 = λ number. number < length task.types in
    rw made.made (All-map P (λ (entry : ObjectEntry). entry.of) made.instance.objects made.fits.objects.in_range)

-- the test of an action decides where it is applicable
pub applicable_exactly : (task : TaskParts) (table : Ground) (schema : ℕ) (args : List ℕ) (state : State) (b : Bool) → IsTask task → IsAction task table schema args → b ≡ is_applicable task table schema args state → IsTrue b ↔ Applicable task table schema args state
applicable_exactly task table schema args state b fit action tested =
    let among = true_atoms (length table.object_types) table.arities state in
    let test = λ (atom : Lifted). is_among among (grounded args atom) in
    let entry = schema_of task schema in (
      (λ yes. let parts = and_parts _ _ (sym tested ∙ yes) in record {
        types = typed_from_test task.types table.object_types args entry.params fit.types action.count parts.0;
        pre = λ k d within. Contains-from_test among _ (AllPass-from_list_all test entry.pre parts.1 k d within);
      }),
      (λ held. tested ∙ and_from _ _
          (test_from_typed task.types table.object_types args entry.params fit.types held.types)
          (list_all-from_AllPass test entry.pre (λ k d within. test_from_Contains among _ (held.pre k d within)))),
    )
