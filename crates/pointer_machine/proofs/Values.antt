-- The values of an instance.
use Rattle.std.proofs.Common.{◌≡◌, ◌↔◌, ℕ, zero, suc, ◌<◌, ◌≤◌, ◌+◌, ◌-◌, Bool, true, false, nat_lt, if◌then◌else◌, List, length, replicate, All, Some, refl, ◌∙◌, ap, sym, arith, get_or, IsTrue}
use Rattle.std.proofs.lemmas.Bool.{ltb-true}
use Rattle.std.proofs.lemmas.List.{length-map, length-set, get_or_default, get_or-set_other}
use Rattle.std.proofs.lemmas.List.Elements.{All-replicate, All-map, All-set, All-weaker}
use Rattle.std.proofs.lemmas.Option.{slice_get-get_or}
use Rattle.std.specs.Prelude.{slice_index, slice_set, slice_get}
use Rattle.flag_rules.specs.declared.flags.Sign.{Sign}
use Rattle.program_model.specs.declared.machine.TheConstants.{MAX_POINTERS}
use Rattle.ground_state.specs.declared.parts.ObjectEntry.{ObjectEntry}
use Rattle.ground_state.specs.declared.parts.TaskParts.{TaskParts}
use Rattle.ground_state.specs.declared.parts.Fact.{Fact}
use Rattle.ground_state.specs.Task.{arities_of}
use Rattle.ground_state.specs.State.{State, is_true}
use Rattle.ground_state.specs.Ground.{Ground, IsStateOf, IsAtom, Holds}
use Rattle.ground_state.specs.Action.{IsTableOf, IsAction}
use Rattle.ground_state.proofs.Acting.{state_after_fits}
use Rattle.ground_state.proofs.Lists.{slice_get-map_at}
use Rattle.ground_state.proofs.States.{length-those_of, Contains-from_test, test_from_Contains}
use Rattle.pointer_machine.specs.declared.form.Form.{Form}
use Rattle.pointer_machine.specs.declared.form.Form.TheVariants.{Act, Test, Inc, Dec, Clear, Set, Cmp}
use Rattle.pointer_machine.specs.declared.pointing.Pointing.{Pointing}
use Rattle.pointer_machine.specs.Operations.{operations_of, IsForm, predicate_of, arity_of}
use Rattle.pointer_machine.specs.Meaning.{IsValueOf, Effect, effect, after, start, objects_at, table_at}
use Rattle.pointer_machine.specs.Machine.{MachineParts, AreMachineParts}
use Rattle.pointer_machine.proofs.Forms.{form_of}

-- a table of an instance has objects, and its start is a state
some_objects : (task : TaskParts) (table : Ground) → IsTableOf task table → 0 < length table.object_types
some_objects task table fits =
    omega (arith, fits.fits.some, length-map fits.instance.objects (λ (entry : ObjectEntry). entry.of), ap (λ (table : Ground). length table.object_types) fits.made)

initial_state : (task : TaskParts) (table : Ground) → IsTableOf task table → IsStateOf table table.initial
initial_state task table fits = rw fits.made (
    let objects = length-map fits.instance.objects (λ (entry : ObjectEntry). entry.of) in
    rw objects (length-those_of (length fits.instance.objects) (arities_of task) fits.instance.init)
    )

-- where all are at object 0, each is
pub get_or-zeros : (n k : ℕ) → slice_index (replicate n 0) k ≡ 0
get_or-zeros zero k = refl
get_or-zeros (suc n) zero = refl
get_or-zeros (suc n) (suc k) = get_or-zeros n k

-- the start of an instance is one of its values, whatever the number of pointers
start_is : (task : TaskParts) (table : Ground) (used : ℕ) → IsTableOf task table → IsValueOf table used (start table)
start_is task table used fits = record {
  pointers = refl;
  objects = All-replicate (λ object. object < length table.object_types) MAX_POINTERS 0 (some_objects task table fits);
  unused = λ pointer past. get_or-zeros MAX_POINTERS pointer;
  atoms = initial_state task table fits;
}

-- the pointed objects are objects of the instance
pointed_low : (table : Ground) (value : Pointing) (args : List ℕ) → IsValueOf table MAX_POINTERS value → All (λ pointer. pointer < MAX_POINTERS) args → All (λ object. object < length table.object_types) (objects_at value.pointers args)
pointed_low table value args fits low =
    let P : ℕ → Type 0 = λ object. object < length table.object_types in
    All-map P (slice_index value.pointers) args (All-weaker (λ pointer. pointer < MAX_POINTERS) (λ pointer. P (slice_index value.pointers pointer)) (λ pointer low. fits.objects pointer 0 (omega (arith, low, fits.pointers))) args low)

-- the schema and the pointed objects are an action
pub action_of : (task : TaskParts) (table : Ground) (value : Pointing) (schema : ℕ) (args : List ℕ) → IsValueOf table MAX_POINTERS value → IsForm task MAX_POINTERS (Act schema args) → IsAction task table schema (objects_at value.pointers args)
action_of task table value schema args fits form = record {
  known = form.0;
  count = length-map args (slice_index value.pointers) ∙ form.1;
  objects = pointed_low table value args fits form.2;
}

-- the predicate and the pointed objects are a ground atom
pub atom_of : (task : TaskParts) (table : Ground) (value : Pointing) (pred : ℕ) (args : List ℕ) → IsTableOf task table → IsValueOf table MAX_POINTERS value → IsForm task MAX_POINTERS (Test pred args) → IsAtom table (record { pred = pred; args = objects_at value.pointers args })
atom_of task table value pred args known fits form =
    let arities : table.arities ≡ arities_of task = ap (λ (table : Ground). table.arities) known.made in
    let here = slice_get-map_at arity_of task.predicates pred (predicate_of task pred) (slice_get-get_or task.predicates pred _ form.0) in
    let count : length (objects_at value.pointers args) ≡ (predicate_of task pred).arity = length-map args (slice_index value.pointers) ∙ form.1 in
    record { arity = rw (arities, count) here; args = pointed_low table value args fits form.2 }

-- an answer that is yes exactly where an atom is true is the test of it
pub test_of : (table : Ground) (state : State) (fact : Fact) (answer : Bool) → IsTrue answer ↔ Holds table state fact → answer ≡ is_true (length table.object_types) table.arities state fact
test_of table state fact answer exactly =
    same_truth answer _ (λ yes. test_from_Contains _ fact (exactly.0 yes)) (λ yes. exactly.1 (Contains-from_test _ fact yes))
  where
    same_truth : (a b : Bool) → (a ≡ true → b ≡ true) → (b ≡ true → a ≡ true) → a ≡ b
    same_truth true b forth back = sym (forth refl)
    same_truth false true forth back = back refl
    same_truth false false forth back = refl

-- ---- operations keep the values of an instance
-- a pointer of the machine is moved to an object
moved_is : (table : Ground) (used pointer object : ℕ) (sign : Sign) (value : Pointing) → IsValueOf table used value → pointer < used → object < length table.object_types → IsValueOf table used (record { pointers = slice_set value.pointers pointer object; sign = sign; atoms = value.atoms })
moved_is table used pointer object sign value fits within low = record {
  pointers = length-set value.pointers pointer object ∙ fits.pointers;
  objects = All-set (λ object. object < length table.object_types) value.pointers pointer object low fits.objects;
  unused = λ other past. get_or-set_other value.pointers pointer other object 0 (omega arith) ∙ fits.unused other past;
  atoms = fits.atoms;
}

-- the pointers stay
stayed_is : (table : Ground) (used : ℕ) (sign : Sign) (atoms : State) (value : Pointing) → IsValueOf table used value → IsStateOf table atoms → IsValueOf table used (record { pointers = value.pointers; sign = sign; atoms = atoms })
stayed_is table used sign atoms value fits state = record { pointers = fits.pointers; objects = fits.objects; unused = fits.unused; atoms = state }

-- of two effects the one where a test is passed, and else the other
either_is : (table : Ground) (used : ℕ) (one other : Effect) (b : Bool) → (b ≡ true → IsValueOf table used (after one)) → IsValueOf table used (after other) → IsValueOf table used (after (if b then one else other))
either_is table used one other true first second = first refl
either_is table used one other false first second = second

-- an operation over the pointers of a machine keeps the values of an instance
pub effect_keeps : (task : TaskParts) (table : Ground) (used : ℕ) (form : Form) (value : Pointing) → used ≤ MAX_POINTERS → IsValueOf table used value → IsForm task used form → IsValueOf table used (after (effect task table form value.pointers value.atoms))
effect_keeps task table used (Act schema args) value few fits form =
    stayed_is table used _ _ value fits (state_after_fits task table schema (objects_at value.pointers args) value.atoms fits.atoms)
effect_keeps task table used (Test pred args) value few fits form = stayed_is table used _ value.atoms value fits fits.atoms
effect_keeps task table used (Inc pointer) value few fits form =
    either_is table used _ _ (nat_lt (slice_index value.pointers pointer + 1) (length table.object_types))
    (λ moves. moved_is table used pointer (slice_index value.pointers pointer + 1) _ value fits form (ltb-true _ _ moves))
    (stayed_is table used _ value.atoms value fits fits.atoms)
effect_keeps task table used (Dec pointer) value few fits form =
    let low = fits.objects pointer 0 (omega (arith, fits.pointers, form)) in
    either_is table used _ _ (nat_lt 0 (slice_index value.pointers pointer))
    (λ moves. moved_is table used pointer (slice_index value.pointers pointer - 1) _ value fits form (omega (arith, low)))
    (stayed_is table used _ value.atoms value fits fits.atoms)
effect_keeps task table used (Clear pointer) value few fits form =
    moved_is table used pointer 0 _ value fits form (omega (arith, fits.objects 0 0 (omega (arith, fits.pointers))))
effect_keeps task table used (Set pointer other) value few fits form =
    moved_is table used pointer (slice_index value.pointers other) _ value fits form.0 (fits.objects other 0 (omega (arith, fits.pointers, form.1)))
effect_keeps task table used (Cmp pointer other) value few fits form = stayed_is table used _ value.atoms value fits fits.atoms

-- ---- the values of a machine's instance
abbrev pub Belongs : MachineParts → ℕ → Pointing → Type 0
Belongs parts t value = (t < length parts.tables) × IsValueOf (table_at parts.tables t) parts.pointers value

table_read : (parts : MachineParts) (t : ℕ) (table : Ground) → t < length parts.tables → table ≡ get_or parts.tables t table → table ≡ table_at parts.tables t
table_read parts t table within here = here ∙ get_or_default parts.tables t table _ within

pub start_at : (parts : MachineParts) (t : ℕ) (table : Ground) (value : Pointing) → AreMachineParts parts → t < length parts.tables → table ≡ get_or parts.tables t table → value ≡ start table → Belongs parts t value
start_at parts t table value fits within here made =
    let own = table_read parts t table within here in
    let known : IsTableOf parts.task table = rw (← here) at (fits.tables t table within) in
    (within, rw (← own, made) (start_is parts.task table parts.pointers known))

-- a value of a machine is one, whatever the number of pointers up to the greatest
pub value_at : (parts : MachineParts) (t : ℕ) (table : Ground) (value : Pointing) → AreMachineParts parts → Belongs parts t value → table ≡ get_or parts.tables t table → IsValueOf table MAX_POINTERS value
value_at parts t table value fits known here =
    let own = table_read parts t table known.0 here in
    let is = known.1 in
    rw own (record { pointers = is.pointers; objects = is.objects; unused = λ pointer past. is.unused pointer (omega (arith, past, fits.few_pointers)); atoms = is.atoms })

pub operation_keeps : (parts : MachineParts) (t op : ℕ) (table : Ground) (form : Form) (value new : Pointing) → AreMachineParts parts → Belongs parts t value → table ≡ get_or parts.tables t table → slice_get (operations_of parts.task parts.pointers) op ≡ Some form → new ≡ after (effect parts.task table form value.pointers value.atoms) → Belongs parts t new
operation_keeps parts t op table form value new fits known here listed done =
    let own = table_read parts t table known.0 here in
    let over = form_of parts.task parts.pointers parts.pointers op form (omega arith) listed in
    (known.0, rw (done, own) (effect_keeps parts.task (table_at parts.tables t) parts.pointers form value fits.few_pointers known.1 over))
