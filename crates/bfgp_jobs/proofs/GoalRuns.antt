-- Runs of the machine over some instances: which end with the goal met, in states in which every fact of the goal is true.
use Rattle.std.proofs.Common.{◌≡◌, ℕ, zero, suc, ◌<◌, ◌≤◌, Bool, true, false, nat_lt, if◌then◌else◌, ◌+◌, List, [], ◌∷◌, map, length, slice_get, slice_index, get_or, Option, Some, None, sym, subst, arith}
use Rattle.std.proofs.lemmas.Option.{option_and_then_some, slice_get_within, slice_get-get_or, get_or_from_slice_get}
use Rattle.std.proofs.lemmas.List.{length-map}
use Rattle.std.proofs.lemmas.List.Elements.{All-contains}
use Rattle.ground_state.specs.declared.parts.TaskParts.{TaskParts}
use Rattle.ground_state.specs.declared.parts.InstanceParts.{InstanceParts}
use Rattle.ground_state.specs.declared.parts.ObjectEntry.{ObjectEntry}
use Rattle.ground_state.specs.Task.{arities_of}
use Rattle.ground_state.specs.Instance.{IsInstance}
use Rattle.ground_state.specs.State.{State, missing}
use Rattle.ground_state.specs.Ground.{Ground, ground_of, Holds, IsStateOf}
use Rattle.ground_state.specs.Action.{schema_of, grounded, is_applicable, result_of, state_after}
use Rattle.ground_state.proofs.Lists.{slice_get-map_at}
use Rattle.ground_state.proofs.States.{Contains-from_place, length-those_of}
use Rattle.ground_state.proofs.Acting.{length-added, length-deleted}
use Rattle.ground_state.proofs.MetGoals.{goal_met_where_held}
use Rattle.program_model.specs.declared.instr.Instr.{Instr}
use Rattle.program_model.specs.declared.instr.Instr.TheVariants.{Op, Goto, End}
use Rattle.program_model.specs.Program.{Program, line_at}
use Rattle.program_model.specs.Run.{Config, first, step, next, at, Ends, SolvesAll}
use Rattle.pointer_machine.specs.declared.form.Form.{Form}
use Rattle.pointer_machine.specs.declared.form.Form.TheVariants.{Act, Test, Inc, Dec, Clear, Set, Cmp}
use Rattle.pointer_machine.specs.declared.pointing.Pointing.{Pointing}
use Rattle.pointer_machine.specs.Operations.{operations_of}
use Rattle.pointer_machine.specs.Meaning.{Effect, effect, value_after, table_at, meaning}
use Rattle.instance_report.specs.Runs.{SolvesAllWithin}
use Rattle.refutation_tree.specs.Accepted.{AreEndsFrom}
use Rattle.bfgp_jobs.specs.Headline.{posed_machine, EndsInGoal, AreEndsInGoal, SolvesEach, SolvesEachWithin, FailsOne}

-- ---- what the operations make of a state of a table is one
acted_keeps : (task : TaskParts) (table : Ground) (schema : ℕ) (args : List ℕ) (state : State) → IsStateOf table state → IsStateOf table (state_after task table schema args state)
acted_keeps task table schema args state fits = by_test (is_applicable task table schema args state)
  where
    changed : IsStateOf table (result_of task table schema args state)
    changed =
        let objects = length table.object_types in
        let entry = schema_of task schema in
        length-added objects table.arities _ (map (grounded args) entry.add) (length-deleted objects table.arities state (map (grounded args) entry.del) fits)

    by_test : (b : Bool) → IsStateOf table (if b then result_of task table schema args state else state)
    by_test true = changed
    by_test false = fits

either_keeps : (table : Ground) (one other : Effect) (b : Bool) → IsStateOf table one.atoms → IsStateOf table other.atoms → IsStateOf table (if b then one else other).atoms
either_keeps table one other true fits fits_too = fits
either_keeps table one other false fits fits_too = fits_too

effect_keeps : (task : TaskParts) (table : Ground) (form : Form) (pointers : List ℕ) (state : State) → IsStateOf table state → IsStateOf table (effect task table form pointers state).atoms
effect_keeps task table (Act schema args) pointers state fits = acted_keeps task table schema _ state fits
effect_keeps task table (Test pred args) pointers state fits = fits
effect_keeps task table (Inc pointer) pointers state fits = either_keeps table _ _ (nat_lt (slice_index pointers pointer + 1) (length table.object_types)) fits fits
effect_keeps task table (Dec pointer) pointers state fits = either_keeps table _ _ (nat_lt 0 (slice_index pointers pointer)) fits fits
effect_keeps task table (Clear pointer) pointers state fits = fits
effect_keeps task table (Set pointer other) pointers state fits = fits
effect_keeps task table (Cmp pointer other) pointers state fits = fits

operated_keeps : (task : TaskParts) (table : Ground) (form : Option Form) (value : Pointing) → IsStateOf table value.atoms → IsStateOf table (value_after task table form value).atoms
operated_keeps task table None value fits = fits
operated_keeps task table (Some form) value fits = effect_keeps task table form value.pointers value.atoms fits

-- ---- so are the states of a run
module _ (task : TaskParts) (tables : List Ground) (pointers t : ℕ) where
  abbrev IsKept : Config Pointing → Type 0
  IsKept config = IsStateOf (table_at tables t) config.value.atoms

  step_keeps : (instr : Instr) (from to : Config Pointing) → step (meaning task tables pointers) t instr from ≡ Some to → IsKept from → IsKept to
  step_keeps (Op op) from to made fits =
      let is : record { line = from.line + 1; value = value_after task (table_at tables t) (slice_get (operations_of task pointers) op) from.value } ≡ to = cc in
      subst IsKept is (operated_keeps task (table_at tables t) (slice_get (operations_of task pointers) op) from.value fits)
  step_keeps (Goto target cond) from to made fits =
      let same : from.value ≡ to.value = cc in
      subst (λ (value : Pointing). IsStateOf (table_at tables t) value.atoms) same fits
  step_keeps End from to made fits = absurd (cc)

  at_keeps : IsStateOf (table_at tables t) (table_at tables t).initial → (q : Program) (j : ℕ) (config : Config Pointing) → at (meaning task tables pointers) q t j ≡ Some config → IsKept config
  at_keeps initial q zero config comes = let is : first (meaning task tables pointers) t ≡ config = cc in subst IsKept is initial
  at_keeps initial q (suc j) config comes =
      option_and_then_some (next (meaning task tables pointers) q t) (at (meaning task tables pointers) q t j) config comes (λ from before moved.
      option_and_then_some (λ instr. step (meaning task tables pointers) t instr from) (line_at q from.line) config moved (λ instr here made.
      step_keeps instr from config made (at_keeps initial q j from before)))

-- ---- so the goal is met at the end exactly where its facts are true
initial_is_state : (task : TaskParts) (instance : InstanceParts) → IsStateOf (ground_of task instance) (ground_of task instance).initial
initial_is_state task instance =
    let objects = length-map instance.objects (λ (entry : ObjectEntry). entry.of) in
    rw objects (length-those_of (length instance.objects) (arities_of task) instance.init)

module _ (task : TaskParts) (instances : List InstanceParts) (pointers : ℕ) (fits : (t : ℕ) (instance : InstanceParts) → slice_get instances t ≡ Some instance → IsInstance task instance) where
  abbrev tables : List Ground
  tables = map (ground_of task) instances

  table_is : (t : ℕ) (instance : InstanceParts) → slice_get instances t ≡ Some instance → table_at tables t ≡ ground_of task instance
  table_is t instance here = get_or_from_slice_get tables t (ground_of task instance) _ (slice_get-map_at (ground_of task) instances t instance here)

  ends_count : (p : Program) (t : ℕ) (ends : List ℕ) → AreEndsFrom (posed_machine task instances pointers) p t ends → t + length ends ≡ length tables
  ends_count p t [] all = omega arith
  ends_count p t (steps ∷ ends) all = let rest = ends_count p (t + 1) ends all.2 in omega arith

  ends_at : (p : Program) (t : ℕ) (ends : List ℕ) → AreEndsFrom (posed_machine task instances pointers) p t ends → (place steps : ℕ) → slice_get ends place ≡ Some steps → Ends (posed_machine task instances pointers) p (t + place) steps
  ends_at p t [] all place steps tells = absurd (cc)
  ends_at p t (first ∷ ends) all zero steps tells =
      let is : first ≡ steps = cc in
      let here : t + zero ≡ t = omega arith in
      rw here (subst (Ends (posed_machine task instances pointers) p t) is all.1)
  ends_at p t (first ∷ ends) all (suc place) steps tells =
      let here : t + suc place ≡ (t + 1) + place = omega arith in
      rw here (ends_at p (t + 1) ends all.2 place steps tells)

  state_is : (p : Program) (t j : ℕ) (instance : InstanceParts) (config : Config Pointing) → slice_get instances t ≡ Some instance → at (posed_machine task instances pointers) p t j ≡ Some config → IsStateOf (ground_of task instance) config.value.atoms
  state_is p t j instance config here comes =
      let table = table_is t instance here in
      let initial = subst (λ (table : Ground). IsStateOf table table.initial) (sym table) (initial_is_state task instance) in
      subst (λ (table : Ground). IsStateOf table config.value.atoms) table (at_keeps task tables pointers t initial p j config comes)

  ends_in_goal : (p : Program) (t steps : ℕ) (instance : InstanceParts) → slice_get instances t ≡ Some instance → Ends (posed_machine task instances pointers) p t steps → EndsInGoal task instances pointers p t instance steps
  ends_in_goal p t steps instance here ends =
      let config = ends.config in
      let state = state_is p t steps instance config here ends.comes in
      let none = subst (λ (table : Ground). missing table.goal config.value.atoms ≡ 0) (table_is t instance here) ends.lacks in
      let held = (goal_met_where_held task instance config.value.atoms (fits t instance here) state).0 none in
      record {
        config = config;
        comes = ends.comes;
        last = ends.last;
        met = λ k d within. held (get_or instance.goal k d) (Contains-from_place instance.goal k (get_or instance.goal k d) (slice_get-get_or instance.goal k d within));
      }

  ends_where_met : (p : Program) (t steps : ℕ) (instance : InstanceParts) → slice_get instances t ≡ Some instance → EndsInGoal task instances pointers p t instance steps → Ends (posed_machine task instances pointers) p t steps
  ends_where_met p t steps instance here ends =
      let atoms = ends.config.value.atoms in
      let state = state_is p t steps instance ends.config here ends.comes in
      let none = (goal_met_where_held task instance atoms (fits t instance here) state).1 (λ fact wanted. All-contains (Holds (ground_of task instance) atoms) instance.goal fact ends.met wanted) in
      record {
        config = ends.config;
        comes = ends.comes;
        last = ends.last;
        lacks = subst (λ (table : Ground). missing table.goal atoms ≡ 0) (sym (table_is t instance here)) none;
      }

  pub solves_each : (p : Program) → SolvesAll (posed_machine task instances pointers) p → SolvesEach task instances pointers p
  solves_each p all t instance here =
      let solved = all t (omega (arith, slice_get_within instances t instance here, length-map instances (ground_of task))) in
      (solved.0, ends_in_goal p t solved.0 instance here solved.1)

  -- within a limit on steps too
  pub each_within : (p : Program) (limit : ℕ) → SolvesAllWithin (posed_machine task instances pointers) p limit → SolvesEachWithin task instances pointers p limit
  each_within p limit all t instance here =
      let solved = all t (omega (arith, slice_get_within instances t instance here, length-map instances (ground_of task))) in
      (solved.0, solved.1, ends_in_goal p t solved.0 instance here solved.2)

  -- an instance of the machine on which no run ends so is one that is given
  pub fails_one : (p : Program) (limit t : ℕ) → t < length tables → ((j : ℕ) → j ≤ limit → Ends (posed_machine task instances pointers) p t j → ⊥) → FailsOne task instances pointers p limit
  fails_one p limit t within fails =
      let no_instance : InstanceParts = record { objects = []; init = []; goal = [] } in
      let here = slice_get-get_or instances t no_instance (omega (arith, within, length-map instances (ground_of task))) in
      record {
        t = t;
        instance = get_or instances t no_instance;
        given = here;
        fails = λ steps few ends. fails steps few (ends_where_met p t steps (get_or instances t no_instance) here ends);
      }

  -- the steps that are told are those after which the runs end so
  pub ends_each : (p : Program) (ends : List ℕ) → AreEndsFrom (posed_machine task instances pointers) p 0 ends → AreEndsInGoal task instances pointers p ends
  ends_each p ends told = record {
    count = omega (arith, ends_count p 0 ends told, length-map instances (ground_of task));
    each = λ t steps instance here tells.
        let same : 0 + t ≡ t = omega arith in
        ends_in_goal p t steps instance here (subst (λ (n : ℕ). Ends (posed_machine task instances pointers) p n steps) same (ends_at p 0 ends told t steps tells));
  }

  pub solves_all : (p : Program) → SolvesEach task instances pointers p → SolvesAll (posed_machine task instances pointers) p
  solves_all p each t within =
      let here = slice_get-get_or instances t (record { objects = []; init = []; goal = [] }) (omega (arith, within, length-map instances (ground_of task))) in
      let ends = each t _ here in
      (ends.0, ends_where_met p t ends.0 _ here ends.1)
