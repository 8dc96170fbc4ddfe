-- The machine over ground atoms treats all of its pointers alike.
use Rattle.std.proofs.Common.{◌≡◌, ℕ, ◌<◌, ◌≤◌, List, length, map, get_or, All, Some, refl, ◌∙◌, ap, sym, arith}
use Rattle.std.specs.Prelude.{slice_get}
use Rattle.std.proofs.lemmas.List.{get_or_default}
use Rattle.std.proofs.lemmas.List.Elements.{All-weaker}
use Rattle.std.proofs.lemmas.Option.{slice_get-get_or}
use Rattle.flag_rules.specs.declared.flags.Sign.TheVariants as signs
use Rattle.program_model.specs.declared.machine.TheConstants.{MAX_POINTERS}
use Rattle.program_model.specs.Renaming.{image, IsRenamingOf}
use Rattle.program_model.specs.Symmetry.{IsSymmetric}
use Rattle.ground_state.specs.declared.parts.TaskParts.{TaskParts}
use Rattle.ground_state.specs.Ground.{Ground}
use Rattle.pointer_machine.specs.declared.form.Form.{Form}
use Rattle.pointer_machine.specs.declared.form.Form.TheVariants.{Clear}
use Rattle.pointer_machine.specs.declared.pointing.Pointing.{Pointing}
use Rattle.pointer_machine.specs.Operations.{operations_of}
use Rattle.pointer_machine.specs.Meaning.{IsValueOf, after, value_after, start, meaning, table_at}
use Rattle.pointer_machine.specs.Machine.{MachineParts, AreMachineParts}
use Rattle.pointer_machine.specs.Renamed.{pointers_in, renamed_form}
use Rattle.pointer_machine.proofs.Forms.{form_of}
use Rattle.pointer_machine.proofs.Values.{start_at, operation_keeps}
use Rattle.pointer_machine.proofs.RenamedForms.{pointers_low, pointers_in-renamed, rename, pointers_of_is, renamed_at, rename_low, rename-keeps, rename-composed}
use Rattle.pointer_machine.proofs.RenamedValues.{effect-renamed, renamed_value, renamed_is, start-renamed, same-renamed}

-- an operation of the machine
record IsOperation (task : TaskParts) (pointers op : ℕ) : Type 0 where
  form : Form
  here : slice_get (operations_of task pointers) op ≡ Some form
  low : All (λ pointer. pointer < pointers) (pointers_in form)

operation_at : (task : TaskParts) (pointers op : ℕ) → op < length (operations_of task pointers) → IsOperation task pointers op
operation_at task pointers op within =
    let forms = operations_of task pointers in
    let form = get_or forms op (Clear 0) in
    let here = slice_get-get_or forms op (Clear 0) within in
    record { form = form; here = here; low = pointers_low task pointers form (form_of task pointers pointers op form (omega arith) here) }

-- the renamed operation on the renamed value gives the renamed result
acts-renamed : (task : TaskParts) (table : Ground) (pointers : ℕ) (by : List ℕ) (op : ℕ) (value : Pointing) → pointers ≤ MAX_POINTERS → IsRenamingOf pointers by → IsOperation task pointers op → length value.pointers ≡ MAX_POINTERS → value_after task table (slice_get (operations_of task pointers) (rename task pointers by op)) (renamed_value by value) ≡ renamed_value by (value_after task table (slice_get (operations_of task pointers) op) value)
acts-renamed task table pointers by op value few fits known long =
    let low = All-weaker (λ pointer. pointer < pointers) (λ pointer. pointer < MAX_POINTERS) (λ pointer low. omega arith) (pointers_in known.form) known.low in
    ap (λ form. value_after task table form (renamed_value by value)) (renamed_at task pointers by op known.form few fits known.here)
    ∙ ap after (effect-renamed task table by known.form value.pointers value.atoms fits.is_renaming long low)
    ∙ ap (λ form. renamed_value by (value_after task table form value)) (sym known.here)

-- the start of an instance, but for the pointers
abbrev at_start : Ground → List ℕ → Pointing
at_start table objects = record { pointers = objects; sign = signs.Negative; atoms = table.initial }

-- the machine over a task, the tables of its instances and so many pointers treats its pointers alike
pub symmetric_meaning : (task : TaskParts) (tables : List Ground) (pointers : ℕ) → AreMachineParts (record { task = task; tables = tables; pointers = pointers }) → IsSymmetric (meaning task tables pointers) (λ t value. (t < length tables) × IsValueOf (table_at tables t) pointers value)
symmetric_meaning task tables pointers fits =
    let parts : MachineParts = record { task = task; tables = tables; pointers = pointers } in
    let few : pointers ≤ MAX_POINTERS = fits.few_pointers in
    let read : (t : ℕ) → t < length tables → table_at tables t ≡ get_or tables t (table_at tables t) = λ t within. get_or_default tables t _ (table_at tables t) within in
    record {
      pointers = λ op within.
          let known = operation_at task pointers op within in
          rw (pointers_of_is task pointers op known.form known.here) known.low;
      is_operation = λ by op renaming within.
          let known = operation_at task pointers op within in
          rename_low task pointers by op known.form few renaming known.here;
      renames = λ by op renaming within.
          let known = operation_at task pointers op within in
          pointers_of_is task pointers (rename task pointers by op) (renamed_form by known.form) (renamed_at task pointers by op known.form few renaming known.here)
          ∙ pointers_in-renamed by known.form
          ∙ ap (map (image by)) (sym (pointers_of_is task pointers op known.form known.here));
      keeps = λ by op renaming within kept.
          let known = operation_at task pointers op within in
          rename-keeps task pointers by op known.form known.here (rw (pointers_of_is task pointers op known.form known.here) at kept);
      composes = λ first second op renaming other within.
          let known = operation_at task pointers op within in
          rename-composed task pointers first second op known.form few renaming other known.here;
      start_belongs = λ t within. start_at parts t (table_at tables t) (start (table_at tables t)) fits within (read t within) refl;
      act_belongs = λ t op value within op_within belongs.
          let known = operation_at task pointers op op_within in
          let table = table_at tables t in
          operation_keeps parts t op table known.form value (value_after task table (slice_get (operations_of task pointers) op) value) fits belongs (read t within) known.here (ap (λ form. value_after task table form value) known.here);
      renamed_belongs = λ by t value renaming within belongs. (within, renamed_is (table_at tables t) pointers by value renaming belongs.1);
      start = λ by t renaming within.
          let table = table_at tables t in
          ap (λ objects. at_start table objects) (start-renamed by);
      acts = λ by t op value renaming within op_within belongs.
          acts-renamed task (table_at tables t) pointers by op value few renaming (operation_at task pointers op op_within) belongs.1.pointers;
      sign = λ by t value renaming within belongs. refl;
      missing = λ by t value renaming within belongs. refl;
      same = λ by t value other renaming within belongs other_belongs equal. same-renamed by value other renaming.is_renaming belongs.1.pointers other_belongs.1.pointers equal;
    }
