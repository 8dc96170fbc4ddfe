-- What the operations do: a value is the objects of the pointers, a sign, and a state of the instance's ground atoms.
use Rattle.std.specs.Prelude.{◌≡◌, ℕ, ◌+◌, ◌-◌, ◌<◌, ◌≤◌, ℤ, pos, ◌-ℤ◌, nat_lt, List, [], map, replicate, length, slice_get, slice_index, slice_set, slice_index_or, All, Option, Some, None, if◌then◌else◌}
use Rattle.flag_rules.specs.Flags.{sign_of_int}
use Rattle.flag_rules.specs.declared.flags.Sign.TheVariants as signs
use Rattle.program_model.specs.declared.machine.TheConstants.{MAX_POINTERS}
use Rattle.program_model.specs.Semantics.{Semantics}
use Rattle.ground_state.specs.declared.parts.TaskParts.{TaskParts}
use Rattle.ground_state.specs.State.{State, is_true, missing}
use Rattle.ground_state.specs.Ground.{Ground, IsStateOf}
use Rattle.ground_state.specs.Action.{is_applicable, state_after}
use Rattle.pointer_machine.specs.declared.form.Form.{Form}
use Rattle.pointer_machine.specs.declared.form.Form.TheVariants.{Act, Test, Inc, Dec, Clear, Set, Cmp}
use Rattle.pointer_machine.specs.declared.pointing.Pointing.{Pointing}
use Rattle.pointer_machine.specs.Operations.{operations_of}
use Rattle.pointer_machine.specs.Renamed.{pointers_in, renamed_number, renamed_objects}

-- the objects that some pointers stand at
abbrev pub objects_at : List ℕ → List ℕ → List ℕ
objects_at pointers args = map (slice_index pointers) args

-- what an operation comes to: the pointers, the state, and its result
pub record Effect : Type 0 where
  pub pointers : List ℕ
  pub atoms : State
  pub res : ℤ

-- what each operation does:
-- acting, where it is applicable, gives 1; elsewhere it changes no atom and gives 0
-- testing changes nothing; it gives 1 where the atom is true, and 0 where it is not
-- moving a pointer to the next object, or to the one before, gives 1 where there is one; elsewhere the pointer stays, and it gives 0
-- clearing moves a pointer to object 0 and gives 0
-- setting moves a pointer to the object of another one and gives that object's number
-- comparing changes nothing; it gives the number of the one pointer's object minus that of the other's
abbrev pub effect : TaskParts → Ground → Form → List ℕ → State → Effect
effect task table (Act schema args) pointers atoms = record {
  pointers = pointers;
  atoms = state_after task table schema (objects_at pointers args) atoms;
  res = pos (if is_applicable task table schema (objects_at pointers args) atoms then 1 else 0);
}
effect task table (Test pred args) pointers atoms = record {
  pointers = pointers;
  atoms = atoms;
  res = pos (if is_true (length table.object_types) table.arities atoms (record { pred = pred; args = objects_at pointers args }) then 1 else 0);
}
effect task table (Inc pointer) pointers atoms =
    if nat_lt (slice_index pointers pointer + 1) (length table.object_types)
    then record { pointers = slice_set pointers pointer (slice_index pointers pointer + 1); atoms = atoms; res = pos 1 }
    else record { pointers = pointers; atoms = atoms; res = pos 0 }
effect task table (Dec pointer) pointers atoms =
    if nat_lt 0 (slice_index pointers pointer)
    then record { pointers = slice_set pointers pointer (slice_index pointers pointer - 1); atoms = atoms; res = pos 1 }
    else record { pointers = pointers; atoms = atoms; res = pos 0 }
effect task table (Clear pointer) pointers atoms = record { pointers = slice_set pointers pointer 0; atoms = atoms; res = pos 0 }
effect task table (Set pointer other) pointers atoms = record {
  pointers = slice_set pointers pointer (slice_index pointers other);
  atoms = atoms;
  res = pos (slice_index pointers other);
}
effect task table (Cmp pointer other) pointers atoms = record {
  pointers = pointers;
  atoms = atoms;
  res = pos (slice_index pointers pointer) -ℤ pos (slice_index pointers other);
}

-- a value after an effect: the sign is that of the result
abbrev pub after : Effect → Pointing
after done = record { pointers = done.pointers; sign = sign_of_int done.res; atoms = done.atoms }

-- a value after an operation, if it is one
abbrev pub value_after : TaskParts → Ground → Option Form → Pointing → Pointing
value_after task table None value = value
value_after task table (Some form) value = after (effect task table form value.pointers value.atoms)

-- the start of an instance: all pointers at object 0, the sign negative, and the initial atoms
abbrev pub start : Ground → Pointing
start table = record { pointers = replicate MAX_POINTERS 0; sign = signs.Negative; atoms = table.initial }

-- the table of an instance; a number past the last has one without objects
abbrev pub table_at : List Ground → ℕ → Ground
table_at tables t = slice_index_or tables t (record { object_types = []; arities = []; initial = []; goal = [] })

-- the machine over a task, the tables of its instances and so many pointers; a number past the last operation has no pointers, and
-- renaming keeps it; a renamed value has the same sign and atoms
abbrev pub meaning : TaskParts → List Ground → ℕ → Semantics Pointing
meaning task tables pointers = record {
  instances = length tables;
  ops = length (operations_of task pointers);
  pointers = pointers;
  start = λ t. start (table_at tables t);
  act = λ t op value. value_after task (table_at tables t) (slice_get (operations_of task pointers) op) value;
  sign = λ (value : Pointing). value.sign;
  missing = λ t (value : Pointing). missing (table_at tables t).goal value.atoms;
  pointers_of = λ op. slice_index_or (map pointers_in (operations_of task pointers)) op [];
  rename = λ by op. slice_index_or (map (renamed_number (operations_of task pointers) by) (operations_of task pointers)) op op;
  renamed = λ by (value : Pointing). record { pointers = renamed_objects by value.pointers; sign = value.sign; atoms = value.atoms };
}

-- the value is one of an instance, on a machine of so many pointers: each pointer is at an object of the instance, those past the
-- machine's at object 0, and the atoms are a state of the instance
pub record IsValueOf (table : Ground) (used : ℕ) (value : Pointing) : Type 0 where
  pub pointers : length value.pointers ≡ MAX_POINTERS
  pub objects : All (λ object. object < length table.object_types) value.pointers
  pub unused : (pointer : ℕ) → used ≤ pointer → slice_index value.pointers pointer ≡ 0
  pub atoms : IsStateOf table value.atoms
