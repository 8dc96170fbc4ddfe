-- The operations of a machine over the action schemas and predicates of a task, in order.
use Rattle.std.specs.Prelude.{ℕ, ◌≡◌, ◌≢◌, ◌<◌, ◌+◌, ◌-◌, ◌*◌, ◌^◌, List, [], ◌∷◌, ◌++◌, map, flat_map, length, sum_by, slice_index_or, All}
use Rattle.std.specs.List.{range_with_len}
use Rattle.ground_state.specs.declared.parts.TaskParts.{TaskParts}
use Rattle.ground_state.specs.declared.parts.PredicateEntry.{PredicateEntry}
use Rattle.ground_state.specs.declared.parts.SchemaEntry.{SchemaEntry}
use Rattle.ground_state.specs.GroundAtoms.{tuples}
use Rattle.ground_state.specs.Action.{schema_of}
use Rattle.pointer_machine.specs.declared.form.Form.{Form}
use Rattle.pointer_machine.specs.declared.form.Form.TheVariants.{Act, Test, Inc, Dec, Clear, Set, Cmp}

-- the predicate of a number
abbrev pub predicate_of : TaskParts → ℕ → PredicateEntry
predicate_of task number = slice_index_or task.predicates number (record { name = []; arity = 0 })

-- operations by entries that are numbered from a number on: by entry, and then by the lists of as many pointers as the entry takes, in
-- lexical order
abbrev pub by_entry : {E : Type 0} → (E → ℕ) → (ℕ → List ℕ → Form) → ℕ → ℕ → List E → List Form
by_entry width form pointers number [] = []
by_entry width form pointers number (entry ∷ entries) = map (form number) (tuples pointers (width entry)) ++ by_entry width form pointers (number + 1) entries

-- how many lists of pointers entries take: for each the pointers to the power of its width
abbrev pub count_by_entry : {E : Type 0} → (E → ℕ) → ℕ → List E → ℕ
count_by_entry width pointers entries = sum_by (λ entry. pointers ^ width entry) entries

-- how many parameters a schema has
abbrev pub params_of : SchemaEntry → ℕ
params_of schema = length schema.params

-- how many arguments a predicate has
abbrev pub arity_of : PredicateEntry → ℕ
arity_of predicate = predicate.arity

-- acting by each schema
abbrev pub acts : TaskParts → ℕ → List Form
acts task pointers = by_entry params_of (λ schema args. Act schema args) pointers 0 task.schemas

-- testing by each predicate
abbrev pub tests : TaskParts → ℕ → List Form
tests task pointers = by_entry arity_of (λ pred args. Test pred args) pointers 0 task.predicates

-- the pointers other than one, in rising order
abbrev pub others : ℕ → ℕ → List ℕ
others pointers one = range_with_len 0 one ++ range_with_len (one + 1) (pointers - (one + 1))

-- a pointer with each other one
abbrev pub pairs_of : ℕ → ℕ → List (ℕ × ℕ)
pairs_of pointers one = map (λ other. (one, other)) (others pointers one)

-- the ordered pairs of different pointers, in lexical order
abbrev pub pairs : ℕ → List (ℕ × ℕ)
pairs pointers = flat_map (pairs_of pointers) (range_with_len 0 pointers)

-- all operations over so many pointers: acting, testing, moving each pointer on, back and to object 0, and then setting and
-- comparing each pointer with each other one
abbrev pub operations_of : TaskParts → ℕ → List Form
operations_of task pointers =
    acts task pointers
    ++ tests task pointers
    ++ map Inc (range_with_len 0 pointers)
    ++ map Dec (range_with_len 0 pointers)
    ++ map Clear (range_with_len 0 pointers)
    ++ map (λ (pair : ℕ × ℕ). Set pair.0 pair.1) (pairs pointers)
    ++ map (λ (pair : ℕ × ℕ). Cmp pair.0 pair.1) (pairs pointers)

-- how many operations there are: for each schema the pointers to the power of its parameters, for each predicate the pointers to
-- the power of its arity, three for each pointer, and two for each ordered pair of different pointers
abbrev pub operation_count : TaskParts → ℕ → ℕ
operation_count task pointers =
    count_by_entry params_of pointers task.schemas
    + count_by_entry arity_of pointers task.predicates
    + 3 * pointers
    + 2 * pointers * (pointers - 1)

-- an operation over so many pointers: acting by a schema of the task with a pointer for each parameter, testing by a predicate of
-- the task with a pointer for each argument, moving a pointer, or setting or comparing a pointer with another one
abbrev pub IsForm : TaskParts → ℕ → Form → Type 0
IsForm task pointers (Act schema args) =
    (schema < length task.schemas) × (length args ≡ length (schema_of task schema).params) × All (λ pointer. pointer < pointers) args
IsForm task pointers (Test pred args) =
    (pred < length task.predicates) × (length args ≡ (predicate_of task pred).arity) × All (λ pointer. pointer < pointers) args
IsForm task pointers (Inc pointer) = pointer < pointers
IsForm task pointers (Dec pointer) = pointer < pointers
IsForm task pointers (Clear pointer) = pointer < pointers
IsForm task pointers (Set pointer other) = (pointer < pointers) × (other < pointers) × (pointer ≢ other)
IsForm task pointers (Cmp pointer other) = (pointer < pointers) × (other < pointers) × (pointer ≢ other)
