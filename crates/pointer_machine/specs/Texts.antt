-- How the operations are written.
use Rattle.std.specs.Prelude.{ℕ, List, [], ◌∷◌, ◌++◌, map, flat_map, codes, decimal}
use Rattle.ground_state.specs.declared.parts.TaskParts.{TaskParts}
use Rattle.ground_state.specs.Action.{schema_of}
use Rattle.pointer_machine.specs.declared.form.Form.{Form}
use Rattle.pointer_machine.specs.declared.form.Form.TheVariants.{Act, Test, Inc, Dec, Clear, Set, Cmp}
use Rattle.pointer_machine.specs.Operations.{operations_of, predicate_of}

-- a pointer is a `p` and its number
abbrev pub pointer_text : ℕ → List ℕ
pointer_text pointer = codes "p" ++ decimal pointer

-- a space and a pointer
abbrev pub then_pointer : ℕ → List ℕ
then_pointer pointer = codes " " ++ pointer_text pointer

-- an operation: its word, for acting and testing the name of the schema or predicate, and the pointers, each after a space
abbrev pub form_text : TaskParts → Form → List ℕ
form_text task (Act schema args) = codes "act " ++ (schema_of task schema).name ++ flat_map then_pointer args
form_text task (Test pred args) = codes "test " ++ (predicate_of task pred).name ++ flat_map then_pointer args
form_text task (Inc pointer) = codes "inc" ++ flat_map then_pointer (pointer ∷ [])
form_text task (Dec pointer) = codes "dec" ++ flat_map then_pointer (pointer ∷ [])
form_text task (Clear pointer) = codes "clear" ++ flat_map then_pointer (pointer ∷ [])
form_text task (Set pointer other) = codes "set" ++ flat_map then_pointer (pointer ∷ other ∷ [])
form_text task (Cmp pointer other) = codes "cmp" ++ flat_map then_pointer (pointer ∷ other ∷ [])

-- the texts of all operations, in order
abbrev pub operation_texts : TaskParts → ℕ → List (List ℕ)
operation_texts task pointers = map (form_text task) (operations_of task pointers)
