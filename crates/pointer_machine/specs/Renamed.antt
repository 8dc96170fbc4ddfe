-- Operations and the pointers of values under other numbers of the pointers.
use Rattle.std.specs.Prelude.{ℕ, ◌==◌, Bool, List, [], ◌∷◌, map, slice_index}
use Rattle.std.specs.List.{range_with_len, position_or_len}
use Rattle.program_model.specs.declared.machine.TheConstants.{MAX_POINTERS}
use Rattle.program_model.specs.Renaming.{image}
use Rattle.pointer_machine.specs.declared.form.Form.{Form}
use Rattle.pointer_machine.specs.declared.form.Form.TheVariants.{Act, Test, Inc, Dec, Clear, Set, Cmp}
use Rattle.pointer_machine.specs.contracts.form.FormPartialEq.TheImpl as form_eq

-- the pointers that an operation names, in the order of its places
abbrev pub pointers_in : Form → List ℕ
pointers_in (Act schema args) = args
pointers_in (Test pred args) = args
pointers_in (Inc pointer) = pointer ∷ []
pointers_in (Dec pointer) = pointer ∷ []
pointers_in (Clear pointer) = pointer ∷ []
pointers_in (Set pointer other) = pointer ∷ other ∷ []
pointers_in (Cmp pointer other) = pointer ∷ other ∷ []

-- an operation over renamed pointers: it has the new number of each pointer in place of the old one, and is the same but for that
abbrev pub renamed_form : List ℕ → Form → Form
renamed_form by (Act schema args) = Act schema (map (image by) args)
renamed_form by (Test pred args) = Test pred (map (image by) args)
renamed_form by (Inc pointer) = Inc (image by pointer)
renamed_form by (Dec pointer) = Dec (image by pointer)
renamed_form by (Clear pointer) = Clear (image by pointer)
renamed_form by (Set pointer other) = Set (image by pointer) (image by other)
renamed_form by (Cmp pointer other) = Cmp (image by pointer) (image by other)

-- whether two operations are the same, as `==` tells
abbrev pub is_same : Form → Form → Bool
is_same = (form_eq.ghosts).eq

-- the number of an operation in a list: how many stand before it
abbrev pub number_in : List Form → Form → ℕ
number_in forms form = position_or_len (is_same form) forms

-- the number in a list of an operation over renamed pointers
abbrev pub renamed_number : List Form → List ℕ → Form → ℕ
renamed_number forms by form = number_in forms (renamed_form by form)

-- the old number of the pointer that has this new one
abbrev pub old_number : List ℕ → ℕ → ℕ
old_number by number = position_or_len (λ new. new == number) by

-- the objects of the pointers under their new numbers: under each number stands the object of the pointer whose new number it is
abbrev pub renamed_objects : List ℕ → List ℕ → List ℕ
renamed_objects by objects = map (λ number. slice_index objects (old_number by number)) (range_with_len 0 MAX_POINTERS)
