-- Operations over renamed pointers.
use Rattle.std.proofs.Common.{◌≡◌, ℕ, ◌<◌, ◌≤◌, List, [], ◌∷◌, length, map, All, Some, None, Option, Contains, MatchOption, refl, ◌∙◌, ap, sym, arith}
use Rattle.std.specs.Prelude.{slice_get, slice_index_or}
use Rattle.std.proofs.lemmas.List.{length-map, get_or-map}
use Rattle.std.proofs.lemmas.List.Elements.{All-cons, All-nil, All-head, All-tail, All-map, All-weaker}
use Rattle.std.proofs.lemmas.Option.{slice_get_within, get_or_from_slice_get}
use Rattle.program_model.specs.declared.machine.TheConstants.{MAX_POINTERS}
use Rattle.program_model.specs.Renaming.{image, IsRenamingOf, composed}
use Rattle.ground_state.specs.declared.parts.TaskParts.{TaskParts}
use Rattle.ground_state.proofs.Lists.{slice_get-map_at}
use Rattle.pointer_machine.specs.declared.form.Form.{Form}
use Rattle.pointer_machine.specs.declared.form.Form.TheVariants.{Act, Test, Inc, Dec, Clear, Set, Cmp}
use Rattle.pointer_machine.specs.Operations.{operations_of, IsForm}
use Rattle.pointer_machine.specs.Renamed.{pointers_in, renamed_form, renamed_number}
use Rattle.pointer_machine.proofs.Forms.{form_of}
use Rattle.pointer_machine.proofs.Once.{holds_at}
use Rattle.pointer_machine.proofs.Listed.{form_listed, number_is}

one_low : (pointers pointer : ℕ) → pointer < pointers → All (λ pointer. pointer < pointers) (pointer ∷ [])
one_low pointers pointer low = All-cons (λ pointer. pointer < pointers) pointer [] low (All-nil (λ pointer. pointer < pointers))

two_low : (pointers pointer other : ℕ) → pointer < pointers → other < pointers → All (λ pointer. pointer < pointers) (pointer ∷ other ∷ [])
two_low pointers pointer other low other_low = All-cons (λ pointer. pointer < pointers) pointer (other ∷ []) low (one_low pointers other other_low)

-- the pointers of an operation are those of the machine
pub pointers_low : (task : TaskParts) (pointers : ℕ) (form : Form) → IsForm task pointers form → All (λ pointer. pointer < pointers) (pointers_in form)
pointers_low task pointers (Act schema args) is = is.2
pointers_low task pointers (Test pred args) is = is.2
pointers_low task pointers (Inc pointer) is = one_low pointers pointer is
pointers_low task pointers (Dec pointer) is = one_low pointers pointer is
pointers_low task pointers (Clear pointer) is = one_low pointers pointer is
pointers_low task pointers (Set pointer other) is = two_low pointers pointer other is.0 is.1
pointers_low task pointers (Cmp pointer other) is = two_low pointers pointer other is.0 is.1

-- renamed pointers of the machine are such
args_low : (pointers : ℕ) (by args : List ℕ) → IsRenamingOf pointers by → All (λ pointer. pointer < pointers) args → All (λ pointer. pointer < pointers) (map (image by) args)
args_low pointers by args fits low =
    All-map (λ pointer. pointer < pointers) (image by) args (All-weaker (λ pointer. pointer < pointers) (λ pointer. image by pointer < pointers) fits.among args low)

-- a renamed operation is one
is_renamed : (task : TaskParts) (pointers : ℕ) (by : List ℕ) (form : Form) → pointers ≤ MAX_POINTERS → IsRenamingOf pointers by → IsForm task pointers form → IsForm task pointers (renamed_form by form)
is_renamed task pointers by (Act schema args) few fits is = (is.0, length-map args (image by) ∙ is.1, args_low pointers by args fits is.2)
is_renamed task pointers by (Test pred args) few fits is = (is.0, length-map args (image by) ∙ is.1, args_low pointers by args fits is.2)
is_renamed task pointers by (Inc pointer) few fits is = fits.among pointer is
is_renamed task pointers by (Dec pointer) few fits is = fits.among pointer is
is_renamed task pointers by (Clear pointer) few fits is = fits.among pointer is
is_renamed task pointers by (Set pointer other) few fits is =
    (fits.among pointer is.0, fits.among other is.1, λ same. is.2 (fits.is_renaming.different pointer other (omega (arith, is.0)) (omega (arith, is.1)) same))
is_renamed task pointers by (Cmp pointer other) few fits is =
    (fits.among pointer is.0, fits.among other is.1, λ same. is.2 (fits.is_renaming.different pointer other (omega (arith, is.0)) (omega (arith, is.1)) same))

-- it names the renamed pointers
pub pointers_in-renamed : (by : List ℕ) (form : Form) → pointers_in (renamed_form by form) ≡ map (image by) (pointers_in form)
pointers_in-renamed by (Act schema args) = refl
pointers_in-renamed by (Test pred args) = refl
pointers_in-renamed by (Inc pointer) = refl
pointers_in-renamed by (Dec pointer) = refl
pointers_in-renamed by (Clear pointer) = refl
pointers_in-renamed by (Set pointer other) = refl
pointers_in-renamed by (Cmp pointer other) = refl

-- a function that keeps each item of a list keeps the list
map-keeps : (f : ℕ → ℕ) (xs : List ℕ) → All (λ x. f x ≡ x) xs → map f xs ≡ xs
map-keeps f [] kept = refl
map-keeps f (x ∷ xs) kept =
    let first : f x ≡ x = All-head (λ x. f x ≡ x) x xs kept in
    let rest : map f xs ≡ xs = map-keeps f xs (All-tail (λ x. f x ≡ x) x xs kept) in
    λ i. first i ∷ rest i

-- it is the same where its pointers keep their numbers
renamed_form-keeps : (by : List ℕ) (form : Form) → All (λ pointer. image by pointer ≡ pointer) (pointers_in form) → renamed_form by form ≡ form
renamed_form-keeps by (Act schema args) kept = ap (Act schema) (map-keeps (image by) args kept)
renamed_form-keeps by (Test pred args) kept = ap (Test pred) (map-keeps (image by) args kept)
renamed_form-keeps by (Inc pointer) kept = ap Inc (All-head (λ pointer. image by pointer ≡ pointer) pointer [] kept)
renamed_form-keeps by (Dec pointer) kept = ap Dec (All-head (λ pointer. image by pointer ≡ pointer) pointer [] kept)
renamed_form-keeps by (Clear pointer) kept = ap Clear (All-head (λ pointer. image by pointer ≡ pointer) pointer [] kept)
renamed_form-keeps by (Set pointer other) kept =
    let P : ℕ → Type 0 = λ pointer. image by pointer ≡ pointer in
    let first : image by pointer ≡ pointer = All-head P pointer (other ∷ []) kept in
    let second : image by other ≡ other = All-head P other [] (All-tail P pointer (other ∷ []) kept) in
    λ i. Set (first i) (second i)
renamed_form-keeps by (Cmp pointer other) kept =
    let P : ℕ → Type 0 = λ pointer. image by pointer ≡ pointer in
    let first : image by pointer ≡ pointer = All-head P pointer (other ∷ []) kept in
    let second : image by other ≡ other = All-head P other [] (All-tail P pointer (other ∷ []) kept) in
    λ i. Cmp (first i) (second i)

-- one renaming and then another take a pointer where both in turn take it
image-composed : (first second : List ℕ) (pointer : ℕ) → pointer < length first → image second (image first pointer) ≡ image (composed first second) pointer
image-composed first second pointer low = sym (get_or-map (image second) first pointer pointer pointer low)

args-composed : (first second : List ℕ) (args : List ℕ) → All (λ pointer. pointer < length first) args → map (image second) (map (image first) args) ≡ map (image (composed first second)) args
args-composed first second [] low = refl
args-composed first second (pointer ∷ args) low =
    let P : ℕ → Type 0 = λ pointer. pointer < length first in
    let head = image-composed first second pointer (All-head P pointer args low) in
    let rest = args-composed first second args (All-tail P pointer args low) in
    λ i. head i ∷ rest i

renamed_form-composed : (first second : List ℕ) (form : Form) → All (λ pointer. pointer < length first) (pointers_in form) → renamed_form second (renamed_form first form) ≡ renamed_form (composed first second) form
renamed_form-composed first second (Act schema args) low = ap (Act schema) (args-composed first second args low)
renamed_form-composed first second (Test pred args) low = ap (Test pred) (args-composed first second args low)
renamed_form-composed first second (Inc pointer) low = ap Inc (image-composed first second pointer (All-head (λ pointer. pointer < length first) pointer [] low))
renamed_form-composed first second (Dec pointer) low = ap Dec (image-composed first second pointer (All-head (λ pointer. pointer < length first) pointer [] low))
renamed_form-composed first second (Clear pointer) low = ap Clear (image-composed first second pointer (All-head (λ pointer. pointer < length first) pointer [] low))
renamed_form-composed first second (Set pointer other) low =
    let P : ℕ → Type 0 = λ pointer. pointer < length first in
    let one = image-composed first second pointer (All-head P pointer (other ∷ []) low) in
    let two = image-composed first second other (All-head P other [] (All-tail P pointer (other ∷ []) low)) in
    λ i. Set (one i) (two i)
renamed_form-composed first second (Cmp pointer other) low =
    let P : ℕ → Type 0 = λ pointer. pointer < length first in
    let one = image-composed first second pointer (All-head P pointer (other ∷ []) low) in
    let two = image-composed first second other (All-head P other [] (All-tail P pointer (other ∷ []) low)) in
    λ i. Cmp (one i) (two i)

-- ---- by numbers
-- the pointers of the operation of a number
abbrev pub pointers_of : TaskParts → ℕ → ℕ → List ℕ
pointers_of task pointers op = slice_index_or (map pointers_in (operations_of task pointers)) op []

-- the number of an operation over renamed pointers
abbrev pub rename : TaskParts → ℕ → List ℕ → ℕ → ℕ
rename task pointers by op = slice_index_or (map (renamed_number (operations_of task pointers) by) (operations_of task pointers)) op op

pub pointers_of_is : (task : TaskParts) (pointers op : ℕ) (form : Form) → slice_get (operations_of task pointers) op ≡ Some form → pointers_of task pointers op ≡ pointers_in form
pointers_of_is task pointers op form here =
    get_or_from_slice_get (map pointers_in (operations_of task pointers)) op (pointers_in form) [] (slice_get-map_at pointers_in (operations_of task pointers) op form here)

rename_is : (task : TaskParts) (pointers : ℕ) (by : List ℕ) (op : ℕ) (form : Form) → slice_get (operations_of task pointers) op ≡ Some form → rename task pointers by op ≡ renamed_number (operations_of task pointers) by form
rename_is task pointers by op form here =
    let forms = operations_of task pointers in
    get_or_from_slice_get (map (renamed_number forms by) forms) op (renamed_number forms by form) op (slice_get-map_at (renamed_number forms by) forms op form here)

-- the operation that has the number of the renamed one is the renamed one
pub renamed_at : (task : TaskParts) (pointers : ℕ) (by : List ℕ) (op : ℕ) (form : Form) → pointers ≤ MAX_POINTERS → IsRenamingOf pointers by → slice_get (operations_of task pointers) op ≡ Some form → slice_get (operations_of task pointers) (rename task pointers by op) ≡ Some (renamed_form by form)
renamed_at task pointers by op form few fits here =
    let is = form_of task pointers pointers op form (omega arith) here in
    let listed = form_listed task pointers (renamed_form by form) (is_renamed task pointers by form few fits is) in
    let number : rename task pointers by op ≡ listed.place = rename_is task pointers by op form here ∙ number_is task pointers listed.place (renamed_form by form) listed.here in
    ap (slice_get (operations_of task pointers)) number ∙ listed.here

-- an operation that stands there has this number
pub rename_at : (task : TaskParts) (pointers : ℕ) (by : List ℕ) (op new : ℕ) (form : Form) → slice_get (operations_of task pointers) op ≡ Some form → slice_get (operations_of task pointers) new ≡ Some (renamed_form by form) → rename task pointers by op ≡ new
rename_at task pointers by op new form here there =
    rename_is task pointers by op form here ∙ number_is task pointers new (renamed_form by form) there

-- renaming keeps the number of an operation where its pointers keep theirs
pub rename-keeps : (task : TaskParts) (pointers : ℕ) (by : List ℕ) (op : ℕ) (form : Form) → slice_get (operations_of task pointers) op ≡ Some form → All (λ pointer. image by pointer ≡ pointer) (pointers_in form) → rename task pointers by op ≡ op
rename-keeps task pointers by op form here kept =
    rename_at task pointers by op op form here (here ∙ ap (λ form. Some form) (sym (renamed_form-keeps by form kept)))

-- renaming by one and then by another renaming is renaming by both in turn
pub rename-composed : (task : TaskParts) (pointers : ℕ) (first second : List ℕ) (op : ℕ) (form : Form) → pointers ≤ MAX_POINTERS → IsRenamingOf pointers first → IsRenamingOf pointers second → slice_get (operations_of task pointers) op ≡ Some form → rename task pointers second (rename task pointers first op) ≡ rename task pointers (composed first second) op
rename-composed task pointers first second op form few fits other_fits here =
    let is = form_of task pointers pointers op form (omega arith) here in
    let middle = renamed_at task pointers first op form few fits here in
    let end = renamed_at task pointers second (rename task pointers first op) (renamed_form first form) few other_fits middle in
    let low = All-weaker (λ pointer. pointer < pointers) (λ pointer. pointer < length first) (λ pointer low. omega (arith, fits.is_renaming.count)) (pointers_in form) (pointers_low task pointers form is) in
    sym (rename_at task pointers (composed first second) op (rename task pointers second (rename task pointers first op)) form here (end ∙ ap (λ form. Some form) (renamed_form-composed first second form low)))

-- ---- what the calls find
-- the pointer at a place of an operation is one of the machine
pub pointer_low : (task : TaskParts) (pointers op place pointer : ℕ) (form : Form) → slice_get (operations_of task pointers) op ≡ Some form → slice_get (pointers_in form) place ≡ Some pointer → pointer < pointers
pointer_low task pointers op place pointer form here there =
    holds_at (λ pointer. pointer < pointers) (pointers_in form) place pointer (pointers_low task pointers form (form_of task pointers pointers op form (omega arith) here)) there

-- a search for the renamed operation finds its number
pub renamed_found : (task : TaskParts) (pointers : ℕ) (by : List ℕ) (op : ℕ) (form : Form) (found : Option ℕ) → pointers ≤ MAX_POINTERS → IsRenamingOf pointers by → slice_get (operations_of task pointers) op ≡ Some form → MatchOption found (Contains (operations_of task pointers) (renamed_form by form) → ⊥) (λ n. slice_get (operations_of task pointers) n ≡ Some (renamed_form by form)) → found ≡ Some (rename task pointers by op)
renamed_found task pointers by op form (Some new) few fits here there = ap (λ n. Some n) (sym (rename_at task pointers by op new form here there))
renamed_found task pointers by op form None few fits here none =
    let forms = operations_of task pointers in
    let new = rename task pointers by op in
    let listed = renamed_at task pointers by op form few fits here in
    absurd (none (new, slice_get_within forms new (renamed_form by form) listed, get_or_from_slice_get forms new (renamed_form by form) (renamed_form by form) listed))

-- the number of the renamed operation is one of the machine's
pub rename_low : (task : TaskParts) (pointers : ℕ) (by : List ℕ) (op : ℕ) (form : Form) → pointers ≤ MAX_POINTERS → IsRenamingOf pointers by → slice_get (operations_of task pointers) op ≡ Some form → rename task pointers by op < length (operations_of task pointers)
rename_low task pointers by op form few fits here =
    slice_get_within (operations_of task pointers) (rename task pointers by op) (renamed_form by form) (renamed_at task pointers by op form few fits here)
