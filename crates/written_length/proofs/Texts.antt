-- The texts of operations are short where the names of their actions and predicates are.
use Rattle.std.proofs.Common.{ℕ, ◌*◌, ◌<◌, ◌≤◌, List, [], ◌∷◌, ◌++◌, length, flat_map, All, arith, length-append}
use Rattle.std.specs.Prelude.{codes, decimal}
use Rattle.std.proofs.lemmas.Fmt.{length-decimal-le}
use Rattle.std.proofs.lemmas.List.Elements.{All-nil, All-cons, All-head, All-tail, All-map, All-weaker}
use Rattle.flag_rules.specs.declared.file.TheConstants.{MAX_FILE_BYTES}
use Rattle.ground_state.specs.declared.parts.TaskParts.{TaskParts}
use Rattle.ground_state.specs.declared.parts.SchemaEntry.{SchemaEntry}
use Rattle.ground_state.specs.declared.parts.PredicateEntry.{PredicateEntry}
use Rattle.ground_state.specs.declared.parts.TheConstants.{MAX_PARAMETERS, MAX_ARITY}
use Rattle.ground_state.specs.Action.{schema_of}
use Rattle.ground_state.specs.Task.{IsTask}
use Rattle.program_model.specs.declared.machine.TheConstants.{MAX_POINTERS}
use Rattle.pointer_machine.specs.declared.form.Form.{Form}
use Rattle.pointer_machine.specs.declared.form.Form.TheVariants.{Act, Test, Inc, Dec, Clear, Set, Cmp}
use Rattle.pointer_machine.specs.Operations.{operations_of, predicate_of, IsForm}
use Rattle.pointer_machine.specs.Texts.{pointer_text, then_pointer, form_text, operation_texts}
use Rattle.pointer_machine.proofs.Forms.{forms_of}
use Rattle.document_length.specs.declared.lengths.TheConstants.{MAX_TEXT_LENGTH}

-- the names of a task's actions and predicates have no more bytes than a file
pub record HasShortEntries (task : TaskParts) : Type 0 where
  pub schemas : All (λ (entry : SchemaEntry). length entry.name ≤ MAX_FILE_BYTES) task.schemas
  pub predicates : All (λ (entry : PredicateEntry). length entry.name ≤ MAX_FILE_BYTES) task.predicates

-- a space, a `p` and at most 20 digits
pointer_short : (pointer : ℕ) → pointer < MAX_POINTERS → length (then_pointer pointer) ≤ 22
pointer_short pointer low = omega (arith, length-append (codes " ") (pointer_text pointer), length-append (codes "p") (decimal pointer), length-decimal-le 20 pointer (omega arith) (omega (arith, low)) (omega (arith, low)))

pointers_short : (args : List ℕ) → All (λ pointer. pointer < MAX_POINTERS) args → length (flat_map then_pointer args) ≤ 22 * length args
pointers_short [] low = omega arith
pointers_short (pointer ∷ args) low =
    omega (
      arith,
      length-append (then_pointer pointer) (flat_map then_pointer args),
      pointer_short pointer (All-head (λ p. p < MAX_POINTERS) pointer args low),
      pointers_short args (All-tail (λ p. p < MAX_POINTERS) pointer args low),
    )

-- a word, a name and a few pointers
named_short : (word name args : List ℕ) → length word ≤ 5 → length name ≤ MAX_FILE_BYTES → length args ≤ MAX_PARAMETERS → All (λ pointer. pointer < MAX_POINTERS) args
    → length (word ++ name ++ flat_map then_pointer args) ≤ MAX_TEXT_LENGTH
named_short word name args short named few low =
    omega (arith, length-append (word ++ name) (flat_map then_pointer args), length-append word name, short, named, few, pointers_short args low)

-- a word and a few pointers
moving_short : (word args : List ℕ) → length word ≤ 5 → length args ≤ 2 → All (λ pointer. pointer < MAX_POINTERS) args → length (word ++ flat_map then_pointer args) ≤ MAX_TEXT_LENGTH
moving_short word args short few low = omega (arith, length-append word (flat_map then_pointer args), short, few, pointers_short args low)

one_low : (pointer : ℕ) → pointer < MAX_POINTERS → All (λ p. p < MAX_POINTERS) (pointer ∷ [])
one_low pointer low = All-cons (λ p. p < MAX_POINTERS) pointer [] low (All-nil (λ p. p < MAX_POINTERS))

two_low : (pointer other : ℕ) → pointer < MAX_POINTERS → other < MAX_POINTERS → All (λ p. p < MAX_POINTERS) (pointer ∷ other ∷ [])
two_low pointer other low other_low = All-cons (λ p. p < MAX_POINTERS) pointer (other ∷ []) low (one_low other other_low)

form_short : (task : TaskParts) (form : Form) → IsTask task → HasShortEntries task → IsForm task MAX_POINTERS form → length (form_text task form) ≤ MAX_TEXT_LENGTH
form_short task (Act schema args) fit named is =
    let few : length (schema_of task schema).params ≤ MAX_PARAMETERS = (fit.schemas.each schema _ is.0).few in
    named_short (codes "act ") (schema_of task schema).name args (omega arith) (named.schemas schema _ is.0) (omega (arith, is.1, few)) is.2
form_short task (Test pred args) fit named is =
    let few : (predicate_of task pred).arity ≤ MAX_ARITY = fit.predicates.arities pred _ is.0 in
    named_short (codes "test ") (predicate_of task pred).name args (omega arith) (named.predicates pred _ is.0) (omega (arith, is.1, few)) is.2
form_short task (Inc pointer) fit named is = moving_short (codes "inc") (pointer ∷ []) (omega arith) (omega arith) (one_low pointer is)
form_short task (Dec pointer) fit named is = moving_short (codes "dec") (pointer ∷ []) (omega arith) (omega arith) (one_low pointer is)
form_short task (Clear pointer) fit named is = moving_short (codes "clear") (pointer ∷ []) (omega arith) (omega arith) (one_low pointer is)
form_short task (Set pointer other) fit named is = moving_short (codes "set") (pointer ∷ other ∷ []) (omega arith) (omega arith) (two_low pointer other is.0 is.1)
form_short task (Cmp pointer other) fit named is = moving_short (codes "cmp") (pointer ∷ other ∷ []) (omega arith) (omega arith) (two_low pointer other is.0 is.1)

pub texts_short : (task : TaskParts) (pointers : ℕ) → IsTask task → HasShortEntries task → pointers ≤ MAX_POINTERS → All (λ text. length text ≤ MAX_TEXT_LENGTH) (operation_texts task pointers)
texts_short task pointers fit named few =
    All-map (λ text. length text ≤ MAX_TEXT_LENGTH) (form_text task) (operations_of task pointers)
    (All-weaker (IsForm task MAX_POINTERS) (λ form. length (form_text task form) ≤ MAX_TEXT_LENGTH) (λ form is. form_short task form fit named is) (operations_of task pointers) (forms_of task pointers MAX_POINTERS few))
