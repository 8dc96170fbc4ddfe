-- Atoms whose heads and names are known, with numbers in the place of names, fit a task and an instance.
use Rattle.std.proofs.Common.{◌≡◌, ℕ, ◌<◌, Bool, true, false, cond, ◌||◌, List, [], ◌∷◌, ◌++◌, length, map, slice_get, find, Some, option_map, if◌then◌else◌, bytes_eq, refl, sym, ap, ◌∙◌}
use Rattle.std.proofs.lemmas.List.{length-map}
use Rattle.std.proofs.lemmas.List.Elements.{All-map, All-weaker}
use Rattle.std.proofs.lemmas.List.Folds.{list_any-append}
use Rattle.pddl_forms.specs.declared.texts.Word.{Word}
use Rattle.pddl_forms.specs.declared.texts.AtomText.{AtomText}
use Rattle.pddl_parser.specs.declared.texts.PredText.{PredText}
use Rattle.ground_state.specs.declared.parts.PredicateEntry.{PredicateEntry}
use Rattle.ground_state.specs.declared.parts.TaskParts.{TaskParts}
use Rattle.ground_state.specs.declared.parts.Term.TheVariants.{Param, Object}
use Rattle.ground_state.specs.Task.{IsTerm, IsLifted}
use Rattle.ground_state.specs.Instance.{IsFact}
use Rattle.pddl_task.specs.Names.{is_among, number_of}
use Rattle.pddl_task.specs.Types.{text_of}
use Rattle.pddl_task.specs.Faults.{head_of, arity_named}
use Rattle.pddl_task.specs.Parts.{predicate_of, term_of, lifted_of, heads_of, fact_of}
use Rattle.pddl_task.proofs.ArityTables.{beside, at_number}
use Rattle.pddl_task.proofs.Composed.{map-map}
use Rattle.pddl_task.proofs.Faultless.{IsKnownAtom}
use Rattle.pddl_task.proofs.TypeParents.{number_there}

-- how many parameters a predicate has
abbrev count_of : PredText → ℕ
count_of predicate = length predicate.params

beside_head : (predicates : List PredText) (name : List ℕ) → beside (bytes_eq name) (heads_of predicates) (map count_of predicates) ≡ arity_named predicates name
beside_head [] name = refl
beside_head (predicate ∷ rest) name = by (beside_head rest name) (bytes_eq name predicate.head.text)
  where
    by : beside (bytes_eq name) (heads_of rest) (map count_of rest) ≡ arity_named rest name → (b : Bool)
        → cond b (Some (count_of predicate)) (beside (bytes_eq name) (heads_of rest) (map count_of rest)) ≡ option_map count_of (cond b (Some predicate) (find (λ (other : PredText). bytes_eq name other.head.text) rest))
    by later true = refl
    by later false = later

-- the predicate of a name's number has as many parameters as the predicate of the name
pub arity_at : (predicates : List PredText) (name : List ℕ) → slice_get (map (λ (entry : PredicateEntry). entry.arity) (map predicate_of predicates)) (number_of (heads_of predicates) name) ≡ arity_named predicates name
arity_at predicates name =
    ap (λ counts. slice_get counts (number_of (heads_of predicates) name)) (map-map (λ (entry : PredicateEntry). entry.arity) predicate_of predicates)
    ∙ at_number (bytes_eq name) (heads_of predicates) (map count_of predicates) long
    ∙ beside_head predicates name
  where
    long : length (heads_of predicates) ≡ length (map count_of predicates)
    long = length-map (map head_of predicates) text_of ∙ length-map predicates head_of ∙ sym (length-map predicates count_of)

-- a name of the parameters or of the constants stands for one of them
term_fits : (params constants : List (List ℕ)) (word : Word) → is_among word.text (params ++ constants) ≡ true → IsTerm (length params) (length constants) (term_of params constants word)
term_fits params constants word known = by (is_among word.text params) refl (sym (list_any-append (bytes_eq word.text) params constants) ∙ known)
  where
    by : (b : Bool) → is_among word.text params ≡ b → (b || is_among word.text constants) ≡ true
        → IsTerm (length params) (length constants) (if b then Param (number_of params word.text) else Object (number_of constants word.text))
    by true there either = number_there params word.text there
    by false absent there = number_there constants word.text there

module _ (predicates : List PredText) where
  -- an atom of a schema
  pub lifted_fits : (params constants : List (List ℕ)) (task : TaskParts) (atom : AtomText) → task.predicates ≡ map predicate_of predicates → length task.constants ≡ length constants
      → IsKnownAtom (arity_named predicates) (params ++ constants) atom → IsLifted task (length params) (lifted_of (heads_of predicates) params constants atom)
  lifted_fits params constants task atom same long known = record {
    arity = rw (same, length-map) (arity_at predicates atom.head.text ∙ known.head);
    args = rw long (All-map (IsTerm (length params) (length constants)) (term_of params constants) atom.args
        (All-weaker (λ (word : Word). is_among word.text (params ++ constants) ≡ true) (λ word. IsTerm (length params) (length constants) (term_of params constants word)) (term_fits params constants) atom.args known.args));
  }

  -- a ground atom
  pub fact_fits : (objects : List (List ℕ)) (atom : AtomText) → IsKnownAtom (arity_named predicates) objects atom
      → IsFact (length objects) (map (λ (entry : PredicateEntry). entry.arity) (map predicate_of predicates)) (fact_of (heads_of predicates) objects atom)
  fact_fits objects atom known = record {
    arity = rw length-map (arity_at predicates atom.head.text ∙ known.head);
    args = All-map (λ object. object < length objects) (λ (word : Word). number_of objects word.text) atom.args
        (All-weaker (λ (word : Word). is_among word.text objects ≡ true) (λ (word : Word). number_of objects word.text < length objects) (λ word there. number_there objects word.text there) atom.args known.args);
  }
