-- The words of `:types` that never reach `object`.
use Rattle.std.proofs.Common.{◌≡◌, ℕ, ◌<◌, List, length, get_or, Option, Some, sym, ap, subst, ◌∙◌, inl, inr, arith}
use Rattle.std.specs.Prelude.{Any}
use Rattle.std.proofs.lemmas.List.{length-map}
use Rattle.std.proofs.lemmas.Option.{get_or_from_slice_get, slice_get-get_or}
use Rattle.ground_state.specs.declared.parts.TypeEntry.{TypeEntry}
use Rattle.pddl_forms.specs.declared.texts.Typed.{Typed}
use Rattle.pddl_task.specs.declared.fault.Fault.{Fault}
use Rattle.pddl_task.specs.Names.{number_of}
use Rattle.pddl_task.specs.Types.{type_names, types_of, entry_of}
use Rattle.pddl_task.specs.Faults.{IsFirst, IsTypeCycle}
use Rattle.pddl_task.specs.Inner.Faults.{IsRootless, AreTops}
use Rattle.pddl_task.proofs.First.{first_same}
use Rattle.pddl_task.proofs.TypeParents.{number_there, word_there}

module _ (types : List Typed) (tops : List ℕ) (are : AreTops (types_of types) tops) (f : Fault) where
  -- a word that stands in `:types` is told to stand elsewhere than under `object` exactly where it is one on a cycle
  cycle_told : (typed : Typed) (k : ℕ) → k < length types → typed ≡ get_or types k typed
      → (IsRootless (type_names types) tops f typed → IsTypeCycle types f typed) × (IsTypeCycle types f typed → IsRootless (type_names types) tops f typed)
  cycle_told typed k within is =
      let number = number_of (type_names types) typed.word.text in
      let long : length (types_of types) ≡ length (type_names types) = length-map (type_names types) (entry_of types) in
      let low = number_there (type_names types) typed.word.text (word_there types k typed within is) in
      let inside : number < length (types_of types) = omega (arith, low, long) in
      let tells = are.1 number inside in
      let same_long = are.0 in (
        (λ has. (elim has.0 [ inl rootless ↦ inl (λ reaches. rootless (slice_get-get_or tops number 0 (omega (arith, inside, same_long)) ∙ ap Some (tells.1 reaches))) | inr moved ↦ inr moved ], has.1)),
        (λ has. (elim has.0 [ inl cycle ↦ inl (λ zero_top. cycle (tells.0 (get_or_from_slice_get tops number 0 0 zero_top))) | inr moved ↦ inr moved ], has.1)),
      )

  rootless_some : Any (IsRootless (type_names types) tops f) types → Any (IsTypeCycle types f) types
  rootless_some (k, typed, within, is, has) = (k, typed, within, is, (cycle_told typed k within (sym is)).0 has)

  cycle_some : Any (IsTypeCycle types f) types → Any (IsRootless (type_names types) tops f) types
  cycle_some (k, typed, within, is, has) = (k, typed, within, is, (cycle_told typed k within (sym is)).1 has)

-- so the first that is told is the first on a cycle
pub first_rootless : (types : List Typed) (names : List (List ℕ)) (entries : List TypeEntry) (tops : List ℕ) (o : Option Fault) → names ≡ type_names types → entries ≡ types_of types → AreTops entries tops
    → IsFirst (λ f. Any (IsRootless names tops f) types) o → IsFirst (λ f. Any (IsTypeCycle types f) types) o
first_rootless types names entries tops o is_names is_entries are first =
    let tell = subst (λ (e : List TypeEntry). AreTops e tops) is_entries are in
    first_same (λ f. Any (IsRootless (type_names types) tops f) types) (λ f. Any (IsTypeCycle types f) types) o
    (λ f some. rootless_some types tops tell f some) (λ f some. cycle_some types tops tell f some)
    (subst (λ (n : List (List ℕ)). IsFirst (λ f. Any (IsRootless n tops f) types) o) is_names first)
