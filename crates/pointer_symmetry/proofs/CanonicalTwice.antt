-- Canonical forms are their own: over the pointers that a canonical renaming gives, the canonical renaming keeps all.
use Rattle.std.proofs.Common.{◌≡◌, ℕ, zero, suc, ◌+◌, ◌<◌, ◌≤◌, Bool, false, ◌||◌, List, ◌∷◌, ◌++◌, length, map, take, drop, get_or, Some, refl, sym, ◌∙◌, ap, subst, inl, inr, arith, append_assoc, add-one}
use Rattle.std.specs.Prelude.{All, slice_get, option_map}
use Rattle.std.specs.List.{range_with_len}
use Rattle.std.proofs.Math.Seq.{take-length}
use Rattle.std.proofs.lemmas.Bool.{true≢false}
use Rattle.std.proofs.lemmas.List.{take-map, length-map}
use Rattle.std.proofs.lemmas.Option.{get_or_from_slice_get, slice_get-get_or, slice_get-map}
use Rattle.program_model.specs.declared.machine.TheConstants.{MAX_POINTERS}
use Rattle.program_model.specs.Renaming.{image}
use Rattle.pointer_symmetry.specs.Twins.{canonical_number, canonical_renaming}
use Rattle.pointer_symmetry.proofs.Orders.{In, at_in, in_map, either_test}
use Rattle.pointer_symmetry.proofs.CanonicalForms.{each_in, image_is_number, used_keeps, stays_within, given_before}
use Rattle.pointer_symmetry.proofs.Walks.{is_among, in_among, around, Keeps, keeps_more, taken_keeps, least_is_number, or_left, or_right, or_none}

module _ (used : ℕ → Bool) (pointers : ℕ) (named : List ℕ) (within : All (λ pointer. pointer < pointers) named) (few : pointers ≤ MAX_POINTERS) where
  abbrev new : ℕ → ℕ
  new = image (canonical_renaming used pointers named)

  abbrev number : ℕ → ℕ
  number = canonical_number used pointers named

  abbrev renamed : List ℕ
  renamed = map new named

  same : (x : ℕ) → new x ≡ number x
  same x = image_is_number used pointers named within x few

  pub renamed_within : All (λ pointer. pointer < pointers) renamed
  renamed_within = λ k d inside.
      let long : length renamed ≡ length named = length-map named new in
      let here = slice_get-get_or named k 0 (omega arith) in
      let x = get_or named k 0 in
      let there : slice_get renamed k ≡ Some (new x) = slice_get-map new named k ∙ ap (option_map new) here in
      subst (λ n. n < pointers) (sym (get_or_from_slice_get renamed k (new x) d there ∙ same x))
      (stays_within used pointers named within x pointers (omega arith) (each_in (λ pointer. pointer < pointers) named x within (at_in named k x here)))

  keeps_one : (i : ℕ) → i < length named → Keeps used pointers renamed i → Keeps used pointers renamed (i + 1)
  keeps_one i inside keeps =
      let x = get_or named i 0 in
      let here : slice_get named i ≡ Some x = slice_get-get_or named i 0 inside in
      let there : slice_get renamed i ≡ Some (new x) = slice_get-map new named i ∙ ap (option_map new) here in
      let lt : x < pointers = each_in (λ pointer. pointer < pointers) named x within (at_in named i x here) in
      let taken = λ (other : ℕ). used other || is_among (take i renamed) other in
      keeps_more used pointers renamed renamed_within i (new x) there keeps
      (elim (either_test (taken (new x))) [
        | inl h ↦ taken_keeps used pointers renamed renamed_within taken i (new x) (λ other. refl) keeps h
        | inr h ↦
            let out = or_none (used (new x)) (is_among (take i renamed) (new x)) h in
            let among = λ (y : ℕ) (m : In (take i named) y). subst (λ ys. In ys (new y)) (sym (take-map new i named)) (in_map new (take i named) y m) in
            let free : used x ≡ false = elim (either_test (used x)) [
              | inl k ↦ absurd (true≢false (sym k ∙ ap used (sym (same x ∙ used_keeps used pointers named within x k)) ∙ out.0))
              | inr k ↦ k
            ] in
            let fresh : In (take i named) x → ⊥ = λ m. true≢false (sym (in_among (take i renamed) (new x) (among x m)) ∙ out.1) in
            let split : named ++ range_with_len 0 pointers ≡ take i named ++ x ∷ (drop (suc i) named ++ range_with_len 0 pointers) =
            ap (λ xs. xs ++ range_with_len 0 pointers) (around named i x here) ∙ append_assoc (take i named) (x ∷ drop (suc i) named) (range_with_len 0 pointers) in
            least_is_number used pointers renamed renamed_within taken i (new x) (new x) there (λ other. refl) keeps h h
            (λ other less. elim (either_test (used other)) [
              | inl k ↦ or_left (used other) (is_among (take i renamed) other) k
              | inr k ↦
                  let given = given_before used pointers named within (take i named) (drop (suc i) named ++ range_with_len 0 pointers) x other split fresh free lt (subst (λ n. other < n) (same x) less) k in
                  or_right (used other) (is_among (take i renamed) other)
                  (in_among (take i renamed) other (subst (In (take i renamed)) (same given.0 ∙ given.2) (among given.0 given.1)))
            ])
      ])

  keeps_some : (i : ℕ) → i ≤ length named → Keeps used pointers renamed i
  keeps_some zero le = λ pointer there. absurd there
  keeps_some (suc i) le = subst (Keeps used pointers renamed) (add-one i) (keeps_one i (omega arith) (keeps_some i (omega arith)))

  -- over the pointers that a canonical renaming gives, the canonical renaming keeps all
  pub canonical_keeps_new : All (λ pointer. image (canonical_renaming used pointers renamed) pointer ≡ pointer) renamed
  canonical_keeps_new = λ k d inside.
      let x = get_or renamed k d in
      let all : take (length named) renamed ≡ renamed = ap (λ n. take n renamed) (sym (length-map named new)) ∙ take-length renamed in
      let among = subst (λ xs. In xs x) (sym all) (at_in renamed k x (slice_get-get_or renamed k d inside)) in
      image_is_number used pointers renamed renamed_within x few ∙ keeps_some (length named) (omega arith) x among
