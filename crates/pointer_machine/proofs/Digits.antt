-- The pointers at a place among all lists of so many, as the digits of the place.
use Rattle.std.proofs.Common.{◌≡◌, ℕ, suc, ◌-◌, ◌/◌, ◌%◌, ◌^◌, ◌<◌, ◌≤◌, List, [], ◌∷◌, ◌++◌, length, take, drop, set, Some, ◌∙◌, ap, sym, arith}
use Rattle.std.specs.Prelude.{slice_get, slice_set}
use Rattle.std.proofs.Math.Nat.{pow-zero, pow-suc, mod-lt}
use Rattle.std.proofs.lemmas.Nat.{div-add-mod', div_below}
use Rattle.std.proofs.Math.Seq.{take-set-lt}
use Rattle.std.proofs.lemmas.List.{drop-set, length-take-le, length-set, append_assoc}
use Rattle.ground_state.specs.GroundAtoms.{tuples}
use Rattle.ground_state.proofs.Places.{tuple_push}

-- the digits from an index on are the last ones of the place, and the rest of it stands for those before
abbrev pub AreDigits : ℕ → ℕ → ℕ → List ℕ → ℕ → ℕ → Type 0
AreDigits pointers params place digits rest index =
    (index ≤ params) × (length digits ≡ 6) × (rest < pointers ^ index)
    × ((front : List ℕ) → slice_get (tuples pointers index) rest ≡ Some front → slice_get (tuples pointers params) place ≡ Some (front ++ drop index (take params digits)))

-- one more digit
pub digit_more : (pointers params place rest index : ℕ) (digits : List ℕ) → 0 < pointers → params ≤ 6 → 0 < index → AreDigits pointers params place digits rest index → AreDigits pointers params place (slice_set digits (index - 1) (rest % pointers)) (rest / pointers) (index - 1)
digit_more pointers params place rest index digits some few more old =
    let before = index - 1 in
    let digit = rest % pointers in
    let next : index ≡ suc before = omega arith in
    let long : length (take params digits) ≡ params = length-take-le params digits (omega (arith, old.1)) in
    let cut : drop before (take params (set digits before digit)) ≡ digit ∷ drop index (take params digits) =
    ap (drop before) (take-set-lt params digits before digit (omega (arith, old.0))) ∙ drop-set (take params digits) before digit (omega (arith, old.0, long)) ∙ ap (λ n. digit ∷ drop n (take params digits)) (omega arith) in (
      omega (arith, old.0),
      length-set digits before digit ∙ old.1,
      div_below rest pointers (pointers ^ before) some (omega (arith, old.2, pow-suc pointers before, ap (λ n. pointers ^ n) next)),
      (λ front here.
          let pushed = tuple_push pointers before (rest / pointers) front digit (mod-lt rest some) here in
          let whole = old.3 (front ++ digit ∷ []) (ap (λ n. slice_get (tuples pointers n) rest) next ∙ ap (slice_get (tuples pointers (suc before))) (sym (div-add-mod' rest pointers)) ∙ pushed) in
          whole ∙ ap (λ x. Some x) (append_assoc front (digit ∷ []) (drop index (take params digits)) ∙ ap (λ x. front ++ x) (sym cut))),
    )

-- at the end all digits are there
pub all_digits : (pointers params place rest : ℕ) (digits : List ℕ) → AreDigits pointers params place digits rest 0 → slice_get (tuples pointers params) place ≡ Some (take params digits)
all_digits pointers params place rest digits old =
    let none : rest ≡ 0 = omega (arith, old.2, pow-zero pointers) in
    old.3 [] (ap (slice_get (tuples pointers 0)) none)
