-- The greatest of some numbers, or 0.
use Rattle.std.proofs.Common.{◌≡◌, ℕ, List, [], ◌∷◌, max, refl, ap, arith}
use Rattle.std.specs.Prelude.{fold, unwrap_or}
use Rattle.std.specs.List.{reduce}

pub greatest_or_none : (numbers : List ℕ) → unwrap_or (reduce max numbers) 0 ≡ fold max 0 numbers
greatest_or_none [] = refl
greatest_or_none (number ∷ numbers) =
    let same : number ≡ max 0 number = omega arith in
    ap (λ n. fold max n numbers) same
