-- How many entries of a pool are held.
use Rattle.std.proofs.Common.{◌≡◌, ℕ, suc, true, List, [], ◌∷◌, Option, Some, None, is_some, cond, count_by, refl, ap, arith}
use Rattle.std.specs.Prelude.{nat_lt}
use Rattle.std.proofs.lemmas.Bool.{lt-ltb}
use Rattle.std.proofs.lemmas.List.Sums.{sum_by-cons}
use Rattle.state_pool.specs.declared.held.Held.{Held}
use Rattle.state_pool.specs.Pool.{count_of}
use Rattle.state_pool.specs.Inner.Entries.{AreCounted}

-- each value that is there is held
pub count-held : {T : Type 0} (slots : List (Option (Held T))) → AreCounted slots → count_by (λ held. nat_lt 0 (count_of held)) slots ≡ count_by is_some slots
count-held [] counted = refl
count-held (None ∷ slots) counted = omega (arith, count-held slots (λ slot held found. counted (suc slot) held found), sum_by-cons (λ o. cond (is_some o) 1 0) None slots, sum_by-cons (λ o. cond (nat_lt 0 (count_of o)) 1 0) None slots)
count-held (Some held ∷ slots) counted =
    let here : nat_lt 0 held.count ≡ true = lt-ltb 0 held.count (counted 0 held refl) in
    omega (arith, count-held slots (λ slot held found. counted (suc slot) held found), ap {B = ℕ} (λ b. cond b 1 0) here, sum_by-cons (λ o. cond (is_some o) 1 0) (Some held) slots, sum_by-cons (λ o. cond (nat_lt 0 (count_of o)) 1 0) (Some held) slots)
