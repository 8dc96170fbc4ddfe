-- What holds of each name still does where others are added, and names that differ have their places for numbers.
use Rattle.std.proofs.Common.{◌≡◌, ℕ, zero, suc, Bool, true, false, not, cond, ◌<◌, ◌+◌, List, [], ◌∷◌, ◌++◌, length, get_or, if◌then◌else◌, bytes_eq, refl, sym, ap, arith}
use Rattle.std.specs.Prelude.{All}
use Rattle.std.proofs.lemmas.List.Elements.{All-head, All-tail, All-push}
use Rattle.std.proofs.lemmas.Slice.Eq.{bytes_eq-Decides}
use Rattle.pddl_task.specs.Names.{with_name, with_names, number_of, is_among}
use Rattle.pddl_task.specs.Inner.Names.{AreApart}

pub each_with : (P : List ℕ → Type 0) (names others : List (List ℕ)) → All P names → All P others → All P (with_names names others)
each_with P names [] each more = each
each_with P names (other ∷ others) each more = each_with P (with_name names other) others (by (is_among other names)) (All-tail P other others more)
  where
    by : (b : Bool) → All P (if b then names else names ++ other ∷ [])
    by true = each
    by false = All-push P names other each (All-head P other others more)

apart_tail : (name : List ℕ) (rest : List (List ℕ)) → AreApart (name ∷ rest) → AreApart rest
apart_tail name rest apart i j d less within = apart (suc i) (suc j) d (omega (arith, less)) (omega (arith, within))

-- of names that differ each has its own place for its number
pub number_at : (names : List (List ℕ)) (k : ℕ) → AreApart names → k < length names → number_of names (get_or names k []) ≡ k
number_at [] k apart within = absurd (omega (arith, within))
number_at (name ∷ rest) zero apart within = let itself : bytes_eq name name ≡ true = (bytes_eq-Decides name name).1 refl in ap (λ b. cond (not b) (1 + number_of rest name) 0) itself
number_at (name ∷ rest) (suc k) apart within = by (bytes_eq (get_or rest k []) name) refl (number_at rest k (apart_tail name rest apart) (omega (arith, within)))
  where
    by : (b : Bool) → bytes_eq (get_or rest k []) name ≡ b → number_of rest (get_or rest k []) ≡ k → cond (not b) (1 + number_of rest (get_or rest k [])) 0 ≡ suc k
    by true same at = absurd (apart 0 (suc k) [] (omega arith) within (sym ((bytes_eq-Decides (get_or rest k []) name).0 same)))
    by false other at = omega (arith, at)
