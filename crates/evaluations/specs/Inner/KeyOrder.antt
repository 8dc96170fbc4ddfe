-- Keys are in order as their slices are, and this is an order on pairs.
use Rattle.std.proofs.Common.{◌≡◌, ◌≢◌, ℕ, nat_lt, true, false, not, List, [], ◌∷◌, refl, sym, arith}
use Rattle.std.proofs.lemmas.Bool.Decides.{nat_tests}
use Rattle.std.specs.declared.cmp.Ordering.{Ordering}
use Rattle.std.specs.Ordering.{match_ordering, nat_cmp}
use Rattle.std.specs.Cmp.Lexicographic.{slice_cmp}
use Rattle.evaluations.specs.Ranking.{IsRanking}
use Rattle.evaluations.specs.Keys.{comes_before}

comes_before-slice_cmp : (a : List ℕ) (m : ℕ) (b : List ℕ) (n : ℕ) → comes_before a m b n ≡ match_ordering (slice_cmp nat_cmp a b) true (nat_lt m n) false
comes_before-slice_cmp [] m [] n = refl
comes_before-slice_cmp [] m (y ∷ ys) n = refl
comes_before-slice_cmp (x ∷ xs) m [] n = refl
comes_before-slice_cmp (x ∷ xs) m (y ∷ ys) n = grind (arith, nat_tests, comes_before-slice_cmp xs m ys n)

-- what a comparison of the entries, and then of the numbers, says
pub comes_before_by : (o : Ordering) (a : List ℕ) (m : ℕ) (b : List ℕ) (n : ℕ) → o ≡ slice_cmp nat_cmp a b → match_ordering o true (nat_lt m n) false ≡ comes_before a m b n
comes_before_by o a m b n is = rw is (sym (comes_before-slice_cmp a m b n))

irreflexive : (a : List ℕ) (m : ℕ) → comes_before a m a m ≡ false
irreflexive [] m = grind (arith, nat_tests)
irreflexive (x ∷ xs) m = grind (arith, nat_tests, irreflexive xs m)

total : (a b : List ℕ) (m n : ℕ) → m ≢ n → comes_before a m b n ≡ not (comes_before b n a m)
total [] [] m n differ = grind (arith, nat_tests)
total [] (y ∷ ys) m n differ = refl
total (x ∷ xs) [] m n differ = refl
total (x ∷ xs) (y ∷ ys) m n differ = grind (arith, nat_tests, total xs ys m n differ)

transitive : (a b c : List ℕ) (m n k : ℕ) → comes_before a m b n ≡ true → comes_before b n c k ≡ true → comes_before a m c k ≡ true
transitive [] [] [] m n k one two = grind (arith, nat_tests)
transitive [] [] (z ∷ zs) m n k one two = refl
transitive [] (y ∷ ys) [] m n k one two = cc
transitive [] (y ∷ ys) (z ∷ zs) m n k one two = refl
transitive (x ∷ xs) [] c m n k one two = cc
transitive (x ∷ xs) (y ∷ ys) [] m n k one two = cc
transitive (x ∷ xs) (y ∷ ys) (z ∷ zs) m n k one two = grind (arith, nat_tests, transitive xs ys zs m n k)

-- keys are an order
pub by_key : IsRanking comes_before
by_key = record { irreflexive = irreflexive; total = total; transitive = transitive }
