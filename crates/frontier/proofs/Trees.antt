-- What merging keeps of leftist heaps.
use Rattle.std.proofs.Common.{◌≡◌, ℕ, ◌+◌, ◌-◌, ◌^◌, ◌<◌, ◌≤◌, ◌==◌, nat_lt, Bool, inl, inr, refl, arith, cond, Some}
use Rattle.std.proofs.lemmas.Bool.{cases_Bool, ltb-true, ltb-false, cases_lt}
use Rattle.std.proofs.lemmas.Nat.{pow_below}
use Rattle.std.proofs.lemmas.Grind.{pow_more}
use Rattle.frontier.specs.Inner.Tree.{Tree, none, node, root, rank, size, reached, IsLeftist, join, ComesBefore, IsOrdered, Merged, at_right, at_left, under_first, under_second}

module _ {K : Type 0} where
  -- a node over two heaps has them one way or the other
  pub join-cases : (P : Tree K → Type 0) (place : ℕ) (pair : K × ℕ) (left right : Tree K) → (rank left < rank right → P (node place pair right left)) → (rank right ≤ rank left → P (node place pair left right)) → P (join place pair left right)
  join-cases P place pair left right turned straight =
      elim (cases_Bool (nat_lt (rank left) (rank right))) [
        | inl e ↦ rw e (turned (ltb-true _ _ e))
        | inr e ↦ rw e (straight (ltb-false _ _ e))
      ]

  pub root-join : (place : ℕ) (pair : K × ℕ) (left right : Tree K) → root (join place pair left right) ≡ Some place
  root-join place pair left right = join-cases (λ t. root t ≡ Some place) place pair left right (λ _. refl) (λ _. refl)

  pub size-join : (place : ℕ) (pair : K × ℕ) (left right : Tree K) → size (join place pair left right) ≡ size left + size right + 1
  size-join place pair left right = join-cases (λ t. size t ≡ size left + size right + 1) place pair left right (λ _. omega arith) (λ _. refl)

  pub reached-join : (at place : ℕ) (pair : K × ℕ) (left right : Tree K) → reached at (join place pair left right) ≡ cond (at == place) 1 0 + reached at left + reached at right
  reached-join at place pair left right =
      join-cases (λ t. reached at t ≡ cond (at == place) 1 0 + reached at left + reached at right) place pair left right (λ _. omega arith) (λ _. refl)

  leftist-join : (place : ℕ) (pair : K × ℕ) (left right : Tree K) → IsLeftist left → IsLeftist right → IsLeftist (join place pair left right)
  leftist-join place pair left right one other =
      join-cases IsLeftist place pair left right (λ less. (omega arith, other, one)) (λ least. (least, one, other))

  -- a leftist heap of a rank has at least so many nodes
  pub pow-rank : (t : Tree K) → IsLeftist t → 2 ^ rank t ≤ size t + 1
  pow-rank none leftist = omega arith
  pow-rank (node place pair left right) leftist =
      let one = pow-rank left leftist.1 in
      let other = pow-rank right leftist.2 in
      let more = pow_more 2 (rank right) in
      let less : 2 ^ rank right ≤ 2 ^ rank left = elim (cases_lt (rank right) (rank left)) [
        | inl below ↦ let p = pow_below (rank right) (rank left) below in omega arith
        | inr above ↦ let same : rank left ≡ rank right = omega arith in rw same (omega arith)
      ] in
      omega arith

  -- the rank of a leftist heap is at most the number of binary digits of its size
  pub rank_below : (t : Tree K) (digits : ℕ) → IsLeftist t → size t < 2 ^ digits → rank t ≤ digits
  rank_below t digits leftist small =
      elim (cases_lt digits (rank t)) [
        | inl above ↦ let p = pow_below digits (rank t) above in let q = pow-rank t leftist in absurd (omega arith)
        | inr below ↦ below
      ]

module _ {K : Type 0} (before : K → ℕ → K → ℕ → Bool) where
  pub Merged-reached : (at : ℕ) {first second merged : Tree K} {passed : ℕ} → Merged before first second merged passed → reached at merged ≡ reached at first + reached at second
  Merged-reached at (at_right second) = omega arith
  Merged-reached at (at_left first) = omega arith
  Merged-reached at (under_first place pair left right second merged passed some comes rest) = omega (arith, reached-join at place pair left merged, Merged-reached at rest)
  Merged-reached at (under_second place pair left right first merged passed some comes rest) = omega (arith, reached-join at place pair left merged, Merged-reached at rest)

  pub Merged-size : {first second merged : Tree K} {passed : ℕ} → Merged before first second merged passed → size merged ≡ size first + size second
  Merged-size (at_right second) = omega arith
  Merged-size (at_left first) = omega arith
  Merged-size (under_first place pair left right second merged passed some comes rest) = omega (arith, size-join place pair left merged, Merged-size rest)
  Merged-size (under_second place pair left right first merged passed some comes rest) = omega (arith, size-join place pair left merged, Merged-size rest)

  -- each comparison goes down one of the two spines, and the last node of one is not compared
  pub Merged-passed : {first second merged : Tree K} {passed : ℕ} → Merged before first second merged passed → passed ≤ rank first + rank second - 1
  Merged-passed (at_right second) = omega arith
  Merged-passed (at_left first) = omega arith
  Merged-passed (under_first place pair left right second merged passed some comes rest) = omega (arith, Merged-passed rest)
  Merged-passed (under_second place pair left right first merged passed some comes rest) = omega (arith, Merged-passed rest)

  pub Merged-leftist : {first second merged : Tree K} {passed : ℕ} → Merged before first second merged passed → IsLeftist first → IsLeftist second → IsLeftist merged
  Merged-leftist (at_right second) one other = other
  Merged-leftist (at_left first) one other = one
  Merged-leftist (under_first place pair left right second merged passed some comes rest) one other = leftist-join place pair left merged one.1 (Merged-leftist rest one.2 other)
  Merged-leftist (under_second place pair left right first merged passed some comes rest) one other = leftist-join place pair left merged other.1 (Merged-leftist rest other.2 one)

  -- what comes before two heaps comes before what they are merged to
  Merged-comes : (top : K × ℕ) {first second merged : Tree K} {passed : ℕ} → Merged before first second merged passed → ComesBefore before top first → ComesBefore before top second → ComesBefore before top merged
  Merged-comes top (at_right second) one other = other
  Merged-comes top (at_left first) one other = one
  Merged-comes top (under_first place pair left right second merged passed some comes rest) one other = join-cases (ComesBefore before top) place pair left merged (λ _. one) (λ _. one)
  Merged-comes top (under_second place pair left right first merged passed some comes rest) one other = join-cases (ComesBefore before top) place pair left merged (λ _. other) (λ _. other)

  ordered-join : (place : ℕ) (pair : K × ℕ) (left right : Tree K) → ComesBefore before pair left → ComesBefore before pair right → IsOrdered before left → IsOrdered before right → IsOrdered before (join place pair left right)
  ordered-join place pair left right to_left to_right one other =
      join-cases (IsOrdered before) place pair left right (λ _. (to_right, to_left, other, one)) (λ _. (to_left, to_right, one, other))

  pub Merged-ordered : {first second merged : Tree K} {passed : ℕ} → Merged before first second merged passed → IsOrdered before first → IsOrdered before second → IsOrdered before merged
  Merged-ordered (at_right second) one other = other
  Merged-ordered (at_left first) one other = one
  Merged-ordered (under_first place pair left right second merged passed some comes rest) one other =
      ordered-join place pair left merged one.0 (Merged-comes pair rest one.1 comes) one.2 (Merged-ordered rest one.3 other)
  Merged-ordered (under_second place pair left right first merged passed some comes rest) one other =
      ordered-join place pair left merged other.0 (Merged-comes pair rest other.1 comes) other.2 (Merged-ordered rest other.3 one)

  pub Merged-swap : {first second merged : Tree K} {passed : ℕ} → Merged before first second merged passed → Merged before second first merged passed
  Merged-swap (at_right second) = at_left second
  Merged-swap (at_left first) = at_right first
  Merged-swap (under_first place pair left right second merged passed some comes rest) = under_second place pair left right second merged passed some comes rest
  Merged-swap (under_second place pair left right first merged passed some comes rest) = under_first place pair left right first merged passed some comes rest
