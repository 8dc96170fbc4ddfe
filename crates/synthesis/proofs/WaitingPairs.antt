-- The pairs of the nodes that wait, where one of them is taken out and its children are added.
use Rattle.std.proofs.Common.{◌≡◌, ◌⊎◌, ℕ, ◌<◌, length, zero, suc, List, [], ◌∷◌, ◌++◌, Some, true, false, Bool, refl, sym, ◌∙◌, ap, subst, inl, inr}
use Rattle.std.specs.Prelude.{All, Contains, IsPermutation, slice_get, slice_index_or}
use Rattle.std.proofs.lemmas.Option.{same_Some}
use Rattle.std.proofs.lemmas.Bool.{true≢false}
use Rattle.std.proofs.lemmas.List.Elements.{All-contains, Contains-get_or, Contains-append_left, Contains-append_right, Contains-append_cases}
use Rattle.std.proofs.lemmas.List.Sorted.{Contains-permutation, IsPermutation-sym}
use Rattle.program_model.proofs.Places.{contains_at, at_contains}
use Rattle.refutation_tree.proofs.Lists.{each_right, each_at}
use Rattle.evaluations.specs.Keys.{comes_before}
use Rattle.evaluations.specs.Inner.KeyOrder.{by_key}
use Rattle.synthesis.specs.Search.{Node, split, is_waiting}
use Rattle.synthesis.specs.Inner.Nodes.{pair_of, IsWaitingPair, AreWaitingPairs}
use Rattle.synthesis.specs.declared.nodes.Held.{Held}
use Rattle.synthesis.specs.Inner.Splitting.{AreNumbers, IsHeldWaiting}
use Rattle.synthesis.proofs.Numbered.{Distinct}

module _ {X : Type 0} where
  pub contains_first : (x : X) (xs : List X) → Contains (x ∷ xs) x
  contains_first x xs = contains_at (x ∷ xs) 0 x refl

  pub contains_later : (y : X) (xs : List X) (x : X) → Contains xs x → Contains (y ∷ xs) x
  contains_later y xs x h = let at = at_contains xs x h in contains_at (y ∷ xs) (suc at.0) x at.1

  pub contains_cases : (y : X) (xs : List X) (x : X) → Contains (y ∷ xs) x → (y ≡ x) ⊎ Contains xs x
  contains_cases y xs x h = let at = at_contains (y ∷ xs) x h in by_place at.0 at.1
    where
      by_place : (i : ℕ) → slice_get (y ∷ xs) i ≡ Some x → (y ≡ x) ⊎ Contains xs x
      by_place zero e = inl (same_Some y x e)
      by_place (suc i) e = inr (contains_at xs i x e)

  pub contains_none : (x : X) → Contains [] x → ⊥
  contains_none x h = let at = at_contains [] x h in no at.0 at.1
    where
      no : (i : ℕ) → slice_get [] i ≡ Some x → ⊥
      no zero e = cc
      no (suc i) e = cc

-- what holds of all that a list contains holds of each
pub All-from-contains : {X : Type 0} (P : X → Type 0) (xs : List X) → ((x : X) → Contains xs x → P x) → All P xs
All-from-contains P xs h k d l = h (slice_index_or xs k d) (Contains-get_or xs k d l)

-- no pair comes before itself
pub not_before_itself : (pair : List ℕ × ℕ) → comes_before pair.0 pair.1 pair.0 pair.1 ≡ true → ⊥
not_before_itself pair e = true≢false (sym e ∙ by_key.irreflexive pair.0 pair.1)

-- where one pair comes before another, the other does not come before it
pub not_after : (b : Bool) (one other : List ℕ × ℕ) → comes_before one.0 one.1 other.0 other.1 ≡ true → comes_before other.0 other.1 one.0 one.1 ≡ b → b ≡ false
not_after false one other e is = refl
not_after true one other e is = absurd (not_before_itself one (by_key.transitive one.0 other.0 one.0 one.1 other.1 one.1 e is))

module _ (before : List Node) (node : Node) (rest : List Node) where
  apart_before : Distinct (before ++ node ∷ rest) → (x : Node) → Contains before x → x.number ≡ node.number → ⊥
  apart_before distinct x h = let at = at_contains before x h in go before distinct at.0 at.1
    where
      go : (xs : List Node) → Distinct (xs ++ node ∷ rest) → (i : ℕ) → slice_get xs i ≡ Some x → x.number ≡ node.number → ⊥
      go [] d zero e is = cc
      go [] d (suc i) e is = cc
      go (y ∷ ys) d zero e is =
          let first : y ≡ x = same_Some y x e in
          (each_right _ ys (node ∷ rest) d.0).0 (sym is ∙ ap (λ (z : Node). z.number) (sym first))
      go (y ∷ ys) d (suc i) e is = go ys d.1 i e is

  apart_after : Distinct (before ++ node ∷ rest) → (x : Node) → Contains rest x → x.number ≡ node.number → ⊥
  apart_after distinct x h = let at = at_contains rest x h in each_at _ rest at.0 x at.1 (behind before distinct).0
    where
      behind : (xs : List Node) → Distinct (xs ++ node ∷ rest) → Distinct (node ∷ rest)
      behind [] d = d
      behind (y ∷ ys) d = behind ys d.1

  module _ (line stamp : ℕ) (made : List Node) (pairs left now : List (List ℕ × ℕ)) (distinct : Distinct (before ++ node ∷ rest)) (taken : IsPermutation (pair_of node ∷ left) pairs) (least : All (λ (other : List ℕ × ℕ). comes_before node.key node.number other.0 other.1 ≡ true) left) (waiting : AreWaitingPairs (before ++ node ∷ rest) pairs) where
    abbrev put : Node
    put = record node { state = split line stamp }

    abbrev after : List Node
    after = before ++ (put ∷ made) ++ rest

    here_before : (x : Node) → Contains before x → Contains after x
    here_before x h = Contains-append_left (before ++ put ∷ made) rest x (Contains-append_left before (put ∷ made) x h)

    here_made : (x : Node) → Contains made x → Contains after x
    here_made x h = Contains-append_left (before ++ put ∷ made) rest x (Contains-append_right before (put ∷ made) x (contains_later put made x h))

    here_rest : (x : Node) → Contains rest x → Contains after x
    here_rest x h = Contains-append_right (before ++ put ∷ made) rest x h

    -- a pair that was left is that of a node that still waits
    left_waits : (pair : List ℕ × ℕ) → Contains left pair → IsWaitingPair after pair
    left_waits pair h =
        let was = waiting.told pair (Contains-permutation (pair_of node ∷ left) pairs pair taken (contains_later (pair_of node) left pair h)) in
        record { node = was.node; here = still was.node was.is (Contains-append_cases before (node ∷ rest) was.node was.here); waits = was.waits; is = was.is }
      where
        not_taken : (x : Node) → pair ≡ pair_of x → node ≡ x → ⊥
        not_taken x is same =
            let first = All-contains (λ (other : List ℕ × ℕ). comes_before node.key node.number other.0 other.1 ≡ true) left pair least h in
            not_before_itself (pair_of node) (subst (λ (p : List ℕ × ℕ). comes_before node.key node.number p.0 p.1 ≡ true) (is ∙ ap pair_of (sym same)) first)

        still : (x : Node) → pair ≡ pair_of x → Contains before x ⊎ Contains (node ∷ rest) x → Contains after x
        still x is (inl k) = here_before x k
        still x is (inr k) = elim (contains_cases node rest x k) [
          | inl same ↦ absurd (not_taken x is same)
          | inr later ↦ here_rest x later
        ]

    -- the pair of a node that waits still, and has another number, was left
    waits_left : (x : Node) → Contains (before ++ node ∷ rest) x → (x.number ≡ node.number → ⊥) → is_waiting x ≡ true → Contains left (pair_of x)
    waits_left x h differs waits =
        let was = Contains-permutation pairs (pair_of node ∷ left) (pair_of x) (IsPermutation-sym (pair_of node ∷ left) pairs taken) (waiting.each x h waits) in
        elim (contains_cases (pair_of node) left (pair_of x) was) [
          | inl same ↦ absurd (differs (ap (λ (p : List ℕ × ℕ). p.1) (sym same)))
          | inr k ↦ k
        ]

    pub waiting_after : ((pair : List ℕ × ℕ) → Contains now pair → Contains left pair ⊎ IsWaitingPair made pair) → ((pair : List ℕ × ℕ) → Contains left pair → Contains now pair) → ((x : Node) → Contains made x → is_waiting x ≡ true → Contains now (pair_of x)) → AreWaitingPairs after now
    waiting_after told kept waits = record {
      told = λ pair h. by_source pair (told pair h);
      each = λ x h w. by_part x w (Contains-append_cases (before ++ put ∷ made) rest x h);
    }
      where
        by_source : (pair : List ℕ × ℕ) → Contains left pair ⊎ IsWaitingPair made pair → IsWaitingPair after pair
        by_source pair (inl h) = left_waits pair h
        by_source pair (inr h) = record { node = h.node; here = here_made h.node h.here; waits = h.waits; is = h.is }

        by_child : (x : Node) → is_waiting x ≡ true → (put ≡ x) ⊎ Contains made x → Contains now (pair_of x)
        by_child x w (inl same) = absurd (true≢false (sym w ∙ ap is_waiting (sym same)))
        by_child x w (inr h) = waits x h w

        by_front : (x : Node) → is_waiting x ≡ true → Contains before x ⊎ Contains (put ∷ made) x → Contains now (pair_of x)
        by_front x w (inl h) = kept (pair_of x) (waits_left x (Contains-append_left before (node ∷ rest) x h) (apart_before distinct x h) w)
        by_front x w (inr h) = by_child x w (contains_cases put made x h)

        by_part : (x : Node) → is_waiting x ≡ true → Contains (before ++ put ∷ made) x ⊎ Contains rest x → Contains now (pair_of x)
        by_part x w (inl h) = by_front x w (Contains-append_cases before (put ∷ made) x h)
        by_part x w (inr h) = kept (pair_of x) (waits_left x (Contains-append_right before (node ∷ rest) x (contains_later node rest x h)) (apart_after distinct x h) w)

    -- no node that waits comes before the one that is taken
    pub none_before : (x : Node) → Contains (before ++ node ∷ rest) x → is_waiting x ≡ true → comes_before x.key x.number node.key node.number ≡ false
    none_before x h waits =
        let was = Contains-permutation pairs (pair_of node ∷ left) (pair_of x) (IsPermutation-sym (pair_of node ∷ left) pairs taken) (waiting.each x h waits) in
        elim (contains_cases (pair_of node) left (pair_of x) was) [
          | inl same ↦ subst (λ (p : List ℕ × ℕ). comes_before p.0 p.1 node.key node.number ≡ false) same (by_key.irreflexive node.key node.number)
          | inr k ↦ not_after (comes_before x.key x.number node.key node.number) (pair_of node) (pair_of x) (All-contains (λ (other : List ℕ × ℕ). comes_before node.key node.number other.0 other.1 ≡ true) left (pair_of x) least k) refl
        ]

-- the node of the pair that is taken is held as one that waits
pub taken_waits : (holds : List Held) (pairs left : List (List ℕ × ℕ)) (pair : List ℕ × ℕ) → IsPermutation (pair ∷ left) pairs → All (λ (other : List ℕ × ℕ). IsHeldWaiting holds other.1) pairs → IsHeldWaiting holds pair.1
taken_waits holds pairs left pair taken waiting = All-contains (λ (other : List ℕ × ℕ). IsHeldWaiting holds other.1) pairs pair waiting (Contains-permutation (pair ∷ left) pairs pair taken (contains_first pair left))

-- numbers that are left, when one pair is taken and what is held of a node is changed
pub numbers_left : (holds after : List Held) (pairs left : List (List ℕ × ℕ)) (pair : List ℕ × ℕ) → IsPermutation (pair ∷ left) pairs → length after ≡ length holds → AreNumbers holds pairs → AreNumbers after left
numbers_left holds after pairs left pair taken same numbers = by_length (length holds) (length after) same numbers
  where
    by_length : (n m : ℕ) → m ≡ n → All (λ (other : List ℕ × ℕ). other.1 < n) pairs → All (λ (other : List ℕ × ℕ). other.1 < m) left
    by_length n m e h = subst (λ k. All (λ (other : List ℕ × ℕ). other.1 < k) left) (sym e)
        (All-from-contains (λ (other : List ℕ × ℕ). other.1 < n) left (λ other k. All-contains (λ (x : List ℕ × ℕ). x.1 < n) pairs other h (Contains-permutation (pair ∷ left) pairs other taken (contains_later pair left other k))))
