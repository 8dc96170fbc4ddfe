-- How heaps stand at their places.
use Rattle.std.proofs.Common.{◌≡◌, ◌≢◌, ℕ, ◌+◌, ◌<◌, ◌==◌, nat_lt, Bool, true, false, List, get_or, Option, Some, None, IsSome, cond, refl, ap, ◌∙◌, inl, inr, arith}
use Rattle.std.proofs.lemmas.Bool.{cases_Bool, cases_eq, cases_lt, eq-eqb, ne_eqb}
use Rattle.frontier.specs.declared.node.Node.{Node}
use Rattle.frontier.specs.Inner.Tree.{Tree, none, node, root, rank, reached, join, IsOrdered, ComesBefore}
use Rattle.frontier.specs.Inner.Nodes.{rank_at, with_right, Stands}
use Rattle.evaluations.specs.Ranking.{IsRanking}

-- a test of equality as a number
pub here : (place : ℕ) → ◌≡◌ {A = ℕ} (cond (place == place) 1 0) 1
here place = let e : (place == place) ≡ true = eq-eqb place place refl in rw e refl

pub elsewhere : (at place : ℕ) → at ≢ place → ◌≡◌ {A = ℕ} (cond (at == place) 1 0) 0
elsewhere at place differs = let e : (at == place) ≡ false = ne_eqb at place differs in rw e refl

module _ {K : Type 0} where
  -- the node of a heap's root
  abbrev pub root_node : K × ℕ → Tree K → Tree K → Node K
  root_node pair left right = record { key = pair.0; number = pair.1; rank = rank right + 1; left = root left; right = root right }

  -- a heap stands also where all its places are the same
  pub Stands-kept : (old new : List (Option (Node K))) (t : Tree K) → ((at : ℕ) → 0 < reached at t → get_or new at None ≡ get_or old at None) → Stands old t → Stands new t
  Stands-kept old new none same stands = tt
  Stands-kept old new (node place pair left right) same stands = (
    same place (omega (arith, here place)) ∙ stands.0,
    Stands-kept old new left (λ at there. same at (omega arith)) stands.1,
    Stands-kept old new right (λ at there. same at (omega arith)) stands.2,
  )

  pub rank_at-root : (slots : List (Option (Node K))) (t : Tree K) → Stands slots t → rank_at slots (root t) ≡ rank t
  rank_at-root slots none stands = refl
  rank_at-root slots (node place pair left right) stands = rw stands.0 refl

  pub root_stands : (slots : List (Option (Node K))) (t : Tree K) (place : ℕ) → Stands slots t → root t ≡ Some place → IsSome (get_or slots place None)
  root_stands slots none place stands is = absurd (cc)
  root_stands slots (node top pair left right) place stands is =
      let same : top ≡ place = cc in
      let found = stands.0 in
      rw (← same, found) refl

  -- a node with another heap hung at its right stands as the node over both
  pub Stands-hung : (slots new : List (Option (Node K))) (place : ℕ) (pair : K × ℕ) (left right heap : Tree K) → Stands slots left → Stands slots heap → get_or new place None ≡ Some (with_right slots (root_node pair left right) (root heap)) → Stands new left → Stands new heap → Stands new (join place pair left heap)
  Stands-hung slots new place pair left right heap left_stands heap_stands found new_left new_heap =
      let one = rank_at-root slots left left_stands in
      let other = rank_at-root slots heap heap_stands in
      elim (cases_Bool (nat_lt (rank left) (rank heap))) [
        | inl e ↦ rw e (rw (one, other, e) at found, new_heap, new_left)
        | inr e ↦ rw e (rw (one, other, e) at found, new_left, new_heap)
      ]

  -- what comes before the root of an ordered heap comes before each of its nodes
  pub before_each : (before : K → ℕ → K → ℕ → Bool) → IsRanking before → (slots : List (Option (Node K))) (t : Tree K) (top : K × ℕ) (at : ℕ) (found : Node K) → Stands slots t → IsOrdered before t → ComesBefore before top t → 0 < reached at t → get_or slots at None ≡ Some found → before top.0 top.1 found.key found.number ≡ true
  before_each before ranks slots none top at found stands ordered comes there is = absurd (omega arith)
  before_each before ranks slots (node place pair left right) top at found stands ordered comes there is =
      elim (cases_eq at place) [
        | inl same ↦
            let e : found ≡ root_node pair left right = cc (ap (λ p. get_or slots p None) same, stands.0) in
            rw e comes
        | inr differs ↦
            let none_here = elsewhere at place differs in
            elim (cases_lt 0 (reached at left)) [
              | inl in_left ↦ before_each before ranks slots left top at found stands.1 ordered.2 (through left ordered.0) in_left is
              | inr out ↦ before_each before ranks slots right top at found stands.2 ordered.3 (through right ordered.1) (omega arith) is
            ]
      ]
    where
      through : (t : Tree K) → ComesBefore before pair t → ComesBefore before top t
      through none _ = tt
      through (node _ other _ _) next = ranks.transitive top.0 pair.0 other.0 top.1 pair.1 other.1 comes next
