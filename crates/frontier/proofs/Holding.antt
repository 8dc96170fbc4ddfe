-- A slab that is a leftist heap, before and after a merge.
use Rattle.std.proofs.Common.{◌≡◌, ◌≢◌, ℕ, ◌+◌, ◌-◌, ◌*◌, ◌<◌, ◌≤◌, ◌^◌, ◌==◌, Bool, true, false, List, [], ◌∷◌, length, get_or, Option, Some, None, is_some, IsTrue, ◌↔◌, count_by, cond, refl, sym, ap, subst, ◌∙◌, inl, inr, arith, All, IsPermutation}
use Rattle.std.specs.Option.{option_map}
use Rattle.slab.specs.Slab.{Slab, get, slab_len, Updates}
use Rattle.std.proofs.lemmas.Bool.{cases_eq, cases_lt, eqb-true, eq-eqb}
use Rattle.evaluations.specs.Ranking.{IsRanking}
use Rattle.frontier.specs.Pairs.{RoseWithin}
use Rattle.frontier.specs.declared.node.Node.{Node}
use Rattle.frontier.specs.Inner.Tree.{Tree, none, node, root, rank, size, reached, IsOrdered}
use Rattle.frontier.specs.Inner.Nodes.{Stands, pair_of, pair_slots, pairs_of, NumbersDiffer, Apart, Merges, IsHeapOf, IsHeap}
use Rattle.frontier.proofs.Trees.{Merged-reached, Merged-size, Merged-passed, Merged-leftist, Merged-ordered, rank_below}
use Rattle.frontier.proofs.Slots.{somes-added, All-somes, somes-All, length-somes, mapped_at, count-mapped}
use Rattle.frontier.proofs.Places.{here, elsewhere, root_node, Stands-kept, before_each}

module _ {K : Type 0} where
  pub length-pairs_of : (slots : List (Option (Node K))) → length (pairs_of slots) ≡ count_by is_some slots
  length-pairs_of slots = length-somes (pair_slots slots) ∙ count-mapped pair_of slots

  -- as many nodes stand where the pairs are the same
  pub same_count : (old new : List (Option (Node K))) → pair_slots new ≡ pair_slots old → count_by is_some new ≡ count_by is_some old
  same_count old new kept = sym (count-mapped pair_of new) ∙ ap (count_by is_some) kept ∙ count-mapped pair_of old

  -- whether there is a node at a place is told by the pairs
  is_some-pairs : (slots : List (Option (Node K))) (at : ℕ) → is_some (get_or (pair_slots slots) at None) ≡ is_some (get_or slots at None)
  is_some-pairs slots at = ap is_some (mapped_at pair_of slots at) ∙ mapped (get_or slots at None)
    where
      mapped : (o : Option (Node K)) → is_some (option_map pair_of o) ≡ is_some o
      mapped None = refl
      mapped (Some n) = refl

  pair_found : (slots : List (Option (Node K))) (at : ℕ) (x : K × ℕ) → get_or (pair_slots slots) at None ≡ Some x → (n : Node K) × (get_or slots at None ≡ Some n) × (pair_of n ≡ x)
  pair_found slots at x found = by_slot (get_or slots at None) refl
    where
      by_slot : (slot : Option (Node K)) → get_or slots at None ≡ slot → (n : Node K) × (get_or slots at None ≡ Some n) × (pair_of n ≡ x)
      by_slot None is = let e : None ≡ Some x = sym (mapped_at pair_of slots at ∙ ap (option_map pair_of) is) ∙ found in absurd (cc)
      by_slot (Some n) is = let e : Some (pair_of n) ≡ Some x = sym (mapped_at pair_of slots at ∙ ap (option_map pair_of) is) ∙ found in (n, is, cc)

  -- the pairs at another place than the one that changed
  pair_kept : (old new : Slab (Node K)) (place : ℕ) (slot : Option (Node K)) (at : ℕ) → Updates old new place slot → at ≢ place → get_or (pair_slots new.slots) at None ≡ get_or (pair_slots old.slots) at None
  pair_kept old new place slot at u differs = mapped_at pair_of new.slots at ∙ ap (option_map pair_of) (u.others at differs) ∙ sym (mapped_at pair_of old.slots at)

  empty-pairs_of : (slots : List (Option (Node K))) → count_by is_some slots ≡ 0 → pairs_of slots ≡ []
  empty-pairs_of slots none_there = no_length (pairs_of slots) (length-pairs_of slots ∙ none_there)
    where
      no_length : {A : Type 0} (xs : List A) → length xs ≡ 0 → xs ≡ []
      no_length [] is = refl
      no_length (x ∷ xs) is = absurd (omega (arith, is))

  pub is_empty-pairs_of : (slots : List (Option (Node K))) → (IsTrue (count_by is_some slots == 0)) ↔ (pairs_of slots ≡ [])
  is_empty-pairs_of slots = (
    λ yes. empty-pairs_of slots (eqb-true (count_by is_some slots) 0 yes),
    λ is. eq-eqb (count_by is_some slots) 0 (sym (length-pairs_of slots) ∙ ap length is),
  )

at_most_one : (b : Bool) → cond b 1 0 ≤ 1
at_most_one true = omega arith
at_most_one false = omega arith

module _ {K : Type 0} (before : K → ℕ → K → ℕ → Bool) where
  -- two heaps that hold all nodes of a slab, merged, are the heap of the slab
  pub heap_merged : (slots : List (Option (Node K))) (new : Slab (Node K)) (one other result : Option ℕ) (first second : Tree K) (told now : ℕ) → Apart before slots one other first second → IsOrdered before first → IsOrdered before second → size first + size second ≡ count_by is_some slots → ((at : ℕ) → reached at first + reached at second ≡ cond (is_some (get_or slots at None)) 1 0) → Merges before slots new.slots first second result told now → pair_slots new.slots ≡ pair_slots slots → IsHeap before new result
  heap_merged slots new one other result first second told now a one_ordered other_ordered all once m kept =
      let count = Merged-size before m.merged ∙ all ∙ sym (count-mapped pair_of slots) ∙ ap (count_by is_some) (sym kept) ∙ count-mapped pair_of new.slots in
      record {
        tree = m.tree;
        is = record {
          root_is = m.root_is;
          stands = m.stands;
          is_leftist = Merged-leftist before m.merged a.first_leftist a.second_leftist;
          is_ordered = Merged-ordered before m.merged one_ordered other_ordered;
          counted = count;
          small = omega (arith, count, Merged-size before m.merged, a.small);
          once = λ at. Merged-reached before at m.merged ∙ once at ∙ ap (λ b. cond b 1 0) (sym (is_some-pairs slots at) ∙ ap (λ slots. is_some (get_or slots at None)) (sym kept) ∙ is_some-pairs new.slots at);
          differ = rw kept a.differ;
        };
      }

  -- a merge makes few comparisons
  pub merges_few : (old new : List (Option (Node K))) (first second : Tree K) (result : Option ℕ) (told now number : ℕ) → Merges before old new first second result told now → ((digits : ℕ) → number < 2 ^ digits → rank first + rank second - 1 ≤ 2 * digits) → RoseWithin number told now
  merges_few old new first second result told now number m few = (
    omega (arith, m.rose),
    λ digits below. omega (arith, m.rose, Merged-passed before m.merged, few digits below),
  )

  pub heap_empty : (nodes : Slab (Node K)) → nodes.slots ≡ [] → IsHeap before nodes None
  heap_empty nodes empty =
      record {
        tree = none;
        is = record {
          root_is = refl;
          stands = tt;
          is_leftist = tt;
          is_ordered = tt;
          once = λ at. rw empty refl;
          counted = rw empty refl;
          small = rw empty (omega arith);
          differ = λ i j x y one other same. let e : None ≡ Some x = sym (ap (λ (slots : List (Option (Node K))). get_or (pair_slots slots) i None) empty) ∙ one in absurd (cc);
        };
      }

  -- a node that was put into the slab stands apart from its heap
  module _ (nodes new : Slab (Node K)) (top : Option ℕ) (place : ℕ) (pair : K × ℕ) (h : IsHeap before nodes top) (vacant : get nodes place ≡ None) (u : Updates nodes new place (Some (root_node pair none none))) (more : slab_len new ≡ slab_len nodes + 1) where
    abbrev pub single : Tree K
    single = node place pair none none

    once_pushed : (at : ℕ) → reached at h.tree + reached at single ≡ cond (is_some (get new at)) 1 0
    once_pushed at =
        elim (cases_eq at place) [
          | inl same ↦
              let was : reached place h.tree ≡ 0 = h.is.once place ∙ ap (λ (slot : Option (Node K)). cond (is_some slot) 1 0) vacant in
              rw (same, u.changed) (omega (arith, was, here place))
          | inr differs ↦ rw (u.others at differs) (omega (arith, h.is.once at, elsewhere at place differs))
        ]

    differ_pushed : All (λ (p : K × ℕ). p.1 ≢ pair.1) (pairs_of nodes.slots) → NumbersDiffer new.slots
    differ_pushed fresh i j x y at_i at_j same =
        let there : get_or (pair_slots new.slots) place None ≡ Some pair = mapped_at pair_of new.slots place ∙ ap (option_map pair_of) u.changed in
        let old = λ (k : ℕ) (z : K × ℕ) (differs : k ≢ place) (at_k : get_or (pair_slots new.slots) k None ≡ Some z). sym (pair_kept nodes new place _ k u differs) ∙ at_k in
        let is_new = λ (k : ℕ) (z : K × ℕ) (is : k ≡ place) (at_k : get_or (pair_slots new.slots) k None ≡ Some z). let e : Some z ≡ Some pair = sym at_k ∙ ap (λ (k : ℕ). get_or (pair_slots new.slots) k None) is ∙ there in let f : z ≡ pair = cc in f in
        elim (cases_eq i place) [
          | inl i_is ↦ elim (cases_eq j place) [
            | inl j_is ↦ i_is ∙ sym j_is
            | inr j_differs ↦ absurd (somes-All (λ p. p.1 ≢ pair.1) (pair_slots nodes.slots) fresh j y (old j y j_differs at_j) (sym same ∙ ap (λ (p : K × ℕ). p.1) (is_new i x i_is at_i)))
          ]
          | inr i_differs ↦ elim (cases_eq j place) [
            | inl j_is ↦ absurd (somes-All (λ p. p.1 ≢ pair.1) (pair_slots nodes.slots) fresh i x (old i x i_differs at_i) (same ∙ ap (λ (p : K × ℕ). p.1) (is_new j y j_is at_j)))
            | inr j_differs ↦ h.is.differ i j x y (old i x i_differs at_i) (old j y j_differs at_j) same
          ]
        ]

    pub apart_pushed : slab_len new < 2 ^ 64 → All (λ (p : K × ℕ). p.1 ≢ pair.1) (pairs_of nodes.slots) → Apart before new.slots top (Some place) h.tree single
    apart_pushed small fresh =
        record {
          one_is = h.is.root_is;
          other_is = refl;
          first_stands = Stands-kept nodes.slots new.slots h.tree (λ at there. u.others at (λ same. let was : reached place h.tree ≡ 0 = h.is.once place ∙ ap (λ (slot : Option (Node K)). cond (is_some slot) 1 0) vacant in omega (arith, was, ap (λ (p : ℕ). reached p h.tree) same))) h.is.stands;
          second_stands = (u.changed, tt, tt);
          first_leftist = h.is.is_leftist;
          second_leftist = (omega arith, tt, tt);
          once = λ at. omega (arith, once_pushed at, at_most_one (is_some (get new at)));
          small = omega (arith, h.is.counted);
          differ = differ_pushed fresh;
        }

    pub heap_pushed : (last : Slab (Node K)) (result : Option ℕ) (told now : ℕ) → Apart before new.slots top (Some place) h.tree single → Merges before new.slots last.slots h.tree single result told now → pair_slots last.slots ≡ pair_slots new.slots → IsHeap before last result
    heap_pushed last result told now a m kept =
        heap_merged new.slots last top (Some place) result h.tree single told now a h.is.is_ordered (tt, tt, tt, tt) (omega (arith, h.is.counted, more)) once_pushed m kept

    pub pairs_pushed : (last : Slab (Node K)) → pair_slots last.slots ≡ pair_slots new.slots → IsPermutation (pair ∷ pairs_of nodes.slots) (pairs_of last.slots)
    pairs_pushed last kept =
        rw kept (somes-added place (pair_slots nodes.slots) (pair_slots new.slots) pair (mapped_at pair_of nodes.slots place ∙ ap (option_map pair_of) vacant) (mapped_at pair_of new.slots place ∙ ap (option_map pair_of) u.changed) (λ at differs. pair_kept nodes new place _ at u differs))

    pub few_pushed : (last : List (Option (Node K))) (result : Option ℕ) (told now : ℕ) → Merges before new.slots last h.tree single result told now → RoseWithin (length (pairs_of nodes.slots)) told now
    few_pushed last result told now m =
        merges_few new.slots last h.tree single result told now (length (pairs_of nodes.slots)) m
        (λ digits below. let size_is = h.is.counted ∙ sym (length-pairs_of nodes.slots) in omega (arith, rank_below h.tree digits h.is.is_leftist (omega (arith, size_is))))

  -- a heap with a root is its node over two heaps
  pub opened : (nodes : Slab (Node K)) (place : ℕ) (tree : Tree K) → IsHeapOf before nodes (Some place) tree → (pair : K × ℕ) × (left : Tree K) × (right : Tree K) × IsHeapOf before nodes (Some place) (node place pair left right)
  opened nodes place none h = let e : None ≡ Some place = h.root_is in absurd (cc)
  opened nodes place (node top pair left right) h =
      let e : Some top ≡ Some place = h.root_is in
      let same : top ≡ place = cc in
      (pair, left, right, subst (λ (p : ℕ). IsHeapOf before nodes (Some place) (node p pair left right)) same h)

  -- the two heaps below a root that was taken out
  module _ (ranks : IsRanking before) (nodes new : Slab (Node K)) (place : ℕ) (pair : K × ℕ) (left right : Tree K) (h : IsHeapOf before nodes (Some place) (node place pair left right)) (u : Updates nodes new place None) (less : slab_len new + 1 ≡ slab_len nodes) where
    away : (t : Tree K) → reached place t ≡ 0 → Stands nodes.slots t → Stands new.slots t
    away t none_there stands = Stands-kept nodes.slots new.slots t (λ at there. u.others at (λ same. omega (arith, none_there, ap (λ (p : ℕ). reached p t) same))) stands

    only_top : (reached place left ≡ 0) × (reached place right ≡ 0)
    only_top = (
      omega (arith, h.once place, here place, at_most_one (is_some (get nodes place))),
      omega (arith, h.once place, here place, at_most_one (is_some (get nodes place))),
    )

    once_popped : (at : ℕ) → reached at left + reached at right ≡ cond (is_some (get new at)) 1 0
    once_popped at =
        elim (cases_eq at place) [
          | inl same ↦ rw (same, u.changed) (omega (arith, only_top))
          | inr differs ↦ rw (u.others at differs) (omega (arith, h.once at, elsewhere at place differs))
        ]

    gone : get_or (pair_slots new.slots) place None ≡ None
    gone = mapped_at pair_of new.slots place ∙ ap (option_map pair_of) u.changed

    pub node_taken : (n : Node K) → get nodes place ≡ Some n → n ≡ root_node pair left right
    node_taken n found = let there = h.stands.0 in cc (found, there)

    pub apart_popped : (one other : Option ℕ) → one ≡ root left → other ≡ root right → Apart before new.slots one other left right
    apart_popped one other one_is other_is =
        record {
          one_is = sym one_is;
          other_is = sym other_is;
          first_stands = away left only_top.0 h.stands.1;
          second_stands = away right only_top.1 h.stands.2;
          first_leftist = h.is_leftist.1;
          second_leftist = h.is_leftist.2;
          once = λ at. omega (arith, once_popped at, at_most_one (is_some (get new at)));
          small = omega (arith, h.counted, h.small);
          differ = λ i j x y at_i at_j same. h.differ i j x y (kept i x at_i) (kept j y at_j) same;
        }
      where
        kept : (i : ℕ) (x : K × ℕ) → get_or (pair_slots new.slots) i None ≡ Some x → get_or (pair_slots nodes.slots) i None ≡ Some x
        kept i x at_i =
            elim (cases_eq i place) [
              | inl same ↦ let e : None ≡ Some x = sym gone ∙ ap (λ (k : ℕ). get_or (pair_slots new.slots) k None) (sym same) ∙ at_i in absurd (cc)
              | inr differs ↦ sym (pair_kept nodes new place _ i u differs) ∙ at_i
            ]

    pub heap_popped : (last : Slab (Node K)) (one other result : Option ℕ) (told now : ℕ) → Apart before new.slots one other left right → Merges before new.slots last.slots left right result told now → pair_slots last.slots ≡ pair_slots new.slots → IsHeap before last result
    heap_popped last one other result told now a m kept =
        heap_merged new.slots last one other result left right told now a h.is_ordered.2 h.is_ordered.3 (omega (arith, h.counted, less)) once_popped m kept

    pub pairs_popped : (last : Slab (Node K)) → pair_slots last.slots ≡ pair_slots new.slots → IsPermutation (pair ∷ pairs_of last.slots) (pairs_of nodes.slots)
    pairs_popped last kept =
        rw kept (somes-added place (pair_slots new.slots) (pair_slots nodes.slots) pair gone (mapped_at pair_of nodes.slots place ∙ ap (option_map pair_of) h.stands.0) (λ at differs. sym (pair_kept nodes new place _ at u differs)))

    pub least_popped : (last : Slab (Node K)) → pair_slots last.slots ≡ pair_slots new.slots → All (λ (other : K × ℕ). before pair.0 pair.1 other.0 other.1 ≡ true) (pairs_of last.slots)
    least_popped last kept =
        rw kept (All-somes (λ (other : K × ℕ). before pair.0 pair.1 other.0 other.1 ≡ true) (pair_slots new.slots) each)
      where
        each : (at : ℕ) (x : K × ℕ) → get_or (pair_slots new.slots) at None ≡ Some x → before pair.0 pair.1 x.0 x.1 ≡ true
        each at x found =
            let n = pair_found new.slots at x found in
            let there : reached at left + reached at right ≡ 1 = once_popped at ∙ ap (λ (slot : Option (Node K)). cond (is_some slot) 1 0) n.1 in
            let comes : before pair.0 pair.1 n.0.key n.0.number ≡ true =
            elim (cases_lt 0 (reached at left)) [
              | inl in_left ↦ before_each before ranks new.slots left pair at n.0 (away left only_top.0 h.stands.1) h.is_ordered.2 h.is_ordered.0 in_left n.1
              | inr out ↦ before_each before ranks new.slots right pair at n.0 (away right only_top.1 h.stands.2) h.is_ordered.3 h.is_ordered.1 (omega arith) n.1
            ] in
            subst (λ (p : K × ℕ). before pair.0 pair.1 p.0 p.1 ≡ true) n.2 comes

    pub few_popped : (last : List (Option (Node K))) (result : Option ℕ) (told now : ℕ) → Merges before new.slots last left right result told now → RoseWithin (length (pairs_of nodes.slots)) told now
    few_popped last result told now m =
        merges_few new.slots last left right result told now (length (pairs_of nodes.slots)) m
        (λ digits below.
        let size_is = h.counted ∙ sym (length-pairs_of nodes.slots) in
        omega (arith, rank_below left digits h.is_leftist.1 (omega (arith, size_is)), rank_below right digits h.is_leftist.2 (omega (arith, size_is))))

    pub some_popped : pairs_of nodes.slots ≡ [] → ⊥
    some_popped is = omega (arith, h.counted, length-pairs_of nodes.slots, ap length is)

  -- a slab without a root has no pairs
  pub none_held : (nodes : Slab (Node K)) (top : Option ℕ) → top ≡ None → IsHeap before nodes top → pairs_of nodes.slots ≡ []
  none_held nodes top is h = by_tree h.tree h.is
    where
      by_tree : (tree : Tree K) → IsHeapOf before nodes top tree → pairs_of nodes.slots ≡ []
      by_tree none of = empty-pairs_of nodes.slots (sym of.counted)
      by_tree (node place pair left right) of = let e : Some place ≡ top = of.root_is in absurd (cc)
