-- Two heaps that stand apart, and what they are merged to.
use Rattle.std.proofs.Common.{◌≡◌, ◌≢◌, ℕ, suc, ◌+◌, ◌<◌, ◌≤◌, ◌^◌, nat_lt, Bool, true, false, not, List, get_or, set, Option, Some, None, IsSome, cond, refl, sym, ap, subst, ◌∙◌, inl, inr, arith}
use Rattle.std.proofs.lemmas.Bool.{cases_Bool}
use Rattle.std.proofs.lemmas.List.{get_or-set_same, get_or-set_other, map-set, set-get_or}
use Rattle.std.specs.Option.{option_map}
use Rattle.flag_rules.specs.Counts.{counted}
use Rattle.evaluations.specs.Ranking.{IsRanking}
use Rattle.frontier.specs.declared.node.Node.{Node}
use Rattle.frontier.specs.Inner.Tree.{Tree, none, node, root, rank, reached, join, ComesBefore, at_right, under_first}
use Rattle.frontier.specs.Inner.Nodes.{rank_at, with_right, is_ahead, Stands, pair_of, pair_slots, Apart, CanMerge, Merges}
use Rattle.frontier.proofs.Trees.{Merged-reached, Merged-size, Merged-leftist, Merged-swap, root-join, rank_below}
use Rattle.frontier.proofs.Slots.{within, mapped_at}
use Rattle.frontier.proofs.Places.{here, root_node, Stands-kept, Stands-hung, rank_at-root, root_stands}

other_way : (b d : Bool) → b ≡ not d → b ≡ false → d ≡ true
other_way b true other behind = refl
other_way b false other behind = cc

module _ {K : Type 0} (before : K → ℕ → K → ℕ → Bool) where
  pub Apart-swap : (slots : List (Option (Node K))) (one other : Option ℕ) (first second : Tree K) → Apart before slots one other first second → Apart before slots other one second first
  Apart-swap slots one other first second a =
      record {
        one_is = a.other_is;
        other_is = a.one_is;
        first_stands = a.second_stands;
        second_stands = a.first_stands;
        first_leftist = a.second_leftist;
        second_leftist = a.first_leftist;
        once = λ at. omega (arith, a.once at);
        small = omega arith;
        differ = a.differ;
      }

  -- the right child's heap stands apart from the other
  pub Apart-under : (slots : List (Option (Node K))) (one other : Option ℕ) (place : ℕ) (pair : K × ℕ) (left right second : Tree K) → Apart before slots one other (node place pair left right) second → Apart before slots (root right) other right second
  Apart-under slots one other place pair left right second a =
      record {
        one_is = refl;
        other_is = a.other_is;
        first_stands = a.first_stands.2;
        second_stands = a.second_stands;
        first_leftist = a.first_leftist.2;
        second_leftist = a.second_leftist;
        once = λ at. omega (arith, a.once at);
        small = omega arith;
        differ = a.differ;
      }

  pub Merges-swap : (old new : List (Option (Node K))) (first second : Tree K) (result : Option ℕ) (told now : ℕ) → Merges before old new first second result told now → Merges before old new second first result told now
  Merges-swap old new first second result told now m =
      record {
        tree = m.tree;
        passed = m.passed;
        merged = Merged-swap before m.merged;
        root_is = m.root_is;
        stands = m.stands;
        others = λ at away. m.others at (omega arith);
        rose = m.rose;
      }

  -- a heap merged with none
  pub merges_none : (slots : List (Option (Node K))) (one other : Option ℕ) (first second : Tree K) (told : ℕ) → one ≡ None → Apart before slots one other first second → Merges before slots slots first second other told told
  merges_none slots one other none second told is a =
      record { tree = second; passed = 0; merged = at_right second; root_is = a.other_is; stands = a.second_stands; others = λ at away. refl; rose = omega arith }
  merges_none slots one other (node place pair left right) second told is a = let e : Some place ≡ one = a.one_is in absurd (cc)

  -- after the right child's heap was merged with the other, the node stands as it did, and so does its left child's heap
  module _ (slots new : List (Option (Node K))) (one other : Option ℕ) (place : ℕ) (pair : K × ℕ) (left right second : Tree K) (result : Option ℕ) (told now : ℕ) (a : Apart before slots one other (node place pair left right) second) (m : Merges before slots new right second result told now) where
    pub top_kept : get_or new place None ≡ Some (root_node pair left right)
    top_kept = m.others place (omega (arith, a.once place, here place)) ∙ a.first_stands.0

    pub left_kept : Stands new left
    left_kept = Stands-kept slots new left (λ at there. m.others at (omega (arith, a.once at))) a.first_stands.1

    -- once what was merged is hung at its right, the node stands as both heaps merged
    pub merges_under : (last : List (Option (Node K))) (first_told : ℕ) → told ≡ counted first_told → 0 < rank second → ComesBefore before pair second → last ≡ set new place (Some (with_right new (root_node pair left right) result)) → Merges before slots last (node place pair left right) second (Some place) first_told now
    merges_under last first_told was some comes hung =
        let room = within new place _ top_kept in
        let hung_there : get_or last place None ≡ Some (with_right new (root_node pair left right) (root m.tree)) =
        rw (hung, m.root_is) (get_or-set_same new place _ None room) in
        let others_kept = λ (at : ℕ) (differs : at ≢ place). let e : get_or last at None ≡ get_or new at None = rw hung (get_or-set_other new place at _ None differs) in e in
        let new_left = Stands-kept new last left (λ at there. others_kept at (λ same. omega (arith, a.once place, here place, ap (λ p. reached p left) same))) left_kept in
        let new_tree = Stands-kept new last m.tree (λ at there. others_kept at (λ same. omega (arith, a.once place, here place, Merged-reached before place m.merged, ap (λ p. reached p m.tree) same))) m.stands in
        record {
          tree = join place pair left m.tree;
          passed = suc m.passed;
          merged = under_first place pair left right second m.tree m.passed some comes m.merged;
          root_is = root-join place pair left m.tree;
          stands = Stands-hung new last place pair left right m.tree left_kept m.stands hung_there new_left new_tree;
          others = λ at away. let differs : at ≢ place = λ same. omega (arith, here place, ap (λ p. reached p (node place pair left right)) same) in others_kept at differs ∙ m.others at (omega arith);
          rose = omega (arith, m.rose);
        }

  -- of two heaps with roots, the one whose root comes first, and the other
  pub record Choice (slots : List (Option (Node K))) (first second : Tree K) (top below : ℕ) : Type 0 where
    pub pair : K × ℕ
    pub left : Tree K
    pub right : Tree K
    pub other : Tree K
    pub apart : Apart before slots (Some top) (Some below) (node top pair left right) other
    pub some : 0 < rank other
    pub comes : ComesBefore before pair other
    pub ranks : rank first + rank second ≡ rank right + 1 + rank other
    pub back : (new : List (Option (Node K))) (result : Option ℕ) (told now : ℕ) → Merges before slots new (node top pair left right) other result told now → Merges before slots new first second result told now

  -- two nodes are told in their order
  abbrev pub InOrder : List (Option (Node K)) → ℕ → ℕ → ℕ × ℕ → Type 0
  InOrder slots one other told = (a b : Node K) → get_or slots one None ≡ Some a → get_or slots other None ≡ Some b → told ≡ cond (is_ahead before a b) (one, other) (other, one)

  choose_nodes : IsRanking before → (slots : List (Option (Node K))) (x y : ℕ) (p q : K × ℕ) (l r m s : Tree K) (told : ℕ × ℕ) → Apart before slots (Some x) (Some y) (node x p l r) (node y q m s) → InOrder slots x y told → Choice slots (node x p l r) (node y q m s) told.0 told.1
  choose_nodes ranks slots x y p q l r m s told a order =
      let is = order _ _ a.first_stands.0 a.second_stands.0 in
      elim (cases_Bool (before p.0 p.1 q.0 q.1)) [
        | inl ahead ↦
            let same : told ≡ (x, y) = rw ahead at is in
            subst (λ (t : ℕ × ℕ). Choice slots (node x p l r) (node y q m s) t.0 t.1) (sym same) (record {
              pair = p;
              left = l;
              right = r;
              other = node y q m s;
              apart = a;
              some = omega arith;
              comes = ahead;
              ranks = refl;
              back = λ new result told now merges. merges;
            })
        | inr behind ↦
            let same : told ≡ (y, x) = rw behind at is in
            let at_x : get_or (pair_slots slots) x None ≡ Some p = mapped_at pair_of slots x ∙ ap (option_map pair_of) a.first_stands.0 in
            let at_y : get_or (pair_slots slots) y None ≡ Some q = mapped_at pair_of slots y ∙ ap (option_map pair_of) a.second_stands.0 in
            let differ : p.1 ≢ q.1 = λ e. omega (arith, a.once x, here x, here y, ap (λ (z : ℕ). reached z (node y q m s)) (a.differ x y p q at_x at_y e)) in
            let turned : before q.0 q.1 p.0 p.1 ≡ true = other_way (before p.0 p.1 q.0 q.1) (before q.0 q.1 p.0 p.1) (ranks.total p.0 q.0 p.1 q.1 differ) behind in
            subst (λ (t : ℕ × ℕ). Choice slots (node x p l r) (node y q m s) t.0 t.1) (sym same) (record {
              pair = q;
              left = m;
              right = s;
              other = node x p l r;
              apart = Apart-swap slots (Some x) (Some y) (node x p l r) (node y q m s) a;
              some = omega arith;
              comes = turned;
              ranks = omega arith;
              back = λ new result told now merges. Merges-swap slots new (node y q m s) (node x p l r) result told now merges;
            })
      ]

  pub choose : IsRanking before → (slots : List (Option (Node K))) (one other : ℕ) (first second : Tree K) (told : ℕ × ℕ) → Apart before slots (Some one) (Some other) first second → InOrder slots one other told → Choice slots first second told.0 told.1
  choose ranks slots one other none second told a order = let e : None ≡ Some one = a.one_is in absurd (cc)
  choose ranks slots one other (node x p l r) none told a order = let e : None ≡ Some other = a.other_is in absurd (cc)
  choose ranks slots one other (node x p l r) (node y q m s) told a order =
      let is_x : Some x ≡ Some one = a.one_is in
      let is_y : Some y ≡ Some other = a.other_is in
      let at_x : x ≡ one = cc in
      let at_y : y ≡ other = cc in
      (subst (λ (z : ℕ). (w : ℕ) → y ≡ w → Apart before slots (Some z) (Some w) (node x p l r) (node y q m s) → InOrder slots z w told → Choice slots (node x p l r) (node y q m s) told.0 told.1) at_x
      (λ w is. subst (λ (z : ℕ). Apart before slots (Some x) (Some z) (node x p l r) (node y q m s) → InOrder slots x z told → Choice slots (node x p l r) (node y q m s) told.0 told.1) is (choose_nodes ranks slots x y p q l r m s told)))
      other at_y a order

  Apart-at : (slots : List (Option (Node K))) (one other : Option ℕ) (a b : ℕ) (first second : Tree K) → one ≡ Some a → other ≡ Some b → Apart before slots one other first second → Apart before slots (Some a) (Some b) first second
  Apart-at slots one other a b first second is_a is_b apart =
      record {
        one_is = apart.one_is ∙ is_a;
        other_is = apart.other_is ∙ is_b;
        first_stands = apart.first_stands;
        second_stands = apart.second_stands;
        first_leftist = apart.first_leftist;
        second_leftist = apart.second_leftist;
        once = apart.once;
        small = apart.small;
        differ = apart.differ;
      }

  -- of two heaps that may be merged, the one whose root comes first, and the other
  pub chosen : IsRanking before → (slots : List (Option (Node K))) (one other : Option ℕ) (a b : ℕ) (first second : Tree K) (told : ℕ × ℕ) → one ≡ Some a → other ≡ Some b → Apart before slots one other first second → InOrder slots a b told → Choice slots first second told.0 told.1
  chosen ranks slots one other a b first second told is_a is_b apart order =
      choose ranks slots a b first second told (Apart-at slots one other a b first second is_a is_b apart) order

  -- what a step of a merge needs to know of the node on top
  module _ (slots : List (Option (Node K))) (first second : Tree K) (top below : ℕ) (w : Choice slots first second top below) where
    pub top_stands : get_or slots top None ≡ Some (root_node w.pair w.left w.right)
    top_stands = w.apart.first_stands.0

    pub under_top : Apart before slots (root w.right) (Some below) w.right w.other
    under_top = Apart-under slots (Some top) (Some below) top w.pair w.left w.right w.other w.apart

    -- the link that the node on top has to the right
    pub right_link : (n : Node K) → get_or slots top None ≡ Some n → n.right ≡ root w.right
    right_link n found = let same : n ≡ root_node w.pair w.left w.right = cc (top_stands, found) in ap (λ (n : Node K). n.right) same

    pub can_merge_under : (right : Option ℕ) → right ≡ root w.right → CanMerge before slots right (Some below)
    can_merge_under right is = record {
      first = w.right;
      second = w.other;
      apart = record {
        one_is = sym is;
        other_is = under_top.other_is;
        first_stands = under_top.first_stands;
        second_stands = under_top.second_stands;
        first_leftist = under_top.first_leftist;
        second_leftist = under_top.second_leftist;
        once = under_top.once;
        small = under_top.small;
        differ = under_top.differ;
      };
    }

    -- the ranks that are told fall
    pub ranks_fall : (one other right : Option ℕ) → Apart before slots one other first second → right ≡ root w.right → rank_at slots right + rank_at slots (Some below) < rank_at slots one + rank_at slots other
    ranks_fall one other right a is =
        let at_one : rank_at slots one ≡ rank first = ap (rank_at slots) (sym a.one_is) ∙ rank_at-root slots first a.first_stands in
        let at_other : rank_at slots other ≡ rank second = ap (rank_at slots) (sym a.other_is) ∙ rank_at-root slots second a.second_stands in
        let at_right : rank_at slots right ≡ rank w.right = ap (rank_at slots) is ∙ rank_at-root slots w.right under_top.first_stands in
        let at_below : rank_at slots (Some below) ≡ rank w.other = ap (rank_at slots) (sym under_top.other_is) ∙ rank_at-root slots w.other under_top.second_stands in
        omega (arith, w.ranks)

    -- after the heap at its right was merged with the other
    module _ (new : List (Option (Node K))) (right heap : Option ℕ) (told now : ℕ) (is : right ≡ root w.right) (merges : (one other : Tree K) → Apart before slots right (Some below) one other → Merges before slots new one other heap told now) where
      pub under_merged : Merges before slots new w.right w.other heap told now
      unfolding can_merge_under
      under_merged = merges w.right w.other (can_merge_under right is).apart

      pub top_after : get_or new top None ≡ Some (root_node w.pair w.left w.right)
      top_after = top_kept slots new (Some top) (Some below) top w.pair w.left w.right w.other heap told now w.apart under_merged

      pub left_after : (place : ℕ) → root w.left ≡ Some place → IsSome (get_or new place None)
      left_after place at = root_stands new w.left place (left_kept slots new (Some top) (Some below) top w.pair w.left w.right w.other heap told now w.apart under_merged) at

      pub heap_after : (place : ℕ) → heap ≡ Some place → IsSome (get_or new place None)
      heap_after place at = root_stands new under_merged.tree place under_merged.stands (under_merged.root_is ∙ at)

      pub rank_after : rank_at new heap + 1 < 2 ^ 64
      rank_after =
          let told_rank : rank_at new heap ≡ rank under_merged.tree = ap (rank_at new) (sym under_merged.root_is) ∙ rank_at-root new under_merged.tree under_merged.stands in
          let leftist = Merged-leftist before under_merged.merged under_top.first_leftist under_top.second_leftist in
          let few : rank under_merged.tree ≤ 64 = rank_below under_merged.tree 64 leftist (omega (arith, under_top.small, Merged-size before under_merged.merged)) in
          omega arith

      pub hung_after : (last : List (Option (Node K))) (first_told : ℕ) → told ≡ counted first_told → ((n : Node K) → get_or new top None ≡ Some n → last ≡ set new top (Some (with_right new n heap))) → Merges before slots last first second (Some top) first_told now
      hung_after last first_told was hung =
          w.back last (Some top) first_told now
          (merges_under slots new (Some top) (Some below) top w.pair w.left w.right w.other heap told now w.apart under_merged last first_told was w.some w.comes (hung _ top_after))

module _ {K : Type 0} where
  -- the pairs stay where a heap is hung under a node
  pub pairs-hung : (slots : List (Option (Node K))) (place : ℕ) (n : Node K) (heap : Option ℕ) → get_or slots place None ≡ Some n → pair_slots (set slots place (Some (with_right slots n heap))) ≡ pair_slots slots
  pairs-hung slots place n heap found =
      let same : pair_of (with_right slots n heap) ≡ pair_of n = elim (nat_lt (rank_at slots n.left) (rank_at slots heap)) as (λ b. pair_of (cond b (record n { left = heap; right = n.left; rank = rank_at slots n.left + 1 }) (record n { right = heap; rank = rank_at slots heap + 1 })) ≡ pair_of n) [ true ↦ refl | false ↦ refl ] in
      let there : get_or (pair_slots slots) place None ≡ Some (pair_of n) = mapped_at pair_of slots place ∙ ap (option_map pair_of) found in
      let value : Some (pair_of (with_right slots n heap)) ≡ get_or (pair_slots slots) place None = ap Some same ∙ sym there in
      map-set (option_map pair_of) slots place (Some (with_right slots n heap)) ∙ rw value (set-get_or (pair_slots slots) place None)
