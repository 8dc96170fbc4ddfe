-- A node that is given up, and what is left then.
use Rattle.std.proofs.Common.{◌≡◌, ◌≢◌, ℕ, Bool, true, false, List, set, map, Option, Some, None, IsSome, count_by, refl, sym, ap, ◌∙◌, inl, inr}
use Rattle.std.specs.Option.{option_map}
use Rattle.std.proofs.lemmas.Bool.{cases_eq}
use Rattle.std.proofs.lemmas.List.{map-set}
use Rattle.partial_program.specs.declared.node.Node.{Node}
use Rattle.partial_program.specs.declared.node.Link.{Link}
use Rattle.partial_program.specs.Chain.{LiveNode, node_at, IsChild, given_up, without_hold, IsPruned}
use Rattle.partial_program.specs.Inner.Nodes.{stored_at, link_of, is_child_of, live_node, live_nodes, IsTied, IsSettledBut, IsLeftOf, IsChain, face_of}
use Rattle.partial_program.proofs.Slots.{some_value, is_there, mapped_at}
use Rattle.partial_program.proofs.Written.{to_fewer}
use Rattle.partial_program.proofs.Ties.{linked_there, child_by_link, written_there, unwritten, links_kept, counts_kept}
use Rattle.partial_program.proofs.Views.{mapped_value, mapped_none, some_and, node_at-live, there_stored, seen_node, seen_alike, seen_settled}

module _ (lines root : ℕ) (old : List (Option Node)) (place : ℕ) (n : Node) (chain : IsChain lines root old) (found : stored_at old place ≡ Some n) where
  -- the node without its hold
  abbrev idle : Node
  idle = record n { is_held = false }

  abbrev mid : List (Option Node)
  mid = set old place (Some idle)

  at_place : stored_at mid place ≡ Some idle
  at_place = written_there old place n idle found

  elsewhere : (at : ℕ) → at ≢ place → stored_at mid at ≡ stored_at old at
  elsewhere at differs = unwritten old place at idle differs

  links_mid : (at : ℕ) → link_of (stored_at mid at) ≡ link_of (stored_at old at)
  links_mid = links_kept old place n idle found refl

  there_mid : (at : ℕ) → IsSome (stored_at old at) → IsSome (stored_at mid at)
  there_mid at there =
      elim (cases_eq at place) [
        | inl is ↦ rw (is, at_place) refl
        | inr differs ↦ rw (elsewhere at differs) there
      ]

  pub tied_given_up : IsTied mid
  tied_given_up = record {
    parents = λ at link e. there_mid link.parent (chain.tied.parents at link (sym (links_mid at) ∙ e));
    counted = λ at node e.
        let same = counts_kept old place n idle found refl at in
        elim (cases_eq at place) [
          | inl is ↦
              let both : Some node ≡ Some idle = sym e ∙ ap (stored_at mid) is ∙ at_place in
              let children : node.children ≡ n.children = cc in
              children ∙ chain.tied.counted place n found ∙ ap (λ (p : ℕ). count_by (is_child_of p) old) (sym is) ∙ sym same
          | inr differs ↦ chain.tied.counted at node (sym (elsewhere at differs) ∙ e) ∙ sym same
        ];
  }

  pub settled_given_up : IsSettledBut mid (Some place)
  settled_given_up = record {
    there = λ at e. let is : place ≡ at = cc in rw (← is, at_place) refl;
    settled = λ at node e but. chain.settled.settled at node (sym (elsewhere at (λ is. but (ap Some (sym is)))) ∙ e) (λ bad. absurd (cc));
  }

  -- a hold is given up in what contracts see
  given_up_is : given_up (live_nodes lines old) place ≡ map (option_map (live_node lines old)) mid
  given_up_is =
      ap (λ (o : Option LiveNode). set (live_nodes lines old) place (option_map without_hold o)) (seen_node lines old place n found)
      ∙ sym (map-set (option_map (live_node lines old)) old place (Some idle))

  given_up_at : (at : ℕ) → node_at (given_up (live_nodes lines old) place) at ≡ option_map (live_node lines old) (stored_at mid at)
  given_up_at at = ap (λ (nodes : List (Option LiveNode)). node_at nodes at) given_up_is ∙ mapped_at (live_node lines old) mid at

  module _ (new : List (Option Node)) (tied : IsTied new) (settled : IsSettledBut new None) (left : IsLeftOf mid new) where
    faces : (at : ℕ) → IsSome (stored_at new at) → option_map face_of (stored_at mid at) ≡ option_map face_of (stored_at new at)
    faces at there =
        let some = some_value (stored_at new at) there in
        left.kept at some.0 some.1 ∙ ap (option_map face_of) (sym some.1)

    there_old : (at : ℕ) → IsSome (stored_at new at) → IsSome (stored_at old at)
    there_old at there =
        let some = some_value (stored_at new at) there in
        let was = mapped_value face_of (stored_at mid at) (face_of some.0) (left.kept at some.0 some.1) in
        elim (cases_eq at place) [
          | inl is ↦ rw (is, found) refl
          | inr differs ↦ is_there (stored_at old at) was.0 (sym (elsewhere at differs) ∙ was.1)
        ]

    link_by_face : (one other : Option Node) → option_map face_of one ≡ option_map face_of other → link_of one ≡ link_of other
    link_by_face None None e = refl
    link_by_face None (Some y) e = absurd (cc)
    link_by_face (Some x) None e = absurd (cc)
    link_by_face (Some x) (Some y) e = let same : face_of x ≡ face_of y = cc in ap (λ (face : Option Link × Bool). face.0) same

    same : (at : ℕ) → IsSome (stored_at new at) → link_of (stored_at old at) ≡ link_of (stored_at new at)
    same at there = sym (links_mid at) ∙ link_by_face (stored_at mid at) (stored_at new at) (faces at there)

    pub chain_left : IsChain lines root new
    chain_left = record {
      some = chain.some;
      few = chain.few;
      rooted = λ at node e none.
          let there = is_there (stored_at new at) node e in
          let was = some_value (stored_at old at) (there_old at there) in
          chain.rooted at was.0 was.1 (ap link_of (sym was.1) ∙ same at there ∙ ap link_of e ∙ none);
      tied = tied;
      settled = settled;
      written = λ at link e.
          to_fewer lines new old same tied.parents link (tied.parents at link e)
          (chain.written at link (same at (linked_there (stored_at new at) link e) ∙ e));
    }

    seen_left : (at : ℕ) → IsSome (stored_at new at) → node_at (given_up (live_nodes lines old) place) at ≡ node_at (live_nodes lines new) at
    seen_left at there =
        given_up_at at
        ∙ seen_alike lines new old same tied.parents (stored_at new at) (stored_at mid at) (tied.parents at) (faces at there)
        ∙ sym (node_at-live lines new at)

    child_stored : (at child : ℕ) → IsChild (given_up (live_nodes lines old) place) at child → is_child_of at (stored_at mid child) ≡ true
    child_stored at child h =
        let seen = some_and (node_at (given_up (live_nodes lines old) place) child) (λ node. node.parent ≡ Some at) h in
        let n' = mapped_value (live_node lines old) (stored_at mid child) seen.0 (sym (given_up_at child) ∙ seen.1) in
        let parent : option_map (λ (l : Link). l.parent) n'.0.link ≡ Some at = ap (λ (node : LiveNode). node.parent) n'.2 ∙ seen.2 in
        let link = mapped_value (λ (l : Link). l.parent) n'.0.link at parent in
        child_by_link at (stored_at mid child) link.0 (ap link_of n'.1 ∙ link.1) link.2

    pub pruned_given_up : IsPruned (given_up (live_nodes lines old) place) (live_nodes lines new)
    pruned_given_up = record {
      kept = λ at there. sym (seen_left at (there_stored lines new at there));
      settled = λ at there. seen_settled lines root new chain_left at there;
      freed = λ at node e none.
          let n' = mapped_value (live_node lines old) (stored_at mid at) node (sym (given_up_at at) ∙ e) in
          let gone = mapped_none (live_node lines new) (stored_at new at) (sym (node_at-live lines new at) ∙ none) in
          let was = left.freed at n'.0 n'.1 gone in (
            ap (λ (node : LiveNode). node.is_held) (sym n'.2) ∙ was.0,
            λ child h. node_at-live lines new child ∙ ap (option_map (live_node lines new)) (was.1 child (child_stored at child h)),
          );
    }
