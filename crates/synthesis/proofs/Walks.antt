-- The walk over the nodes of a size: a node, and then all that stands below it.
use Rattle.std.proofs.Common.{◌≡◌, ℕ, zero, suc, ◌+◌, ◌-◌, ◌<◌, ◌≤◌, List, [], ◌∷◌, ◌++◌, map, Some, refl, sym, ◌∙◌, ap, subst, arith, append_assoc}
use Rattle.std.specs.Prelude.{slice_get}
use Rattle.std.specs.List.{range_with_len}
use Rattle.std.proofs.lemmas.Option.{same_Some}
use Rattle.std.proofs.lemmas.List.{map-append}
use Rattle.refutation_tree.specs.declared.evidence.Mark.{Mark}
use Rattle.synthesis.specs.declared.nodes.Held.{Held}
use Rattle.synthesis.specs.declared.nodes.Held.TheVariants as holdings
use Rattle.synthesis.specs.Search.{Node, mark_of}
use Rattle.synthesis.specs.Inner.Nodes.{state_of, children_of, AreInPreorder}
use Rattle.synthesis.specs.Inner.Walking.{MarksFirst}

abbrev marks_of : List Node → List Mark
marks_of nodes = map (λ (node : Node). mark_of node.state) nodes

module _ (ops size : ℕ) (holds : List Held) where
  -- the node of the first number is marked, and its children come next
  pub node_marked : (number : ℕ) (held : Held) (remaining : List ℕ) (nodes : List Node) (before after : List Mark) → slice_get holds number ≡ Some held → after ≡ before ++ mark_of (state_of held) ∷ [] → AreInPreorder ops size holds (number ∷ remaining) nodes →
      MarksFirst ops size holds (children_of ops size held ++ remaining) nodes before after
  node_marked number held remaining [] before after here marked h = absurd h
  node_marked number held remaining (node ∷ nodes) before after here marked h =
      let same : h.1.0 ≡ held = same_Some h.1.0 held (sym h.1.1 ∙ here) in
      record {
        first = node ∷ [];
        others = nodes;
        all = refl;
        marked = marked ∙ ap (λ mark. before ++ mark ∷ []) (ap (λ x. mark_of (state_of x)) (sym same) ∙ ap mark_of (sym h.1.2));
        follow = subst (λ x. AreInPreorder ops size holds (children_of ops size x ++ remaining) nodes) same h.1.3;
      }

  -- what is marked after what was marked
  pub marked_further : (remaining later : List ℕ) (nodes : List Node) (before mid after : List Mark) (one : MarksFirst ops size holds remaining nodes before mid) → MarksFirst ops size holds later one.others mid after → MarksFirst ops size holds later nodes before after
  marked_further remaining later nodes before mid after one two = record {
    first = one.first ++ two.first;
    others = two.others;
    all = one.all ∙ ap (λ ns. one.first ++ ns) two.all ∙ sym (append_assoc one.first two.first two.others);
    marked = two.marked ∙ ap (λ ms. ms ++ marks_of two.first) one.marked ∙ append_assoc before (marks_of one.first) (marks_of two.first) ∙ ap (λ ms. before ++ ms) (sym (map-append (λ (node : Node). mark_of node.state) one.first two.first));
    follow = two.follow;
  }

  -- one more of the numbers in a row
  pub range_more : (child end : ℕ) (remaining : List ℕ) (nodes : List Node) → child < end → AreInPreorder ops size holds (range_with_len child (end - child) ++ remaining) nodes → AreInPreorder ops size holds (child ∷ (range_with_len (child + 1) (end - (child + 1)) ++ remaining)) nodes
  range_more child end remaining nodes within h = subst (λ (ks : List ℕ). AreInPreorder ops size holds (ks ++ remaining) nodes) (range_cons (end - child) (end - (child + 1)) (omega arith)) h
    where
      range_cons : (n m : ℕ) → n ≡ m + 1 → range_with_len child n ≡ child ∷ range_with_len (child + 1) m
      range_cons zero m e = absurd (omega arith)
      range_cons (suc n) m e = let same : n ≡ m = omega arith in rw same refl

  -- no number is left in a row
  pub range_done : (child end : ℕ) (remaining : List ℕ) (nodes : List Node) (before after : List Mark) → end ≤ child → MarksFirst ops size holds (range_with_len child (end - child) ++ remaining) nodes before after → MarksFirst ops size holds remaining nodes before after
  range_done child end remaining nodes before after past h = let none : end - child ≡ 0 = omega arith in subst (λ n. MarksFirst ops size holds (range_with_len child n ++ remaining) nodes before after) none h

  -- a node that is not split has no children
  pub node_alone : (number : ℕ) (held : Held) (remaining : List ℕ) (nodes : List Node) (before after : List Mark) → ((line stamp first : ℕ) → held ≡ holdings.Split line stamp first → ⊥) → MarksFirst ops size holds (children_of ops size held ++ remaining) nodes before after → MarksFirst ops size holds remaining nodes before after
  node_alone number (holdings.Refused t cause) remaining nodes before after unsplit h = h
  node_alone number (holdings.AtLimit t) remaining nodes before after unsplit h = h
  node_alone number holdings.Solved remaining nodes before after unsplit h = h
  node_alone number (holdings.Waiting line id) remaining nodes before after unsplit h = h
  node_alone number (holdings.Split line stamp first) remaining nodes before after unsplit h = absurd (unsplit line stamp first refl)
  node_alone number holdings.Twin remaining nodes before after unsplit h = h
