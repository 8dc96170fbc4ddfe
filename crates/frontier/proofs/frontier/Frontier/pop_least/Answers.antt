-- The root is taken out, and the two heaps below it are merged.
use Rattle.std.proofs.Common.{◌≡◌, ℕ, true, ◌∷◌, All, IsPermutation, ap, sym, subst, refl, arith}
use Rattle.frontier.specs.declared.node.Node.{Node}
use Rattle.frontier.specs.Inner.Nodes.{pair_of, pairs_of}
use Rattle.frontier.proofs.Holding.{opened, node_taken, apart_popped, heap_popped, pairs_popped, least_popped, few_popped, some_popped, none_held, same_count}
use Rattle.frontier.proofs.frontier.Frontier.pop_least.Goals as goal

pub returns-in_default-clause-none : goal.returns-in_default-clause-none
returns-in_default-clause-none g c = rw (← c.self.view_is) (λ _. none_held _ c.self.inside.nodes c.self.inside.root c.in_default.is c.self.invariant, λ _. refl)

pub merge-self-inside-requires : goal.merge-self-inside-requires
merge-self-inside-requires g c =
    let nodes = c.self.inside.nodes in
    let r = c.remove-node in
    let o = opened _ nodes c.in-Some.root c.self.invariant.tree (rw c.in-Some.is at c.self.invariant.is) in
    let taken = node_taken _ g.met.R.Ranking.is_ranking nodes r.new.self c.in-Some.root o.0 o.1 o.2 o.3 r.ensures.updates r.ensures.len r.result r.ensures.value in
    let apart = apart_popped _ g.met.R.Ranking.is_ranking nodes r.new.self c.in-Some.root o.0 o.1 o.2 o.3 r.ensures.updates r.ensures.len r.result.left r.result.right (ap (λ (n : Node _). n.left) taken) (ap (λ (n : Node _). n.right) taken) in
    record { first = o.1; second = o.2; apart = apart }

pub invariant_of-self : goal.invariant_of-self
invariant_of-self g c =
    let nodes = c.self.inside.nodes in
    let r = c.remove-node in
    let o = opened _ nodes c.in-Some.root c.self.invariant.tree (rw c.in-Some.is at c.self.invariant.is) in
    let taken = node_taken _ g.met.R.Ranking.is_ranking nodes r.new.self c.in-Some.root o.0 o.1 o.2 o.3 r.ensures.updates r.ensures.len r.result r.ensures.value in
    let apart = apart_popped _ g.met.R.Ranking.is_ranking nodes r.new.self c.in-Some.root o.0 o.1 o.2 o.3 r.ensures.updates r.ensures.len r.result.left r.result.right (ap (λ (n : Node _). n.left) taken) (ap (λ (n : Node _). n.right) taken) in
    let m = c.merge-self-inside in
    heap_popped _ g.met.R.Ranking.is_ranking nodes r.new.self c.in-Some.root o.0 o.1 o.2 o.3 r.ensures.updates r.ensures.len m.new.nodes r.result.left r.result.right m.result _ _ apart (m.ensures.merged o.1 o.2 apart) m.ensures.pairs

pub returns-clause-none : goal.returns-clause-none
returns-clause-none g c =
    let nodes = c.self.inside.nodes in
    let r = c.remove-node in
    let o = opened _ nodes c.in-Some.root c.self.invariant.tree (rw c.in-Some.is at c.self.invariant.is) in
    rw (← c.self.view_is) (λ e. absurd (cc), λ is. absurd (some_popped _ g.met.R.Ranking.is_ranking nodes r.new.self c.in-Some.root o.0 o.1 o.2 o.3 r.ensures.updates r.ensures.len is))

pub returns-clause-pairs : goal.returns-clause-pairs
returns-clause-pairs g c =
    let nodes = c.self.inside.nodes in
    let r = c.remove-node in
    let o = opened _ nodes c.in-Some.root c.self.invariant.tree (rw c.in-Some.is at c.self.invariant.is) in
    let taken = node_taken _ g.met.R.Ranking.is_ranking nodes r.new.self c.in-Some.root o.0 o.1 o.2 o.3 r.ensures.updates r.ensures.len r.result r.ensures.value in
    let pair : o.0 ≡ (r.result.key, r.result.number) = ap pair_of (sym taken) in
    let m = c.merge-self-inside in
    rw (← c.self.view_is) (subst (λ (p : _ × ℕ). IsPermutation (p ∷ pairs_of m.new.nodes.slots) (pairs_of nodes.slots)) pair (pairs_popped _ g.met.R.Ranking.is_ranking nodes r.new.self c.in-Some.root o.0 o.1 o.2 o.3 r.ensures.updates r.ensures.len m.new.nodes m.ensures.pairs))

pub returns-clause-least : goal.returns-clause-least
returns-clause-least g c =
    let nodes = c.self.inside.nodes in
    let r = c.remove-node in
    let o = opened _ nodes c.in-Some.root c.self.invariant.tree (rw c.in-Some.is at c.self.invariant.is) in
    let taken = node_taken _ g.met.R.Ranking.is_ranking nodes r.new.self c.in-Some.root o.0 o.1 o.2 o.3 r.ensures.updates r.ensures.len r.result r.ensures.value in
    let pair : o.0 ≡ (r.result.key, r.result.number) = ap pair_of (sym taken) in
    let m = c.merge-self-inside in
    subst (λ (p : _ × ℕ). All (λ (other : _ × ℕ). g.R.Ranking.comes_before p.0 p.1 other.0 other.1 ≡ true) (pairs_of m.new.nodes.slots)) pair (least_popped _ g.met.R.Ranking.is_ranking nodes r.new.self c.in-Some.root o.0 o.1 o.2 o.3 r.ensures.updates r.ensures.len m.new.nodes m.ensures.pairs)

pub returns-clause-spare : goal.returns-clause-spare
returns-clause-spare g c =
    let r = c.remove-node in
    let m = c.merge-self-inside in
    rw (← c.self.view_is) (omega (arith, r.ensures.len, r.ensures.capacity, m.ensures.capacity, same_count r.new.self.slots m.new.nodes.slots m.ensures.pairs))

pub returns-clause-compared : goal.returns-clause-compared
returns-clause-compared g c =
    let nodes = c.self.inside.nodes in
    let r = c.remove-node in
    let o = opened _ nodes c.in-Some.root c.self.invariant.tree (rw c.in-Some.is at c.self.invariant.is) in
    let taken = node_taken _ g.met.R.Ranking.is_ranking nodes r.new.self c.in-Some.root o.0 o.1 o.2 o.3 r.ensures.updates r.ensures.len r.result r.ensures.value in
    let apart = apart_popped _ g.met.R.Ranking.is_ranking nodes r.new.self c.in-Some.root o.0 o.1 o.2 o.3 r.ensures.updates r.ensures.len r.result.left r.result.right (ap (λ (n : Node _). n.left) taken) (ap (λ (n : Node _). n.right) taken) in
    let m = c.merge-self-inside in
    rw (← c.self.view_is) (few_popped _ g.met.R.Ranking.is_ranking nodes r.new.self c.in-Some.root o.0 o.1 o.2 o.3 r.ensures.updates r.ensures.len m.new.nodes.slots m.result _ _ (m.ensures.merged o.1 o.2 apart))
