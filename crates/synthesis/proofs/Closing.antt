-- A size closes at the nodes that its last split made.
use Rattle.std.proofs.Common.{◌≡◌, ℕ, ◌+◌, List, [], ◌∷◌, ◌++◌, take, drop, Option, Some, None, refl, sym, ◌∙◌, ap}
use Rattle.std.proofs.lemmas.Option.{none-some}
use Rattle.synthesis.specs.Search.{Setting, Node, split, or_else, solved_program, limited_at, first_solved, first_limited, Leads, here, next, newest}
use Rattle.synthesis.proofs.Lists.{split_at}

-- the first value that nodes have
abbrev first_of : {A : Type 0} → (Node → Option A) → List Node → Option A
first_of f [] = None
first_of f (node ∷ nodes) = or_else (f node) (first_of f nodes)

pub or_else_none : {A : Type 0} (o : Option A) → or_else o None ≡ o
or_else_none None = refl
or_else_none (Some a) = refl

parts_none : {A : Type 0} (a b : Option A) → or_else a b ≡ None → (a ≡ None) × (b ≡ None)
parts_none None b e = (refl, e)
parts_none (Some a) b e = absurd (none-some a (sym e))

module _ {A : Type 0} (f : Node → Option A) where
  first-append : (xs ys : List Node) → first_of f (xs ++ ys) ≡ or_else (first_of f xs) (first_of f ys)
  first-append [] ys = refl
  first-append (x ∷ xs) ys = ap (or_else (f x)) (first-append xs ys) ∙ chained (f x) (first_of f xs) (first_of f ys)
    where
      chained : (a b c : Option A) → or_else a (or_else b c) ≡ or_else (or_else a b) c
      chained None b c = refl
      chained (Some x) b c = refl

  -- where neither the nodes nor the split one have a value, the first is that of the children
  first_made : (before rest made : List Node) (parent put : Node) → first_of f (before ++ parent ∷ rest) ≡ None → f put ≡ None → first_of f (before ++ (put ∷ made) ++ rest) ≡ first_of f made
  first_made before rest made parent put none split_none =
      let parts = parts_none (first_of f before) (first_of f (parent ∷ rest)) (sym (first-append before (parent ∷ rest)) ∙ none) in
      let later = parts_none (f parent) (first_of f rest) parts.1 in
      first-append (before ++ put ∷ made) rest
      ∙ ap (λ o. or_else o (first_of f rest)) (first-append before (put ∷ made) ∙ ap (λ o. or_else o (first_of f (put ∷ made))) parts.0 ∙ ap (λ o. or_else o (first_of f made)) split_none)
      ∙ ap (or_else (first_of f made)) later.1
      ∙ or_else_none (first_of f made)

solved_is_first : (nodes : List Node) → first_solved nodes ≡ first_of (λ node. solved_program node.state node.program) nodes
solved_is_first [] = refl
solved_is_first (node ∷ nodes) = ap (or_else (solved_program node.state node.program)) (solved_is_first nodes)

limited_is_first : (nodes : List Node) → first_limited nodes ≡ first_of (λ node. limited_at node.state) nodes
limited_is_first [] = refl
limited_is_first (node ∷ nodes) = ap (or_else (limited_at node.state)) (limited_is_first nodes)

module _ {C : Type 0} (s : Setting C) (budget from : ℕ) (start : List Node) where
  pub closes_at_newest : (stamp : ℕ) (nodes : List Node) (leads : Leads s budget from start stamp nodes) → (first_solved nodes ≡ first_solved (newest s budget from start stamp nodes leads)) × (first_limited nodes ≡ first_limited (newest s budget from start stamp nodes leads))
  closes_at_newest stamp nodes here = (refl, refl)
  closes_at_newest stamp nodes (next before old after leads stays splits) =
      let rest = drop (splits.place + 1) old in
      let put = record splits.node { state = split splits.line before } in
      let is = split_at old splits.place splits.node splits.here in (
        solved_is_first nodes
            ∙ ap (first_of (λ node. solved_program node.state node.program)) splits.after
            ∙ first_made (λ node. solved_program node.state node.program) (take splits.place old) rest splits.made splits.node put
            (sym (ap (first_of (λ node. solved_program node.state node.program)) is) ∙ sym (solved_is_first old) ∙ stays.0) refl
            ∙ sym (solved_is_first splits.made),
        limited_is_first nodes
            ∙ ap (first_of (λ node. limited_at node.state)) splits.after
            ∙ first_made (λ node. limited_at node.state) (take splits.place old) rest splits.made splits.node put
            (sym (ap (first_of (λ node. limited_at node.state)) is) ∙ sym (limited_is_first old) ∙ stays.1) refl
            ∙ sym (limited_is_first splits.made),
      )
