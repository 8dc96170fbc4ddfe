-- The numbers of nodes are pairwise different, and below how many nodes there are.
use Rattle.std.proofs.Common.{◌≡◌, ℕ, zero, suc, ◌+◌, ◌<◌, ◌≤◌, List, [], ◌∷◌, ◌++◌, length, take, drop, Some, refl, sym, ap, subst, arith, length-append}
use Rattle.std.specs.Prelude.{slice_get}
use Rattle.std.specs.List.{AllByRecursion as Each}
use Rattle.std.proofs.lemmas.Option.{none-some, same_Some}
use Rattle.program_model.specs.declared.instr.Instr.{Instr}
use Rattle.program_model.specs.Alphabet.{alphabet}
use Rattle.program_model.specs.Program.{Program}
use Rattle.synthesis.specs.Search.{Setting, split, Node, IsRoot, AreChildren, Splits}
use Rattle.refutation_tree.proofs.Lists.{each_left, each_right, each_at}
use Rattle.synthesis.proofs.Lists.{each_both, each_more, split_at}

-- no node has the number
abbrev Apart : ℕ → List Node → Type 0
Apart number nodes = Each (λ (node : Node). node.number ≡ number → ⊥) nodes

abbrev IsBelow : ℕ → Node → Type 0
IsBelow bound node = node.number < bound

abbrev IsFrom : ℕ → Node → Type 0
IsFrom bound node = bound ≤ node.number

abbrev pub Distinct : List Node → Type 0
Distinct [] = Unit {0}
Distinct (node ∷ nodes) = Apart node.number nodes × Distinct nodes

abbrev pub AreNumbered : List Node → Type 0
AreNumbered nodes = Distinct nodes × Each (IsBelow (length nodes)) nodes

-- a number stands at one place
pub same_place : (nodes : List Node) (i j : ℕ) (x y : Node) → Distinct nodes → slice_get nodes i ≡ Some x → slice_get nodes j ≡ Some y → x.number ≡ y.number → i ≡ j
same_place [] i j x y distinct a b e = absurd (none-some x a)
same_place (node ∷ nodes) zero zero x y distinct a b e = refl
same_place (node ∷ nodes) zero (suc j) x y distinct a b e =
    let first : node ≡ x = same_Some node x a in
    absurd (each_at _ nodes j y b distinct.0 (rw (first, e) refl))
same_place (node ∷ nodes) (suc i) zero x y distinct a b e =
    let first : node ≡ y = same_Some node y b in
    absurd (each_at _ nodes i x a distinct.0 (rw (first, e) refl))
same_place (node ∷ nodes) (suc i) (suc j) x y distinct a b e = ap suc (same_place nodes i j x y distinct.1 a b e)

module _ {C : Type 0} (s : Setting C) (parent : Program) (line : ℕ) where
  children_from : (instrs : List Instr) (number : ℕ) (made : List Node) → AreChildren s parent line number instrs made → Each (IsFrom number) made
  children_from [] number [] h = tt
  children_from [] number (node ∷ nodes) h = absurd h
  children_from (instr ∷ instrs) number [] h = absurd h
  children_from (instr ∷ instrs) number (node ∷ nodes) h =
      let here = h.0.numbered in
      (omega arith, each_more (IsFrom (number + 1)) (IsFrom number) nodes (λ x from. omega arith) (children_from instrs (number + 1) nodes h.1))

  children_below : (instrs : List Instr) (number : ℕ) (made : List Node) → AreChildren s parent line number instrs made → Each (IsBelow (number + length made)) made
  children_below [] number [] h = tt
  children_below [] number (node ∷ nodes) h = absurd h
  children_below (instr ∷ instrs) number [] h = absurd h
  children_below (instr ∷ instrs) number (node ∷ nodes) h =
      let here = h.0.numbered in
      (omega arith, each_more (IsBelow (number + 1 + length nodes)) (IsBelow (number + length (node ∷ nodes))) nodes (λ x below. omega arith) (children_below instrs (number + 1) nodes h.1))

  -- nodes whose numbers are below have not the number of one from there on
  apart_above : (bound number : ℕ) (nodes : List Node) → bound ≤ number → Each (IsBelow bound) nodes → Apart number nodes
  apart_above bound number nodes from below = each_more (IsBelow bound) (λ (x : Node). x.number ≡ number → ⊥) nodes (λ x l e. omega arith) below

  -- and the other way round
  apart_below : (bound number : ℕ) (nodes : List Node) → number < bound → Each (IsFrom bound) nodes → Apart number nodes
  apart_below bound number nodes to from = each_more (IsFrom bound) (λ (x : Node). x.number ≡ number → ⊥) nodes (λ x l e. omega arith) from

  made_distinct : (instrs : List Instr) (number : ℕ) (made rest : List Node) → AreChildren s parent line number instrs made → Each (IsBelow number) rest → Distinct rest → Distinct (made ++ rest)
  made_distinct [] number [] rest h below distinct = distinct
  made_distinct [] number (node ∷ nodes) rest h below distinct = absurd h
  made_distinct (instr ∷ instrs) number [] rest h below distinct = absurd h
  made_distinct (instr ∷ instrs) number (node ∷ nodes) rest h below distinct =
      let here = h.0.numbered in (
        each_both _ nodes rest (apart_below (number + 1) node.number nodes (omega arith) (children_from instrs (number + 1) nodes h.1)) (apart_above number node.number rest (omega arith) below),
        made_distinct instrs (number + 1) nodes rest h.1 (each_more (IsBelow number) (IsBelow (number + 1)) rest (λ x l. omega arith) below) distinct,
      )

  split_distinct : (instrs : List Instr) (number : ℕ) (before : List Node) (node : Node) (made rest : List Node) (at stamp : ℕ) → AreChildren s parent line number instrs made → Each (IsBelow number) (before ++ node ∷ rest) → Distinct (before ++ node ∷ rest) →
      Distinct (before ++ (record node { state = split at stamp } ∷ made) ++ rest)
  split_distinct instrs number [] node made rest at stamp h below distinct = (
    each_both _ made rest (apart_below number node.number made below.0 (children_from instrs number made h)) distinct.0,
    made_distinct instrs number made rest h below.1 distinct.1,
  )
  split_distinct instrs number (first ∷ before) node made rest at stamp h below distinct =
      let others = each_right _ before (node ∷ rest) distinct.0 in (
        each_both _ (before ++ record node { state = split at stamp } ∷ made) rest
            (each_both _ before (record node { state = split at stamp } ∷ made) (each_left _ before (node ∷ rest) distinct.0) (others.0, apart_below number first.number made below.0 (children_from instrs number made h)))
            others.1,
        split_distinct instrs number before node made rest at stamp h below.1 distinct.1,
      )

  split_below : (instrs : List Instr) (number : ℕ) (before : List Node) (node : Node) (made rest : List Node) (at stamp : ℕ) → AreChildren s parent line number instrs made → Each (IsBelow number) (before ++ node ∷ rest) →
      Each (IsBelow (number + length made)) (before ++ (record node { state = split at stamp } ∷ made) ++ rest)
  split_below instrs number before node made rest at stamp h below =
      let more = each_more (IsBelow number) (IsBelow (number + length made)) (before ++ node ∷ rest) (λ x l. omega arith) below in
      let others = each_right _ before (node ∷ rest) more in
      each_both _ (before ++ record node { state = split at stamp } ∷ made) rest
      (each_both _ before (record node { state = split at stamp } ∷ made) (each_left _ before (node ∷ rest) more) (others.0, children_below instrs number made h))
      others.1

module _ {C : Type 0} (s : Setting C) where
  pub root_numbered : (size : ℕ) (root : Node) → IsRoot s size root → AreNumbered (root ∷ [])
  root_numbered size root h = let number = h.number in ((tt, tt), (omega arith, tt))

  pub splits_count : (stamp : ℕ) (old new : List Node) (h : Splits s stamp old new) → length new ≡ length old + length h.made
  splits_count stamp old new h =
      let before = take h.place old in
      let rest = drop (h.place + 1) old in
      let put = record h.node { state = split h.line stamp } in
      omega (
        arith,
        ap length h.after,
        ap length (split_at old h.place h.node h.here),
        length-append before (h.node ∷ rest),
        length-append (before ++ put ∷ h.made) rest,
        length-append before (put ∷ h.made),
      )

  pub splits_numbered : (stamp : ℕ) (old new : List Node) → Splits s stamp old new → AreNumbered old → AreNumbered new
  splits_numbered stamp old new h numbered =
      let before = take h.place old in
      let rest = drop (h.place + 1) old in
      let is : old ≡ before ++ h.node ∷ rest = split_at old h.place h.node h.here in
      let instrs = alphabet s.machine.ops (length h.node.program) h.line in
      let count = splits_count stamp old new h in
      let below = subst (Each (IsBelow (length old))) is numbered.1 in (
        subst Distinct (sym h.after) (split_distinct s h.node.program h.line instrs (length old) before h.node h.made rest h.line stamp h.children below (subst Distinct is numbered.0)),
        subst (λ n. Each (IsBelow n) new) (sym count) (subst (Each (IsBelow (length old + length h.made))) (sym h.after) (split_below s h.node.program h.line instrs (length old) before h.node h.made rest h.line stamp h.children below)),
      )
