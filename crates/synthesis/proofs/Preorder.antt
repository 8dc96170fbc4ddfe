-- Where a node is split and its children are held behind all others, the nodes in preorder have the children behind it.
use Rattle.std.proofs.Common.{◌≡◌, ◌≢◌, ℕ, suc, ◌+◌, List, [], ◌∷◌, ◌++◌, length, Some, refl, sym, ◌∙◌, ap, subst, arith}
use Rattle.std.specs.Prelude.{slice_get}
use Rattle.std.specs.List.{range_with_len, AllByRecursion as Each}
use Rattle.program_model.specs.Alphabet.{alphabet}
use Rattle.refutation_tree.proofs.Lists.{each_right}
use Rattle.synthesis.specs.declared.nodes.Held.{Held}
use Rattle.synthesis.specs.declared.nodes.Held.TheVariants as holdings
use Rattle.synthesis.specs.Search.{State, judged, split, twin, Node}
use Rattle.synthesis.specs.Inner.Nodes.{state_of, IsHeldOf, children_of, AreInPreorder}
use Rattle.synthesis.proofs.Numbered.{Distinct}

-- a state that no split made
abbrev pub IsUnsplit : State → Type 0
IsUnsplit (judged verdict) = Unit {0}
IsUnsplit (split line stamp) = ⊥
IsUnsplit twin = Unit {0}

module _ (ops size : ℕ) where
  pub unsplit_alone : (held : Held) → IsUnsplit (state_of held) → children_of ops size held ≡ []
  unsplit_alone (holdings.Refused t cause) h = refl
  unsplit_alone (holdings.AtLimit t) h = refl
  unsplit_alone holdings.Solved h = refl
  unsplit_alone (holdings.Waiting line id) h = refl
  unsplit_alone (holdings.Split line stamp first) h = absurd h
  unsplit_alone holdings.Twin h = refl

  module _ (holds after : List Held) (number : ℕ) (others : (at : ℕ) (held : Held) → at ≢ number → slice_get holds at ≡ Some held → slice_get after at ≡ Some held) where
    -- nodes none of which has the number are held as before
    others_stay : (numbers : List ℕ) (nodes : List Node) → Each (λ (node : Node). number ≡ node.number → ⊥) nodes → AreInPreorder ops size holds numbers nodes → AreInPreorder ops size after numbers nodes
    others_stay [] [] apart h = tt
    others_stay [] (node ∷ nodes) apart h = absurd h
    others_stay (at ∷ numbers) [] apart h = absurd h
    others_stay (at ∷ numbers) (node ∷ nodes) apart h =
        let held = h.1.0 in
        (h.0, (held, others at held (λ same. apart.0 (sym same ∙ sym h.0)) h.1.1, h.1.2, others_stay (children_of ops size held ++ numbers) nodes apart.1 h.1.3))

  -- nodes that are held in a row, none of them split, and others behind them
  made_stand : (after : List Held) (first : ℕ) (made : List Node) (numbers : List ℕ) (rest : List Node) →
      ((place : ℕ) (node : Node) → slice_get made place ≡ Some node → (node.number ≡ first + place) × ((held : Held) × (slice_get after (first + place) ≡ Some held) × IsHeldOf node held) × IsUnsplit node.state) →
      AreInPreorder ops size after numbers rest → AreInPreorder ops size after (range_with_len first (length made) ++ numbers) (made ++ rest)
  made_stand after first [] numbers rest put h = h
  made_stand after first (node ∷ made) numbers rest put h =
      let here = put 0 node refl in
      let held = here.1.0 in
      let unsplit : IsUnsplit (state_of held) = subst IsUnsplit here.1.2 here.2 in
      let alone = unsplit_alone held unsplit in
      let later = made_stand after (first + 1) made numbers rest (λ place other e. let it = put (suc place) other e in (it.0 ∙ next first place, (it.1.0, ap (slice_get after) (sym (next first place)) ∙ it.1.1, it.1.2), it.2)) h in
      (here.0 ∙ same_first first, (held, ap (slice_get after) (sym (same_first first)) ∙ here.1.1, here.1.2, subst (λ (ks : List ℕ). AreInPreorder ops size after (ks ++ (range_with_len (first + 1) (length made) ++ numbers)) (made ++ rest)) (sym alone) later))
    where
      next : (n k : ℕ) → n + suc k ≡ n + 1 + k
      next n k = omega arith

      same_first : (n : ℕ) → n + 0 ≡ n
      same_first n = omega arith

  -- a node that waits is split in its place
  pub split_stands : (holds after : List Held) (number line stamp : ℕ) (node : Node) (made rest : List Node) →
      node.number ≡ number → IsUnsplit node.state →
      ((at : ℕ) (held : Held) → at ≢ number → slice_get holds at ≡ Some held → slice_get after at ≡ Some held) →
      slice_get after number ≡ Some (holdings.Split line stamp (length holds)) → length made ≡ length (alphabet ops size line) →
      ((place : ℕ) (child : Node) → slice_get made place ≡ Some child → (child.number ≡ length holds + place) × ((held : Held) × (slice_get after (length holds + place) ≡ Some held) × IsHeldOf child held) × IsUnsplit child.state) →
      (before : List Node) (numbers : List ℕ) → Distinct (before ++ node ∷ rest) → AreInPreorder ops size holds numbers (before ++ node ∷ rest) →
      AreInPreorder ops size after numbers (before ++ (record node { state = split line stamp } ∷ made) ++ rest)
  split_stands holds after number line stamp node made rest is waits others now count put [] [] distinct h = absurd h
  split_stands holds after number line stamp node made rest is waits others now count put [] (at ∷ numbers) distinct h =
      let held = h.1.0 in
      let unsplit : IsUnsplit (state_of held) = subst IsUnsplit h.1.2 waits in
      let follow : AreInPreorder ops size holds numbers rest = subst (λ (ks : List ℕ). AreInPreorder ops size holds (ks ++ numbers) rest) (unsplit_alone held unsplit) h.1.3 in
      let apart : Each (λ (other : Node). number ≡ other.number → ⊥) rest = subst (λ n. Each (λ (other : Node). n ≡ other.number → ⊥) rest) is (turned node.number rest distinct.0) in
      let stay = others_stay holds after number others numbers rest apart follow in (
        h.0,
        (
          holdings.Split line stamp (length holds),
          subst (λ n. slice_get after n ≡ Some (holdings.Split line stamp (length holds))) (sym is ∙ h.0) now,
          refl,
          subst (λ n. AreInPreorder ops size after (range_with_len (length holds) n ++ numbers) (made ++ rest)) count (made_stand after (length holds) made numbers rest put stay),
        ),
      )
    where
      turned : (n : ℕ) (xs : List Node) → Each (λ (other : Node). other.number ≡ n → ⊥) xs → Each (λ (other : Node). n ≡ other.number → ⊥) xs
      turned n [] k = tt
      turned n (x ∷ xs) k = (λ e. k.0 (sym e), turned n xs k.1)
  split_stands holds after number line stamp node made rest is waits others now count put (first ∷ before) [] distinct h = absurd h
  split_stands holds after number line stamp node made rest is waits others now count put (first ∷ before) (at ∷ numbers) distinct h =
      let held = h.1.0 in
      let apart = each_right _ before (node ∷ rest) distinct.0 in (
        h.0,
        (
          held,
          others at held (λ same. apart.0 (is ∙ sym same ∙ sym h.0)) h.1.1,
          h.1.2,
          split_stands holds after number line stamp node made rest is waits others now count put before (children_of ops size held ++ numbers) distinct.1 h.1.3,
        ),
      )
