-- How nodes are tied to their parents, where one is made, given up or freed.
use Rattle.std.proofs.Common.{◌≡◌, ◌≢◌, ℕ, zero, suc, ◌+◌, ◌-◌, ◌<◌, true, false, List, [], ◌∷◌, length, get_or, set, Option, Some, None, is_some, IsSome, cond, count_by, refl, sym, ap, ◌∙◌, inl, inr, arith, get_or-set_same, get_or-set_other}
use Rattle.std.proofs.lemmas.Bool.{cases_eq, eqb-true, eq-eqb, ne_eqb}
use Rattle.partial_program.specs.declared.node.Node.{Node}
use Rattle.partial_program.specs.declared.node.Link.{Link}
use Rattle.partial_program.specs.Inner.Nodes.{stored_at, link_of, leads_to, is_child_of, IsTied, IsSettledBut, IsLeftOf}
use Rattle.partial_program.proofs.Slots.{some_value, is_there, count-changed, count-none}

within : {A : Type 0} (slots : List (Option A)) (at : ℕ) (x : A) → get_or slots at None ≡ Some x → at < length slots
within [] at x found = absurd (cc)
within (slot ∷ slots) zero x found = omega arith
within (slot ∷ slots) (suc at) x found = omega (arith, within slots at x found)

-- ---- links

pub linked_there : (slot : Option Node) (link : Link) → link_of slot ≡ Some link → IsSome slot
linked_there None link e = absurd (cc)
linked_there (Some n) link e = refl

pub link_of_child : (at : ℕ) (slot : Option Node) → is_child_of at slot ≡ true → (link : Link) × (link_of slot ≡ Some link) × (link.parent ≡ at)
link_of_child at slot child = by_link (link_of slot) child
  where
    by_link : (o : Option Link) → leads_to at o ≡ true → (link : Link) × (o ≡ Some link) × (link.parent ≡ at)
    by_link None e = absurd (cc)
    by_link (Some link) e = (link, refl, eqb-true link.parent at e)

pub child_by_link : (at : ℕ) (slot : Option Node) (link : Link) → link_of slot ≡ Some link → link.parent ≡ at → is_child_of at slot ≡ true
child_by_link at slot link e is = rw e (eq-eqb link.parent at is)

-- ---- a slot that was written

pub written_there : (slots : List (Option Node)) (place : ℕ) (n n' : Node) → stored_at slots place ≡ Some n → stored_at (set slots place (Some n')) place ≡ Some n'
written_there slots place n n' found = let inside : place < length slots = within slots place n found in rw get_or-set_same refl

pub unwritten : (slots : List (Option Node)) (place other : ℕ) (n' : Node) → other ≢ place → stored_at (set slots place (Some n')) other ≡ stored_at slots other
unwritten slots place other n' differs = rw get_or-set_other refl

-- a node keeps its link: so do all
pub links_kept : (slots : List (Option Node)) (place : ℕ) (n n' : Node) → stored_at slots place ≡ Some n → n'.link ≡ n.link → (at : ℕ) → link_of (stored_at (set slots place (Some n')) at) ≡ link_of (stored_at slots at)
links_kept slots place n n' found same at =
    elim (cases_eq at place) [
      | inl is ↦ rw (is, written_there slots place n n' found, found) same
      | inr differs ↦ rw (unwritten slots place at n' differs) refl
    ]

-- and as many are children of each
pub counts_kept : (slots : List (Option Node)) (place : ℕ) (n n' : Node) → stored_at slots place ≡ Some n → n'.link ≡ n.link → (at : ℕ) → count_by (is_child_of at) (set slots place (Some n')) ≡ count_by (is_child_of at) slots
counts_kept slots place n n' found same at =
    omega (
      arith,
      count-changed (is_child_of at) refl place slots (set slots place (Some n')) (λ other differs. unwritten slots place other n' differs),
      ap {B = ℕ} (λ (o : Option Link). cond (leads_to at o) 1 0) (links_kept slots place n n' found same place),
    )

-- and as many are there
pub as_many : (slots : List (Option Node)) (place : ℕ) (n n' : Node) → stored_at slots place ≡ Some n → count_by is_some (set slots place (Some n')) ≡ count_by is_some slots
as_many slots place n n' found =
    omega (
      arith,
      count-changed is_some refl place slots (set slots place (Some n')) (λ other differs. unwritten slots place other n' differs),
      ap {B = ℕ} (λ (slot : Option Node). cond (is_some slot) 1 0) found,
      ap {B = ℕ} (λ (slot : Option Node). cond (is_some slot) 1 0) (written_there slots place n n' found),
    )

-- ---- a node without a hold and without children is freed

module _ (old mid : List (Option Node)) (place : ℕ) (n : Node) (tied : IsTied old) (found : stored_at old place ≡ Some n) (gone : stored_at mid place ≡ None) (others : (other : ℕ) → other ≢ place → stored_at mid other ≡ stored_at old other) (unheld : n.is_held ≡ false) (childless : n.children ≡ 0) where
  no_child : (at : ℕ) → is_child_of place (stored_at old at) ≡ false
  no_child at = count-none (is_child_of place) refl old (sym (tied.counted place n found) ∙ childless) at

  not_parent : (at : ℕ) (link : Link) → link_of (stored_at old at) ≡ Some link → link.parent ≢ place
  not_parent at link e is = let yes = child_by_link place (stored_at old at) link e is in let no = no_child at in absurd (cc)

  -- what is left was there
  left_there : (at : ℕ) → IsSome (stored_at mid at) → (at ≢ place) × (stored_at mid at ≡ stored_at old at)
  left_there at there =
      elim (cases_eq at place) [
        | inl is ↦ let some = some_value (stored_at mid at) there in let e : None ≡ Some some.0 = sym gone ∙ ap (stored_at mid) (sym is) ∙ some.1 in absurd (cc)
        | inr differs ↦ (differs, others at differs)
      ]

  count_mid : (at : ℕ) → count_by (is_child_of at) mid + cond (leads_to at n.link) 1 0 ≡ count_by (is_child_of at) old
  count_mid at =
      omega (
        arith,
        count-changed (is_child_of at) refl place old mid others,
        ap {B = ℕ} (λ (slot : Option Node). cond (is_child_of at slot) 1 0) found,
        ap {B = ℕ} (λ (slot : Option Node). cond (is_child_of at slot) 1 0) gone,
      )

  parents_mid : (at : ℕ) (link : Link) → link_of (stored_at mid at) ≡ Some link → IsSome (stored_at mid link.parent)
  parents_mid at link e =
      let was = left_there at (linked_there (stored_at mid at) link e) in
      let e_old : link_of (stored_at old at) ≡ Some link = ap link_of (sym was.1) ∙ e in
      rw (others link.parent (not_parent at link e_old)) (tied.parents at link e_old)

  pub left_of_freed : IsLeftOf old mid
  left_of_freed = record {
    kept = λ at node e. let was = left_there at (is_there (stored_at mid at) node e) in rw (← was.1, e) refl;
    freed = λ at node e none.
        elim (cases_eq at place) [
          | inl is ↦
              let same : Some node ≡ Some n = sym e ∙ ap (stored_at old) is ∙ found in
              let same_hold : node.is_held ≡ n.is_held = cc in (
                same_hold ∙ unheld,
                λ child yes. let link = link_of_child at (stored_at old child) yes in absurd (not_parent child link.0 link.1 (link.2 ∙ is)),
              )
          | inr differs ↦ let bad : Some node ≡ None = sym e ∙ sym (others at differs) ∙ none in absurd (cc)
        ];
  }

  -- where it was the root
  module _ (root : n.link ≡ None) where
    pub tied_without_root : IsTied mid
    tied_without_root = record {
      parents = parents_mid;
      counted = λ at node e.
          let was = left_there at (is_there (stored_at mid at) node e) in
          let zeroes : ◌≡◌ {A = ℕ} (cond (leads_to at n.link) 1 0) 0 = ap {B = ℕ} (λ (o : Option Link). cond (leads_to at o) 1 0) root in
          omega (arith, zeroes, count_mid at, tied.counted at node (sym was.1 ∙ e));
    }

    pub settled_without_root : IsSettledBut old (Some place) → IsSettledBut mid None
    settled_without_root settled = record {
      there = λ at e. absurd (cc);
      settled = λ at node e _.
          let was = left_there at (is_there (stored_at mid at) node e) in
          settled.settled at node (sym was.1 ∙ e) (λ is. let same : place ≡ at = cc in was.0 (sym same));
    }

  -- where it had a parent, which counts one child less
  module _ (link : Link) (linked : n.link ≡ Some link) where
    parent_apart : link.parent ≢ place
    parent_apart = not_parent place link (rw found linked)

    led : ◌≡◌ {A = ℕ} (cond (leads_to link.parent n.link) 1 0) 1
    led = rw linked (let e = eq-eqb link.parent link.parent refl in rw e refl)

    pub parent_lives : IsSome (stored_at mid link.parent)
    parent_lives = rw (others link.parent parent_apart) (tied.parents place link (rw found linked))

    pub parent_counts : (m : Node) → stored_at mid link.parent ≡ Some m → 0 < m.children
    parent_counts m parent =
        let was = others link.parent parent_apart in
        omega (arith, led, count_mid link.parent, tied.counted link.parent m (sym was ∙ parent))

    module _ (m : Node) (parent : stored_at mid link.parent ≡ Some m) where
      abbrev fewer : Node
      fewer = record m { children = m.children - 1 }

      abbrev new : List (Option Node)
      new = set mid link.parent (Some fewer)

      -- what is left, but for the parent's count
      same_but : (at : ℕ) → at ≢ link.parent → stored_at new at ≡ stored_at mid at
      same_but at differs = unwritten mid link.parent at fewer differs

      at_parent : stored_at new link.parent ≡ Some fewer
      at_parent = written_there mid link.parent m fewer parent

      there_new : (at : ℕ) → IsSome (stored_at mid at) → IsSome (stored_at new at)
      there_new at there =
          elim (cases_eq at link.parent) [
            | inl is ↦ rw (is, at_parent) refl
            | inr differs ↦ rw (same_but at differs) there
          ]

      pub tied_without : IsTied new
      tied_without = record {
        parents = λ at l e. there_new l.parent (parents_mid at l (sym (links_kept mid link.parent m fewer parent refl at) ∙ e));
        counted = λ at node e.
            let same = counts_kept mid link.parent m fewer parent refl at in
            elim (cases_eq at link.parent) [
              | inl is ↦
                  let is_fewer : Some node ≡ Some fewer = sym e ∙ ap (stored_at new) is ∙ at_parent in
                  let children : node.children ≡ m.children - 1 = cc in
                  let was = left_there link.parent (is_there (stored_at mid link.parent) m parent) in
                  let at_place : count_by (is_child_of at) mid ≡ count_by (is_child_of link.parent) mid = ap (λ (p : ℕ). count_by (is_child_of p) mid) is in
                  omega (arith, led, count_mid link.parent, tied.counted link.parent m (sym was.1 ∙ parent))
              | inr differs ↦
                  let e_mid : stored_at mid at ≡ Some node = sym (same_but at differs) ∙ e in
                  let was = left_there at (is_there (stored_at mid at) node e_mid) in
                  let unled : ◌≡◌ {A = ℕ} (cond (leads_to at n.link) 1 0) 0 = rw linked (let no = ne_eqb link.parent at (λ is. differs (sym is)) in rw no refl) in
                  omega (arith, unled, count_mid at, tied.counted at node (sym was.1 ∙ e_mid))
            ];
      }

      pub settled_without : IsSettledBut old (Some place) → IsSettledBut new (Some link.parent)
      settled_without settled = record {
        there = λ at e. let same : link.parent ≡ at = cc in rw (← same, at_parent) refl;
        settled = λ at node e but.
            let differs : at ≢ link.parent = λ is. but (ap Some (sym is)) in
            let e_mid : stored_at mid at ≡ Some node = sym (same_but at differs) ∙ e in
            let was = left_there at (is_there (stored_at mid at) node e_mid) in
            settled.settled at node (sym was.1 ∙ e_mid) (λ is. let same : place ≡ at = cc in was.0 (sym same));
      }

      pub left_of_both : IsLeftOf old new
      left_of_both = record {
        kept = λ at node e.
            elim (cases_eq at link.parent) [
              | inl is ↦
                  let is_fewer : Some node ≡ Some fewer = sym e ∙ ap (stored_at new) is ∙ at_parent in
                  let same : node ≡ fewer = cc in
                  let kept = left_of_freed.kept link.parent m parent in
                  rw (is, same) kept
              | inr differs ↦ left_of_freed.kept at node (sym (same_but at differs) ∙ e)
            ];
        freed = λ at node e none.
            let none_mid : stored_at mid at ≡ None = gone_mid at none in
            let was = left_of_freed.freed at node e none_mid in
            (was.0, λ child yes. gone_new child (was.1 child yes));
      }
        where
          gone_mid : (at : ℕ) → stored_at new at ≡ None → stored_at mid at ≡ None
          gone_mid at none =
              elim (cases_eq at link.parent) [
                | inl is ↦ let bad : None ≡ Some fewer = sym none ∙ ap (stored_at new) is ∙ at_parent in absurd (cc)
                | inr differs ↦ sym (same_but at differs) ∙ none
              ]

          gone_new : (at : ℕ) → stored_at mid at ≡ None → stored_at new at ≡ None
          gone_new at none =
              elim (cases_eq at link.parent) [
                | inl is ↦ let bad : None ≡ Some m = sym none ∙ ap (stored_at mid) is ∙ parent in absurd (cc)
                | inr differs ↦ same_but at differs ∙ none
              ]
