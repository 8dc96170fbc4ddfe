-- A new chain, and a new child.
use Rattle.std.proofs.Common.{◌≡◌, ◌≢◌, ◌⊎◌, ℕ, ◌+◌, ◌<◌, ◌≤◌, ◌==◌, true, List, [], set, Option, Some, None, IsSome, cond, count_by, refl, sym, ap, ◌∙◌, inl, inr, arith}
use Rattle.std.specs.Option.{option_map}
use Rattle.std.proofs.lemmas.Bool.{cases_eq, cases_lt, eq-eqb, ne_eqb}
use Rattle.program_model.specs.declared.alphabet.TheConstants.{MAX_LINES}
use Rattle.program_model.specs.Program.{Program, with_line, IsOpen}
use Rattle.partial_program.specs.declared.node.Node.{Node}
use Rattle.partial_program.specs.declared.node.Link.{Link}
use Rattle.partial_program.specs.Chain.{LiveNode, node_at, Becomes, child_of}
use Rattle.partial_program.specs.Inner.Nodes.{stored_at, link_of, is_child_of, program_by, live_node, live_nodes, IsWritten, IsChain, face_of}
use Rattle.partial_program.proofs.Slots.{some_value, is_there, count-changed, count-some}
use Rattle.partial_program.proofs.Written.{written_beyond, to_more, program_at-kept}
use Rattle.partial_program.proofs.Ties.{linked_there, link_of_child, written_there, unwritten, links_kept, counts_kept}
use Rattle.partial_program.proofs.Views.{node_at-live, seen_alike}

-- the root of a new chain
abbrev pub new_root : Node
new_root = record { link = None; is_held = true; children = 0 }

abbrev pub new_child : Link → Node
new_child link = record { link = Some link; is_held = true; children = 0 }

module _ (lines : ℕ) (old new : List (Option Node)) (place : ℕ) (empty : old ≡ []) (made : stored_at new place ≡ Some new_root) (others : (other : ℕ) → other ≢ place → stored_at new other ≡ stored_at old other) where
  vacant : (other : ℕ) → stored_at old other ≡ None
  vacant other = rw empty refl

  only_root : (at : ℕ) (node : Node) → stored_at new at ≡ Some node → (at ≡ place) × (node ≡ new_root)
  only_root at node e =
      elim (cases_eq at place) [
        | inl is ↦ let both : Some node ≡ Some new_root = sym e ∙ ap (stored_at new) is ∙ made in (is, cc)
        | inr differs ↦ let bad : Some node ≡ None = sym e ∙ others at differs ∙ vacant at in absurd (cc)
      ]

  no_link : (at : ℕ) (link : Link) → link_of (stored_at new at) ≡ Some link → ⊥
  no_link at link e =
      let some = some_value (stored_at new at) (linked_there (stored_at new at) link e) in
      let root = only_root at some.0 some.1 in
      let bad : None ≡ Some link = ap (λ (n : Node). n.link) (sym root.1) ∙ ap link_of (sym some.1) ∙ e in
      absurd (cc)

  pub chain_of_root : 0 < lines → lines ≤ MAX_LINES → IsChain lines place new
  chain_of_root some few = record {
    some = some;
    few = few;
    rooted = λ at node e _. (only_root at node e).0;
    tied = record {
      parents = λ at link e. absurd (no_link at link e);
      counted = λ at node e.
          let root = only_root at node e in
          omega (
            arith,
            ap (λ (n : Node). n.children) root.1,
            count-changed (is_child_of at) refl place old new others,
            ap {B = ℕ} (λ (slot : Option Node). cond (is_child_of at slot) 1 0) made,
            ap {B = ℕ} (λ (slot : Option Node). cond (is_child_of at slot) 1 0) (vacant place),
            ap (count_by (is_child_of at)) empty,
          );
    };
    settled = record {
      there = λ at e. absurd (cc);
      settled = λ at node e _. let root = only_root at node e in inl (ap (λ (n : Node). n.is_held) root.1);
    };
    written = λ at link e. absurd (no_link at link e);
  }

  pub root_alone : (other : ℕ) → other ≢ place → node_at (live_nodes lines new) other ≡ None
  root_alone other differs = node_at-live lines new other ∙ ap (option_map (live_node lines new)) (others other differs ∙ vacant other)

-- a node with one child more
abbrev pub with_child : Node → Node
with_child n = record n { children = n.children + 1 }

module _ (lines root : ℕ) (old new : List (Option Node)) (place : ℕ) (link : Link) (n : Node) (chain : IsChain lines root old) (parent : stored_at old link.parent ≡ Some n) (vacant : stored_at (set old link.parent (Some (with_child n))) place ≡ None) (made : stored_at new place ≡ Some (new_child link)) (others : (other : ℕ) → other ≢ place → stored_at new other ≡ stored_at (set old link.parent (Some (with_child n))) other) where
  abbrev more : Node
  more = with_child n

  -- the parent has counted the child, which is not there yet
  abbrev mid : List (Option Node)
  mid = set old link.parent (Some more)

  at_parent : stored_at mid link.parent ≡ Some more
  at_parent = written_there old link.parent n more parent

  mid_other : (at : ℕ) → at ≢ link.parent → stored_at mid at ≡ stored_at old at
  mid_other at differs = unwritten old link.parent at more differs

  apart : link.parent ≢ place
  apart is = let bad : Some more ≡ None = sym at_parent ∙ ap (stored_at mid) is ∙ vacant in absurd (cc)

  was_vacant : stored_at old place ≡ None
  was_vacant = sym (mid_other place (λ is. apart (sym is))) ∙ vacant

  not_place : (at : ℕ) → IsSome (stored_at old at) → at ≢ place
  not_place at there is =
      let some = some_value (stored_at old at) there in
      let bad : None ≡ Some some.0 = sym was_vacant ∙ ap (stored_at old) (sym is) ∙ some.1 in
      absurd (cc)

  there_new : (at : ℕ) → IsSome (stored_at old at) → IsSome (stored_at new at)
  there_new at there =
      let differs = not_place at there in
      elim (cases_eq at link.parent) [
        | inl is ↦ rw (others at differs, is, at_parent) refl
        | inr away ↦ rw (others at differs, mid_other at away) there
      ]

  links_old : (at : ℕ) → at ≢ place → link_of (stored_at new at) ≡ link_of (stored_at old at)
  links_old at differs = ap link_of (others at differs) ∙ links_kept old link.parent n more parent refl at

  same : (at : ℕ) → IsSome (stored_at old at) → link_of (stored_at new at) ≡ link_of (stored_at old at)
  same at there = links_old at (not_place at there)

  count_new : (at : ℕ) → count_by (is_child_of at) new ≡ count_by (is_child_of at) old + cond (link.parent == at) 1 0
  count_new at =
      omega (
        arith,
        count-changed (is_child_of at) refl place mid new others,
        ap {B = ℕ} (λ (slot : Option Node). cond (is_child_of at slot) 1 0) made,
        ap {B = ℕ} (λ (slot : Option Node). cond (is_child_of at slot) 1 0) vacant,
        counts_kept old link.parent n more parent refl at,
      )

  unled : (at : ℕ) → link.parent ≢ at → ◌≡◌ {A = ℕ} (cond (link.parent == at) 1 0) 0
  unled at differs = let no = ne_eqb link.parent at differs in rw no refl

  led : (at : ℕ) → link.parent ≡ at → ◌≡◌ {A = ℕ} (cond (link.parent == at) 1 0) 1
  led at is = let yes = eq-eqb link.parent at is in rw yes refl

  no_child : count_by (is_child_of place) old ≡ 0
  no_child =
      elim (cases_lt 0 (count_by (is_child_of place) old)) [
        | inl some ↦
            let one = count-some (is_child_of place) refl old some in
            let l = link_of_child place (stored_at old one.0) one.1 in
            absurd (not_place l.0.parent (chain.tied.parents one.0 l.0 l.1) l.2)
        | inr none ↦ omega arith
      ]

  -- what stands at a place: the child, its parent with one more, or what was there
  pub data Stands (at : ℕ) (node : Node) : Type 0 where
    is_child : at ≡ place → node ≡ new_child link → Stands at node
    is_parent : at ≡ link.parent → node ≡ more → Stands at node
    as_before : at ≢ place → at ≢ link.parent → stored_at old at ≡ Some node → Stands at node

  stands : (at : ℕ) (node : Node) → stored_at new at ≡ Some node → Stands at node
  stands at node e =
      elim (cases_eq at place) [
        | inl is ↦ let both : Some node ≡ Some (new_child link) = sym e ∙ ap (stored_at new) is ∙ made in is_child is (cc)
        | inr differs ↦ elim (cases_eq at link.parent) [
          | inl is ↦ let both : Some node ≡ Some more = sym e ∙ others at differs ∙ ap (stored_at mid) is ∙ at_parent in is_parent is (cc)
          | inr away ↦ as_before differs away (sym (others at differs ∙ mid_other at away) ∙ e)
        ]
      ]

  counted_new : (at : ℕ) (node : Node) → Stands at node → node.children ≡ count_by (is_child_of at) new
  counted_new at node (is_child is new_is) =
      omega (arith, ap (λ (m : Node). m.children) new_is, count_new at, unled at (λ e. apart (e ∙ is)), no_child, ap (λ (p : ℕ). count_by (is_child_of p) old) is)
  counted_new at node (is_parent is more_is) =
      omega (arith, ap (λ (m : Node). m.children) more_is, count_new at, led at (sym is), chain.tied.counted link.parent n parent, ap (λ (p : ℕ). count_by (is_child_of p) old) is)
  counted_new at node (as_before differs away e) =
      omega (arith, count_new at, unled at (λ is. away (sym is)), chain.tied.counted at node e)

  settled_new : (at : ℕ) (node : Node) → Stands at node → (node.is_held ≡ true) ⊎ (0 < node.children)
  settled_new at node (is_child is new_is) = inl (ap (λ (m : Node). m.is_held) new_is)
  settled_new at node (is_parent is more_is) = let children = ap (λ (m : Node). m.children) more_is in inr (omega (arith, children))
  settled_new at node (as_before differs away e) = chain.settled.settled at node e (λ bad. absurd (cc))

  rooted_new : (at : ℕ) (node : Node) → Stands at node → node.link ≡ None → at ≡ root
  rooted_new at node (is_child is new_is) none = let bad : Some link ≡ None = ap (λ (m : Node). m.link) (sym new_is) ∙ none in absurd (cc)
  rooted_new at node (is_parent is more_is) none = is ∙ chain.rooted link.parent n parent (ap (λ (m : Node). m.link) (sym more_is) ∙ none)
  rooted_new at node (as_before differs away e) none = chain.rooted at node e none

  -- each link of the new slab is the new one, or was there
  data Linked (l : Link) : Type 0 where
    is_new : l ≡ link → Linked l
    was_there : (at : ℕ) → link_of (stored_at old at) ≡ Some l → Linked l

  linked : (at : ℕ) (l : Link) → link_of (stored_at new at) ≡ Some l → Linked l
  linked at l e =
      elim (cases_eq at place) [
        | inl is ↦ let both : Some l ≡ Some link = sym e ∙ ap (λ (p : ℕ). link_of (stored_at new p)) is ∙ ap link_of made in is_new (cc)
        | inr differs ↦ was_there at (sym (links_old at differs) ∙ e)
      ]

  parents_new : (l : Link) → Linked l → IsSome (stored_at new l.parent)
  parents_new l (is_new is) = rw is (there_new link.parent (is_there (stored_at old link.parent) n parent))
  parents_new l (was_there at e) = there_new l.parent (chain.tied.parents at l e)

  module _ (here : IsOpen (program_by lines old n.link lines) link.line) where
    written_link : IsWritten lines new link
    written_link =
        to_more lines old new same chain.tied.parents link (is_there (stored_at old link.parent) n parent)
        (written_beyond lines old link chain.some chain.written (rw parent here))

    written_new : (l : Link) → Linked l → IsWritten lines new l
    written_new l (is_new is) = rw is written_link
    written_new l (was_there at e) = to_more lines old new same chain.tied.parents l (chain.tied.parents at l e) (chain.written at l e)

    pub chain_of_child : IsChain lines root new
    chain_of_child = record {
      some = chain.some;
      few = chain.few;
      rooted = λ at node e none. rooted_new at node (stands at node e) none;
      tied = record {
        parents = λ at l e. parents_new l (linked at l e);
        counted = λ at node e. counted_new at node (stands at node e);
      };
      settled = record {
        there = λ at e. absurd (cc);
        settled = λ at node e _. settled_new at node (stands at node e);
      };
      written = λ at l e. written_new l (linked at l e);
    }

    program_new : program_by lines new (Some link) lines ≡ with_line (program_by lines old n.link lines) link.line link.instr
    program_new =
        written_link.is_more
        ∙ ap (λ (q : Program). with_line q link.line link.instr) (program_at-kept lines old new same chain.tied.parents link.parent (is_there (stored_at old link.parent) n parent))
        ∙ ap (λ (slot : Option Node). with_line (program_by lines old (link_of slot) lines) link.line link.instr) parent

    faces : (at : ℕ) → at ≢ place → option_map face_of (stored_at new at) ≡ option_map face_of (stored_at old at)
    faces at differs =
        elim (cases_eq at link.parent) [
          | inl is ↦ ap (option_map face_of) (others at differs ∙ ap (stored_at mid) is ∙ at_parent) ∙ ap (option_map face_of) (sym parent ∙ ap (stored_at old) (sym is))
          | inr away ↦ ap (option_map face_of) (others at differs ∙ mid_other at away)
        ]

    abbrev seen_child : Program → LiveNode
    seen_child q = record { program = q; parent = Some link.parent; is_held = true }

    pub becomes_child : Becomes (live_nodes lines old) (live_nodes lines new) place (child_of link.parent (live_node lines old n) link.line link.instr)
    becomes_child = record {
      made = node_at-live lines new place ∙ ap (option_map (live_node lines new)) made ∙ ap (λ (q : Program). Some (seen_child q)) program_new;
      others = λ at differs.
          node_at-live lines new at
          ∙ seen_alike lines old new same chain.tied.parents (stored_at old at) (stored_at new at) (chain.tied.parents at) (faces at differs)
          ∙ sym (node_at-live lines old at);
    }

  pub fresh_place : node_at (live_nodes lines old) place ≡ None
  fresh_place = node_at-live lines old place ∙ ap (option_map (live_node lines old)) was_vacant
