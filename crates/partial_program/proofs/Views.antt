-- What contracts see of the nodes in a slab.
use Rattle.std.proofs.Common.{◌≡◌, ℕ, ◌+◌, ◌<◌, Bool, List, length, Option, Some, None, IsSome, refl, sym, ap, ◌∙◌, inl, inr, true, arith}
use Rattle.std.specs.Option.{option_map, option_map_or, IsSomeAnd, IfSome}
use Rattle.program_model.specs.Program.{Program, with_line}
use Rattle.partial_program.specs.declared.node.Node.{Node}
use Rattle.partial_program.specs.declared.node.Link.{Link}
use Rattle.partial_program.specs.Chain.{LiveNode, node_at, IsChild, IsHeldOrParent, IsTree}
use Rattle.partial_program.specs.Inner.Nodes.{stored_at, link_of, is_child_of, program_by, program_at, live_node, live_nodes, face_of, IsChain}
use Rattle.partial_program.proofs.Slots.{some_value, is_there, mapped_at, count-some}
use Rattle.partial_program.proofs.Written.{defined, defined-with_line, program_by-kept, length-program_by}
use Rattle.partial_program.proofs.Ties.{linked_there, link_of_child}

pub mapped_value : {A B : Type 0} (f : A → B) (slot : Option A) (y : B) → option_map f slot ≡ Some y → (x : A) × (slot ≡ Some x) × (f x ≡ y)
mapped_value f None y e = absurd (cc)
mapped_value f (Some x) y e = (x, refl, cc)

pub mapped_none : {A B : Type 0} (f : A → B) (slot : Option A) → option_map f slot ≡ None → slot ≡ None
mapped_none f None e = refl
mapped_none f (Some x) e = absurd (cc)

pub some_and : {A : Type 0} (slot : Option A) (P : A → Type 0) → IsSomeAnd slot P → (x : A) × (slot ≡ Some x) × P x
some_and None P h = absurd h
some_and (Some x) P h = (x, refl, h)

-- how many lines the program of a node defines
abbrev pub defined_at : List (Option LiveNode) → ℕ → ℕ
defined_at nodes id = option_map_or (λ (node : LiveNode). defined node.program) (node_at nodes id) 0

module _ (lines : ℕ) where
  -- what contracts see at a link and a hold
  abbrev pub seen : List (Option Node) → Option Link × Bool → LiveNode
  seen slots face = record { program = program_by lines slots face.0 lines; parent = option_map (λ link. link.parent) face.0; is_held = face.1 }

  abbrev with_program : Node → Program → LiveNode
  with_program n program = record { program = program; parent = option_map (λ link. link.parent) n.link; is_held = n.is_held }

  pub node_at-live : (slots : List (Option Node)) (at : ℕ) → node_at (live_nodes lines slots) at ≡ option_map (live_node lines slots) (stored_at slots at)
  node_at-live slots at = mapped_at (live_node lines slots) slots at

  -- the node that is seen
  pub stored_node : (slots : List (Option Node)) (at : ℕ) (node : LiveNode) → node_at (live_nodes lines slots) at ≡ Some node → (n : Node) × (stored_at slots at ≡ Some n) × (live_node lines slots n ≡ node)
  stored_node slots at node e = mapped_value (live_node lines slots) (stored_at slots at) node (sym (node_at-live slots at) ∙ e)

  pub seen_node : (slots : List (Option Node)) (at : ℕ) (n : Node) → stored_at slots at ≡ Some n → node_at (live_nodes lines slots) at ≡ Some (live_node lines slots n)
  seen_node slots at n e = node_at-live slots at ∙ ap (option_map (live_node lines slots)) e

  -- the same where a clause speaks of it
  pub seen_as : (slots : List (Option Node)) (nodes : List (Option LiveNode)) (place id : ℕ) (n : Node) → live_nodes lines slots ≡ nodes → place ≡ id → stored_at slots place ≡ Some n → node_at nodes id ≡ Some (live_node lines slots n)
  seen_as slots nodes place id n is at found = ap (node_at nodes) (sym at) ∙ ap (λ (ns : List (Option LiveNode)). node_at ns place) (sym is) ∙ seen_node slots place n found

  -- nodes with the same links and holds are seen alike
  pub seen_alike : (a b : List (Option Node)) → ((at : ℕ) → IsSome (stored_at a at) → link_of (stored_at b at) ≡ link_of (stored_at a at)) → ((at : ℕ) (link : Link) → link_of (stored_at a at) ≡ Some link → IsSome (stored_at a link.parent)) → (one other : Option Node) → ((link : Link) → link_of one ≡ Some link → IsSome (stored_at a link.parent)) → option_map face_of other ≡ option_map face_of one → option_map (live_node lines b) other ≡ option_map (live_node lines a) one
  seen_alike a b same closed None None there e = refl
  seen_alike a b same closed None (Some y) there e = absurd (cc)
  seen_alike a b same closed (Some x) None there e = absurd (cc)
  seen_alike a b same closed (Some x) (Some y) there e =
      let faces : face_of y ≡ face_of x = cc in
      let program = program_by-kept lines a b same closed x.link there lines in
      ap (λ (face : Option Link × Bool). Some (seen b face)) faces
      ∙ ap (λ (q : Program). Some (with_program x q)) program

  pub there_stored : (slots : List (Option Node)) (at : ℕ) → IsSome (node_at (live_nodes lines slots) at) → IsSome (stored_at slots at)
  there_stored slots at there =
      let node = some_value (node_at (live_nodes lines slots) at) there in
      let n = stored_node slots at node.0 node.1 in
      is_there (stored_at slots at) n.0 n.1

  seen_child : (slots : List (Option Node)) (at child : ℕ) → is_child_of at (stored_at slots child) ≡ true → IsChild (live_nodes lines slots) at child
  seen_child slots at child linked =
      let link = link_of_child at (stored_at slots child) linked in
      let some = some_value (stored_at slots child) (linked_there (stored_at slots child) link.0 link.1) in
      let parent : option_map (λ (l : Link). l.parent) some.0.link ≡ Some at =
      ap (λ (slot : Option Node). option_map (λ (l : Link). l.parent) (link_of slot)) (sym some.1)
      ∙ ap (option_map (λ (l : Link). l.parent)) link.1 ∙ ap Some link.2 in
      rw (seen_node slots child some.0 some.1) parent

  -- each node of a chain is held or has a child
  pub seen_settled : (root : ℕ) (slots : List (Option Node)) → IsChain lines root slots → (at : ℕ) → IsSome (node_at (live_nodes lines slots) at) → IsHeldOrParent (live_nodes lines slots) at
  seen_settled root slots chain at there =
      let n = some_value (stored_at slots at) (there_stored slots at there) in
      elim (chain.settled.settled at n.0 n.1 (λ bad. absurd (cc))) [
        | inl is_held ↦ inl (rw (seen_node slots at n.0 n.1) is_held)
        | inr some ↦
            let counted = chain.tied.counted at n.0 n.1 in
            let child = count-some (is_child_of at) refl slots (omega arith) in
            inr (child.0, seen_child slots at child.0 child.1)
      ]

  -- ---- a node and its parent

  module _ (root : ℕ) (slots : List (Option Node)) (chain : IsChain lines root slots) (at : ℕ) (n : Node) (found : stored_at slots at ≡ Some n) (link : Link) (linked : n.link ≡ Some link) where
    link_there : link_of (stored_at slots at) ≡ Some link
    link_there = rw found linked

    parent_node : (m : Node) × (stored_at slots link.parent ≡ Some m)
    parent_node = some_value (stored_at slots link.parent) (chain.tied.parents at link link_there)

    -- its program is its parent's with one line more
    program_more : (m : Node) → stored_at slots link.parent ≡ Some m → program_by lines slots n.link lines ≡ with_line (program_by lines slots m.link lines) link.line link.instr
    program_more m is =
        ap (λ (o : Option Link). program_by lines slots o lines) linked
        ∙ (chain.written at link link_there).is_more
        ∙ ap (λ (slot : Option Node). with_line (program_by lines slots (link_of slot) lines) link.line link.instr) is

    fewer_defined : (m : Node) → stored_at slots link.parent ≡ Some m → defined (program_by lines slots m.link lines) < defined (program_by lines slots n.link lines)
    fewer_defined m is =
        let w = chain.written at link link_there in
        let parent = program_at lines slots link.parent in
        let is_parent : parent ≡ program_by lines slots m.link lines = ap (λ (slot : Option Node). program_by lines slots (link_of slot) lines) is in
        omega (
          arith,
          ap (λ (o : Option Link). defined (program_by lines slots o lines)) linked,
          ap defined w.is_more,
          defined-with_line parent link.line link.instr w.is_open,
          ap defined is_parent,
        )

    -- the same in what contracts see
    module _ (nodes : List (Option LiveNode)) (id : ℕ) (is : live_nodes lines slots ≡ nodes) (at_id : at ≡ id) where
      parent_seen : node_at nodes link.parent ≡ Some (live_node lines slots parent_node.0)
      parent_seen = seen_as slots nodes link.parent link.parent parent_node.0 is refl parent_node.1

      child_seen : node_at nodes id ≡ Some (live_node lines slots n)
      child_seen = seen_as slots nodes at id n is at_id found

      pub parent_lives : IsSome (node_at nodes link.parent)
      parent_lives = rw parent_seen refl

      pub parent_before : defined_at nodes link.parent < defined_at nodes id
      parent_before = rw (parent_seen, child_seen) (fewer_defined parent_node.0 parent_node.1)

      -- once the parent's program is written
      module _ (program : Program) (parent_written : IfSome (node_at nodes link.parent) (λ node. program ≡ node.program)) where
        program_is : program ≡ program_by lines slots parent_node.0.link lines
        program_is = rw parent_seen at parent_written

        pub line_within : link.line + 1 < length program
        line_within =
            let inner = (chain.written at link link_there).is_inner in
            omega (arith, inner, ap length program_is, length-program_by lines chain.some slots parent_node.0.link lines)

        pub child_written : (last : Program) → last ≡ with_line program link.line link.instr → IfSome (node_at nodes id) (λ node. last ≡ node.program)
        child_written last last_is =
            rw child_seen
            (last_is ∙ ap (λ (q : Program). with_line q link.line link.instr) program_is ∙ sym (program_more parent_node.0 parent_node.1))

  -- a chain is a tree
  pub seen_tree : (root spare : ℕ) (slots : List (Option Node)) → IsChain lines root slots → IsTree (record { nodes = live_nodes lines slots; root = root; spare = spare })
  seen_tree root spare slots chain = record {
    rooted = λ id node e none.
        let n = stored_node slots id node e in
        chain.rooted id n.0 n.1 (mapped_none (λ (l : Link). l.parent) n.0.link (ap (λ (seen : LiveNode). seen.parent) n.2 ∙ none));
    linked = λ id parent node e is.
        let n = stored_node slots id node e in
        let link = mapped_value (λ (l : Link). l.parent) n.0.link parent (ap (λ (seen : LiveNode). seen.parent) n.2 ∙ is) in
        let m = parent_node root slots chain id n.0 n.1 link.0 link.1 in
        let w = chain.written id link.0 (ap link_of n.1 ∙ link.1) in
        let at_parent : node_at (live_nodes lines slots) parent ≡ Some (live_node lines slots m.0) =
        ap (node_at (live_nodes lines slots)) (sym link.2) ∙ seen_node slots link.0.parent m.0 m.1 in
        let program : node.program ≡ program_by lines slots n.0.link lines = ap (λ (seen : LiveNode). seen.program) (sym n.2) in
        rw at_parent (
          link.0.line,
          link.0.instr,
          rw m.1 at w.is_open,
          program ∙ program_more root slots chain id n.0 n.1 link.0 link.1 m.0 m.1,
        );
    settled = λ id there. seen_settled root slots chain id there;
  }
