-- Programs that wait share their runs, and are seen by those.
use Rattle.std.proofs.Common.{◌≡◌, ◌≢◌, ℕ, ◌+◌, ◌≤◌, true, false, List, [], length, get_or, Option, Some, None, is_some, count_by, refl, sym, ap, ◌∙◌, inl, inr, arith}
use Rattle.std.specs.Option.{option_map}
use Rattle.std.proofs.lemmas.Bool.{cases_eq}
use Rattle.std.proofs.lemmas.List.{get_or-set_same, get_or-set_other}
use Rattle.program_model.specs.declared.instr.Instr.{Instr}
use Rattle.program_model.specs.Program.{with_line}
use Rattle.interpreter.specs.declared.run.Run.{Run}
use Rattle.state_pool.specs.declared.held.Held.{Held}
use Rattle.state_pool.specs.Pool.{Pool, count_of, value_at, count_at}
use Rattle.partial_program.specs.Chain.{LiveNode, node_at, IsHeld, root_of, given_up, without_hold, IsPruned, Becomes as NodeBecomes, child_of as node_of}
use Rattle.partial_program.proofs.Slots.{is_there, mapped_at, count-mapped}
use Rattle.partial_program.proofs.Views.{some_and}
use Rattle.waiting_programs.specs.declared.kept.Kept.{Kept}
use Rattle.waiting_programs.specs.Programs.{Waiting, kept_at, kept_count, Becomes, with_runs, child_of}
use Rattle.waiting_programs.specs.Inner.Holds.{times, AreDistinct, values_at, AreHeld, Exchanges}
use Rattle.waiting_programs.specs.Inner.Sharing.{program_of, slots_of, named, stored_at, seen_of, seen, AreShared}
use Rattle.waiting_programs.proofs.Times.{length_found}
use Rattle.waiting_programs.proofs.Exchanging.{have_values, values_stay}
use Rattle.waiting_programs.proofs.Stored.{within, sum-changed, named_at, named_few}

module _ {C : Type 0} (nodes : List (Option LiveNode)) (pool : Pool (Run C)) (kept : List (Option Kept)) where
  seen_at : (id : ℕ) → kept_at (seen nodes pool kept) id ≡ option_map (seen_of nodes pool) (stored_at kept id)
  seen_at id = mapped_at (seen_of nodes pool) kept id

  pub seen_count : kept_count (seen nodes pool kept) ≡ count_by is_some kept
  seen_count = count-mapped (seen_of nodes pool) kept

  -- a program that is kept, where a clause speaks of it
  pub seen_as : (waiting : List (Option (Waiting C))) (place id : ℕ) (one : Kept) → seen nodes pool kept ≡ waiting → place ≡ id → stored_at kept place ≡ Some one → kept_at waiting id ≡ Some (seen_of nodes pool one)
  seen_as waiting place id one is at found =
      ap (kept_at waiting) (sym at) ∙ ap (λ (w : List (Option (Waiting C))). kept_at w place) (sym is) ∙ seen_at place ∙ ap (option_map (seen_of nodes pool)) found

  pub unseen : (place : ℕ) → stored_at kept place ≡ None → kept_at (seen nodes pool kept) place ≡ None
  unseen place vacant = seen_at place ∙ ap (option_map (seen_of nodes pool)) vacant

  module _ (shared : AreShared nodes pool kept) where
    -- no run is held more often than there are programs
    pub few_holds : (slot : ℕ) → count_at pool slot ≤ kept_count (seen nodes pool kept)
    few_holds slot = omega (arith, shared.counted slot, named_few kept slot shared.once, seen_count)

    module _ (at : ℕ) (one : Kept) (found : stored_at kept at ≡ Some one) where
      pub held_slots : AreHeld pool one.slots.items
      held_slots slot = omega (arith, shared.counted slot, named_at kept at one slot found)

      pub run_count : length (values_at pool one.slots.items) ≡ length one.slots.items
      run_count = length_found (value_at pool) one.slots.items (have_values pool one.slots.items held_slots)

      pub held_node : (n : LiveNode) × (node_at nodes one.node ≡ Some n) × (n.is_held ≡ true)
      held_node = some_and (node_at nodes one.node) (λ n. n.is_held ≡ true) (shared.held at one found)

-- nothing is kept, and nothing held
none_shared : {C : Type 0} → AreShared {C = C} [] (record { slots = []; spare = 0 }) []
none_shared {C} = record {
  held = λ at one found. absurd (cc);
  own = λ at other one two found found_other same. absurd (cc);
  only = λ id held. absurd held;
  counted = λ slot. refl;
  once = λ at one found. absurd (cc);
}

-- more room changes nothing else
pub shared_same : {C : Type 0} (nodes nodes' : List (Option LiveNode)) (pool pool' : Pool (Run C)) (kept kept' : List (Option Kept)) → AreShared nodes pool kept → nodes' ≡ nodes → pool'.slots ≡ pool.slots → kept' ≡ kept → AreShared nodes' pool' kept'
shared_same {C} nodes nodes' pool pool' kept kept' shared same_nodes same_slots same_kept =
    rw (same_nodes, same_kept) (record {
      held = shared.held;
      own = shared.own;
      only = shared.only;
      counted = λ slot. ap (λ (slots : List (Option (Held (Run C)))). count_of (get_or slots slot None)) same_slots ∙ shared.counted slot;
      once = shared.once;
    })

-- programs that are kept have their nodes and runs as before
module _ {C : Type 0} (nodes nodes' : List (Option LiveNode)) (pool pool' : Pool (Run C)) where
  seen_alike : (one : Kept) → node_at nodes' one.node ≡ node_at nodes one.node → values_at pool' one.slots.items ≡ values_at pool one.slots.items → seen_of nodes' pool' one ≡ seen_of nodes pool one
  seen_alike one node values = rw (node, values) refl

  alike_at : (here there : Option Kept) → there ≡ here → ((one : Kept) → here ≡ Some one → seen_of nodes' pool' one ≡ seen_of nodes pool one) → option_map (seen_of nodes' pool') there ≡ option_map (seen_of nodes pool) here
  alike_at None there is alike = rw is refl
  alike_at (Some one) there is alike = rw is (ap Some (alike one refl))

-- a program is added, with a node of its own and slots that are held once more
module _ {C : Type 0} (nodes nodes' : List (Option LiveNode)) (pool pool' : Pool (Run C)) (kept kept' : List (Option Kept)) (place : ℕ) (one : Kept) (node : LiveNode) (shared : AreShared nodes pool kept) (fresh : node_at nodes one.node ≡ None) (made : NodeBecomes nodes nodes' one.node node) (is_held : node.is_held ≡ true) (exchanged : Exchanges pool pool' [] one.slots.items) (distinct : AreDistinct one.slots.items) (vacant : stored_at kept place ≡ None) (here : stored_at kept' place ≡ Some one) (others : (other : ℕ) → other ≢ place → stored_at kept' other ≡ stored_at kept other) where
  not_fresh : (id : ℕ) → IsHeld nodes id → id ≢ one.node
  not_fresh id held is =
      let n = some_and (node_at nodes id) (λ n. n.is_held ≡ true) held in
      let bad : Some n.0 ≡ None = sym n.1 ∙ ap (node_at nodes) is ∙ fresh in
      absurd (cc)

  -- what is kept: the new one, or one that was there
  data Stands (at : ℕ) (other : Kept) : Type 0 where
    is_new : at ≡ place → other ≡ one → Stands at other
    was_there : at ≢ place → stored_at kept at ≡ Some other → Stands at other

  stands : (at : ℕ) (other : Kept) → stored_at kept' at ≡ Some other → Stands at other
  stands at other found =
      elim (cases_eq at place) [
        | inl is ↦ let both : Some other ≡ Some one = sym found ∙ ap (stored_at kept') is ∙ here in is_new is (cc)
        | inr differs ↦ was_there differs (sym (others at differs) ∙ found)
      ]

  held_new : (at : ℕ) (other : Kept) → Stands at other → IsHeld nodes' other.node
  held_new at other (is_new is same) = rw (same, made.made) is_held
  held_new at other (was_there differs found) =
      let held = shared.held at other found in
      rw (made.others other.node (not_fresh other.node held)) held

  own_new : (at place' : ℕ) (other two : Kept) → Stands at other → Stands place' two → other.node ≡ two.node → at ≡ place'
  own_new at place' other two (is_new is same) (is_new is' same') e = is ∙ sym is'
  own_new at place' other two (is_new is same) (was_there differs found) e =
      absurd (not_fresh two.node (shared.held place' two found) (sym e ∙ ap (λ (k : Kept). k.node) same))
  own_new at place' other two (was_there differs found) (is_new is same) e =
      absurd (not_fresh other.node (shared.held at other found) (e ∙ ap (λ (k : Kept). k.node) same))
  own_new at place' other two (was_there differs found) (was_there differs' found') e = shared.own at place' other two found found' e

  once_new : (at : ℕ) (other : Kept) → Stands at other → AreDistinct other.slots.items
  once_new at other (is_new is same) = rw same distinct
  once_new at other (was_there differs found) = shared.once at other found

  only_new : (id : ℕ) → IsHeld nodes' id → (at : ℕ) × (other : Kept) × (stored_at kept' at ≡ Some other) × (other.node ≡ id)
  only_new id held =
      elim (cases_eq id one.node) [
        | inl is ↦ (place, one, here, sym is)
        | inr differs ↦
            let was = shared.only id (rw (made.others id differs) at held) in
            let apart : was.0 ≢ place = λ is. let bad : Some was.1 ≡ None = sym was.2 ∙ ap (stored_at kept) is ∙ vacant in absurd (cc) in
            (was.0, was.1, others was.0 apart ∙ was.2, was.3)
      ]

  pub shared_added : AreShared nodes' pool' kept'
  shared_added = record {
    held = λ at other found. held_new at other (stands at other found);
    own = λ at place' other two found found' e. own_new at place' other two (stands at other found) (stands place' two found') e;
    only = only_new;
    counted = λ slot.
        omega (
          arith,
          shared.counted slot,
          exchanged.counts slot,
          sum-changed (λ o. times slot (slots_of o)) refl place kept kept' others,
          ap (λ o. times slot (slots_of o)) here,
          ap (λ o. times slot (slots_of o)) vacant,
        );
    once = λ at other found. once_new at other (stands at other found);
  }

  kept_alike : (at : ℕ) (other : Kept) → stored_at kept at ≡ Some other → seen_of nodes' pool' other ≡ seen_of nodes pool other
  kept_alike at other found =
      seen_alike nodes nodes' pool pool' other
      (made.others other.node (not_fresh other.node (shared.held at other found)))
      (values_stay pool pool' [] one.slots.items other.slots.items exchanged (λ slot. omega (arith, held_slots nodes pool kept shared at other found slot)))

  becomes_added : Becomes (seen nodes pool kept) (seen nodes' pool' kept') place (Some (record { program = node.program; runs = values_at pool' one.slots.items }))
  becomes_added = record {
    here = seen_at nodes' pool' kept' place ∙ ap (option_map (seen_of nodes' pool')) here ∙ rw made.made refl;
    others = λ other differs.
        seen_at nodes' pool' kept' other
        ∙ alike_at nodes nodes' pool pool' (stored_at kept other) (stored_at kept' other) (others other differs) (kept_alike other)
        ∙ sym (seen_at nodes pool kept other);
  }

  -- the child of a program, where the node is a child and the runs are those of the parent, but for some
  pub becomes_child : (above : Kept) (n : LiveNode) (line : ℕ) (instr : Instr) (moved : List (Run C)) → node_at nodes above.node ≡ Some n → node ≡ node_of above.node n line instr → values_at pool' one.slots.items ≡ with_runs (values_at pool above.slots.items) moved → Becomes (seen nodes pool kept) (seen nodes' pool' kept') place (Some (child_of (seen_of nodes pool above) line instr moved))
  becomes_child above n line instr moved parent is runs =
      let program : node.program ≡ with_line n.program line instr = ap (λ (m : LiveNode). m.program) is in
      rw (parent, ← runs, ← program) becomes_added

-- the first program is added to none, with the root of a new chain
module _ {C : Type 0} (lines : ℕ) (nodes : List (Option LiveNode)) (pool : Pool (Run C)) (old kept : List (Option Kept)) (place : ℕ) (one : Kept) (root : node_at nodes one.node ≡ Some (root_of lines)) (alone : (other : ℕ) → other ≢ one.node → node_at nodes other ≡ None) (counts : (slot : ℕ) → count_at pool slot ≡ times slot one.slots.items) (distinct : AreDistinct one.slots.items) (empty : old ≡ []) (here : stored_at kept place ≡ Some one) (others : (other : ℕ) → other ≢ place → stored_at kept other ≡ stored_at old other) where
  abbrev no_pool : Pool (Run C)
  no_pool = record { slots = []; spare = 0 }

  root_made : NodeBecomes [] nodes one.node (root_of lines)
  root_made = record { made = root; others = alone }

  first_taken : Exchanges no_pool pool [] one.slots.items
  first_taken = record { counts = λ slot. omega (arith, counts slot); values = λ slot more. absurd (omega (arith, more)) }

  none_others : (other : ℕ) → other ≢ place → stored_at kept other ≡ None
  none_others other differs = others other differs ∙ ap (λ (slots : List (Option Kept)). stored_at slots other) empty

  pub shared_first : AreShared nodes pool kept
  shared_first = shared_added [] nodes no_pool pool [] kept place one (root_of lines) none_shared refl root_made refl first_taken distinct refl here none_others

  pub becomes_first : Becomes {C = C} [] (seen nodes pool kept) place (Some (record { program = program_of (Some (root_of lines)); runs = values_at pool one.slots.items }))
  becomes_first = becomes_added [] nodes no_pool pool [] kept place one (root_of lines) none_shared refl root_made refl first_taken distinct refl here none_others

-- a program is given up, with its node and as many holds of its slots as it had
module _ {C : Type 0} (nodes nodes' : List (Option LiveNode)) (pool pool' : Pool (Run C)) (kept kept' : List (Option Kept)) (place : ℕ) (one : Kept) (shared : AreShared nodes pool kept) (was : stored_at kept place ≡ Some one) (gone : stored_at kept' place ≡ None) (others : (other : ℕ) → other ≢ place → stored_at kept' other ≡ stored_at kept other) (pruned : IsPruned (given_up nodes one.node) nodes') (exchanged : Exchanges pool pool' one.slots.items []) where
  -- what is kept was there
  found_before : (at : ℕ) (other : Kept) → stored_at kept' at ≡ Some other → (at ≢ place) × (stored_at kept at ≡ Some other)
  found_before at other found =
      let differs : at ≢ place = λ is. let bad : Some other ≡ None = sym found ∙ ap (stored_at kept') is ∙ gone in absurd (cc) in
      (differs, sym (others at differs) ∙ found)

  -- the node of another program is another
  other_node : (at : ℕ) (other : Kept) → at ≢ place → stored_at kept at ≡ Some other → other.node ≢ one.node
  other_node at other differs found same = differs (shared.own at place other one found was same)

  mid_other : (id : ℕ) → id ≢ one.node → node_at (given_up nodes one.node) id ≡ node_at nodes id
  mid_other id differs = get_or-set_other nodes one.node id (option_map without_hold (node_at nodes one.node)) None differs

  held_here : (n : LiveNode) × (node_at nodes one.node ≡ Some n) × (n.is_held ≡ true)
  held_here = held_node nodes pool kept shared place one was

  mid_here : node_at (given_up nodes one.node) one.node ≡ Some (without_hold held_here.0)
  mid_here =
      get_or-set_same nodes one.node (option_map without_hold (node_at nodes one.node)) None (within nodes one.node held_here.0 held_here.1)
      ∙ ap (option_map without_hold) held_here.1

  -- a node that is held stays, but for the one that is given up
  node_stays : (id : ℕ) → id ≢ one.node → IsHeld nodes id → node_at nodes' id ≡ node_at nodes id
  node_stays id differs held = by (node_at nodes' id) refl
    where
      n : (n : LiveNode) × (node_at nodes id ≡ Some n) × (n.is_held ≡ true)
      n = some_and (node_at nodes id) (λ n. n.is_held ≡ true) held

      by : (left : Option LiveNode) → node_at nodes' id ≡ left → node_at nodes' id ≡ node_at nodes id
      by None e =
          let freed = pruned.freed id n.0 (mid_other id differs ∙ n.1) e in
          let bad : true ≡ false = sym n.2 ∙ freed.0 in
          absurd (cc)
      by (Some m) e = pruned.kept id (is_there (node_at nodes' id) m e) ∙ mid_other id differs

  -- a node that is held now was held, and is another
  was_held : (id : ℕ) → IsHeld nodes' id → (id ≢ one.node) × IsHeld nodes id
  was_held id held =
      let m = some_and (node_at nodes' id) (λ n. n.is_held ≡ true) held in
      let mid = pruned.kept id (is_there (node_at nodes' id) m.0 m.1) in
      let differs : id ≢ one.node = λ is.
      let both : Some m.0 ≡ Some (without_hold held_here.0) = sym m.1 ∙ mid ∙ ap (node_at (given_up nodes one.node)) is ∙ mid_here in
      let same : m.0 ≡ without_hold held_here.0 = cc in
      let bad : true ≡ false = sym m.2 ∙ ap (λ (n : LiveNode). n.is_held) same in
      absurd (cc) in
      let there : node_at nodes id ≡ Some m.0 = sym (mid_other id differs) ∙ sym mid ∙ m.1 in
      (differs, rw there m.2)

  only_left : (id : ℕ) → IsHeld nodes' id → (at : ℕ) × (other : Kept) × (stored_at kept' at ≡ Some other) × (other.node ≡ id)
  only_left id held =
      let h = was_held id held in
      let there = shared.only id h.1 in
      let apart : there.0 ≢ place = λ is.
      let both : Some there.1 ≡ Some one = sym there.2 ∙ ap (stored_at kept) is ∙ was in
      let same : there.1 ≡ one = cc in
      absurd (h.0 (sym there.3 ∙ ap (λ (k : Kept). k.node) same)) in
      (there.0, there.1, others there.0 apart ∙ there.2, there.3)

  named_less : (slot : ℕ) → named kept' slot + times slot one.slots.items ≡ named kept slot
  named_less slot =
      omega (
        arith,
        sum-changed (λ o. times slot (slots_of o)) refl place kept kept' others,
        ap (λ o. times slot (slots_of o)) gone,
        ap (λ o. times slot (slots_of o)) was,
      )

  held_left : (at : ℕ) (other : Kept) → (at ≢ place) × (stored_at kept at ≡ Some other) → IsHeld nodes' other.node
  held_left at other there =
      let held = shared.held at other there.1 in
      rw (node_stays other.node (other_node at other there.0 there.1) held) held

  pub shared_left : AreShared nodes' pool' kept'
  shared_left = record {
    held = λ at other found. held_left at other (found_before at other found);
    own = λ at place' other two found found' e. shared.own at place' other two (found_before at other found).1 (found_before place' two found').1 e;
    only = only_left;
    counted = λ slot. omega (arith, shared.counted slot, exchanged.counts slot, named_less slot);
    once = λ at other found. shared.once at other (found_before at other found).1;
  }

  left_alike : (at : ℕ) (other : Kept) → at ≢ place → stored_at kept' at ≡ Some other → stored_at kept at ≡ Some other → seen_of nodes' pool' other ≡ seen_of nodes pool other
  left_alike at other differs left found =
      seen_alike nodes nodes' pool pool' other
      (node_stays other.node (other_node at other differs found) (shared.held at other found))
      (values_stay pool pool' one.slots.items [] other.slots.items exchanged (λ slot. omega (arith, shared.counted slot, named_less slot, named_at kept' at other slot left)))

  pub becomes_left : Becomes (seen nodes pool kept) (seen nodes' pool' kept') place None
  becomes_left = record {
    here = seen_at nodes' pool' kept' place ∙ ap (option_map (seen_of nodes' pool')) gone;
    others = λ other differs.
        seen_at nodes' pool' kept' other
        ∙ alike_at nodes nodes' pool pool' (stored_at kept other) (stored_at kept' other) (others other differs) (λ k found. left_alike other k differs (others other differs ∙ found) found)
        ∙ sym (seen_at nodes pool kept other);
  }
