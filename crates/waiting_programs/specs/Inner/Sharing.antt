-- How programs that wait share their runs: in a pool, which holds each run as often as a program names its slot.
use Rattle.std.specs.Prelude.{◌≡◌, ℕ, List, [], map, sum_by, Option, Some, None, option_map, slice_index_or}
use Rattle.program_model.specs.Program.{Program}
use Rattle.interpreter.specs.declared.run.Run.{Run}
use Rattle.state_pool.specs.Pool.{Pool, count_at}
use Rattle.partial_program.specs.Chain.{LiveNode, node_at, IsHeld}
use Rattle.waiting_programs.specs.declared.kept.Kept.{Kept}
use Rattle.waiting_programs.specs.Programs.{Waiting}
use Rattle.waiting_programs.specs.Inner.Holds.{times, AreDistinct, values_at}

-- the program of a node; every node that is named is live
abbrev pub program_of : Option LiveNode → Program
program_of None = []
program_of (Some node) = node.program

-- the slots that a program names, if one is kept
abbrev pub slots_of : Option Kept → List ℕ
slots_of None = []
slots_of (Some kept) = kept.slots.items

-- how often programs name a slot
abbrev pub named : List (Option Kept) → ℕ → ℕ
named kept slot = sum_by (λ one. times slot (slots_of one)) kept

-- what is kept at a place
abbrev pub stored_at : List (Option Kept) → ℕ → Option Kept
stored_at kept at = slice_index_or kept at None

module _ {C : Type 0} (nodes : List (Option LiveNode)) (pool : Pool (Run C)) where
  -- what contracts see of a program that waits
  abbrev pub seen_of : Kept → Waiting C
  seen_of kept = record { program = program_of (node_at nodes kept.node); runs = values_at pool kept.slots.items }

  abbrev pub seen : List (Option Kept) → List (Option (Waiting C))
  seen kept = map (option_map seen_of) kept

  -- each program that waits holds a node of its own in the chain, and no other node is held; each slot of the pool is held as
  -- often as programs name it, so that no other slot is live; and no program names a slot twice
  pub record AreShared (kept : List (Option Kept)) : Type 0 where
    pub held : (at : ℕ) (one : Kept) → stored_at kept at ≡ Some one → IsHeld nodes one.node
    pub own : (at other : ℕ) (one two : Kept) → stored_at kept at ≡ Some one → stored_at kept other ≡ Some two → one.node ≡ two.node → at ≡ other
    pub only : (id : ℕ) → IsHeld nodes id → (at : ℕ) × (one : Kept) × (stored_at kept at ≡ Some one) × (one.node ≡ id)
    pub counted : (slot : ℕ) → count_at pool slot ≡ named kept slot
    pub once : (at : ℕ) (one : Kept) → stored_at kept at ≡ Some one → AreDistinct one.slots.items
