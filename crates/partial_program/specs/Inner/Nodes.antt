-- How the nodes of a chain stand in a slab.
use Rattle.std.specs.Prelude.{◌≡◌, ◌≢◌, ◌⊎◌, ℕ, zero, suc, ◌+◌, ◌<◌, ◌≤◌, ◌==◌, Bool, true, false, List, map, Option, Some, None, IsSome, count_by, option_map, option_and_then, slice_index_or}
use Rattle.program_model.specs.declared.alphabet.TheConstants.{MAX_LINES}
use Rattle.program_model.specs.Program.{Program, empty, with_line, IsOpen}
use Rattle.partial_program.specs.declared.node.Node.{Node}
use Rattle.partial_program.specs.declared.node.Link.{Link}
use Rattle.partial_program.specs.Chain.{LiveNode}

-- the node at a place
abbrev pub stored_at : List (Option Node) → ℕ → Option Node
stored_at slots at = slice_index_or slots at None

abbrev pub link_of : Option Node → Option Link
link_of slot = option_and_then (λ node. node.link) slot

-- the program of a node with this link: the empty one with the lines that this link and those above it write, of so many links at most
abbrev pub program_by : ℕ → List (Option Node) → Option Link → ℕ → Program
program_by lines slots None links = empty lines
program_by lines slots (Some link) zero = empty lines
program_by lines slots (Some link) (suc links) = with_line (program_by lines slots (link_of (stored_at slots link.parent)) links) link.line link.instr

-- the program of the node at a place; as each link writes another line, there are no more links than lines
abbrev pub program_at : ℕ → List (Option Node) → ℕ → Program
program_at lines slots at = program_by lines slots (link_of (stored_at slots at)) lines

-- what contracts see of a node
abbrev pub live_node : ℕ → List (Option Node) → Node → LiveNode
live_node lines slots node = record { program = program_by lines slots node.link lines; parent = option_map (λ link. link.parent) node.link; is_held = node.is_held }

abbrev pub live_nodes : ℕ → List (Option Node) → List (Option LiveNode)
live_nodes lines slots = map (option_map (live_node lines slots)) slots

-- whether a link leads to a place
abbrev pub leads_to : ℕ → Option Link → Bool
leads_to at None = false
leads_to at (Some link) = link.parent == at

abbrev pub is_child_of : ℕ → Option Node → Bool
is_child_of at slot = leads_to at (link_of slot)

-- the parent of each node is there, and each node counts its children
pub record IsTied (slots : List (Option Node)) : Type 0 where
  pub parents : (at : ℕ) (link : Link) → link_of (stored_at slots at) ≡ Some link → IsSome (stored_at slots link.parent)
  pub counted : (at : ℕ) (node : Node) → stored_at slots at ≡ Some node → node.children ≡ count_by (is_child_of at) slots

-- each node, but for one that is there, is held or has children
pub record IsSettledBut (slots : List (Option Node)) (next : Option ℕ) : Type 0 where
  pub there : (at : ℕ) → next ≡ Some at → IsSome (stored_at slots at)
  pub settled : (at : ℕ) (node : Node) → stored_at slots at ≡ Some node → next ≢ Some at → (node.is_held ≡ true) ⊎ (0 < node.children)

-- a link writes a line, not the last, that is undefined in the parent's program, and the program of its node is the parent's with that line
pub record IsWritten (lines : ℕ) (slots : List (Option Node)) (link : Link) : Type 0 where
  pub is_inner : link.line + 1 < lines
  pub is_open : IsOpen (program_at lines slots link.parent) link.line
  pub is_more : program_by lines slots (Some link) lines ≡ with_line (program_at lines slots link.parent) link.line link.instr

-- all links do so
abbrev pub AreWritten : ℕ → List (Option Node) → Type 0
AreWritten lines slots = (at : ℕ) (link : Link) → link_of (stored_at slots at) ≡ Some link → IsWritten lines slots link

-- a slab is the nodes of a chain of programs of so many lines, with the root at this place
pub record IsChain (lines root : ℕ) (slots : List (Option Node)) : Type 0 where
  pub some : 0 < lines
  pub few : lines ≤ MAX_LINES
  pub rooted : (at : ℕ) (node : Node) → stored_at slots at ≡ Some node → node.link ≡ None → at ≡ root
  pub tied : IsTied slots
  pub settled : IsSettledBut slots None
  pub written : AreWritten lines slots

-- the link and the hold of a node
abbrev pub face_of : Node → Option Link × Bool
face_of node = (node.link, node.is_held)

-- some nodes are gone, which had no hold, and no child that is left; those that are left have their links and holds
pub record IsLeftOf (old new : List (Option Node)) : Type 0 where
  pub kept : (at : ℕ) (node : Node) → stored_at new at ≡ Some node → option_map face_of (stored_at old at) ≡ Some (face_of node)
  pub freed : (at : ℕ) (node : Node) → stored_at old at ≡ Some node → stored_at new at ≡ None → (node.is_held ≡ false) × ((child : ℕ) → is_child_of at (stored_at old child) ≡ true → stored_at new child ≡ None)
