-- What contracts see of a chain of partial programs.
use Rattle.std.specs.Prelude.{◌≡◌, ◌≢◌, ◌⊎◌, ℕ, Bool, true, false, List, Option, Some, None, is_some, count_by, option_map, slice_index_or, slice_set, IsSome, IsSomeAnd}
use Rattle.program_model.specs.declared.instr.Instr.{Instr}
use Rattle.program_model.specs.Program.{Program, empty, with_line, IsOpen}

-- a live node: its program, the number of its parent, if it is not the root, and whether it is held
pub record LiveNode : Type 0 where
  pub program : Program
  pub parent : Option ℕ
  pub is_held : Bool

-- the live nodes by their numbers, the root's number, and how many more may be made before memory is needed
pub record Nodes : Type 0 where
  pub nodes : List (Option LiveNode)
  pub root : ℕ
  pub spare : ℕ

-- the node of a number, if it is live
abbrev pub node_at : List (Option LiveNode) → ℕ → Option LiveNode
node_at nodes id = slice_index_or nodes id None

abbrev pub node_count : List (Option LiveNode) → ℕ
node_count nodes = count_by is_some nodes

abbrev pub IsHeld : List (Option LiveNode) → ℕ → Type 0
IsHeld nodes id = IsSomeAnd (node_at nodes id) (λ node. node.is_held ≡ true)

abbrev pub IsChild : List (Option LiveNode) → ℕ → ℕ → Type 0
IsChild nodes parent id = IsSomeAnd (node_at nodes id) (λ node. node.parent ≡ Some parent)

-- a node is held or has a child
abbrev pub IsHeldOrParent : List (Option LiveNode) → ℕ → Type 0
IsHeldOrParent nodes id = IsHeld nodes id ⊎ ((child : ℕ) × IsChild nodes id child)

-- a held root, whose program is the empty one
abbrev pub root_of : ℕ → LiveNode
root_of lines = record { program = empty lines; parent = None; is_held = true }

-- a held child of a node, with an instruction on a line beyond its parent's program
abbrev pub child_of : ℕ → LiveNode → ℕ → Instr → LiveNode
child_of parent node line instr = record { program = with_line node.program line instr; parent = Some parent; is_held = true }

-- a program is another with an instruction on one more line
abbrev pub HasLineMore : Program → Program → Type 0
HasLineMore more part = (line : ℕ) × (instr : Instr) × IsOpen part line × (more ≡ with_line part line instr)

-- the root alone has no parent; the parent of each other node is live, and has one line less, so that from each node the parents lead to the root;
-- and each node is held or has a child
pub record IsTree (chain : Nodes) : Type 0 where
  pub rooted : (id : ℕ) (node : LiveNode) → node_at chain.nodes id ≡ Some node → node.parent ≡ None → id ≡ chain.root
  pub linked : (id parent : ℕ) (node : LiveNode) → node_at chain.nodes id ≡ Some node → node.parent ≡ Some parent → IsSomeAnd (node_at chain.nodes parent) (λ above. HasLineMore node.program above.program)
  pub settled : (id : ℕ) → IsSome (node_at chain.nodes id) → IsHeldOrParent chain.nodes id

-- the node of one number is now this one, and all others are as before
pub record Becomes (old new : List (Option LiveNode)) (id : ℕ) (node : LiveNode) : Type 0 where
  pub made : node_at new id ≡ Some node
  pub others : (other : ℕ) → other ≢ id → node_at new other ≡ node_at old other

-- a node that is no longer held
abbrev pub without_hold : LiveNode → LiveNode
without_hold node = record node { is_held = false }

-- the nodes where one is no longer held, and all else is as before
abbrev pub given_up : List (Option LiveNode) → ℕ → List (Option LiveNode)
given_up nodes id = slice_set nodes id (option_map without_hold (node_at nodes id))

-- exactly those nodes are gone that had, in turn, neither a hold nor a child: those that are left are as before, and each of them is held or has
-- a child that is left; those that are gone were not held, and their children are gone too
pub record IsPruned (old new : List (Option LiveNode)) : Type 0 where
  pub kept : (id : ℕ) → IsSome (node_at new id) → node_at new id ≡ node_at old id
  pub settled : (id : ℕ) → IsSome (node_at new id) → IsHeldOrParent new id
  pub freed : (id : ℕ) (node : LiveNode) → node_at old id ≡ Some node → node_at new id ≡ None → (node.is_held ≡ false) × ((child : ℕ) → IsChild old id child → node_at new child ≡ None)
