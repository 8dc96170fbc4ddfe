-- How heaps stand in a slab.
use Rattle.std.specs.Prelude.{◌≡◌, ℕ, ◌+◌, ◌<◌, ◌≤◌, ◌^◌, nat_lt, Bool, List, map, filter_map, slice_index_or, Option, Some, None, is_some, if◌then◌else◌, option_map}
use Rattle.flag_rules.specs.Counts.{raised}
use Rattle.slab.specs.Slab.{Slab, get, slab_len}
use Rattle.frontier.specs.declared.node.Node.{Node}
use Rattle.frontier.specs.Inner.Tree.{Tree, none, node, root, rank, size, reached, IsLeftist, IsOrdered, Merged}

module _ {K : Type 0} where
  -- the pair of a node
  abbrev pub pair_of : Node K → K × ℕ
  pair_of n = (n.key, n.number)

  -- the pair at each place, where there is a node
  abbrev pub pair_slots : List (Option (Node K)) → List (Option (K × ℕ))
  pair_slots slots = map (option_map pair_of) slots

  -- the pairs of the nodes, by place
  abbrev pub pairs_of : List (Option (Node K)) → List (K × ℕ)
  pairs_of slots = filter_map (λ slot. slot) (pair_slots slots)

  -- no two nodes have one number
  abbrev pub NumbersDiffer : List (Option (Node K)) → Type 0
  NumbersDiffer slots = (i j : ℕ) (x y : K × ℕ) → slice_index_or (pair_slots slots) i None ≡ Some x → slice_index_or (pair_slots slots) j None ≡ Some y → x.1 ≡ y.1 → i ≡ j

  -- whether the first node comes before the second
  abbrev pub is_ahead : (K → ℕ → K → ℕ → Bool) → Node K → Node K → Bool
  is_ahead before a b = before a.key a.number b.key b.number

  abbrev pub rank_told : Option (Node K) → ℕ
  rank_told None = 0
  rank_told (Some n) = n.rank

  -- the rank that a root's node tells; a missing heap has rank 0
  abbrev pub rank_at : List (Option (Node K)) → Option ℕ → ℕ
  rank_at slots None = 0
  rank_at slots (Some place) = rank_told (slice_index_or slots place None)

  -- a node with another heap in the place of its right child, the child of the lesser rank at its right
  abbrev pub with_right : List (Option (Node K)) → Node K → Option ℕ → Node K
  with_right slots n heap =
      if nat_lt (rank_at slots n.left) (rank_at slots heap)
      then record n { left = heap; right = n.left; rank = rank_at slots n.left + 1 }
      else record n { right = heap; rank = rank_at slots heap + 1 }

  -- the nodes of a heap stand at their places, with its ranks and links
  abbrev pub Stands : List (Option (Node K)) → Tree K → Type 0
  Stands slots none = Unit {0}
  Stands slots (node place pair left right) =
      (slice_index_or slots place None ≡ Some (record { key = pair.0; number = pair.1; rank = rank right + 1; left = root left; right = root right }))
      × Stands slots left × Stands slots right

module _ {K : Type 0} (before : K → ℕ → K → ℕ → Bool) where
  -- two heaps stand in a slab, and no place is reached from both
  pub record Apart (slots : List (Option (Node K))) (one other : Option ℕ) (first second : Tree K) : Type 0 where
    pub one_is : root first ≡ one
    pub other_is : root second ≡ other
    pub first_stands : Stands slots first
    pub second_stands : Stands slots second
    pub first_leftist : IsLeftist first
    pub second_leftist : IsLeftist second
    pub once : (place : ℕ) → reached place first + reached place second ≤ 1
    pub small : size first + size second < 2 ^ 64
    pub differ : NumbersDiffer slots

  -- there are two such heaps
  pub record CanMerge (slots : List (Option (Node K))) (one other : Option ℕ) : Type 0 where
    pub first : Tree K
    pub second : Tree K
    pub apart : Apart slots one other first second

  -- two heaps were merged to one, a comparison was counted for each node that was passed, and no other place changed
  pub record Merges (old new : List (Option (Node K))) (first second : Tree K) (result : Option ℕ) (counted now : ℕ) : Type 0 where
    pub tree : Tree K
    pub passed : ℕ
    pub merged : Merged before first second tree passed
    pub root_is : root tree ≡ result
    pub stands : Stands new tree
    pub others : (place : ℕ) → reached place first + reached place second ≡ 0 → slice_index_or new place None ≡ slice_index_or old place None
    pub rose : now ≡ raised counted passed

  -- a slab is this leftist heap: from the root each of its nodes is reached once, and no other place
  pub record IsHeapOf (nodes : Slab (Node K)) (top : Option ℕ) (tree : Tree K) : Type 0 where
    pub root_is : root tree ≡ top
    pub stands : Stands nodes.slots tree
    pub is_leftist : IsLeftist tree
    pub is_ordered : IsOrdered before tree
    pub once : (place : ℕ) → reached place tree ≡ (if is_some (get nodes place) then 1 else 0)
    pub counted : size tree ≡ slab_len nodes
    pub small : slab_len nodes < 2 ^ 64
    pub differ : NumbersDiffer nodes.slots

  -- a slab is a leftist heap from this root
  pub record IsHeap (nodes : Slab (Node K)) (top : Option ℕ) : Type 0 where
    pub tree : Tree K
    pub is : IsHeapOf nodes top tree
