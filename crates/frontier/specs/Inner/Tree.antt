-- Leftist heaps as trees.
use Rattle.std.specs.Prelude.{◌≡◌, ℕ, suc, ◌+◌, ◌<◌, ◌≤◌, ◌==◌, nat_lt, Bool, true, Option, Some, None, if◌then◌else◌}

-- a heap: for each node its place in the slab, its pair of a key and a number, and the heaps at its left and right child
pub data Tree (K : Type 0) : Type 0 where
  none : Tree K
  node : ℕ → K × ℕ → Tree K → Tree K → Tree K

module _ {K : Type 0} where
  -- the place of the root, where there is one
  abbrev pub root : Tree K → Option ℕ
  root none = None
  root (node place pair left right) = Some place

  -- how many nodes stand on the way from the root to the right
  abbrev pub rank : Tree K → ℕ
  rank none = 0
  rank (node place pair left right) = rank right + 1

  -- how many nodes there are
  abbrev pub size : Tree K → ℕ
  size none = 0
  size (node place pair left right) = size left + size right + 1

  -- how often a place is reached from the root
  abbrev pub reached : ℕ → Tree K → ℕ
  reached at none = 0
  reached at (node place pair left right) = (if at == place then 1 else 0) + reached at left + reached at right

  -- no right child has a greater rank than its left one
  abbrev pub IsLeftist : Tree K → Type 0
  IsLeftist none = Unit {0}
  IsLeftist (node place pair left right) = (rank right ≤ rank left) × IsLeftist left × IsLeftist right

  -- a node over two heaps, the one of the lesser rank at its right
  abbrev pub join : ℕ → K × ℕ → Tree K → Tree K → Tree K
  join place pair left right = if nat_lt (rank left) (rank right) then node place pair right left else node place pair left right

module _ {K : Type 0} (before : K → ℕ → K → ℕ → Bool) where
  -- a pair comes before that of the root, where there is one
  abbrev pub ComesBefore : K × ℕ → Tree K → Type 0
  ComesBefore pair none = Unit {0}
  ComesBefore pair (node place other left right) = before pair.0 pair.1 other.0 other.1 ≡ true

  -- each pair comes before those of its children
  abbrev pub IsOrdered : Tree K → Type 0
  IsOrdered none = Unit {0}
  IsOrdered (node place pair left right) = ComesBefore pair left × ComesBefore pair right × IsOrdered left × IsOrdered right

  -- a heap is two heaps merged along their right spines, with so many comparisons of two roots
  pub data Merged : Tree K → Tree K → Tree K → ℕ → Type 0 where
    at_right : (second : Tree K) → Merged none second second 0
    at_left : (first : Tree K) → Merged first none first 0
    under_first : (place : ℕ) (pair : K × ℕ) (left right second merged : Tree K) (passed : ℕ) → 0 < rank second → ComesBefore pair second → Merged right second merged passed → Merged (node place pair left right) second (join place pair left merged) (suc passed)
    under_second : (place : ℕ) (pair : K × ℕ) (left right first merged : Tree K) (passed : ℕ) → 0 < rank first → ComesBefore pair first → Merged right first merged passed → Merged first (node place pair left right) (join place pair left merged) (suc passed)
