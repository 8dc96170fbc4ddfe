-- The ground atoms over numbered objects, for predicates that are given by their arities.
use Rattle.std.specs.Prelude.{ℕ, zero, suc, ◌+◌, ◌^◌, List, [], ◌∷◌, ◌++◌, map, flat_map, sum_by}
use Rattle.std.specs.List.{range_with_len}
use Rattle.ground_state.specs.declared.parts.Fact.{Fact}

-- all lists of so many objects, in lexical order
abbrev pub tuples : ℕ → ℕ → List (List ℕ)
tuples objects zero = [] ∷ []
tuples objects (suc arity) = flat_map (λ first. map (λ rest. first ∷ rest) (tuples objects arity)) (range_with_len 0 objects)

-- the ground atoms of the predicates from a number on, by predicate and then by their objects
abbrev pub atoms_from : ℕ → ℕ → List ℕ → List Fact
atoms_from objects pred [] = []
atoms_from objects pred (arity ∷ arities) = map (λ args. record { pred = pred; args = args }) (tuples objects arity) ++ atoms_from objects (pred + 1) arities

-- all ground atoms, by predicate and then by their objects
abbrev pub ground_atoms : ℕ → List ℕ → List Fact
ground_atoms objects arities = atoms_from objects 0 arities

-- how many ground atoms there are: for each predicate the objects to the power of its arity
abbrev pub atom_count : ℕ → List ℕ → ℕ
atom_count objects arities = sum_by (λ arity. objects ^ arity) arities
