-- Numbers of names are in range.
use Rattle.std.proofs.Common.{ℕ, ◌≤◌, List, length, not, bytes_eq}
use Rattle.std.proofs.lemmas.List.Sums.{prefix_len-le-length}
use Rattle.pddl_task.specs.Names.{number_of}

-- the number of a name is at most the count of the names
pub number_within : (names : List (List ℕ)) (name : List ℕ) → number_of names name ≤ length names
number_within names name = prefix_len-le-length (λ other. not (bytes_eq name other)) names
