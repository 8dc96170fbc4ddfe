-- The order of nodes by their keys.
use Rattle.std.specs.Prelude.{ℕ, ◌==◌, nat_lt, Bool, true, false, List, [], ◌∷◌, if◌then◌else◌}

-- keys go entry by entry, the lesser first, and a key before those that it begins; of equal keys the lesser number is first
abbrev pub comes_before : List ℕ → ℕ → List ℕ → ℕ → Bool
comes_before [] number [] other = nat_lt number other
comes_before [] number (second ∷ seconds) other = true
comes_before (first ∷ firsts) number [] other = false
comes_before (first ∷ firsts) number (second ∷ seconds) other = if first == second then comes_before firsts number seconds other else nat_lt first second
