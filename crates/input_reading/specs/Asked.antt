-- Which files are asked for, and in which order.
use Rattle.std.specs.Prelude.{◌≡◌, ℕ, List, [], ◌∷◌, Option}
use Rattle.bfgp_outside.specs.Shelf.{Asks}

-- these names were asked for in turn, each for some reads or for none, and no other, where the shelf tells what it was asked for
abbrev pub AsksInTurn : (before now : Option (List (List ℕ))) → List (List ℕ) → Type 0
AsksInTurn before now [] = now ≡ before
AsksInTurn before now (name ∷ names) = (later : Option (List (List ℕ))) × Asks before later name × AsksInTurn later now names
