-- Where pieces and tokens stand within the bytes of a text.
use Rattle.std.specs.Prelude.{ℕ, ◌<◌, ◌≤◌, List, [], ◌∷◌, length}
use Rattle.pddl_lexer.specs.declared.lexer.Token.{Token}
use Rattle.pddl_lexer.specs.declared.lexer.Piece.{Piece}
use Rattle.pddl_lexer.specs.declared.lexer.Piece.TheVariants.{Passed, Spelled, Stray}

-- a piece has at least one byte, and at most as many as stand there
abbrev pub IsWithin : Piece → ℕ → Type 0
IsWithin (Passed count) room = (0 < count) × (count ≤ room)
IsWithin (Spelled kind count) room = (0 < count) × (count ≤ room)
IsWithin Stray room = Unit {0}

-- the bytes of each token stand within the text
abbrev pub AreWithin : List ℕ → List Token → Type 0
AreWithin bytes [] = Unit {0}
AreWithin bytes (t ∷ ts) = (t.from ≤ t.to) × (t.to ≤ length bytes) × AreWithin bytes ts
