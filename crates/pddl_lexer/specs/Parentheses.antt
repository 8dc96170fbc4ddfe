-- Whether the parentheses of a text are in order.
use Rattle.std.specs.Prelude.{ℕ, nat_le, List, [], ◌∷◌, length, Option, None, Some, if◌then◌else◌}
use Rattle.pddl_lexer.specs.declared.lexer.Kind.{Kind}
use Rattle.pddl_lexer.specs.declared.lexer.Kind.TheVariants.{LeftParen, RightParen}
use Rattle.pddl_lexer.specs.declared.lexer.Token.{Token}
use Rattle.pddl_lexer.specs.declared.parentheses.Misplaced.{Misplaced}
use Rattle.pddl_lexer.specs.declared.parentheses.Misplaced.TheVariants.{Unopened, TooDeep, Unclosed}
use Rattle.pddl_lexer.specs.declared.parentheses.TheConstants.{MAX_NESTING}

-- what a token of this kind at a place comes to, where the left parentheses at the places `pending` wait for a partner, nearest first: a fault, or what comes further on
abbrev pub at_token : Kind → ℕ → List ℕ → (List ℕ → Option Misplaced) → Option Misplaced
at_token LeftParen at pending further = if nat_le MAX_NESTING (length pending) then Some (TooDeep at) else further (at ∷ pending)
at_token RightParen at [] further = Some (Unopened at)
at_token RightParen at (_ ∷ others) further = further others
at_token _ at pending further = further pending

-- the parenthesis of these tokens that is out of place, where the left ones at the places `pending` wait for a partner, nearest first
unfoldable pub misplaced : List Token → List ℕ → Option Misplaced
misplaced [] [] = None
misplaced [] (nearest ∷ _) = Some (Unclosed nearest)
misplaced (t ∷ ts) pending = at_token t.kind t.from pending (misplaced ts)

-- read from left to right, the first right parenthesis without a partner or left one nested too deep; else the last left one without a partner
abbrev pub misplaced_in : List Token → Option Misplaced
misplaced_in tokens = misplaced tokens []
