use Rattle.std.proofs.Common.{◌≡◌, ◌-◌, ◌≤◌, length}
use Rattle.pddl_lexer.specs.Lexing.{tokens_of}
use Rattle.pddl_lexer.proofs.Pieces.{reading}
use Rattle.pddl_lexer.proofs.lexer.tokens.Given as goal

abbrev pub invariant-loop-at : goal.invariant-loop-at
invariant-loop-at l = (l.at ≤ length l.bytes) × (reading l.bytes l.tokens l.at ≡ tokens_of l.bytes)

abbrev pub decreases-loop-at : goal.decreases-loop-at
decreases-loop-at l = length l.bytes - l.at
