use Rattle.std.proofs.Common.{◌≡◌, drop, reverse}
use Rattle.pddl_lexer.specs.Parentheses.{misplaced, misplaced_in}
use Rattle.pddl_lexer.proofs.parentheses.misplaced_parenthesis.Given as goal

abbrev pub invariant-loop-token : goal.invariant-loop-token
invariant-loop-token l = misplaced (drop l.token-index l.tokens) (reverse l.open.items) ≡ misplaced_in l.tokens
