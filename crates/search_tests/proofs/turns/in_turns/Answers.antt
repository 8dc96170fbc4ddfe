use Rattle.std.proofs.Common.{arith}
use Rattle.search_tests.proofs.turns.in_turns.Goals as goal

pub loop-init : goal.loop-init
loop-init g c = record { run = c.in_ok-run.ensures.run c.args.program.now; in_limit = omega (arith, c.in_ok-run.ensures.steps) }
