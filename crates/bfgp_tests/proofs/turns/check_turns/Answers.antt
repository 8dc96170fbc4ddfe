use Rattle.bfgp_tests.proofs.turns.check_turns.Goals as goal

pub advance-cut-requires-clause-run : goal.advance-cut-requires-clause-run
advance-cut-requires-clause-run g c = c.in_ok-run.ensures.run c.args.program.now
