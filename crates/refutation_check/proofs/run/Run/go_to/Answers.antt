use Rattle.refutation_check.proofs.Stepping.{none_later}
use Rattle.refutation_check.proofs.run.Run.go_to.Goals as goal

pub returns-then-not-go_on-clause-come : goal.returns-then-not-go_on-clause-come
returns-then-not-go_on-clause-come g c =
    none_later (g.M.Machine.semantics c.args.machine.now) c.args.program.now c.args.t c.loop-self.self.steps c.args.steps c.if-not-go_on.ensures.moved.1 c.loop-self-test.true
