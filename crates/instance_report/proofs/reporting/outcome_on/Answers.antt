use Rattle.interpreter.proofs.Outcomes.{outcome_of, operations_of}
use Rattle.instance_report.proofs.reporting.outcome_on.Goals as goal

pub advance-standing-requires-clause-run : goal.advance-standing-requires-clause-run
advance-standing-requires-clause-run g c = c.in_ok-run.ensures.run c.args.program.now

pub returns-clause-outcome : goal.returns-clause-outcome
returns-clause-outcome g c =
    outcome_of _ _ _ _ _ c.in_ok-run.run' c.advance-standing.new.self _ _ c.in_ok-run.ensures.instance c.in_ok-run.ensures.steps c.advance-standing.ensures.instance c.advance-standing.ensures.run c.advance-standing.ensures.told c.outcome.ensures

pub returns-clause-acts : goal.returns-clause-acts
returns-clause-acts g c =
    rw c.outcome.ensures
    (operations_of (g.M.Machine.semantics c.args.machine.now) c.args.program.now c.args.t c.in_ok-run.run' c.advance-standing.new.self _ _ c.in_ok-run.ensures.instance c.in_ok-run.ensures.steps c.advance-standing.ensures.acts)
