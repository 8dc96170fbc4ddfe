use Rattle.std.proofs.Common.{subst}
use Rattle.program_model.specs.Verdict.{IsVerdictOver}
use Rattle.run_turns.specs.Settling.{HasInstance}
use Rattle.judgement.proofs.RunsSettled.{all_settled}
use Rattle.judgement.proofs.StandingsKnown.{none_looked_up}
use Rattle.judgement.proofs.VerdictOnAll.{refused_on_all, limited_on_all}
use Rattle.judgement.proofs.judging.judge.Goals as goal

pub returns-in-Refused-clause-judged : goal.returns-in-Refused-clause-judged
returns-in-Refused-clause-judged g c =
    let m = g.M.Machine.semantics c.args.machine.now in
    refused_on_all m c.args.program.now c.args.bounds.now.run (HasInstance c.args.runs.now) c.args.known.now.items c.requires.known c.in-Refused.t c.in-Refused.cause
    (subst (IsVerdictOver m c.args.program.now c.args.bounds.now.run (HasInstance c.args.runs.now)) c.in-Refused.is c.settle.ensures.verdict)

pub returns-in-AtLimit-clause-judged : goal.returns-in-AtLimit-clause-judged
returns-in-AtLimit-clause-judged g c =
    let m = g.M.Machine.semantics c.args.machine.now in
    limited_on_all m c.args.program.now c.args.bounds.now.run (HasInstance c.args.runs.now) c.args.known.now.items c.requires.known c.in-AtLimit.t
    (subst (IsVerdictOver m c.args.program.now c.args.bounds.now.run (HasInstance c.args.runs.now)) c.in-AtLimit.is c.settle.ensures.verdict)

pub settled_judgement-requires-clause-settled : goal.settled_judgement-requires-clause-settled
settled_judgement-requires-clause-settled g c =
    all_settled (g.M.Machine.semantics c.args.machine.now) c.args.program.now c.args.bounds.now.run c.settle.new.runs c.settle.result c.in-Waiting.is c.settle.ensures.settled

pub settled_judgement-requires-clause-known : goal.settled_judgement-requires-clause-known
settled_judgement-requires-clause-known g c =
    (none_looked_up (g.M.Machine.semantics c.args.machine.now) c.args.program.now c.args.bounds.now.run c.args.runs.now c.settle.new.runs c.args.known.now.items c.settle.ensures.instances c.requires.all c.requires.known).known
