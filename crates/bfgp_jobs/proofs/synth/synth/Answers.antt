use Rattle.std.proofs.Common.{Ok, arith}
use Rattle.std.proofs.lemmas.Result.{err_from_is_err_and}
use Rattle.bfgp_outside.specs.Shelf.{Files}
use Rattle.input_reading.specs.Steps.{Gives}
use Rattle.input_reading.specs.Inputs.{machine_due}
use Rattle.input_reading.proofs.Chain.{knowing_always, known_next, known_end}
use Rattle.bfgp_jobs.proofs.Sequels.{after_search_machine}
use Rattle.bfgp_jobs.proofs.synth.synth.Goals as goal

pub returns-in_err-machine-clause-due : goal.returns-in_err-machine-clause-due
returns-in_err-machine-clause-due g c =
    let p = err_from_is_err_and c.from_residual.result c.from_residual.ensures.1 in
    let job = c.args.job.now in
    rw (p.1, p.2) (known_end (g.S.Shelf.files c.args.shelf.now) (λ files. machine_due files job.inputs job.pointers) (λ files. after_search_machine job) c.in_err-machine.field-0.0 c.in_err-machine.ensures.due)

pub returns-clause-due : goal.returns-clause-due
returns-clause-due g c =
    let told = g.S.Shelf.files c.args.shelf.now in
    let job = c.args.job.now in
    let machine = c.in_ok-machine.machine in
    let reply = c.in_ok-answer.field-0 in
    known_next told (λ files. machine_due files job.inputs job.pointers) (λ files. after_search_machine job) machine (Ok reply) c.in_ok-machine.ensures.due
    (knowing_always told (λ (files : Files). Gives (after_search_machine job machine) (Ok reply)) (λ files. c.in_ok-answer.ensures.due))

pub answer-requires-clause-pointers : goal.answer-requires-clause-pointers
answer-requires-clause-pointers g c =
    let same = c.in_ok-machine.ensures.pointers in
    let job = c.requires in
    (omega (arith, same), omega (arith, same))
