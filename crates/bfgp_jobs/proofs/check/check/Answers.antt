use Rattle.std.proofs.Common.{Option, Ok, Err, [], ◌∷◌, ◌++◌, subst}
use Rattle.std.proofs.lemmas.Result.{err_from_is_err_and}
use Rattle.bfgp_outside.specs.Shelf.{Files, Knowing}
use Rattle.command_words.specs.Words.{names_of}
use Rattle.input_reading.specs.Inputs.{file_due}
use Rattle.input_reading.specs.Steps.{Gives}
use Rattle.input_reading.proofs.AskedFor.{asks_both, asks_front, asks_nothing}
use Rattle.bfgp_jobs.specs.declared.check.TheConstants.{MAX_DOCUMENT_BYTES}
use Rattle.bfgp_jobs.specs.Inner.Telling.{TellsAccepted}
use Rattle.bfgp_jobs.proofs.Sequels.{after_document}
use Rattle.bfgp_jobs.proofs.FurtherFile.{from_machine, at_machine}
use Rattle.bfgp_jobs.proofs.Checks.{file_fault_due, reply_due}
use Rattle.bfgp_jobs.proofs.check.check.Goals as goal

pub returns-in_err-machine-clause-due : goal.returns-in_err-machine-clause-due
returns-in_err-machine-clause-due g c =
    let p = err_from_is_err_and c.from_residual-in_err-machine.result c.from_residual-in_err-machine.ensures.1 in
    let job = c.args.job.now in
    rw (p.1, p.2) (at_machine (g.S.Shelf.files c.args.shelf.now) job.inputs job.pointers MAX_DOCUMENT_BYTES job.answer (after_document job) c.in_err-machine.field-0.0 c.in_err-machine.ensures.due)

pub returns-in_err-accepted-clause-due : goal.returns-in_err-accepted-clause-due
returns-in_err-accepted-clause-due g c =
    let p = err_from_is_err_and c.from_residual-in_err-accepted.result c.from_residual-in_err-accepted.ensures.1 in
    let told = g.S.Shelf.files c.args.shelf.now in
    let job = c.args.job.now in
    let machine = c.in_ok-machine.machine in
    let halt = c.in_err-accepted.field-0.0 in
    rw (p.1, p.2) (from_machine told job.inputs job.pointers MAX_DOCUMENT_BYTES job.answer (after_document job) machine (Err halt) c.in_ok-machine.ensures.due
    (file_fault_due told job MAX_DOCUMENT_BYTES machine halt (subst (λ (t : Option Files). Knowing t (λ (files : Files). Gives (file_due files MAX_DOCUMENT_BYTES job.answer) (Err halt))) c.in_ok-machine.ensures.goes_on.kept c.in_err-accepted.ensures.due)))

pub returns-clause-due : goal.returns-clause-due
returns-clause-due g c =
    let told = g.S.Shelf.files c.args.shelf.now in
    let job = c.args.job.now in
    let machine = c.in_ok-machine.machine in
    let yes = c.in_ok-accepted.accepted in
    from_machine told job.inputs job.pointers MAX_DOCUMENT_BYTES job.answer (after_document job) machine (Ok c.reply.result) c.in_ok-machine.ensures.due
    (reply_due told job MAX_DOCUMENT_BYTES machine yes c.reply.result
    (subst (λ (t : Option Files). Knowing t (λ (files : Files). TellsAccepted machine job.lines (file_due files MAX_DOCUMENT_BYTES job.answer) yes)) c.in_ok-machine.ensures.goes_on.kept c.in_ok-accepted.ensures.tells) c.reply.ensures)

pub returns-in_err-verdicts-clause-asks : goal.returns-in_err-verdicts-clause-asks
returns-in_err-verdicts-clause-asks g c = asks_nothing (g.S.Shelf.asked c.args.shelf.now) (names_of c.args.job.now.inputs ++ c.args.job.now.answer ∷ [])

pub returns-in_err-machine-clause-asks : goal.returns-in_err-machine-clause-asks
returns-in_err-machine-clause-asks g c = asks_front _ _ (names_of c.args.job.now.inputs) (c.args.job.now.answer ∷ []) c.in_err-machine.ensures.asks

pub returns-in_err-accepted-clause-asks : goal.returns-in_err-accepted-clause-asks
returns-in_err-accepted-clause-asks g c = asks_both _ _ _ (names_of c.args.job.now.inputs) (c.args.job.now.answer ∷ []) c.in_ok-machine.ensures.asks c.in_err-accepted.ensures.asks

pub returns-clause-asks : goal.returns-clause-asks
returns-clause-asks g c = asks_both _ _ _ (names_of c.args.job.now.inputs) (c.args.job.now.answer ∷ []) c.in_ok-machine.ensures.asks c.in_ok-accepted.ensures.asks
