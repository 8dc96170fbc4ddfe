use Rattle.std.proofs.Common.{ℕ, Bool, ◌∙◌}
use Rattle.std.proofs.lemmas.Result.{IfOk-weaker}
use Rattle.bfgp_outside.specs.Shelf.{Files, Knowing}
use Rattle.pointer_machine.specs.Machine.{meaning_of}
use Rattle.document_check.specs.Files.{IsVerdictOn}
use Rattle.input_reading.specs.Inputs.{file_due}
use Rattle.bfgp_jobs.specs.declared.check.TheConstants.{MAX_DOCUMENT_BYTES}
use Rattle.bfgp_jobs.specs.Inner.Telling.{TellsAccepted}
use Rattle.bfgp_jobs.proofs.Checks.{tells_accepted}
use Rattle.bfgp_jobs.proofs.check.is_accepted_file.Goals as goal

pub returns-clause-tells : goal.returns-clause-tells
returns-clause-tells g c =
    let told = g.S.Shelf.files c.args.shelf.now in
    let machine = c.args.machine.now in
    let job = c.args.job.now in
    let checker = c.in_ok-checker.checker in
    IfOk-weaker c.judge_file.result (λ (yes : Bool). IsVerdictOn (meaning_of checker.machine) checker.texts checker.lines told c.as_slice.result.now MAX_DOCUMENT_BYTES yes)
    (λ (yes : Bool). Knowing told (λ (files : Files). TellsAccepted machine job.lines (file_due files MAX_DOCUMENT_BYTES job.answer) yes))
    (λ yes it. tells_accepted machine checker.machine checker.texts job.lines checker.lines MAX_DOCUMENT_BYTES told job.answer c.as_slice.result.now yes
    c.in_ok-checker.ensures.machine (c.in_ok-checker.ensures.texts ∙ c.in_ok-names.ensures ∙ c.in_ok-op_texts.ensures) c.in_ok-checker.ensures.lines c.as_slice.ensures it)
    c.judge_file.ensures.verdict
