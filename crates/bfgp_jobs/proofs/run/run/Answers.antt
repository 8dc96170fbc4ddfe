use Rattle.std.proofs.Common.{Ok, Err, [], ◌∷◌}
use Rattle.std.proofs.lemmas.Result.{err_from_is_err_and}
use Rattle.input_reading.specs.Inputs.{program_due}
use Rattle.input_reading.proofs.Chain.{then_next, then_end}
use Rattle.command_words.specs.Words.{names_of}
use Rattle.input_reading.proofs.AskedFor.{asks_front, asks_further}
use Rattle.flag_rules.specs.declared.file.TheConstants.{MAX_FILE_BYTES}
use Rattle.bfgp_jobs.proofs.Sequels.{after_program, after_program_bytes}
use Rattle.bfgp_jobs.proofs.FurtherFile.{from_machine, at_machine, from_bytes, at_bytes}
use Rattle.bfgp_jobs.proofs.Runs.{program_at}
use Rattle.bfgp_jobs.proofs.run.run.Goals as goal

pub returns-in_err-machine-clause-due : goal.returns-in_err-machine-clause-due
returns-in_err-machine-clause-due g c =
    let p = err_from_is_err_and c.from_residual.result c.from_residual.ensures.1 in
    let job = c.args.job.now in
    rw (p.1, p.2) (at_machine (g.S.Shelf.files c.args.shelf.now) job.inputs job.pointers MAX_FILE_BYTES job.program (after_program_bytes job) c.in_err-machine.field-0.0 c.in_err-machine.ensures.due)

pub returns-in_err-bytes-clause-due : goal.returns-in_err-bytes-clause-due
returns-in_err-bytes-clause-due g c =
    let p = err_from_is_err_and c.from_residual-in_err-bytes.result c.from_residual-in_err-bytes.ensures.1 in
    let told = g.S.Shelf.files c.args.shelf.now in
    let later = g.S.Shelf.files c.machine_for.new.shelf in
    let job = c.args.job.now in
    let machine = c.in_ok-machine.machine in
    let halt = c.in_err-bytes.field-0.0 in
    rw (p.1, p.2) (from_machine told job.inputs job.pointers MAX_FILE_BYTES job.program (after_program_bytes job) machine (Err halt) c.in_ok-machine.ensures.due
    (at_bytes told job.inputs job.pointers MAX_FILE_BYTES job.program (after_program_bytes job) later c.in_ok-machine.ensures.goes_on.kept c.as_slice-program_name.result.now c.as_slice-program_name.ensures machine halt c.in_err-bytes.ensures.due))

pub returns-in_err-program-clause-due : goal.returns-in_err-program-clause-due
returns-in_err-program-clause-due g c =
    let p = err_from_is_err_and c.from_residual-in_err-program.result c.from_residual-in_err-program.ensures.1 in
    let told = g.S.Shelf.files c.args.shelf.now in
    let later = g.S.Shelf.files c.machine_for.new.shelf in
    let job = c.args.job.now in
    let machine = c.in_ok-machine.machine in
    let halt = c.in_err-program.field-0.0 in
    let here = program_at machine job.program c.as_slice-program_name.result.now c.in_ok-bytes.bytes c.as_slice.result.now (Err halt) c.as_slice-program_name.ensures c.as_slice.ensures c.in_err-program.ensures.due in
    rw (p.1, p.2) (from_machine told job.inputs job.pointers MAX_FILE_BYTES job.program (after_program_bytes job) machine (Err halt) c.in_ok-machine.ensures.due
    (from_bytes told job.inputs job.pointers MAX_FILE_BYTES job.program (after_program_bytes job) later c.in_ok-machine.ensures.goes_on.kept c.as_slice-program_name.result.now c.as_slice-program_name.ensures machine c.in_ok-bytes.bytes (Err halt) c.in_ok-bytes.ensures.due
    (then_end (program_due machine job.program c.in_ok-bytes.bytes) (after_program job machine) halt here)))

pub returns-clause-due : goal.returns-clause-due
returns-clause-due g c =
    let told = g.S.Shelf.files c.args.shelf.now in
    let later = g.S.Shelf.files c.machine_for.new.shelf in
    let job = c.args.job.now in
    let machine = c.in_ok-machine.machine in
    let program = c.in_ok-program.program in
    let reply = c.in_ok-outcome.field-0 in
    let here = program_at machine job.program c.as_slice-program_name.result.now c.in_ok-bytes.bytes c.as_slice.result.now (Ok program) c.as_slice-program_name.ensures c.as_slice.ensures c.in_ok-program.ensures.due in
    from_machine told job.inputs job.pointers MAX_FILE_BYTES job.program (after_program_bytes job) machine (Ok reply) c.in_ok-machine.ensures.due
    (from_bytes told job.inputs job.pointers MAX_FILE_BYTES job.program (after_program_bytes job) later c.in_ok-machine.ensures.goes_on.kept c.as_slice-program_name.result.now c.as_slice-program_name.ensures machine c.in_ok-bytes.bytes (Ok reply) c.in_ok-bytes.ensures.due
    (then_next (program_due machine job.program c.in_ok-bytes.bytes) (after_program job machine) program (Ok reply) here c.in_ok-outcome.ensures.due))

pub returns-in_err-machine-clause-asks : goal.returns-in_err-machine-clause-asks
returns-in_err-machine-clause-asks g c = asks_front _ _ (names_of c.args.job.now.inputs) (c.args.job.now.program ∷ []) c.in_err-machine.ensures.asks

pub returns-in_err-bytes-clause-asks : goal.returns-in_err-bytes-clause-asks
returns-in_err-bytes-clause-asks g c = asks_further _ _ _ (names_of c.args.job.now.inputs) c.args.job.now.program c.as_slice-program_name.result.now c.as_slice-program_name.ensures c.in_ok-machine.ensures.asks c.in_err-bytes.ensures.asks

pub returns-in_err-program-clause-asks : goal.returns-in_err-program-clause-asks
returns-in_err-program-clause-asks g c = asks_further _ _ _ (names_of c.args.job.now.inputs) c.args.job.now.program c.as_slice-program_name.result.now c.as_slice-program_name.ensures c.in_ok-machine.ensures.asks c.in_ok-bytes.ensures.asks

pub returns-in_err-outcome-clause-asks : goal.returns-in_err-outcome-clause-asks
returns-in_err-outcome-clause-asks g c = asks_further _ _ _ (names_of c.args.job.now.inputs) c.args.job.now.program c.as_slice-program_name.result.now c.as_slice-program_name.ensures c.in_ok-machine.ensures.asks c.in_ok-bytes.ensures.asks

pub returns-clause-asks : goal.returns-clause-asks
returns-clause-asks g c = asks_further _ _ _ (names_of c.args.job.now.inputs) c.args.job.now.program c.as_slice-program_name.result.now c.as_slice-program_name.ensures c.in_ok-machine.ensures.asks c.in_ok-bytes.ensures.asks
