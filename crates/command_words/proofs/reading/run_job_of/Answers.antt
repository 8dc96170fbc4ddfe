use Rattle.std.proofs.Common.{map, string_bytes}
use Rattle.std.proofs.lemmas.Result.{err_from_is_err_and}
use Rattle.command_words.specs.declared.matching.Command.TheVariants.{Run}
use Rattle.command_words.specs.Words.{RunJobOf}
use Rattle.command_words.specs.Inner.Matching.{IsMatched}
use Rattle.command_words.specs.Inner.Values.{AreRunValues}
use Rattle.command_words.proofs.InputNames.{matched_names}
use Rattle.command_words.proofs.Readings.{refused, read_by_values}
use Rattle.command_words.proofs.RunWords.{run_matched, run_values, run_words}
use Rattle.command_words.proofs.reading.run_job_of.Goals as goal

pub returns-in_err-matched_in : goal.returns-in_err-matched_in
returns-in_err-matched_in c =
    let p = err_from_is_err_and c.from_residual.result c.from_residual.ensures.1 in
    let words = map string_bytes c.args.words.now in
    rw (p.1, p.2) (refused (IsMatched Run words) (RunJobOf words) c.in_err-matched_in.field-0.0 (run_matched words) c.in_err-matched_in.ensures)

pub run_job-requires : goal.run_job-requires
run_job-requires c = matched_names Run (map string_bytes c.args.words.now) c.in_ok-matched_in.field-0 c.in_ok-matched_in.ensures

pub returns : goal.returns
returns c =
    let words = map string_bytes c.args.words.now in
    let matched = c.in_ok-matched_in.field-0 in
    let found = c.in_ok-matched_in.ensures in
    rw c.ok_or.ensures.value (read_by_values (AreRunValues matched) (RunJobOf words) c.run_job.result (λ job is. run_words words matched job found is) (λ job is. run_values words matched job found is) c.run_job.ensures.some c.run_job.ensures.none)
