use Rattle.std.proofs.Common.{map, string_bytes}
use Rattle.std.proofs.lemmas.Result.{err_from_is_err_and}
use Rattle.command_words.specs.declared.matching.Command.TheVariants.{Check}
use Rattle.command_words.specs.Words.{CheckJobOf}
use Rattle.command_words.specs.Inner.Matching.{IsMatched}
use Rattle.command_words.specs.Inner.Values.{AreCheckValues}
use Rattle.command_words.proofs.InputNames.{matched_names}
use Rattle.command_words.proofs.Readings.{refused, read_by_values}
use Rattle.command_words.proofs.CheckWords.{check_matched, check_values, check_words}
use Rattle.command_words.proofs.reading.check_job_of.Goals as goal

pub returns-in_err-matched_in : goal.returns-in_err-matched_in
returns-in_err-matched_in c =
    let p = err_from_is_err_and c.from_residual.result c.from_residual.ensures.1 in
    let words = map string_bytes c.args.words.now in
    rw (p.1, p.2) (refused (IsMatched Check words) (CheckJobOf words) c.in_err-matched_in.field-0.0 (check_matched words) c.in_err-matched_in.ensures)

pub check_job-requires : goal.check_job-requires
check_job-requires c = matched_names Check (map string_bytes c.args.words.now) c.in_ok-matched_in.field-0 c.in_ok-matched_in.ensures

pub returns : goal.returns
returns c =
    let words = map string_bytes c.args.words.now in
    let matched = c.in_ok-matched_in.field-0 in
    let found = c.in_ok-matched_in.ensures in
    rw c.ok_or.ensures.value (read_by_values (AreCheckValues matched) (CheckJobOf words) c.check_job.result (λ job is. check_words words matched job found is) (λ job is. check_values words matched job found is) c.check_job.ensures.some c.check_job.ensures.none)
