use Rattle.std.proofs.Common.{map, string_bytes}
use Rattle.std.proofs.lemmas.Result.{err_from_is_err_and}
use Rattle.command_words.specs.declared.matching.Command.TheVariants.{Gen}
use Rattle.command_words.specs.Words.{GenJobOf}
use Rattle.command_words.specs.Inner.Matching.{IsMatched}
use Rattle.command_words.specs.Inner.Values.{AreGenValues}
use Rattle.command_words.proofs.Readings.{refused, read_by_values}
use Rattle.command_words.proofs.GenWords.{gen_matched, gen_values, gen_words}
use Rattle.command_words.proofs.reading.gen_job_of.Goals as goal

pub returns-in_err-matched_in : goal.returns-in_err-matched_in
returns-in_err-matched_in c =
    let p = err_from_is_err_and c.from_residual.result c.from_residual.ensures.1 in
    let words = map string_bytes c.args.words.now in
    rw (p.1, p.2) (refused (IsMatched Gen words) (GenJobOf words) c.in_err-matched_in.field-0.0 (gen_matched words) c.in_err-matched_in.ensures)

pub returns : goal.returns
returns c =
    let words = map string_bytes c.args.words.now in
    let matched = c.in_ok-matched_in.field-0 in
    let found = c.in_ok-matched_in.ensures in
    rw c.ok_or.ensures.value (read_by_values (AreGenValues matched) (GenJobOf words) c.gen_job.result (λ job is. gen_words words matched job found is) (λ job is. gen_values words matched job found is) c.gen_job.ensures.some c.gen_job.ensures.none)
