use Rattle.std.proofs.Common.{map, string_bytes}
use Rattle.std.proofs.lemmas.Result.{err_from_is_err_and}
use Rattle.command_words.specs.declared.matching.Command.TheVariants.{Synth}
use Rattle.command_words.specs.Words.{SynthJobOf}
use Rattle.command_words.specs.Inner.Matching.{IsMatched}
use Rattle.command_words.specs.Inner.Values.{AreSynthValues}
use Rattle.command_words.proofs.InputNames.{matched_names}
use Rattle.command_words.proofs.Readings.{refused, read_by_values}
use Rattle.command_words.proofs.SynthWords.{synth_matched, synth_values, synth_words}
use Rattle.command_words.proofs.reading.synth_job_of.Goals as goal

pub returns-in_err-matched_in : goal.returns-in_err-matched_in
returns-in_err-matched_in c =
    let p = err_from_is_err_and c.from_residual.result c.from_residual.ensures.1 in
    let words = map string_bytes c.args.words.now in
    rw (p.1, p.2) (refused (IsMatched Synth words) (SynthJobOf words) c.in_err-matched_in.field-0.0 (synth_matched words) c.in_err-matched_in.ensures)

pub synth_job-requires : goal.synth_job-requires
synth_job-requires c = matched_names Synth (map string_bytes c.args.words.now) c.in_ok-matched_in.field-0 c.in_ok-matched_in.ensures

pub returns : goal.returns
returns c =
    let words = map string_bytes c.args.words.now in
    let matched = c.in_ok-matched_in.field-0 in
    let found = c.in_ok-matched_in.ensures in
    rw c.ok_or.ensures.value (read_by_values (AreSynthValues matched) (SynthJobOf words) c.synth_job.result (λ job is. synth_words words matched job found is) (λ job is. synth_values words matched job found is) c.synth_job.ensures.some c.synth_job.ensures.none)
