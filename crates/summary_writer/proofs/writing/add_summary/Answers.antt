use Rattle.std.proofs.Common.{ℕ, List, ◌++◌, length}
use Rattle.program_text.proofs.Gathering.{all_gathered}
use Rattle.answer_writer.specs.Document.{program_lines}
use Rattle.answer_writer.proofs.Puts.{then_lines, more_lines, stopped_lines, first_stopped, before_lines}
use Rattle.summary_writer.specs.Summary.{family_lines, result_lines}
use Rattle.summary_writer.proofs.Trees.{few_trees}
use Rattle.summary_writer.proofs.writing.add_summary.Goals as goal

pub add_result-requires : goal.add_result-requires
add_result-requires g c = few_trees (length c.args.names.now) c.args.answer.now c.requires.answer

pub returns-in_err-add_sample : goal.returns-in_err-add_sample
returns-in_err-add_sample g c =
    let written = g.K.Sink.written in
    let faults = g.K.Sink.faults in
    let sample : List (List ℕ) = family_lines c.args.sample.now.family c.args.sample.now.number in
    let told : List (List ℕ) = result_lines c.args.answer.now in
    let program : List (List ℕ) = program_lines c.args.names.now c.args.answer.now.program in
    before_lines written faults c.args.sink.now c.add_sample.new.sink c.args.gathered.now c.add_sample.new.gathered c.from_residual.result (sample ++ told) program c.from_residual.ensures.0
    (before_lines written faults c.args.sink.now c.add_sample.new.sink c.args.gathered.now c.add_sample.new.gathered c.from_residual.result sample told c.from_residual.ensures.0
    (first_stopped written faults c.args.sink.now c.add_sample.new.sink c.args.gathered.now c.add_sample.new.gathered c.in_err-add_sample.field-0.0 c.from_residual.result _ c.from_residual.ensures.0 c.in_err-add_sample.ensures))

pub returns-in_err-add_result : goal.returns-in_err-add_result
returns-in_err-add_result g c =
    let written = g.K.Sink.written in
    let faults = g.K.Sink.faults in
    let sample : List (List ℕ) = family_lines c.args.sample.now.family c.args.sample.now.number in
    let told : List (List ℕ) = result_lines c.args.answer.now in
    let program : List (List ℕ) = program_lines c.args.names.now c.args.answer.now.program in
    before_lines written faults c.args.sink.now c.add_result.new.sink c.args.gathered.now c.add_result.new.gathered c.from_residual-in_err-add_result.result (sample ++ told) program c.from_residual-in_err-add_result.ensures.0
    (stopped_lines written faults c.args.sink.now c.add_sample.new.sink c.add_result.new.sink c.args.gathered.now c.add_sample.new.gathered c.add_result.new.gathered c.in_err-add_result.field-0.0 c.from_residual-in_err-add_result.result sample told c.from_residual-in_err-add_result.ensures.0
    (all_gathered written faults c.args.sink.now c.add_sample.new.sink c.args.gathered.now c.add_sample.new.gathered c.in_ok-add_sample.field-0 _ c.in_ok-add_sample.ensures)
    c.in_err-add_result.ensures)

pub returns : goal.returns
returns g c =
    let written = g.K.Sink.written in
    let faults = g.K.Sink.faults in
    let sample : List (List ℕ) = family_lines c.args.sample.now.family c.args.sample.now.number in
    let told : List (List ℕ) = result_lines c.args.answer.now in
    let program : List (List ℕ) = program_lines c.args.names.now c.args.answer.now.program in
    then_lines written faults c.args.sink.now c.add_result.new.sink c.add_found.new.sink c.args.gathered.now c.add_result.new.gathered c.add_found.new.gathered c.add_found.result (sample ++ told) program
    (more_lines written faults c.args.sink.now c.add_sample.new.sink c.add_result.new.sink c.args.gathered.now c.add_sample.new.gathered c.add_result.new.gathered c.in_ok-add_result.field-0 sample told
    (all_gathered written faults c.args.sink.now c.add_sample.new.sink c.args.gathered.now c.add_sample.new.gathered c.in_ok-add_sample.field-0 _ c.in_ok-add_sample.ensures)
    c.in_ok-add_result.ensures)
    c.add_found.ensures
