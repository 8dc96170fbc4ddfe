use Rattle.program_text.proofs.Gathering.{gathered_put, stopped_put}
use Rattle.summary_writer.specs.Summary.{summary}
use Rattle.summary_writer.proofs.writing.write_summary.Goals as goal

pub returns-in_err-add_summary : goal.returns-in_err-add_summary
returns-in_err-add_summary g c =
    stopped_put g.K.Sink.written g.K.Sink.faults c.args.sink.now c.add_summary.new.sink c.new-gathered.result c.add_summary.new.gathered c.in_err-add_summary.field-0.0 c.from_residual.result (summary c.args.names.now c.args.sample.now.family c.args.sample.now.number c.args.answer.now) c.new-gathered.ensures c.from_residual.ensures.0 c.in_err-add_summary.ensures

pub returns : goal.returns
returns g c =
    gathered_put g.K.Sink.written g.K.Sink.faults c.args.sink.now c.add_summary.new.sink c.put.new.sink c.new-gathered.result c.add_summary.new.gathered c.in_ok-add_summary.field-0 c.put.result (summary c.args.names.now c.args.sample.now.family c.args.sample.now.number c.args.answer.now) c.new-gathered.ensures c.in_ok-add_summary.ensures c.put.ensures.puts
