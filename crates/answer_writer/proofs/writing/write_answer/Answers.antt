use Rattle.program_text.proofs.Gathering.{gathered_put, stopped_put}
use Rattle.answer_writer.specs.Document.{document}
use Rattle.answer_writer.proofs.writing.write_answer.Goals as goal

pub returns-in_err-add_answer : goal.returns-in_err-add_answer
returns-in_err-add_answer g c =
    stopped_put g.K.Sink.written g.K.Sink.faults c.args.sink.now c.add_answer.new.sink c.new-gathered.result c.add_answer.new.gathered c.in_err-add_answer.field-0.0 c.from_residual.result (document c.args.names.now c.args.answer.now) c.new-gathered.ensures c.from_residual.ensures.0 c.in_err-add_answer.ensures

pub returns : goal.returns
returns g c =
    gathered_put g.K.Sink.written g.K.Sink.faults c.args.sink.now c.add_answer.new.sink c.put.new.sink c.new-gathered.result c.add_answer.new.gathered c.in_ok-add_answer.field-0 c.put.result (document c.args.names.now c.args.answer.now) c.new-gathered.ensures c.in_ok-add_answer.ensures c.put.ensures.puts
