use Rattle.program_text.specs.Texts.{program_text}
use Rattle.program_text.proofs.Gathering.{gathered_put, stopped_put}
use Rattle.program_text.proofs.writing.write_program.Goals as goal

pub returns-in_err-add_program : goal.returns-in_err-add_program
returns-in_err-add_program g c =
    stopped_put g.K.Sink.written g.K.Sink.faults c.args.sink.now c.add_program.new.sink c.new-gathered.result c.add_program.new.gathered c.in_err-add_program.field-0.0 c.from_residual.result (program_text c.args.names.now c.args.program.now) c.new-gathered.ensures c.from_residual.ensures.0 c.in_err-add_program.ensures

pub returns : goal.returns
returns g c =
    gathered_put g.K.Sink.written g.K.Sink.faults c.args.sink.now c.add_program.new.sink c.put.new.sink c.new-gathered.result c.add_program.new.gathered c.in_ok-add_program.field-0 c.put.result (program_text c.args.names.now c.args.program.now) c.new-gathered.ensures c.in_ok-add_program.ensures c.put.ensures.puts
