use Rattle.flag_rules.specs.Line.{line}
use Rattle.program_text.specs.Texts.{instr_text}
use Rattle.program_text.proofs.Gathering.{gathered_put, stopped_put}
use Rattle.program_text.proofs.writing.write_instr.Goals as goal

pub returns-in_err-add_instr : goal.returns-in_err-add_instr
returns-in_err-add_instr g c =
    stopped_put g.K.Sink.written g.K.Sink.faults c.args.sink.now c.add_instr.new.sink c.new-gathered.result c.add_instr.new.gathered c.in_err-add_instr.field-0.0 c.from_residual.result (line (instr_text c.args.names.now c.args.instr)) c.new-gathered.ensures c.from_residual.ensures.0 c.in_err-add_instr.ensures

pub returns : goal.returns
returns g c =
    gathered_put g.K.Sink.written g.K.Sink.faults c.args.sink.now c.add_instr.new.sink c.put.new.sink c.new-gathered.result c.add_instr.new.gathered c.in_ok-add_instr.field-0 c.put.result (line (instr_text c.args.names.now c.args.instr)) c.new-gathered.ensures c.in_ok-add_instr.ensures c.put.ensures.puts
