use Rattle.program_text.proofs.Gathering.{passed_gathered, stuck_gathered}
use Rattle.program_text.proofs.gathered.Gathered.add.Goals as goal

pub returns-in_err-put : goal.returns-in_err-put
returns-in_err-put g c =
    stuck_gathered g.K.Sink.written g.K.Sink.faults c.args.sink.now c.put.new.sink c.args.self.now c.put.new.self c.args.bytes.now c.in_err-put.field-0.0 c.from_residual.result c.from_residual.ensures.0 c.in_err-put.ensures.puts

pub returns : goal.returns
returns g c =
    passed_gathered g.K.Sink.written g.K.Sink.faults c.args.sink.now c.put.new.sink c.put_all.new.sink c.args.self.now c.put.new.self c.args.bytes.now c.in_ok-put.field-0 c.put_all.result c.in_ok-put.ensures.puts c.put_all.ensures c.in_ok-put.ensures.none
