use Rattle.std.proofs.Common.{[], ◌∷◌}
use Rattle.program_text.proofs.Gathering.{all_gathered, then_gathered, failed_gathered}
use Rattle.program_text.proofs.gathered.Gathered.add_line.Goals as goal

pub returns-in_err-add : goal.returns-in_err-add
returns-in_err-add g c =
    failed_gathered g.K.Sink.written g.K.Sink.faults c.args.sink.now c.add.new.sink c.args.self.now c.add.new.self c.add.new.self c.in_err-add.field-0.0 c.from_residual.result c.args.text.now (10 ∷ []) c.from_residual.ensures.0 c.in_err-add.ensures

pub returns : goal.returns
returns g c =
    let written = g.K.Sink.written in
    let faults = g.K.Sink.faults in
    then_gathered written faults c.args.sink.now c.add.new.sink c.add-2.new.sink c.args.self.now c.add.new.self c.add-2.new.self c.add-2.result c.args.text.now (10 ∷ [])
    (all_gathered written faults c.args.sink.now c.add.new.sink c.args.self.now c.add.new.self c.in_ok-add.field-0 c.args.text.now c.in_ok-add.ensures) c.add-2.ensures
