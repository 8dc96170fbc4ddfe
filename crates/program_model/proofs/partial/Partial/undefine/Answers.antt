use Rattle.std.proofs.Common.{◌<◌, None, ap, ◌∙◌, arith, set, take, length, length-take}
use Rattle.std.proofs.Math.Seq.{take-set-lt}
use Rattle.program_model.proofs.partial.Partial.undefine.Goals as goal

pub returns : goal.returns
returns c =
    let it = c.self.inside in
    let within : c.args.line < it.lines = omega (arith, ap length c.self.view_is, length-take it.lines it.table) in
    ap (λ i. take it.lines (set it.table i None)) c.from.ensures
    ∙ take-set-lt it.lines it.table c.args.line None within
    ∙ ap (λ q. set q c.args.line None) c.self.view_is
