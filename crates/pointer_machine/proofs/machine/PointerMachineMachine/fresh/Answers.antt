use Rattle.std.proofs.lemmas.Result.{IfOk-weaker}
use Rattle.pointer_machine.proofs.Values.{start_at}
use Rattle.pointer_machine.proofs.machine.PointerMachineMachine.fresh.Goals as goal

pub returns-clause-belongs : goal.returns-clause-belongs
returns-clause-belongs c =
    rw (← c.self.view_is) (IfOk-weaker c.start.result _ _ (λ value made. start_at _ c.args.t c.index.result.now value c.self.invariant.0 (rw (← c.self.view_is) at c.requires) (rw c.from.ensures at c.index.ensures) made) c.start.ensures)
