use Rattle.pointer_machine.proofs.Values.{start_at}
use Rattle.pointer_machine.proofs.machine.PointerMachineMachine.begin.Goals as goal

pub returns-clause-belongs : goal.returns-clause-belongs
returns-clause-belongs c =
    rw (← c.self.view_is) (start_at _ c.args.t c.index.result.now c.reset.new.self c.self.invariant.0 (rw (← c.self.view_is) at c.requires.t) (rw c.from.ensures at c.index.ensures) c.reset.ensures)
