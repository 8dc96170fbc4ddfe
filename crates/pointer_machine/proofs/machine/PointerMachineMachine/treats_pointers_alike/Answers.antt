use Rattle.pointer_machine.proofs.Symmetry.{symmetric_meaning}
use Rattle.pointer_machine.proofs.machine.PointerMachineMachine.treats_pointers_alike.Goals as goal

pub returns : goal.returns
returns c =
    rw (← c.self.view_is) (symmetric_meaning c.self.inside.task c.self.inside.tables.items c.self.inside.pointers c.self.invariant.0)
