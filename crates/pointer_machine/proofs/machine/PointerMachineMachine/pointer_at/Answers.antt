use Rattle.pointer_machine.proofs.RenamedForms.{pointer_low}
use Rattle.pointer_machine.proofs.machine.PointerMachineMachine.pointer_at.Goals as goal

pub returns-clause-within : goal.returns-clause-within
returns-clause-within c =
    pointer_low c.args.self.now.task c.args.self.now.pointers c.args.op c.args.place c.pointer_at.result c.form.result.now c.form.ensures c.pointer_at.ensures
