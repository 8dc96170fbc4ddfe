use Rattle.program_model.specs.declared.machine.TheConstants.{MAX_POINTERS}
use Rattle.pointer_machine.proofs.Forms.{form_of}
use Rattle.pointer_machine.proofs.Values.{value_at, operation_keeps}
use Rattle.pointer_machine.proofs.machine.PointerMachineMachine.act.Goals as goal

pub operate-requires-clause-value : goal.operate-requires-clause-value
operate-requires-clause-value c =
    value_at _ c.args.t c.index.result.now c.args.cfg.now c.self.invariant.0 (rw (← c.self.view_is) at c.requires.cfg) (rw c.from.ensures at c.index.ensures)

pub operate-requires-clause-form : goal.operate-requires-clause-form
operate-requires-clause-form c =
    form_of c.self.inside.task c.self.inside.pointers MAX_POINTERS c.args.op c.form.result.now c.self.invariant.0.few_pointers (rw (← c.self.view_is) at c.form.ensures)

pub returns-clause-belongs : goal.returns-clause-belongs
returns-clause-belongs c =
    rw (← c.self.view_is) (operation_keeps _ c.args.t c.args.op c.index.result.now c.form.result.now c.args.cfg.now c.operate.new.self c.self.invariant.0 (rw (← c.self.view_is) at c.requires.cfg) (rw c.from.ensures at c.index.ensures) (rw (← c.self.view_is) at c.form.ensures) c.operate.ensures)
