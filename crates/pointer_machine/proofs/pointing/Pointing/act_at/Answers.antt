use Rattle.std.proofs.Common.{◌∙◌, ap}
use Rattle.ground_state.specs.Action.{state_after}
use Rattle.pointer_machine.proofs.Values.{action_of}
use Rattle.pointer_machine.proofs.pointing.Pointing.act_at.Goals as goal

pub apply-requires-clause-action : goal.apply-requires-clause-action
apply-requires-clause-action c =
    rw c.objects_at-objects.ensures (action_of c.args.task.now c.args.table.now c.args.self.now c.args.schema c.args.args.now c.requires.value c.requires.form)

pub returns-clause-atoms : goal.returns-clause-atoms
returns-clause-atoms c =
    c.apply.ensures.acted ∙ ap (λ objects. state_after c.args.task.now c.args.table.now c.args.schema objects c.args.self.now.atoms) c.objects_at-objects.ensures
