use Rattle.std.proofs.Common.{◌∙◌, ap}
use Rattle.ground_state.specs.Action.{state_after}
use Rattle.pointer_machine.specs.Meaning.{objects_at}
use Rattle.pointer_machine.proofs.pointing.Pointing.take_effect.Goals as goal

pub returns-in-Act-clause-atoms : goal.returns-in-Act-clause-atoms
returns-in-Act-clause-atoms c =
    rw c.in-Act.is (c.act_at.ensures.atoms ∙ ap (λ args. state_after c.args.task.now c.args.table.now c.in-Act.schema (objects_at c.args.self.now.pointers args) c.args.self.now.atoms) c.as_slice.ensures.pointers)
