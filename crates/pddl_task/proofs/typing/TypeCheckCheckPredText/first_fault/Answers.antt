use Rattle.pddl_task.proofs.typing.TypeCheckCheckPredText.first_fault.Goals as goal

pub returns : goal.returns
returns c = c.first_unknown_type.ensures
