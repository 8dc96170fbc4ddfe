use Rattle.family_gen.proofs.Reading.{task_of_text, task_refused}
use Rattle.family_gen.proofs.laws.tasks_are_made_without_a_refusal.Goals as goal

pub returns : goal.returns
returns c = record { parts = task_of_text; made = task_refused }
