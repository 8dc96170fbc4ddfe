use Rattle.family_gen.proofs.Reading.{instance_of_text, instance_refused}
use Rattle.family_gen.proofs.laws.instances_are_made_without_a_refusal.Goals as goal

pub returns : goal.returns
returns c = record { parts = instance_of_text; made = instance_refused }
