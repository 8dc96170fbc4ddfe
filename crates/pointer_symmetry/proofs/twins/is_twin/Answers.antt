use Rattle.std.proofs.Common.{refl}
use Rattle.pointer_symmetry.proofs.twins.is_twin.Goals as goal

pub returns-in-Op-clause-value : goal.returns-in-Op-clause-value
returns-in-Op-clause-value g c = rw c.in-Op.is (c.has_another_form.ensures _ (λ pointer lt. refl))

pub returns-in-Op-clause-twins : goal.returns-in-Op-clause-twins
returns-in-Op-clause-twins g c = λ program used. rw c.in-Op.is (c.has_another_form.ensures _ (λ pointer lt. used pointer))
