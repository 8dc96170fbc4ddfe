use Rattle.pointer_symmetry.specs.Twins.{twins}
use Rattle.refutation_tree.proofs.Holding.{accepted_least, accepted_none, accepted_spent}
use Rattle.document_check.proofs.laws.accepted_documents_hold.Goals as goal

pub returns-clause-program : goal.returns-clause-program
returns-clause-program g c = λ texts lines size bytes is found.
    let m = g.M.Machine.semantics c.args.machine.now in
    accepted_least m (twins m) c.passing_twins_over_is_fair.ensures lines size is.answer is.is_accepted found

pub returns-clause-nothing : goal.returns-clause-nothing
returns-clause-nothing g c = λ texts lines bytes is nothing.
    let m = g.M.Machine.semantics c.args.machine.now in
    accepted_none m (twins m) c.passing_twins_over_is_fair.ensures lines is.answer is.is_accepted nothing

pub returns-clause-spent : goal.returns-clause-spent
returns-clause-spent g c = λ texts lines size bytes is spent.
    let m = g.M.Machine.semantics c.args.machine.now in
    accepted_spent m (twins m) c.passing_twins_over_is_fair.ensures lines size is.answer is.is_accepted spent
