use Rattle.std.proofs.Common.{◌++◌}
use Rattle.std.specs.Prelude.{Any}
use Rattle.pddl_task.specs.Inner.Arities.{arity_in}
use Rattle.pddl_task.specs.Faults.{IsHeadFault, IsUnknownName}
use Rattle.pddl_task.proofs.First.{first_both}
use Rattle.pddl_task.proofs.atom_checks.AtomCheckCheckAtomText.first_fault.Goals as goal

pub returns : goal.returns
returns c =
    rw c.earlier.ensures (first_both (λ fault. IsHeadFault (arity_in c.args.self.now.arities.now c.args.atom.now.head.text) fault c.args.atom.now) (λ fault. Any (IsUnknownName (c.args.self.now.one.now ++ c.args.self.now.other.now) fault) c.args.atom.now.args) c.head_fault-of_head.result c.in_ok-of_names.of_names c.head_fault-of_head.ensures (rw c.as_slice.ensures at c.in_ok-of_names.ensures))
