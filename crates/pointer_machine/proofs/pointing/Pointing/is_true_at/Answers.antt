use Rattle.pointer_machine.specs.Meaning.{objects_at}
use Rattle.pointer_machine.proofs.Values.{atom_of, test_of}
use Rattle.pointer_machine.proofs.pointing.Pointing.is_true_at.Goals as goal

pub holds-requires-clause-atom : goal.holds-requires-clause-atom
holds-requires-clause-atom c =
    rw c.objects_at-objects.ensures (atom_of c.args.task.now c.args.table.now c.args.self.now c.args.pred c.args.args.now c.requires.table c.requires.value c.requires.form)

pub returns : goal.returns
returns c =
    let exactly = rw c.objects_at-objects.ensures at c.holds.ensures in
    test_of c.args.table.now c.args.self.now.atoms (record { pred = c.args.pred; args = objects_at c.args.self.now.pointers c.args.args.now }) c.holds.result exactly
