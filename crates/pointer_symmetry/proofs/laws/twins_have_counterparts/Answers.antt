use Rattle.pointer_symmetry.proofs.FairTwins.{has_renamed}
use Rattle.pointer_symmetry.proofs.laws.twins_have_counterparts.Goals as goal

pub returns : goal.returns
returns g c = λ q program line instr partial here completes.
    has_renamed (g.M.Machine.semantics c.args.machine.now) (g.M.Machine.belongs c.args.machine.now) c.treats_pointers_alike.ensures (rw (← c.pointers.ensures.value) c.pointers.ensures.few)
    q program line instr partial here completes
