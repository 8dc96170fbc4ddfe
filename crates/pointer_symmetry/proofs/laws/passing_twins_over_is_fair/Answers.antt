use Rattle.pointer_symmetry.proofs.FairTwins.{twins_fair}
use Rattle.pointer_symmetry.proofs.laws.passing_twins_over_is_fair.Goals as goal

pub returns : goal.returns
returns g c = twins_fair (g.M.Machine.semantics c.args.machine.now) (g.M.Machine.belongs c.args.machine.now) c.treats_pointers_alike.ensures (rw (← c.pointers.ensures.value) c.pointers.ensures.few)
