use Rattle.refutation_check.proofs.Waiting.{op_of_rank, skips_of_rank}
use Rattle.refutation_check.proofs.family.Family.child_is_twin.Goals as goal

pub is_twin-requires : goal.is_twin-requires
is_twin-requires g c =
    op_of_rank (g.M.Machine.semantics c.args.machine.now) (g.M.Machine.belongs c.args.machine.now) c.args.self.now c.requires c.instr.result c.instr.ensures

pub returns : goal.returns
returns g c =
    skips_of_rank (g.M.Machine.semantics c.args.machine.now) (g.M.Machine.belongs c.args.machine.now) c.args.self.now c.requires c.instr.result c.instr.ensures c.is_twin.result (c.is_twin.ensures.twins c.args.self.now.parent c.requires.used)
