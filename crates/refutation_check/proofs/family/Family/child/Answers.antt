use Rattle.program_model.proofs.Programs.{open_is_not_last}
use Rattle.refutation_check.proofs.Waiting.{child_of_rank, child_is_partial}
use Rattle.refutation_check.proofs.family.Family.child.Goals as goal

pub define-requires : goal.define-requires
define-requires g c =
    let m = g.M.Machine.semantics c.args.machine.now in
    let parent = c.args.self.now.parent in
    rw c.copy-child.ensures (open_is_not_last m.ops parent c.args.self.now.line c.requires.partial c.requires.here)

pub returns-clause-value : goal.returns-clause-value
returns-clause-value g c =
    child_of_rank (g.M.Machine.semantics c.args.machine.now) (g.M.Machine.belongs c.args.machine.now) c.args.self.now c.requires c.instr.result c.instr.ensures c.copy-child.result c.define.new.self c.copy-child.ensures c.define.ensures

pub returns-clause-partial : goal.returns-clause-partial
returns-clause-partial g c =
    child_is_partial (g.M.Machine.semantics c.args.machine.now) (g.M.Machine.belongs c.args.machine.now) c.args.self.now c.requires c.instr.result c.instr.ensures c.copy-child.result c.define.new.self c.copy-child.ensures c.define.ensures
