use Rattle.std.proofs.Common.{take}
use Rattle.std.specs.Prelude.{Any}
use Rattle.pddl_task.specs.Faults.{IsFirst}
use Rattle.pddl_task.proofs.check.first_of.Given as goal

abbrev pub invariant-loop-item : goal.invariant-loop-item
invariant-loop-item g l = IsFirst (λ fault. Any (g.C.Check.IsFault l.check fault) (take l.item-index l.items)) l.first
