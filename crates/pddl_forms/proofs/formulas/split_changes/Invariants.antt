use Rattle.std.proofs.Common.{◌≡◌}
use Rattle.pddl_forms.specs.Forms.{added, deleted}
use Rattle.pddl_forms.proofs.formulas.split_changes.Given as goal

abbrev pub invariant-loop-change : goal.invariant-loop-change
invariant-loop-change l = (l.add ≡ added l.yielded) × (l.del ≡ deleted l.yielded)
