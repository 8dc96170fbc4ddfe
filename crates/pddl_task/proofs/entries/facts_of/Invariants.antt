use Rattle.std.proofs.Common.{◌≡◌, map, take}
use Rattle.pddl_task.specs.Parts.{fact_of}
use Rattle.pddl_task.proofs.entries.facts_of.Given as goal

abbrev pub invariant-loop-atom : goal.invariant-loop-atom
invariant-loop-atom l = l.facts ≡ map (fact_of l.heads l.objects) (take l.atom-index l.atoms)
