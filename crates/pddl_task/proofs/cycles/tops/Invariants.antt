use Rattle.std.proofs.Common.{◌≡◌, ℕ, ◌<◌, ◌≤◌, ◌-◌, map, take, length, slice_index}
use Rattle.ground_state.specs.declared.parts.TypeEntry.{TypeEntry}
use Rattle.ground_state.specs.Task.{ancestor}
use Rattle.pddl_task.proofs.cycles.tops.Given as goal

abbrev pub invariant-loop-entry : goal.invariant-loop-entry
invariant-loop-entry l = l.above.items ≡ map (λ (entry : TypeEntry). entry.parent) (take l.entry-index l.entries)

abbrev pub invariant-loop-steps : goal.invariant-loop-steps
invariant-loop-steps l = record {
  some : 1 ≤ l.steps;
  long : length l.above.items ≡ length l.entries;
  are : (number : ℕ) → number < length l.entries → slice_index l.above.items number ≡ ancestor l.entries l.steps number;
}

abbrev pub decreases-loop-steps : goal.decreases-loop-steps
decreases-loop-steps l = length l.entries - l.steps
