-- The search within bounds: of the nodes that wait, the best by the order of the bounds is split first.
use Rattle.std.specs.Prelude.{map}
use Rattle.program_model.specs.Semantics.{Semantics}
use Rattle.refutation_tree.specs.declared.evidence.Answer.{Answer}
use Rattle.pointer_symmetry.specs.Twins.{twins}
use Rattle.evaluations.specs.Evaluations.{standing_of, key}
use Rattle.search_bounds.specs.declared.bounds.Bounds.{Bounds}
use Rattle.synthesis.specs.Search.{Setting}
use Rattle.synthesis.specs.Answers.{IsAnswer}

-- a node has the key of its program and of where its runs stand, by the order of the bounds; children that are twins are passed over
abbrev pub best_first : {C : Type 0} → Semantics C → Bounds → Setting C
best_first m bounds = record { machine = m; limit = bounds.run; key_of = λ q runs. key bounds.order q (map standing_of runs); skips = twins m }

-- the answer of the search over a machine within bounds
abbrev pub IsBestFirstAnswer : {C : Type 0} → Semantics C → Bounds → Answer → Type 0
IsBestFirstAnswer m bounds answer = IsAnswer (best_first m bounds) bounds.budget bounds.lines answer
