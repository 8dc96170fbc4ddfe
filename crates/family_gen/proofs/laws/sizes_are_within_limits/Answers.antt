use Rattle.family_gen.proofs.Numbers.{some_sizes, few_sizes, sizes_within}
use Rattle.family_gen.proofs.laws.sizes_are_within_limits.Goals as goal

pub returns : goal.returns
returns c = record { some = some_sizes; few = few_sizes; each = sizes_within }
