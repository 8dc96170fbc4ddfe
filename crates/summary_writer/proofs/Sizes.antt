-- How many sizes a sample of a family has.
use Rattle.std.proofs.Common.{ℕ, ◌≤◌, length, arith}
use Rattle.family_gen.specs.declared.kinds.Family.{Family}
use Rattle.family_gen.specs.declared.kinds.Family.TheVariants.{Lights, Corridor}
use Rattle.family_gen.specs.Families.{sizes_of}
use Rattle.summary_writer.specs.declared.written_lines.TheConstants.{MAX_SIZES}

pub few_sizes : (family : Family) (number : ℕ) → length (sizes_of family number) ≤ MAX_SIZES
few_sizes Lights number = omega arith
few_sizes Corridor number = omega arith
