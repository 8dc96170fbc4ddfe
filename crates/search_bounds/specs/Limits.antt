-- Which bounds of a search are within their limits.
use Rattle.std.specs.Prelude.{◌<◌, ◌≤◌}
use Rattle.program_model.specs.declared.alphabet.TheConstants.{MAX_LINES}
use Rattle.program_model.specs.declared.standing.TheConstants.{MAX_RUN}
use Rattle.search_bounds.specs.declared.bounds.TheConstants.{MAX_BUDGET}
use Rattle.search_bounds.specs.declared.bounds.Bounds.{Bounds}

-- the numbers of the bounds are within their limits
pub record AreWithinLimits (bounds : Bounds) : Type 0 where
  pub some_lines : 0 < bounds.lines
  pub few_lines : bounds.lines ≤ MAX_LINES
  pub few_splits : bounds.budget ≤ MAX_BUDGET
  pub few_steps : bounds.run ≤ MAX_RUN
