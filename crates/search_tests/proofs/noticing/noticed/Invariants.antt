use Rattle.std.proofs.Common.{◌-◌}
use Rattle.search_tests.specs.declared.noticing.TheConstants.{MOST_STEPS}
use Rattle.search_tests.proofs.noticing.noticed.Given as goal

abbrev pub decreases-loop-marks : goal.decreases-loop-marks
decreases-loop-marks l = MOST_STEPS - l.marks.steps
