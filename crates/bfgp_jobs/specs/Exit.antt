-- The numbers that a process ends with.
use Rattle.std.specs.Prelude.{ℕ}
use Rattle.bfgp_jobs.specs.declared.status.Status.{Status}
use Rattle.bfgp_jobs.specs.declared.status.Status.TheVariants.{Done, No, Usage, Input, SpentExpansions, SpentRun, ReadFault, WriteFault, OutOfMemory}

-- the exit status of the process, by the status of the run
abbrev pub exit_number : Status → ℕ
exit_number Done = 0
exit_number No = 1
exit_number Usage = 2
exit_number Input = 3
exit_number SpentExpansions = 4
exit_number SpentRun = 5
exit_number ReadFault = 6
exit_number WriteFault = 7
exit_number OutOfMemory = 8
