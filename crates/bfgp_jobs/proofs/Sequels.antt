-- What follows each step of a job.
use Rattle.std.proofs.Common.{ℕ, List, Result}
use Rattle.bfgp_outside.specs.Shelf.{Files}
use Rattle.program_model.specs.Program.{Program}
use Rattle.pointer_machine.specs.Machine.{MachineParts}
use Rattle.command_words.specs.declared.job.SynthJob.{SynthJob}
use Rattle.command_words.specs.declared.job.CheckJob.{CheckJob}
use Rattle.command_words.specs.declared.job.RunJob.{RunJob}
use Rattle.bfgp_jobs.specs.Reply.{Reply}
use Rattle.input_reading.specs.Steps.{◌>>=◌}
use Rattle.input_reading.specs.Inputs.{file_due, program_due}
use Rattle.bfgp_jobs.specs.Due.{answer_due, report_due, VerdictDue}

-- after the machine of a search
abbrev pub after_search_machine : SynthJob → MachineParts → Result Reply (List ℕ) → Type 0
after_search_machine job machine = answer_due machine job.bounds

-- after the bytes of the answer file
abbrev pub after_document : CheckJob → MachineParts → List ℕ → Result Reply (List ℕ) → Type 0
after_document job machine bytes = VerdictDue machine job.lines bytes

-- after the program of a run
abbrev pub after_program : RunJob → MachineParts → Program → Result Reply (List ℕ) → Type 0
after_program job machine program = report_due machine job.run program

-- after the bytes of the program file
abbrev pub after_program_bytes : RunJob → MachineParts → List ℕ → Result Reply (List ℕ) → Type 0
after_program_bytes job machine bytes = program_due machine job.program bytes >>= after_program job machine

-- after the machine of a job that reads one more file, of at most so many bytes
abbrev pub after_machine : (limit : ℕ) (name : List ℕ) → (MachineParts → List ℕ → Result Reply (List ℕ) → Type 0) → Files → MachineParts → Result Reply (List ℕ) → Type 0
after_machine limit name after_bytes files machine = file_due files limit name >>= after_bytes machine
