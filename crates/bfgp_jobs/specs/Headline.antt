-- The headline, in the words of planning.
use Rattle.std.specs.Prelude.{◌≡◌, ◌+◌, ◌<◌, ◌≤◌, ℕ, List, ◌++◌, map, length, slice_get, All, Option, Some, None, Ok}
use Rattle.bfgp_outside.specs.Shelf.{Files}
use Rattle.bfgp_outside.specs.Sink.{Appends}
use Rattle.ground_state.specs.declared.parts.TaskParts.{TaskParts}
use Rattle.ground_state.specs.declared.parts.InstanceParts.{InstanceParts}
use Rattle.ground_state.specs.Ground.{ground_of, Holds}
use Rattle.program_model.specs.Program.{Program, IsProgram}
use Rattle.program_model.specs.Run.{Config, at}
use Rattle.program_model.specs.Semantics.{Semantics}
use Rattle.pointer_machine.specs.declared.pointing.Pointing.{Pointing}
use Rattle.pointer_machine.specs.Machine.{MachineParts}
use Rattle.pointer_machine.specs.Operations.{operations_of}
use Rattle.pointer_machine.specs.Meaning.{meaning}
use Rattle.pointer_machine.specs.Texts.{operation_texts}
use Rattle.refutation_tree.specs.declared.evidence.Answer.{Answer}
use Rattle.refutation_tree.specs.declared.evidence.Outcome.{Outcome}
use Rattle.refutation_tree.specs.declared.evidence.Outcome.TheVariants as outcomes
use Rattle.answer_reader.specs.Reading.{IsDocument}
use Rattle.synthesis.specs.BestFirst.{IsBestFirstAnswer}
use Rattle.synthesis.specs.Spent.{SpendsBudget, SpendsRun}
use Rattle.program_text.specs.Reading.{Reads}
use Rattle.input_reading.specs.Posed.{Poses}
use Rattle.command_words.specs.declared.job.Job.{Job}
use Rattle.command_words.specs.declared.job.Job.TheVariants.{Synth, Check, Run, Gen}
use Rattle.command_words.specs.declared.job.SynthJob.{SynthJob}
use Rattle.command_words.specs.declared.job.CheckJob.{CheckJob}
use Rattle.command_words.specs.declared.job.RunJob.{RunJob}
use Rattle.command_words.specs.declared.job.GenJob.{GenJob}
use Rattle.search_bounds.specs.declared.bounds.Bounds.{Bounds}
use Rattle.program_text.specs.Texts.{program_text}
use Rattle.family_gen.specs.declared.kinds.Family.{Family}
use Rattle.family_gen.specs.Families.{pointers_of, bounds_of}
use Rattle.family_gen.specs.Parts.{family_task, family_instances}
use Rattle.summary_writer.specs.Summary.{summary}
use Rattle.bfgp_jobs.specs.declared.status.Status.{Status}
use Rattle.bfgp_jobs.specs.declared.status.Status.TheVariants.{Done, No, SpentExpansions, SpentRun}
use Rattle.command_words.specs.Words.{JobOf}
use Rattle.bfgp_jobs.specs.Due.{Due, IsAcceptedDocument}
use Rattle.bfgp_jobs.specs.Answers.{Answers, TellsOfFile}

-- what the machine over these instances and so many pointers is made of
abbrev pub posed_parts : TaskParts → List InstanceParts → ℕ → MachineParts
posed_parts task instances pointers = record { task = task; tables = map (ground_of task) instances; pointers = pointers }

-- the machine over these instances and so many pointers
abbrev pub posed_machine : TaskParts → List InstanceParts → ℕ → Semantics Pointing
posed_machine task instances pointers = meaning task (map (ground_of task) instances) pointers

-- after so many steps the program's run on the instance of a number stands on its last line, in a state in which every fact of
-- the goal is true
pub record EndsInGoal (task : TaskParts) (instances : List InstanceParts) (pointers : ℕ) (program : Program) (t : ℕ) (instance : InstanceParts) (steps : ℕ) : Type 0 where
  pub config : Config Pointing
  pub comes : at (posed_machine task instances pointers) program t steps ≡ Some config
  pub last : config.line + 1 ≡ length program
  pub met : All (Holds (ground_of task instance) config.value.atoms) instance.goal

-- the program's run on every instance comes to stand so
abbrev pub SolvesEach : TaskParts → List InstanceParts → ℕ → Program → Type 0
SolvesEach task instances pointers program = (t : ℕ) (instance : InstanceParts) → slice_get instances t ≡ Some instance → (steps : ℕ) × EndsInGoal task instances pointers program t instance steps

-- these are the steps after which the program's runs stand so, on the instances in order
pub record AreEndsInGoal (task : TaskParts) (instances : List InstanceParts) (pointers : ℕ) (program : Program) (ends : List ℕ) : Type 0 where
  pub count : length ends ≡ length instances
  pub each : (t steps : ℕ) (instance : InstanceParts) → slice_get instances t ≡ Some instance → slice_get ends t ≡ Some steps → EndsInGoal task instances pointers program t instance steps

-- the texts of the operations over a family
abbrev pub family_operations : Family → List (List ℕ)
family_operations family = operation_texts (family_task family) (pointers_of family)

-- a program over the operations of the task and so many pointers
abbrev pub IsProgramOver : TaskParts → ℕ → Program → Type 0
IsProgramOver task pointers program = IsProgram (length (operations_of task pointers)) program

-- no program of fewer than so many lines solves every instance
abbrev pub NoneShorter : TaskParts → List InstanceParts → (pointers size : ℕ) → Type 0
NoneShorter task instances pointers size = (program : Program) → IsProgramOver task pointers program → length program < size → SolvesEach task instances pointers program → ⊥

-- no program of at most so many lines solves every instance
abbrev pub NoneSolvesEach : TaskParts → List InstanceParts → (pointers lines : ℕ) → Type 0
NoneSolvesEach task instances pointers lines = (program : Program) → IsProgramOver task pointers program → length program ≤ lines → SolvesEach task instances pointers program → ⊥

-- a program of at most so many lines that solves every instance, while none with fewer lines over the same pointers does
pub record IsLeastSolution (task : TaskParts) (instances : List InstanceParts) (pointers lines : ℕ) (program : Program) : Type 0 where
  pub is_program : IsProgramOver task pointers program
  pub at_most : length program ≤ lines
  pub solves : SolvesEach task instances pointers program
  pub least : NoneShorter task instances pointers (length program)

-- the answer gives such a program, and the steps after which its runs end
pub record GivesLeast (task : TaskParts) (instances : List InstanceParts) (pointers lines : ℕ) (answer : Answer) : Type 0 where
  pub program : Program
  pub is_least : IsLeastSolution task instances pointers lines program
  pub found : answer.outcome ≡ outcomes.Program (length program)
  pub given : answer.program ≡ Some program
  pub ends : AreEndsInGoal task instances pointers program answer.ends

-- what an accepted answer shows, by its outcome: its program is a least solution; or there is none of at most as many lines as were
-- asked for; or, where the budget or a run was spent, none of fewer lines than the size at which it was
abbrev pub Shows : TaskParts → List InstanceParts → (pointers lines : ℕ) → Answer → Outcome → Type 0
Shows task instances pointers lines answer (outcomes.Program size) = GivesLeast task instances pointers lines answer
Shows task instances pointers lines answer outcomes.Nothing = NoneSolvesEach task instances pointers lines
Shows task instances pointers lines answer (outcomes.SpentExpansions size) = NoneShorter task instances pointers size
Shows task instances pointers lines answer (outcomes.SpentRun size t) = NoneShorter task instances pointers size

-- bytes were written that read back as this answer, and as no other, where these are the texts of the operations
pub record SaysAnswer (texts : List (List ℕ)) (old new : Option (List ℕ)) (answer : Answer) : Type 0 where
  pub bytes : List ℕ
  pub appended : Appends old new bytes
  pub says : IsDocument texts bytes answer
  pub only : (other : Answer) → IsDocument texts bytes other → other ≡ answer

-- a search over instances within bounds gives an answer whose program, of at most as many lines as were asked for, solves every
-- instance, after as many steps as it tells, and no program with fewer lines over the same pointers does; this was written of it
pub record FindsLeast (task : TaskParts) (instances : List InstanceParts) (pointers : ℕ) (bounds : Bounds) (Written : Answer → Type 0) : Type 0 where
  pub answer : Answer
  pub gives : GivesLeast task instances pointers bounds.lines answer
  pub searched : IsBestFirstAnswer (posed_machine task instances pointers) bounds answer
  pub written : Written answer

-- it gives an answer that there is none, and no program of at most as many lines as were asked for solves every instance
pub record RefutesAll (task : TaskParts) (instances : List InstanceParts) (pointers : ℕ) (bounds : Bounds) (Written : Answer → Type 0) : Type 0 where
  pub none : NoneSolvesEach task instances pointers bounds.lines
  pub answer : Answer
  pub nothing : answer.outcome ≡ outcomes.Nothing
  pub no_program : answer.program ≡ None
  pub searched : IsBestFirstAnswer (posed_machine task instances pointers) bounds answer
  pub written : Written answer

-- it gives an answer that it spent its budget at a size, where it made as many splits as the budget allows while a partial program
-- of that size waits; and no program of fewer lines solves every instance
pub record SpendsBudgetAt (task : TaskParts) (instances : List InstanceParts) (pointers : ℕ) (bounds : Bounds) (Written : Answer → Type 0) : Type 0 where
  pub answer : Answer
  pub size : ℕ
  pub says : answer.outcome ≡ outcomes.SpentExpansions size
  pub spends : SpendsBudget bounds.budget size answer.trees
  pub none : NoneShorter task instances pointers size
  pub no_program : answer.program ≡ None
  pub searched : IsBestFirstAnswer (posed_machine task instances pointers) bounds answer
  pub written : Written answer

-- it gives an answer that a partial program of a size made as many steps on an instance as a run may; and no program of fewer
-- lines solves every instance
pub record SpendsRunAt (task : TaskParts) (instances : List InstanceParts) (pointers : ℕ) (bounds : Bounds) (Written : Answer → Type 0) : Type 0 where
  pub answer : Answer
  pub size : ℕ
  pub t : ℕ
  pub says : answer.outcome ≡ outcomes.SpentRun size t
  pub spends : SpendsRun (posed_machine task instances pointers) bounds.run size t answer.trees
  pub none : NoneShorter task instances pointers size
  pub no_program : answer.program ≡ None
  pub searched : IsBestFirstAnswer (posed_machine task instances pointers) bounds answer
  pub written : Written answer

-- what a kind of result says of a search: over a task, instances of it and so many pointers, within bounds, with what was written
-- of the answer
abbrev pub SearchResult : Type 1
SearchResult = TaskParts → List InstanceParts → ℕ → Bounds → (Answer → Type 0) → Type 0

-- this is the result of `synth`: over what its files hold, and what was written says its answer and no other
abbrev pub OfSynth : SearchResult → SynthJob → Files → Option (List ℕ) → Option (List ℕ) → Type 0
OfSynth Result job files old new = (posed : Poses job.inputs files) × Result posed.task posed.instances job.pointers job.bounds (SaysAnswer (operation_texts posed.task job.pointers) old new)

-- the lines with which a text ends are those of a program, and read back as it
pub record EndsWithProgram (texts : List (List ℕ)) (bytes : List ℕ) (program : Program) : Type 0 where
  pub front : List ℕ
  pub ends : bytes ≡ front ++ program_text texts program
  pub reads : Reads texts (program_text texts program) (Ok program)

-- the summary of an answer was written, which ends with the program that the answer gives, if it gives one
pub record TellsSummary (job : GenJob) (old new : Option (List ℕ)) (answer : Answer) : Type 0 where
  pub appended : Appends old new (summary (family_operations job.family) job.family job.number answer)
  pub program : (program : Program) → answer.program ≡ Some program → EndsWithProgram (family_operations job.family) (summary (family_operations job.family) job.family job.number answer) program

-- this is the result of `gen`: over the instances of its family, within the family's bounds, and what was written tells its answer
abbrev pub OfGen : SearchResult → GenJob → Option (List ℕ) → Option (List ℕ) → Type 0
OfGen Result job old new = Result (family_task job.family) (family_instances job.family job.number) (pointers_of job.family) (bounds_of job.family) (TellsSummary job old new)

-- the files hold a task and instances of it, and the answer file holds some bytes
pub record PosesCheck (job : CheckJob) (files : Files) : Type 0 where
  pub posed : Poses job.inputs files
  pub bytes : List ℕ
  pub held : files job.answer ≡ Some bytes

-- the answer file holds the document of one answer, which is accepted for as many lines as the words tell, and what it says is so
pub record DocumentShows (job : CheckJob) (files : Files) : Type 0 where
  pub poses : PosesCheck job files
  pub is_accepted : IsAcceptedDocument (posed_parts poses.posed.task poses.posed.instances job.pointers) job.lines poses.bytes
  pub only : (other : Answer) → IsDocument (operation_texts poses.posed.task job.pointers) poses.bytes other → other ≡ is_accepted.answer
  pub shows : Shows poses.posed.task poses.posed.instances job.pointers job.lines is_accepted.answer is_accepted.answer.outcome

-- the answer file holds no document that is accepted for as many lines as the words tell
pub record DocumentFails (job : CheckJob) (files : Files) : Type 0 where
  pub poses : PosesCheck job files
  pub fails : IsAcceptedDocument (posed_parts poses.posed.task poses.posed.instances job.pointers) job.lines poses.bytes → ⊥

-- the files hold a program, and the task and the instances that it is for
pub record PosesProgram (job : RunJob) (files : Files) : Type 0 where
  pub posed : Poses job.inputs files
  pub bytes : List ℕ
  pub held : files job.program ≡ Some bytes
  pub program : Program
  pub reads : Reads (operation_texts posed.task job.pointers) bytes (Ok program)

-- the program's run on every instance comes to stand so, after steps of at most a limit
abbrev pub SolvesEachWithin : TaskParts → List InstanceParts → ℕ → Program → ℕ → Type 0
SolvesEachWithin task instances pointers program limit = (t : ℕ) (instance : InstanceParts) → slice_get instances t ≡ Some instance → (steps : ℕ) × (steps ≤ limit) × EndsInGoal task instances pointers program t instance steps

-- there is an instance on which the program's run does not come to stand so after steps of at most a limit
pub record FailsOne (task : TaskParts) (instances : List InstanceParts) (pointers : ℕ) (program : Program) (limit : ℕ) : Type 0 where
  pub t : ℕ
  pub instance : InstanceParts
  pub given : slice_get instances t ≡ Some instance
  pub fails : (steps : ℕ) → steps ≤ limit → EndsInGoal task instances pointers program t instance steps → ⊥

-- the program that the program file holds solves every instance within the limit
pub record ProgramSolves (job : RunJob) (files : Files) : Type 0 where
  pub poses : PosesProgram job files
  pub solves : SolvesEachWithin poses.posed.task poses.posed.instances job.pointers poses.program job.run

-- the program that the program file holds does not solve some instance within the limit
pub record ProgramFails (job : RunJob) (files : Files) : Type 0 where
  pub poses : PosesProgram job files
  pub fails : FailsOne poses.posed.task poses.posed.instances job.pointers poses.program job.run

-- status 0 of `synth` and of `gen` says that the written program solves and none with fewer lines does, status 0 of `check` that what
-- the given document says is so, and status 0 of `run` that the given program solves within the limit
abbrev pub Succeeds : Job → Files → Option (List ℕ) → Option (List ℕ) → Type 0
Succeeds (Synth job) files old new = OfSynth FindsLeast job files old new
Succeeds (Check job) files old new = DocumentShows job files
Succeeds (Run job) files old new = ProgramSolves job files
Succeeds (Gen job) files old new = OfGen FindsLeast job old new

-- status 1 of `synth` and of `gen` says that no program of at most as many lines as were asked for solves, status 1 of `check` that
-- the given document is not accepted, and status 1 of `run` that the given program does not solve some instance within the limit
abbrev pub Refutes : Job → Files → Option (List ℕ) → Option (List ℕ) → Type 0
Refutes (Synth job) files old new = OfSynth RefutesAll job files old new
Refutes (Check job) files old new = DocumentFails job files
Refutes (Run job) files old new = ProgramFails job files
Refutes (Gen job) files old new = OfGen RefutesAll job old new

-- the job is a search, and this is its result
abbrev pub OfSearch : SearchResult → Job → Files → Option (List ℕ) → Option (List ℕ) → Type 0
OfSearch Result (Synth job) files old new = OfSynth Result job files old new
OfSearch Result (Check job) files old new = ⊥
OfSearch Result (Run job) files old new = ⊥
OfSearch Result (Gen job) files old new = OfGen Result job old new

-- with status 0 and with status 1 the words are a job, and this is so of it; with status 4 and with status 5 they are a search, which
-- spent its budget of splits, or the limit of steps of a run
abbrev pub Headline : List (List ℕ) → Files → Status → Option (List ℕ) → Option (List ℕ) → Type 0
Headline words files Done old new = (job : Job) × JobOf words job × Succeeds job files old new
Headline words files No old new = (job : Job) × JobOf words job × Refutes job files old new
Headline words files SpentExpansions old new = (job : Job) × JobOf words job × OfSearch SpendsBudgetAt job files old new
Headline words files SpentRun old new = (job : Job) × JobOf words job × OfSearch SpendsRunAt job files old new
Headline words files _ old new = Unit {0}

-- a search over a family reads no file: whatever files there may be, the headline and what is due stand, and the status tells of no file
pub record StandsWithoutFiles (words : List (List ℕ)) (status : Status) (old new : Option (List ℕ)) : Type 0 where
  pub headline : (files : Files) → Headline words files status old new
  pub due : (files : Files) → Answers (Due words files) status old new
  pub no_file : TellsOfFile status → ⊥
