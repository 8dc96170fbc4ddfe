-- The faults of input files, the lines that tell them, and which refusal is which fault.
use Rattle.std.specs.Prelude.{◌≡◌, ℕ, List, ◌++◌, codes, decimal, Option, Some, None, IsSomeAnd}
use Rattle.flag_rules.specs.Line.{line}
use Rattle.bfgp_outside.specs.declared.whole.ReadRefusal.{ReadRefusal}
use Rattle.bfgp_outside.specs.declared.whole.ReadRefusal.TheVariants as read
use Rattle.pddl_parser.specs.declared.refusal.ParseRefusal.{ParseRefusal}
use Rattle.pddl_parser.specs.declared.refusal.ParseRefusal.TheVariants as parse
use Rattle.pddl_task.specs.declared.refusal.TaskRefusal.{TaskRefusal}
use Rattle.pddl_task.specs.declared.refusal.TaskRefusal.TheVariants as tasks
use Rattle.pddl_task.specs.declared.refusal.Which.{Which}
use Rattle.pddl_task.specs.declared.refusal.Which.TheVariants as limits
use Rattle.ground_state.specs.declared.refusal.GroundRefusal.{GroundRefusal}
use Rattle.ground_state.specs.declared.refusal.GroundRefusal.TheVariants as grounded
use Rattle.pointer_machine.specs.declared.refusal.MachineRefusal.{MachineRefusal}
use Rattle.pointer_machine.specs.declared.refusal.MachineRefusal.TheVariants as made
use Rattle.program_text.specs.declared.refusal.ProgramRefusal.{ProgramRefusal}
use Rattle.program_text.specs.declared.refusal.ProgramRefusal.TheVariants as programs
use Rattle.input_reading.specs.declared.fault.Fault.{Fault}
use Rattle.input_reading.specs.declared.fault.Fault.TheVariants.{Absent, TooLong, Byte, Unclosed, Unopened, TooDeep, Shape, Unsupported, Unknown, Twice, Arity, TypeCycle, OtherDomain, NoObject, Limit, Atoms, Operations, ProgramTooLong, NoEnd, Line}

-- how a limit is told
abbrev pub limit_text : Which → List ℕ
limit_text limits.Parameters = codes "parameters"
limit_text limits.Arity = codes "arity"
limit_text limits.Objects = codes "objects"

-- how a fault is told; a position counts bytes from 0
abbrev pub fault_text : Fault → List ℕ
fault_text Absent = codes "absent"
fault_text TooLong = codes "too long"
fault_text (Byte position) = codes "byte " ++ decimal position
fault_text (Unclosed position) = codes "unclosed " ++ decimal position
fault_text (Unopened position) = codes "unopened " ++ decimal position
fault_text (TooDeep position) = codes "too deep " ++ decimal position
fault_text (Shape position) = codes "shape " ++ decimal position
fault_text (Unsupported position) = codes "unsupported " ++ decimal position
fault_text (Unknown position) = codes "unknown " ++ decimal position
fault_text (Twice position) = codes "twice " ++ decimal position
fault_text (Arity position) = codes "arity " ++ decimal position
fault_text (TypeCycle position) = codes "type cycle " ++ decimal position
fault_text (OtherDomain position) = codes "other domain " ++ decimal position
fault_text NoObject = codes "no object"
fault_text (Limit which count) = codes "limit " ++ limit_text which ++ codes " " ++ decimal count
fault_text (Atoms count) = codes "atoms " ++ decimal count
fault_text (Operations count) = codes "operations " ++ decimal count
fault_text (ProgramTooLong count) = codes "program too long " ++ decimal count
fault_text NoEnd = codes "no end"
fault_text (Line number) = codes "line " ++ decimal number

-- the line for a fault of the file with this name
abbrev pub fault_line : List ℕ → Fault → List ℕ
fault_line name fault = line (codes "input " ++ name ++ codes " " ++ fault_text fault)

-- the faults of reading; a failed read and want of memory are none
abbrev pub reading_fault : ReadRefusal → Option Fault
reading_fault read.Absent = Some Absent
reading_fault read.TooLong = Some TooLong
reading_fault read.Failed = None
reading_fault read.OutOfMemory = None

-- the faults of a text
abbrev pub parsing_fault : ParseRefusal → Option Fault
parsing_fault (parse.Byte position) = Some (Byte position)
parsing_fault (parse.Unclosed position) = Some (Unclosed position)
parsing_fault (parse.Unopened position) = Some (Unopened position)
parsing_fault (parse.TooDeep position) = Some (TooDeep position)
parsing_fault (parse.Shape position) = Some (Shape position)
parsing_fault (parse.Unsupported position) = Some (Unsupported position)
parsing_fault parse.OutOfMemory = None

-- the faults of a domain as a task, and of a problem as an instance
abbrev pub task_fault : TaskRefusal → Option Fault
task_fault (tasks.Unknown position) = Some (Unknown position)
task_fault (tasks.Twice position) = Some (Twice position)
task_fault (tasks.Arity position) = Some (Arity position)
task_fault (tasks.TypeCycle position) = Some (TypeCycle position)
task_fault (tasks.OtherDomain position) = Some (OtherDomain position)
task_fault tasks.NoObject = Some NoObject
task_fault (tasks.Limit which count) = Some (Limit which count)
task_fault tasks.OutOfMemory = None

abbrev pub ground_fault : GroundRefusal → Option Fault
ground_fault (grounded.TooManyAtoms count) = Some (Atoms count)
ground_fault grounded.OutOfMemory = None

abbrev pub machine_fault : MachineRefusal → Option Fault
machine_fault (made.TooManyOps count) = Some (Operations count)
machine_fault made.OutOfMemory = None

abbrev pub program_fault : ProgramRefusal → Option Fault
program_fault (programs.TooLong count) = Some (ProgramTooLong count)
program_fault programs.NoEnd = Some NoEnd
program_fault (programs.Line number) = Some (Line number)
program_fault programs.OutOfMemory = None

-- the line tells the fault that a refusal is
abbrev pub Tells : {E : Type 0} → (E → Option Fault) → List ℕ → E → List ℕ → Type 0
Tells fault_of name refusal told = IsSomeAnd (fault_of refusal) (λ fault. told ≡ fault_line name fault)
