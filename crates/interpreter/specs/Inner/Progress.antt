-- What the methods of a run owe each other.
use Rattle.std.specs.Prelude.{◌≡◌, ◌↔◌, ℕ, ◌+◌, ◌<◌, Bool, IsTrue, IfSome, length, Some}
use Rattle.loop_witness.specs.declared.turn.Turn.{Turn}
use Rattle.loop_witness.specs.declared.turn.Turn.TheVariants as turns
use Rattle.loop_witness.specs.Turns.{IsAnswer}
use Rattle.loop_witness.specs.Repetitions.{Watches}
use Rattle.program_model.specs.declared.instr.Instr.{Instr}
use Rattle.program_model.specs.Semantics.{Semantics}
use Rattle.program_model.specs.Program.{Program, line_at}
use Rattle.program_model.specs.Run.{step, at}
use Rattle.program_model.specs.Standing.{IsStanding}
use Rattle.interpreter.specs.declared.configuration.Configuration.{Configuration}
use Rattle.interpreter.specs.declared.run.Run.{Run}
use Rattle.interpreter.specs.declared.run.Next.{Next}
use Rattle.interpreter.specs.declared.run.Next.TheVariants as nexts
use Rattle.interpreter.specs.Runs.{config_of}

-- the run stands in the marked configuration once more
abbrev pub IsRepeated : {C : Type 0} → Run C → Type 0
IsRepeated run = (run.marks.mark < run.marks.steps) × (config_of run.here ≡ config_of run.marked)

-- the run does not stand: its line is not the last and has this instruction, and no repetition can be noticed up to its step
pub record GoesOn {C : Type 0} (m : Semantics C) (q : Program) (run : Run C) (instr : Instr) : Type 0 where
  pub inner : run.here.line + 1 < length q
  pub defined : line_at q run.here.line ≡ Some instr
  pub watches : Watches (at m q run.instance) run.marks

-- what comes next in a run under a limit of steps
abbrev pub IsNext : {C : Type 0} → Semantics C → Program → ℕ → Run C → Next → Type 0
IsNext m q limit run (nexts.Step instr) = (run.marks.steps < limit) × GoesOn m q run instr
IsNext m q limit run (nexts.Stop stand) = IsStanding m q run.instance limit run.marks.steps stand

-- the marked configuration where the marks turned so, and the run is here
abbrev pub marked_after : {C : Type 0} → Turn → Configuration C → Configuration C → Configuration C
marked_after turns.MarkHere here marked = here
marked_after turns.Go here marked = marked
marked_after (turns.Repeat from to) here marked = marked

-- how many configurations are copied where the marks turned so
abbrev pub copies_after : Turn → ℕ
copies_after turns.MarkHere = 1
copies_after turns.Go = 0
copies_after (turns.Repeat from to) = 0

-- the run made the step of an instruction, after which it is in the marked configuration or not, and its marks turned so
pub record HasStepped {C : Type 0} (m : Semantics C) (instr : Instr) (old new : Run C) (repeated : Bool) : Type 0 where
  pub instance : new.instance ≡ old.instance
  pub stepped : IfSome (step m old.instance instr (config_of old.here)) (λ config. config_of new.here ≡ config)
  pub counted : new.marks.steps ≡ old.marks.steps + 1
  pub same : IsTrue repeated ↔ (config_of new.here ≡ config_of old.marked)
  pub turn : Turn
  pub answer : IsAnswer repeated old.marks new.marks turn
  pub marked : new.marked ≡ marked_after turn new.here old.marked
