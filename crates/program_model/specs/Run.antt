-- Runs of programs and partial programs on the instances of a machine, and what they show. All of it is said of partial
-- programs, in which `end` stands on the last line and nowhere else.
use Rattle.std.specs.Prelude.{◌≡◌, ℕ, zero, suc, ◌+◌, ◌<◌, length, Option, Some, None, option_and_then, if◌then◌else◌}
use Rattle.flag_rules.specs.Flags.{holds_at}
use Rattle.program_model.specs.declared.instr.Instr.{Instr}
use Rattle.program_model.specs.declared.instr.Instr.TheVariants.{Op, Goto, End}
use Rattle.program_model.specs.Semantics.{Semantics}
use Rattle.program_model.specs.Program.{Program, line_at, IsProgram}

-- a configuration: the line where a run stands, and the value of the machine
pub record Config (C : Type 0) : Type 0 where
  pub line : ℕ
  pub value : C

-- the first configuration of an instance
abbrev pub first : {C : Type 0} → Semantics C → ℕ → Config C
first m t = record { line = 0; value = m.start t }

-- the step of an instruction: an operation moves to the following line, a jump changes the line alone, `end` has none
abbrev pub step : {C : Type 0} → Semantics C → ℕ → Instr → Config C → Option (Config C)
step m t (Op op) c = Some (record { line = c.line + 1; value = m.act t op c.value })
step m t (Goto target cond) c = Some (record { line = if holds_at cond (m.sign c.value) then target else c.line + 1; value = c.value })
step m t End c = None

-- the step of the instruction on the line where a run stands; there is none on an undefined line, nor on `end`
abbrev pub next : {C : Type 0} → Semantics C → Program → ℕ → Config C → Option (Config C)
next m q t c = option_and_then (λ instr. step m t instr c) (line_at q c.line)

-- the configuration of a program's run on an instance after so many steps, if it makes them
abbrev pub at : {C : Type 0} → Semantics C → Program → ℕ → ℕ → Option (Config C)
at m q t zero = Some (first m t)
at m q t (suc steps) = option_and_then (next m q t) (at m q t steps)

-- after j steps the run stands on the last line, with so much of the goal missing
pub record EndsMissing {C : Type 0} (m : Semantics C) (q : Program) (t j missing : ℕ) : Type 0 where
  pub config : Config C
  pub comes : at m q t j ≡ Some config
  pub last : config.line + 1 ≡ length q
  pub lacks : m.missing t config.value ≡ missing

-- after j steps the run stands on the last line, and the goal is met
abbrev pub Ends : {C : Type 0} → Semantics C → Program → ℕ → ℕ → Type 0
Ends m q t j = EndsMissing m q t j 0

-- after j steps the run stands on the last line, and the goal is not met
abbrev pub Unmet : {C : Type 0} → Semantics C → Program → ℕ → ℕ → Type 0
Unmet m q t j = (missing : ℕ) × EndsMissing m q t j (suc missing)

-- the run comes to one configuration twice, after i and after j steps
pub record Loops {C : Type 0} (m : Semantics C) (q : Program) (t i j : ℕ) : Type 0 where
  pub config : Config C
  pub before : i < j
  pub first_time : at m q t i ≡ Some config
  pub second_time : at m q t j ≡ Some config

-- the program solves an instance: its run ends with the goal met
abbrev pub Solves : {C : Type 0} → Semantics C → Program → ℕ → Type 0
Solves m p t = (j : ℕ) × Ends m p t j

-- the program solves every instance of the machine
abbrev pub SolvesAll : {C : Type 0} → Semantics C → Program → Type 0
SolvesAll m p = (t : ℕ) → t < m.instances → Solves m p t

-- a program that solves every instance, while no program of fewer lines does
pub record IsLeast {C : Type 0} (m : Semantics C) (p : Program) : Type 0 where
  pub is_program : IsProgram m.ops p
  pub solves : SolvesAll m p
  pub least : (other : Program) → IsProgram m.ops other → length other < length p → SolvesAll m other → ⊥
