-- The report on a program: a line for each instance by where the program's run stands, and how many instances are solved.
use Rattle.std.specs.Prelude.{◌≡◌, ℕ, List, [], ◌∷◌, ◌++◌, map, count_by, codes}
use Rattle.std.specs.List.{list_all}
use Rattle.flag_rules.specs.Line.{lines_of, then_number}
use Rattle.program_model.specs.Semantics.{Semantics}
use Rattle.program_model.specs.Program.{Program}
use Rattle.program_model.specs.declared.standing.Stand.{Stand}
use Rattle.program_model.specs.declared.standing.Stand.TheVariants as stands
use Rattle.program_model.specs.declared.outcome.RunOutcome.{RunOutcome}
use Rattle.program_model.specs.Outcome.{AreOutcomes}
use Rattle.instance_report.specs.declared.answer.Report.{Report}
use Rattle.instance_report.specs.Runs.{is_solved}

-- what is told of a run under a limit, by its standing, the steps after which it stands and how much of the goal is missing
-- there; the run of a whole program does not wait, and no run stands as one whose quota is used
abbrev pub words_on : ℕ → ℕ → ℕ → Stand → List ℕ
words_on limit steps missing stands.Ended = codes " solved" ++ then_number steps
words_on limit steps missing stands.Unmet = codes " unmet" ++ then_number steps ++ (codes " missing" ++ then_number missing)
words_on limit steps missing (stands.Repeats from to) = codes " loops" ++ then_number from ++ then_number to
words_on limit steps missing (stands.Waits line) = []
words_on limit steps missing stands.AtLimit = codes " limit" ++ then_number limit
words_on limit steps missing stands.QuotaUsed = []

abbrev pub standing_text : ℕ → RunOutcome → List ℕ
standing_text limit x = words_on limit x.steps x.missing x.standing

-- the line of an instance
abbrev pub run_text : ℕ → RunOutcome → List ℕ
run_text limit x = codes "instance" ++ then_number x.instance ++ standing_text limit x

-- the last line
abbrev pub count_text : ℕ → ℕ → List ℕ
count_text solved instances = codes "solved" ++ then_number solved ++ (codes " of" ++ then_number instances)

-- the text, where these are the outcomes of the runs under a limit on so many instances
abbrev pub report_text : ℕ → ℕ → List RunOutcome → List ℕ
report_text limit instances xs = lines_of (map (run_text limit) xs ++ count_text (count_by is_solved xs) instances ∷ [])

-- the report on the program's runs under a limit
pub record IsReport {C : Type 0} (m : Semantics C) (program : Program) (limit : ℕ) (report : Report) : Type 0 where
  pub runs : List RunOutcome
  pub are_runs : AreOutcomes m program limit runs
  pub text : report.text ≡ report_text limit m.instances runs
  pub all_solved : report.all_solved ≡ list_all is_solved runs
