-- What is read off a judgement on a program.
use Rattle.std.specs.Prelude.{ℕ, List, [], Option, Some, None}
use Rattle.program_model.specs.declared.verdict.Verdict.{Verdict}
use Rattle.program_model.specs.declared.verdict.Verdict.TheVariants as verdicts
use Rattle.program_model.specs.Program.{Program}
use Rattle.judgement.specs.declared.judging.Judgement.{Judgement}
use Rattle.judgement.specs.declared.judging.Judgement.TheVariants as judgements
use Rattle.synthesis.specs.declared.newest.Found.{Found}

-- the verdict
abbrev pub verdict_of : Judgement → Verdict
verdict_of (judgements.Refused t cause) = verdicts.Refused t cause
verdict_of (judgements.AtLimit t) = verdicts.AtLimit t
verdict_of (judgements.Waiting line key) = verdicts.Waiting line
verdict_of (judgements.Solved ends) = verdicts.Solved

-- the key, which only a program that waits has
abbrev pub key_in : Judgement → List ℕ
key_in (judgements.Refused t cause) = []
key_in (judgements.AtLimit t) = []
key_in (judgements.Waiting line key) = key
key_in (judgements.Solved ends) = []

-- a program that is solved, with its runs' ends
abbrev pub found_in : Program → Judgement → Option Found
found_in q (judgements.Refused t cause) = None
found_in q (judgements.AtLimit t) = None
found_in q (judgements.Waiting line key) = None
found_in q (judgements.Solved ends) = Some (record { program = q; ends = ends })
