-- The verdict on a program, as one run after another is looked at.
use Rattle.std.specs.Prelude.{ℕ, max, Option, None, option_map}
use Rattle.program_model.specs.declared.standing.Stand.{Stand}
use Rattle.program_model.specs.declared.standing.Stand.TheVariants as stands
use Rattle.program_model.specs.declared.verdict.Verdict.{Verdict}
use Rattle.program_model.specs.declared.verdict.Verdict.TheVariants as verdicts

-- where one more run waits at a line
abbrev pub with_waiting : ℕ → Verdict → Verdict
with_waiting line (verdicts.Refused t cause) = verdicts.Refused t cause
with_waiting line (verdicts.AtLimit t) = verdicts.AtLimit t
with_waiting line (verdicts.Waiting other) = verdicts.Waiting (max line other)
with_waiting line verdicts.Solved = verdicts.Waiting line

-- where one more run, on a greater instance, is at its limit
abbrev pub with_limited : ℕ → Verdict → Verdict
with_limited t (verdicts.Refused s cause) = verdicts.Refused s cause
with_limited t (verdicts.AtLimit s) = verdicts.AtLimit s
with_limited t (verdicts.Waiting line) = verdicts.AtLimit t
with_limited t verdicts.Solved = verdicts.AtLimit t

-- the verdict over the runs so far, where the run on one more instance, a greater one, stands so and does not refute the program;
-- there is none while one of them goes on
abbrev pub joined : ℕ → Stand → Option Verdict → Option Verdict
joined t stands.Ended so_far = so_far
joined t stands.Unmet so_far = so_far
joined t (stands.Repeats from to) so_far = so_far
joined t (stands.Waits line) so_far = option_map (with_waiting line) so_far
joined t stands.AtLimit so_far = option_map (with_limited t) so_far
joined t stands.QuotaUsed so_far = None
