-- Which standings have words in a report.
use Rattle.program_model.specs.declared.standing.Stand.{Stand}
use Rattle.program_model.specs.declared.standing.Stand.TheVariants as stands

-- a run of a whole program does not wait, and the standing of no run is a used quota
abbrev pub IsTold : Stand → Type 0
IsTold stands.Ended = Unit {0}
IsTold stands.Unmet = Unit {0}
IsTold (stands.Repeats from to) = Unit {0}
IsTold (stands.Waits line) = ⊥
IsTold stands.AtLimit = Unit {0}
IsTold stands.QuotaUsed = ⊥
