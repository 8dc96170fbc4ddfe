use Rattle.std.proofs.Common.{◌≡◌, ◌+◌, ◌-◌, ◌∙◌, ap, Some, arith}
use Rattle.program_model.specs.Alphabet.{targets}
use Rattle.program_model.proofs.Places.{at_contains}
use Rattle.program_model.proofs.Alphabets.{target_below, target_above, target_at_place, is_target_at, IsTarget}
use Rattle.program_model.proofs.alphabet.place_of.Goals as goal
use Rattle.program_model.proofs.alphabet.place_of.Goals.{else-line-target-via-then-line-target+else-target-lines, else-line-target-via-else-line-target}

pub returns-then-target-line-clause-some : goal.returns-then-target-line-clause-some
returns-then-target-line-clause-some c = target_below c.args.lines c.args.line c.args.target (omega arith)

pub returns-then-target-lines-clause-some : goal.returns-then-target-lines-clause-some
returns-then-target-lines-clause-some c =
    let two : c.args.target - 2 + 2 ≡ c.args.target = omega arith in
    target_above c.args.lines c.args.line (c.args.target - 2) (omega arith) (omega arith) ∙ ap Some two

pub returns-else-line-target-clause-none : goal.returns-else-line-target-clause-none
returns-else-line-target-clause-none c = λ found.
    let here = at_contains (targets c.args.lines c.args.line) c.args.target found in
    let it : IsTarget c.args.lines c.args.line c.args.target = is_target_at c.args.lines c.args.line here.0 c.args.target (omega arith) (target_at_place c.args.lines c.args.line here.0 c.args.target here.1) in
    elim c.else-line-target.branch [
      | else-line-target-via-then-line-target+else-target-lines w ↦ omega (arith, it.within)
      | else-line-target-via-else-line-target w ↦ omega (arith, it.not_here, it.not_next)
    ]
