use Rattle.std.proofs.Common.{◌≡◌, ℕ, List, [], ◌∷◌, ◌++◌, length, sym, ap, subst, arith}
use Rattle.std.specs.Prelude.{Some, Ok, Err}
use Rattle.std.proofs.lemmas.List.{length_push}
use Rattle.answer_reader.specs.Inner.Following.{past_ends, at_end}
use Rattle.answer_reader.specs.Inner.ReadingOn.{StandsAt}
use Rattle.answer_reader.proofs.Whole.{ends_end}
use Rattle.answer_reader.proofs.Onwards.{steps_reads}
use Rattle.answer_reader.proofs.Refused.{refused}
use Rattle.answer_reader.proofs.reading.read_ends.Goals as goal

pub returns-in_err-steps : goal.returns-in_err-steps
returns-in_err-steps c = λ texts heading trees program are same bytes at.
    let t = c.loop-t.t in
    let ends = c.loop-t.ends in
    let new = c.read_steps.new.reader in
    let refusal = c.in_err-steps.field-0.0 in
    refused texts bytes (λ (steps : ℕ). past_ends heading trees program (ends ++ steps ∷ [])) (λ (all : List ℕ). at_end heading trees (Some program) all) new new refusal c.from_residual.result c.from_residual.ensures.1
    (steps_reads texts are c.loop-t.reader new heading trees program ends t (Err refusal) (sym c.loop-t.invariant.count) (omega (arith, same, c.loop-t-test.true)) c.in_err-steps.ensures
    bytes (c.loop-t.invariant.on texts bytes heading trees program are same at))

pub loop-t-preserved : goal.loop-t-preserved
loop-t-preserved c =
    let t = c.loop-t.t in
    let ends = c.loop-t.ends in
    let steps = c.in_ok-steps.steps in
    let new = c.read_steps.new.reader in
    let more : c.push.new.self ≡ ends ++ steps ∷ [] = c.in_ok-push.ensures.ok in
    record {
      count = omega (arith, ap length more, length_push ends steps, c.loop-t.invariant.count);
      on = λ texts bytes heading trees program are same at.
          subst (λ (l : List ℕ). StandsAt texts bytes new (past_ends heading trees program l)) (sym more)
          (steps_reads texts are c.loop-t.reader new heading trees program ends t (Ok steps) (sym c.loop-t.invariant.count) (omega (arith, same, c.loop-t-test.true)) c.in_ok-steps.ensures
          bytes (c.loop-t.invariant.on texts bytes heading trees program are same at));
    }

pub returns : goal.returns
returns c = λ texts heading trees program are same bytes at.
    subst (StandsAt texts bytes c.loop-t.reader) (ends_end heading trees program c.loop-t.ends (omega (arith, same, c.loop-t.invariant.count, c.loop-t-test.false, c.loop-t.auto.t-end)))
    (c.loop-t.invariant.on texts bytes heading trees program are same at)
