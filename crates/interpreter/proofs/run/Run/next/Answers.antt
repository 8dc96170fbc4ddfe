use Rattle.std.proofs.Common.{refl, sym, ◌∙◌, arith}
use Rattle.std.proofs.lemmas.Bool.{false≢true}
use Rattle.interpreter.proofs.Following.{goes_on, stands_ended, stands_waiting, stands_looping, stands_at_limit}
use Rattle.interpreter.proofs.run.Run.next.Goals as goal

pub returns-then-line-lines-clause-next : goal.returns-then-line-lines-clause-next
returns-then-line-lines-clause-next g c =
    stands_ended _ _ _ c.requires.partial _ c.requires.run c.args.limit c.requires.steps _ _ (omega arith) refl c.end.ensures.ended c.end.ensures.unmet

pub returns-in_default-clause-next : goal.returns-in_default-clause-next
returns-in_default-clause-next g c =
    stands_waiting _ _ _ c.requires.partial _ c.requires.run c.args.limit c.requires.steps (sym c.at.ensures.value ∙ c.in_default.is)

pub returns-then-repeated-clause-next : goal.returns-then-repeated-clause-next
returns-then-repeated-clause-next g c =
    rw (c.mark.ensures.mark, c.steps.ensures) (stands_looping _ _ _ c.requires.partial _ c.requires.run c.args.limit c.requires.steps (c.requires.repeated.0 c.if-repeated.true))

pub returns-then-steps-limit-clause-next : goal.returns-then-steps-limit-clause-next
returns-then-steps-limit-clause-next g c =
    let goes = goes_on _ _ _ c.requires.partial _ c.requires.run c.in-Some.instr (λ e. omega (arith, c.if-line-lines.false)) (sym c.at.ensures.value ∙ c.in-Some.is) (λ again. false≢true (sym c.if-repeated.false ∙ c.requires.repeated.1 again)) in
    stands_at_limit _ _ _ c.requires.partial _ c.requires.run c.args.limit c.requires.steps c.in-Some.instr goes (omega arith)

pub returns-clause-next : goal.returns-clause-next
returns-clause-next g c =
    let goes = goes_on _ _ _ c.requires.partial _ c.requires.run c.in-Some.instr (λ e. omega (arith, c.if-line-lines.false)) (sym c.at.ensures.value ∙ c.in-Some.is) (λ again. false≢true (sym c.if-repeated.false ∙ c.requires.repeated.1 again)) in
    (omega (arith, c.if-steps-limit.false), goes)
