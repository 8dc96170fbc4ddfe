use Rattle.std.proofs.Common.{◌∙◌, sym, subst, refl, ℕ, Option}
use Rattle.std.specs.Prelude.{IfSome}
use Rattle.std.proofs.lemmas.Bool.{false≢true}
use Rattle.std.proofs.lemmas.Option.{same_Some}
use Rattle.program_model.specs.Program.{Program, IsPartial}
use Rattle.refutation_tree.specs.declared.evidence.Answer.{Answer}
use Rattle.refutation_tree.specs.Grammar.{FitsOutcome}
use Rattle.refutation_tree.specs.Accepted.{AreEndsFrom}
use Rattle.refutation_check.proofs.Parts.{accepted, given_program, judged}
use Rattle.refutation_check.proofs.accepting.accepts.Goals as goal
use Rattle.refutation_check.proofs.accepting.accepts.Goals.{then-not-is_headed-via-then-not-is_headed, then-not-is_headed-via-else-not-is_headed+then-not-fits_outcome, then-not-is_headed-via-else-not-is_headed+else-not-fits_outcome+then-not-has_trees}

pub returns-then-not-is_headed : goal.returns-then-not-is_headed
returns-then-not-is_headed g c =
    let m = g.M.Machine.semantics c.args.machine.now in (
      λ h. absurd (false≢true h),
      λ accepted.
          let it = judged m c.args.lines c.args.answer.now accepted in
          elim c.then-not-is_headed.branch [
            | then-not-is_headed-via-then-not-is_headed w ↦ absurd (false≢true (sym w.if-not-is_headed.true ∙ c.is_headed.ensures.1 it.headed))
            | then-not-is_headed-via-else-not-is_headed+then-not-fits_outcome w ↦ absurd (false≢true (sym w.if-not-fits_outcome.true ∙ w.fits_outcome.ensures.1 (subst (λ (ops : ℕ). FitsOutcome ops c.args.answer.now c.args.answer.now.outcome) (sym w.ops.ensures.value) it.fits)))
            | then-not-is_headed-via-else-not-is_headed+else-not-fits_outcome+then-not-has_trees w ↦ absurd (false≢true (sym w.if-not-has_trees.true ∙ w.has_trees.ensures.has.1 it.trees))
          ],
    )

pub returns-in-Some : goal.returns-in-Some
returns-in-Some g c =
    let m = g.M.Machine.semantics c.args.machine.now in
    let answer : Answer = c.args.answer.now in
    let fits = subst (λ (ops : ℕ). FitsOutcome ops answer answer.outcome) c.ops.ensures.value (c.fits_outcome.ensures.0 c.if-not-fits_outcome.false) in (
      λ h. accepted m c.args.lines answer (record {
        headed = c.is_headed.ensures.0 c.if-not-is_headed.false;
        fits = fits;
        trees = c.has_trees.ensures.has.0 c.if-not-has_trees.false;
        ends = subst (λ (o : Option Program). IfSome o (λ program. AreEndsFrom m program 0 answer.ends)) (sym c.in-Some.is) (subst (AreEndsFrom m c.in-Some.program 0) c.as_slice.ensures (c.all_end.ensures.0 h));
      }),
      λ accepted. c.all_end.ensures.1 (subst (AreEndsFrom m c.in-Some.program 0) (sym c.as_slice.ensures) (subst (λ (o : Option Program). IfSome o (λ program. AreEndsFrom m program 0 answer.ends)) c.in-Some.is accepted.ends)),
    )

pub all_end-requires-clause-partial : goal.all_end-requires-clause-partial
all_end-requires-clause-partial g c =
    let m = g.M.Machine.semantics c.args.machine.now in
    let answer : Answer = c.args.answer.now in
    let fits = subst (λ (ops : ℕ). FitsOutcome ops answer answer.outcome) c.ops.ensures.value (c.fits_outcome.ensures.0 c.if-not-fits_outcome.false) in
    let has = (given_program m.ops answer answer.outcome c.in-Some.program fits c.in-Some.is).1 in
    subst (IsPartial m.ops) (same_Some has.program c.in-Some.program (sym has.given ∙ c.in-Some.is)) has.is_program.is_partial

pub returns : goal.returns
returns g c =
    let m = g.M.Machine.semantics c.args.machine.now in
    let answer : Answer = c.args.answer.now in
    let fits = subst (λ (ops : ℕ). FitsOutcome ops answer answer.outcome) c.ops.ensures.value (c.fits_outcome.ensures.0 c.if-not-fits_outcome.false) in (
      λ h. accepted m c.args.lines answer (record {
        headed = c.is_headed.ensures.0 c.if-not-is_headed.false;
        fits = fits;
        trees = c.has_trees.ensures.has.0 c.if-not-has_trees.false;
        ends = subst (λ (o : Option Program). IfSome o (λ program. AreEndsFrom m program 0 answer.ends)) (sym c.in-None.is) tt;
      }),
      λ accepted. refl,
    )
