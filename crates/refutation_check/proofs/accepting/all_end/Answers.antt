use Rattle.std.proofs.Common.{sym, ◌∙◌, ◌<◌, ◌≡◌, ℕ, refl, arith, below_more, subst, get_or, length}
use Rattle.std.proofs.lemmas.Bool.{false≢true}
use Rattle.program_model.specs.Run.{Ends}
use Rattle.refutation_check.proofs.Parts.{end_of, ends_of}
use Rattle.refutation_check.proofs.accepting.all_end.Goals as goal

pub returns-then-not-ends : goal.returns-then-not-ends
returns-then-not-ends g c =
    let m = g.M.Machine.semantics c.args.machine.now in
    let t = c.loop-t.t in
    let within : t < length c.args.steps.now = omega (arith, c.loop-t-test.true, c.instances-t-end.ensures.value, c.requires.one_for_each) in (
      λ h. absurd (false≢true h),
      λ all.
          let here : Ends m c.args.program.now t (get_or c.args.steps.now t 0) = end_of m c.args.program.now 0 c.args.steps.now t t all within (omega arith) in
          let there = subst (λ (n : ℕ). Ends m c.args.program.now t (get_or c.args.steps.now n 0)) (sym c.from.ensures) here in
          absurd (false≢true (sym c.if-not-ends.true ∙ c.ends.ensures.ends.1 there)),
    )

pub loop-t-preserved : goal.loop-t-preserved
loop-t-preserved g c =
    let m = g.M.Machine.semantics c.args.machine.now in
    let t = c.loop-t.t in
    record { walk = c.ends.ensures.same.walk; ended = below_more _ _ c.loop-t.invariant.ended (subst (λ (n : ℕ). Ends m c.args.program.now t (get_or c.args.steps.now n 0)) c.from.ensures (c.ends.ensures.ends.0 c.if-not-ends.false)) }

pub returns : goal.returns
returns g c =
    let m = g.M.Machine.semantics c.args.machine.now in (
      λ h. ends_of m c.args.program.now 0 c.args.steps.now (omega (arith, c.requires.one_for_each))
          (λ k t less e.
          let same : k ≡ t = omega arith in
          subst (λ (n : ℕ). Ends m c.args.program.now n (get_or c.args.steps.now k 0)) same (c.loop-t.invariant.ended k (omega (arith, c.loop-t-test.false, c.instances-t-end.ensures.value, c.requires.one_for_each)))),
      λ all. refl,
    )
