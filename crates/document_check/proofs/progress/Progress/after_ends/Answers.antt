use Rattle.std.proofs.Common.{◌≡◌, ◌∙◌, ℕ, ◌+◌, ◌<◌, ◌≤◌, ◌^◌, ◌∷◌, ◌++◌, List, sym, arith}
use Rattle.std.specs.Prelude.{◌↔◌, IsTrue, codes}
use Rattle.std.proofs.lemmas.Bool.{true≢false}
use Rattle.flag_rules.specs.Line.{then_number}
use Rattle.refutation_tree.specs.declared.ranges.TheConstants.{MAX_STEPS}
use Rattle.answer_lines.proofs.Worded.{one_ends}
use Rattle.document_check.specs.Remaining.{EndsToCome}
use Rattle.document_check.proofs.Steps.{ends_on, no_ends_on}
use Rattle.document_check.proofs.Stages as at
use Rattle.document_check.proofs.progress.Progress.after_ends.Goals as goal

pub returns-in_default-clause-remains : goal.returns-in_default-clause-remains
returns-in_default-clause-remains g c = λ texts lines.
    let m = g.M.Machine.semantics c.args.machine.now in
    let self = c.args.self.now in
    at.rejects m texts lines self.walk self.program (λ more. EndsToCome m self.program c.args.t (c.args.line.now ∷ more))
    (λ more. no_ends_on m texts lines self.program c.args.t c.args.line.now more c.requires.fits.1 c.in_default.ensures.none)

pub returns-then-not-ends-clause-remains : goal.returns-then-not-ends-clause-remains
returns-then-not-ends-clause-remains g c = λ texts lines.
    let m = g.M.Machine.semantics c.args.machine.now in
    let self = c.args.self.now in
    let t = c.args.t in
    let steps = c.in-Some.steps in
    let some = c.in-Some.ensures.some in
    let small : t < 2 ^ 64 = omega (arith, c.ranges.t.fits) in
    let only : (other : ℕ) → other ≤ MAX_STEPS → c.args.line.now ≡ codes "ends" ++ then_number t ++ then_number other → other ≡ steps = λ other few says.
    (one_ends t t other steps small small (omega (arith, few)) (omega (arith, some.0)) (sym says ∙ some.1)).1 in
    at.says_not m texts lines c.ends.new.self self.program (λ more. EndsToCome m self.program t (c.args.line.now ∷ more)) (λ more. EndsToCome m self.program (t + 1) more)
    (λ stood. true≢false (sym stood ∙ c.if-not-ends.true))
    (λ more. ends_on m texts lines self.program t steps c.ends.result c.args.line.now more c.requires.fits.1 some.0 some.1 only c.ends.ensures.ends)

pub returns-clause-remains : goal.returns-clause-remains
returns-clause-remains g c = λ texts lines.
    let m = g.M.Machine.semantics c.args.machine.now in
    let self = c.args.self.now in
    let t = c.args.t in
    let steps = c.in-Some.steps in
    let some = c.in-Some.ensures.some in
    let small : t < 2 ^ 64 = omega (arith, c.ranges.t.fits) in
    let only : (other : ℕ) → other ≤ MAX_STEPS → c.args.line.now ≡ codes "ends" ++ then_number t ++ then_number other → other ≡ steps = λ other few says.
    (one_ends t t other steps small small (omega (arith, few)) (omega (arith, some.0)) (sym says ∙ some.1)).1 in
    at.remains_on m texts lines c.ends.new.self self.program (λ more. EndsToCome m self.program t (c.args.line.now ∷ more)) (λ more. EndsToCome m self.program (t + 1) more) c.before_ends.result
    (λ more.
    let on = ends_on m texts lines self.program t steps c.ends.result c.args.line.now more c.requires.fits.1 some.0 some.1 only c.ends.ensures.ends in
    (λ h. (on.0 h).1, λ h. on.1 (c.if-not-ends.false, h)))
    (c.before_ends.ensures m texts lines c.requires.fits.0 c.instances-instances.ensures.value (omega (arith, c.requires.fits.1)))
