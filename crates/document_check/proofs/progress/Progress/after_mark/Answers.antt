use Rattle.std.proofs.Common.{◌≡◌, ◌≢◌, ◌∙◌, ℕ, ◌≤◌, ◌^◌, [], ◌∷◌, List, sym, subst, arith}
use Rattle.std.specs.Prelude.{◌↔◌, IsTrue}
use Rattle.std.proofs.lemmas.Bool.{false≢true, true≢false}
use Rattle.answer_lines.specs.Lines.{IsMarkOf}
use Rattle.refutation_tree.specs.declared.evidence.Mark.{Mark}
use Rattle.refutation_check.specs.Walking.{pending}
use Rattle.document_check.specs.declared.stage.Stage.TheVariants as stages
use Rattle.document_check.specs.Remaining.{MarksToCome, TreesToCome}
use Rattle.document_check.proofs.Steps.{marks_done}
use Rattle.document_check.proofs.Marking.{mark_step, no_mark_step}
use Rattle.document_check.proofs.Stages as at
use Rattle.document_check.proofs.progress.Progress.after_mark.Goals as goal

pub returns-in_default-clause-remains : goal.returns-in_default-clause-remains
returns-in_default-clause-remains g c = λ texts.
    let m = g.M.Machine.semantics c.args.machine.now in
    let self = c.args.self.now in
    let none : (other : Mark) → IsMarkOf m.instances c.args.line.now other → ⊥ = λ other is. c.in_default.ensures.none other (subst (λ (n : ℕ). IsMarkOf n c.args.line.now other) (sym c.instances.ensures.value) is) in
    at.rejects m texts c.args.lines self.walk self.program (λ more. MarksToCome m texts c.args.lines c.args.outcome c.args.size self.walk.covering (pending m self.walk) (c.args.line.now ∷ more))
    (λ more. no_mark_step m (g.M.Machine.belongs c.args.machine.now) texts c.args.lines self.walk c.args.outcome c.args.size c.args.line.now more c.requires.walk c.requires.fits.1 none)

pub returns-then-not-take-clause-remains : goal.returns-then-not-take-clause-remains
returns-then-not-take-clause-remains g c = λ texts.
    let m = g.M.Machine.semantics c.args.machine.now in
    let self = c.args.self.now in
    let new = c.take.new.self in
    let few : m.instances ≤ 2 ^ 8 = omega (arith, c.instances.ensures.value, c.instances.ensures.few) in
    let is = subst (λ (n : ℕ). IsMarkOf n c.args.line.now c.in-Some.mark) c.instances.ensures.value c.in-Some.ensures.some in
    at.says_not m texts c.args.lines new self.program (λ more. MarksToCome m texts c.args.lines c.args.outcome c.args.size self.walk.covering (pending m self.walk) (c.args.line.now ∷ more))
    (λ more. MarksToCome m texts c.args.lines c.args.outcome c.args.size new.covering (pending m new) more)
    (λ stood. true≢false (sym stood ∙ c.if-not-take.true))
    (λ more. mark_step m (g.M.Machine.belongs c.args.machine.now) texts c.args.lines self.walk new c.args.outcome c.args.size c.in-Some.mark c.take.result c.args.line.now more c.requires.walk c.requires.fits.1 few is c.take.ensures.takes)

pub returns-then-not-is_done-clause-remains : goal.returns-then-not-is_done-clause-remains
returns-then-not-is_done-clause-remains g c = λ texts.
    let m = g.M.Machine.semantics c.args.machine.now in
    let self = c.args.self.now in
    let new = c.take.new.self in
    let few : m.instances ≤ 2 ^ 8 = omega (arith, c.instances.ensures.value, c.instances.ensures.few) in
    let is = subst (λ (n : ℕ). IsMarkOf n c.args.line.now c.in-Some.mark) c.instances.ensures.value c.in-Some.ensures.some in
    at.says m texts c.args.lines new self.program (λ more. MarksToCome m texts c.args.lines c.args.outcome c.args.size self.walk.covering (pending m self.walk) (c.args.line.now ∷ more))
    (stages.Mark c.args.outcome c.args.size) c.if-not-take.false (c.requires.fits.0, λ none. true≢false (sym (c.is_done.ensures.1 none) ∙ c.if-not-is_done.true))
    (λ more. mark_step m (g.M.Machine.belongs c.args.machine.now) texts c.args.lines self.walk new c.args.outcome c.args.size c.in-Some.mark c.take.result c.args.line.now more c.requires.walk c.requires.fits.1 few is c.take.ensures.takes)

pub returns-clause-remains : goal.returns-clause-remains
returns-clause-remains g c = λ texts.
    let m = g.M.Machine.semantics c.args.machine.now in
    let self = c.args.self.now in
    let new = c.take.new.self in
    let few : m.instances ≤ 2 ^ 8 = omega (arith, c.instances.ensures.value, c.instances.ensures.few) in
    let is = subst (λ (n : ℕ). IsMarkOf n c.args.line.now c.in-Some.mark) c.instances.ensures.value c.in-Some.ensures.some in
    at.remains_on m texts c.args.lines new self.program (λ more. MarksToCome m texts c.args.lines c.args.outcome c.args.size self.walk.covering (pending m self.walk) (c.args.line.now ∷ more))
    (λ more. TreesToCome m texts c.args.lines c.args.outcome c.args.size more) c.after_last_mark.result
    (λ more.
    let step = mark_step m (g.M.Machine.belongs c.args.machine.now) texts c.args.lines self.walk new c.args.outcome c.args.size c.in-Some.mark c.take.result c.args.line.now more c.requires.walk c.requires.fits.1 few is c.take.ensures.takes in
    let done = marks_done m texts c.args.lines c.args.outcome c.args.size new.covering (pending m new) more (c.is_done.ensures.0 c.if-not-is_done.false) in
    (λ h. done.0 (step.0 h).1, λ h. step.1 (c.if-not-take.false, done.1 h)))
    (c.after_last_mark.ensures m texts)
