use Rattle.std.proofs.Common.{◌≡◌, ◌∙◌, ℕ, ◌+◌, ◌<◌, ◌≤◌, ◌^◌, ◌∷◌, sym, subst, refl, ap, arith, length, take, List}
use Rattle.std.specs.Prelude.{◌↔◌, IsTrue, codes}
use Rattle.std.proofs.lemmas.Bool.{true≢false, false≢true}
use Rattle.refutation_tree.specs.Grammar.{last_size, IsFromOneTo}
use Rattle.document_check.specs.Remaining.{LastLine, EndsToCome, InstrsToCome, ProgramToCome, TreesToCome, MarksToCome, HeadingToCome}
use Rattle.document_check.proofs.Stages as at
use Rattle.document_check.proofs.progress.Progress.after_last_instr.Goals as goal

pub returns-then-says : goal.returns-then-says
returns-then-says g c = λ texts lines.
    let m = g.M.Machine.semantics c.args.machine.now in
    let program = c.args.self.now.program in
    let place = c.args.place in
    let text = c.args.line.now in
    let is : text ≡ codes "end" = c.says.ensures.0 c.if-says.true in
    at.remains_on m texts lines c.args.self.now.walk program (λ more. InstrsToCome m texts (length program) (take place program) (text ∷ more)) (λ more. EndsToCome m program 0 more) c.before_ends.result
    (λ more. let on = at.end_line m texts lines c.args.self.now.walk program place text more c.requires.fits c.requires.last in (λ h. (on.0 h).1, λ h. on.1 (is, h)))
    (c.before_ends.ensures m texts lines c.requires.fits.is_partial c.instances.ensures.value (omega arith))

pub returns-else-says : goal.returns-else-says
returns-else-says g c = λ texts lines.
    let m = g.M.Machine.semantics c.args.machine.now in
    let program = c.args.self.now.program in
    let place = c.args.place in
    let text = c.args.line.now in
    at.says_not m texts lines c.args.self.now.walk program (λ more. InstrsToCome m texts (length program) (take place program) (text ∷ more)) (λ more. EndsToCome m program 0 more)
    (λ is. true≢false (sym (c.says.ensures.1 is) ∙ c.if-says.false))
    (λ more. at.end_line m texts lines c.args.self.now.walk program place text more c.requires.fits c.requires.last)
