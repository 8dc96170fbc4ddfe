use Rattle.std.proofs.Common.{◌≡◌, ◌∙◌, ℕ, ◌+◌, ◌<◌, ◌≤◌, ◌^◌, ◌∷◌, sym, subst, refl, ap, arith, Bool, length, take, List}
use Rattle.std.specs.Prelude.{◌↔◌, IsTrue, codes}
use Rattle.std.proofs.lemmas.Bool.{true≢false, false≢true}
use Rattle.refutation_tree.specs.Grammar.{last_size, IsFromOneTo}
use Rattle.document_check.specs.Remaining.{LastLine, EndsToCome, InstrsToCome, ProgramToCome, TreesToCome, MarksToCome, HeadingToCome}
use Rattle.refutation_tree.specs.Accepted.{SaysRefuted}
use Rattle.document_check.proofs.Stages as at
use Rattle.document_check.proofs.progress.Progress.after_tree.Goals as goal

pub returns-then-not-says_number-clause-remains : goal.returns-then-not-says_number-clause-remains
returns-then-not-says_number-clause-remains g c = λ texts.
    let m = g.M.Machine.semantics c.args.machine.now in
    at.no_tree_line m texts c.args.lines c.args.self.now.walk c.args.self.now.program c.args.outcome c.args.size c.args.line.now c.requires.fits
    (λ is. true≢false (sym (c.says_number.ensures.1 is) ∙ c.if-not-says_number.true)) c.says_refuted-covering.result c.says_refuted-covering.ensures

pub returns-clause-remains : goal.returns-clause-remains
returns-clause-remains g c = λ texts.
    let m = g.M.Machine.semantics c.args.machine.now in
    let says = c.says_number.ensures.0 c.if-not-says_number.false in
    at.after_tree m texts c.args.lines c.begin.new.self c.args.self.now.program c.args.outcome c.args.size c.args.line.now c.requires.fits says.1
    (subst (λ (b : Bool). IsTrue b ↔ SaysRefuted c.args.outcome (c.args.size + 1)) (sym c.begin.ensures.covering) c.says_refuted-covering.ensures) c.begin.ensures.pending
