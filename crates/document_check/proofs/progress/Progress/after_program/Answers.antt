use Rattle.std.proofs.Common.{◌≡◌, ◌∙◌, ℕ, ◌+◌, ◌<◌, ◌≤◌, ◌^◌, ◌∷◌, sym, subst, refl, ap, arith, length, take, List}
use Rattle.std.specs.Prelude.{◌↔◌, IsTrue, codes}
use Rattle.std.proofs.lemmas.Bool.{true≢false, false≢true}
use Rattle.refutation_tree.specs.Grammar.{last_size, IsFromOneTo}
use Rattle.document_check.specs.Remaining.{LastLine, EndsToCome, InstrsToCome, ProgramToCome, TreesToCome, MarksToCome, HeadingToCome}
use Rattle.document_check.proofs.Stages as at
use Rattle.document_check.proofs.progress.Progress.after_program.Goals as goal

pub returns-clause-remains : goal.returns-clause-remains
returns-clause-remains g c = λ texts lines.
    let m = g.M.Machine.semantics c.args.machine.now in
    at.after_program m texts lines c.args.self.now.walk c.empty-self.result c.args.size c.args.line.now c.requires (c.says.ensures.0 c.if-not-says.false) c.empty-self.ensures
