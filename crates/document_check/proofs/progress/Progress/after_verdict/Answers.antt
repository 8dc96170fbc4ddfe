use Rattle.std.proofs.Common.{◌≡◌, ◌∙◌, ℕ, ◌+◌, ◌<◌, ◌≤◌, ◌^◌, ◌∷◌, sym, subst, refl, ap, arith, length, take, List}
use Rattle.std.specs.Prelude.{◌↔◌, IsTrue, codes}
use Rattle.std.proofs.lemmas.Bool.{true≢false, false≢true}
use Rattle.refutation_tree.specs.Grammar.{last_size, IsFromOneTo}
use Rattle.document_check.specs.Remaining.{LastLine, EndsToCome, InstrsToCome, ProgramToCome, TreesToCome, MarksToCome, HeadingToCome}
use Rattle.answer_lines.specs.Lines.{IsVerdictOf}
use Rattle.document_check.proofs.Stages as at
use Rattle.document_check.proofs.progress.Progress.after_verdict.Goals as goal

pub returns-in-Some : goal.returns-in-Some
returns-in-Some g c = λ texts.
    let m = g.M.Machine.semantics c.args.machine.now in
    at.after_verdict m texts c.args.lines c.args.self.now.walk c.args.self.now.program c.in-Some.outcome c.args.line.now c.requires (omega (arith, c.instances.ensures.value, c.instances.ensures.few))
    (subst (λ (n : ℕ). IsVerdictOf c.args.lines n c.args.line.now c.in-Some.outcome) c.instances.ensures.value c.in-Some.ensures.some)
