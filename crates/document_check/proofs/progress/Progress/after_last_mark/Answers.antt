use Rattle.std.proofs.Common.{◌≡◌, ◌∙◌, ℕ, ◌+◌, ◌<◌, ◌≤◌, ◌^◌, ◌∷◌, sym, subst, refl, ap, arith, length, take, List}
use Rattle.std.specs.Prelude.{◌↔◌, IsTrue, codes}
use Rattle.std.proofs.lemmas.Bool.{true≢false, false≢true}
use Rattle.refutation_tree.specs.Grammar.{last_size, IsFromOneTo}
use Rattle.document_check.specs.Remaining.{LastLine, EndsToCome, InstrsToCome, ProgramToCome, TreesToCome, MarksToCome, HeadingToCome}
use Rattle.document_check.proofs.Stages as at
use Rattle.document_check.proofs.progress.Progress.after_last_mark.Goals as goal

pub returns-in-Program : goal.returns-in-Program
returns-in-Program g c = λ m texts.
    at.program_next m texts c.args.lines c.args.self.now.walk c.args.self.now.program c.args.outcome c.args.size c.in-Program.size c.requires (λ less. omega (arith, less, c.last_size.ensures, c.if-size-last_size.false)) c.in-Program.is

pub returns-in_default : goal.returns-in_default
returns-in_default g c = λ m texts.
    at.end_next m texts c.args.lines c.args.self.now.walk c.args.self.now.program c.args.outcome c.args.size c.requires (λ less. omega (arith, less, c.last_size.ensures, c.if-size-last_size.false)) c.in_default.not-Program
