use Rattle.std.proofs.Common.{◌≡◌, ◌∙◌, ℕ, ◌+◌, ◌<◌, ◌≤◌, ◌^◌, ◌∷◌, sym, subst, refl, ap, arith, length, take, List}
use Rattle.std.specs.Prelude.{◌↔◌, IsTrue, codes}
use Rattle.std.proofs.lemmas.Bool.{true≢false, false≢true}
use Rattle.refutation_tree.specs.Grammar.{last_size, IsFromOneTo}
use Rattle.document_check.specs.Remaining.{LastLine, EndsToCome, InstrsToCome, ProgramToCome, TreesToCome, MarksToCome, HeadingToCome}
use Rattle.program_text.specs.Reading.{MayStand}
use Rattle.program_model.specs.Program.{Program, IsInstr}
use Rattle.document_check.specs.Inner.Steps.{Remains}
use Rattle.document_check.specs.declared.stage.Stage.TheVariants as stages
use Rattle.document_check.proofs.Stages as at
use Rattle.document_check.proofs.progress.Progress.after_instr.Goals as goal

pub returns-in_default-clause-remains : goal.returns-in_default-clause-remains
returns-in_default-clause-remains g c = λ lines.
    let m = g.M.Machine.semantics c.args.machine.now in
    at.no_instr_line m c.args.names.now lines c.args.self.now.walk c.args.self.now.program c.args.place c.args.line.now c.requires.names c.requires.fits
    (subst (λ (n : ℕ). MayStand c.args.names.now n c.args.place c.args.line.now → ⊥) c.lines-size.ensures.count c.in_default.ensures.none)

pub returns-clause-remains : goal.returns-clause-remains
returns-clause-remains g c = λ lines.
    let m = g.M.Machine.semantics c.args.machine.now in
    let program = c.args.self.now.program in
    let some = c.in-Some.ensures.some in
    subst (λ (p : Program). Remains m c.args.names.now lines c.args.self.now.walk p (λ more. InstrsToCome m c.args.names.now (length program) (take c.args.place program) (c.args.line.now ∷ more)) (stages.Instr (c.args.place + 1))) (sym c.define.ensures)
    (at.after_instr m c.args.names.now lines c.args.self.now.walk program c.args.place c.in-Some.instr c.args.line.now c.requires.are_names c.requires.names c.requires.fits (omega (arith, c.requires.fits.within, c.if-place-size.false, c.lines-size.ensures.count))
    (subst (λ (n : ℕ). IsInstr (length c.args.names.now) n c.args.place c.in-Some.instr) c.lines-size.ensures.count some.0) some.1)

pub returns-then-place-size-clause-remains : goal.returns-then-place-size-clause-remains
returns-then-place-size-clause-remains g c = λ lines. c.after_last_instr.ensures c.args.names.now lines
