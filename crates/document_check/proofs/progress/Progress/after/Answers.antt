use Rattle.std.proofs.Common.{◌≡◌, ℕ, sym, subst}
use Rattle.refutation_tree.specs.Grammar.{IsFromOneTo}
use Rattle.program_model.specs.declared.alphabet.TheConstants.{MAX_LINES}
use Rattle.document_check.specs.Standing.{FitsStage}
use Rattle.document_check.specs.declared.stage.Stage.{Stage}
use Rattle.document_check.specs.declared.stage.Stage.TheVariants as stages
use Rattle.document_check.proofs.Stages.{at_stage}
use Rattle.document_check.proofs.progress.Progress.after.Goals as goal

pub returns-in-Form-clause-remains : goal.returns-in-Form-clause-remains
returns-in-Form-clause-remains g c =
    let m = g.M.Machine.semantics c.args.machine.now in
    let texts = c.args.names.now in
    at_stage m texts c.args.lines c.args.self.now.walk c.args.self.now.walk c.args.self.now.program c.args.self.now.program c.args.self.now.stage stages.Form c.args.line.now c.after_form.result c.in-Form.is
    (c.after_form.ensures m texts c.args.lines)

pub returns-in-Pointers-clause-remains : goal.returns-in-Pointers-clause-remains
returns-in-Pointers-clause-remains g c =
    let m = g.M.Machine.semantics c.args.machine.now in
    let texts = c.args.names.now in
    at_stage m texts c.args.lines c.args.self.now.walk c.args.self.now.walk c.args.self.now.program c.args.self.now.program c.args.self.now.stage stages.Pointers c.args.line.now c.after_pointers.result c.in-Pointers.is
    (c.after_pointers.ensures texts c.args.lines)

pub returns-in-Lines-clause-remains : goal.returns-in-Lines-clause-remains
returns-in-Lines-clause-remains g c =
    let m = g.M.Machine.semantics c.args.machine.now in
    let texts = c.args.names.now in
    at_stage m texts c.args.lines c.args.self.now.walk c.args.self.now.walk c.args.self.now.program c.args.self.now.program c.args.self.now.stage stages.Lines c.args.line.now c.after_lines.result c.in-Lines.is
    (c.after_lines.ensures m texts)

pub returns-in-Instances-clause-remains : goal.returns-in-Instances-clause-remains
returns-in-Instances-clause-remains g c =
    let m = g.M.Machine.semantics c.args.machine.now in
    let texts = c.args.names.now in
    at_stage m texts c.args.lines c.args.self.now.walk c.args.self.now.walk c.args.self.now.program c.args.self.now.program c.args.self.now.stage stages.Instances c.args.line.now c.after_instances.result c.in-Instances.is
    (c.after_instances.ensures texts c.args.lines (subst (FitsStage m c.args.lines c.args.self.now.walk c.args.self.now.program) c.in-Instances.is c.requires.progress.stage))

pub returns-in-Verdict-clause-remains : goal.returns-in-Verdict-clause-remains
returns-in-Verdict-clause-remains g c =
    let m = g.M.Machine.semantics c.args.machine.now in
    let texts = c.args.names.now in
    at_stage m texts c.args.lines c.args.self.now.walk c.args.self.now.walk c.args.self.now.program c.args.self.now.program c.args.self.now.stage stages.Verdict c.args.line.now c.after_verdict.result c.in-Verdict.is
    (c.after_verdict.ensures texts)

pub returns-in-Tree-clause-remains : goal.returns-in-Tree-clause-remains
returns-in-Tree-clause-remains g c =
    let m = g.M.Machine.semantics c.args.machine.now in
    let texts = c.args.names.now in
    at_stage m texts c.args.lines c.args.self.now.walk c.after_tree.new.self.walk c.args.self.now.program c.after_tree.new.self.program c.args.self.now.stage (stages.Tree c.in-Tree.outcome c.in-Tree.size) c.args.line.now c.after_tree.result c.in-Tree.is
    (c.after_tree.ensures.remains texts)

pub returns-in-Mark-clause-remains : goal.returns-in-Mark-clause-remains
returns-in-Mark-clause-remains g c =
    let m = g.M.Machine.semantics c.args.machine.now in
    let texts = c.args.names.now in
    at_stage m texts c.args.lines c.args.self.now.walk c.after_mark.new.self.walk c.args.self.now.program c.after_mark.new.self.program c.args.self.now.stage (stages.Mark c.in-Mark.outcome c.in-Mark.size) c.args.line.now c.after_mark.result c.in-Mark.is
    (c.after_mark.ensures.remains texts)

pub returns-in-Program-clause-remains : goal.returns-in-Program-clause-remains
returns-in-Program-clause-remains g c =
    let m = g.M.Machine.semantics c.args.machine.now in
    let texts = c.args.names.now in
    at_stage m texts c.args.lines c.args.self.now.walk c.after_program.new.self.walk c.args.self.now.program c.after_program.new.self.program c.args.self.now.stage (stages.Program c.in-Program.size) c.args.line.now c.after_program.result c.in-Program.is
    (c.after_program.ensures.remains texts c.args.lines)

pub returns-in-Instr-clause-remains : goal.returns-in-Instr-clause-remains
returns-in-Instr-clause-remains g c =
    let m = g.M.Machine.semantics c.args.machine.now in
    let texts = c.args.names.now in
    at_stage m texts c.args.lines c.args.self.now.walk c.after_instr.new.self.walk c.args.self.now.program c.after_instr.new.self.program c.args.self.now.stage (stages.Instr c.in-Instr.place) c.args.line.now c.after_instr.result c.in-Instr.is
    (c.after_instr.ensures.remains c.args.lines)

pub returns-in-Ends-clause-remains : goal.returns-in-Ends-clause-remains
returns-in-Ends-clause-remains g c =
    let m = g.M.Machine.semantics c.args.machine.now in
    let texts = c.args.names.now in
    at_stage m texts c.args.lines c.args.self.now.walk c.after_ends.new.self.walk c.args.self.now.program c.after_ends.new.self.program c.args.self.now.stage (stages.Ends c.in-Ends.t) c.args.line.now c.after_ends.result c.in-Ends.is
    (c.after_ends.ensures.remains texts c.args.lines)

pub returns-in-End-clause-remains : goal.returns-in-End-clause-remains
returns-in-End-clause-remains g c =
    let m = g.M.Machine.semantics c.args.machine.now in
    let texts = c.args.names.now in
    at_stage m texts c.args.lines c.args.self.now.walk c.args.self.now.walk c.args.self.now.program c.args.self.now.program c.args.self.now.stage stages.End c.args.line.now c.after_end.result c.in-End.is
    (c.after_end.ensures m texts c.args.lines)
