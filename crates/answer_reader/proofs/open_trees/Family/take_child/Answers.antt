use Rattle.std.proofs.Common.{◌∙◌, length, sym, ap, arith}
use Rattle.std.specs.Prelude.{Some}
use Rattle.program_model.specs.Program.{Program, with_line}
use Rattle.program_model.proofs.Alphabets.{length-alphabet}
use Rattle.answer_reader.proofs.Waiting.{count_children, child_at}
use Rattle.answer_reader.proofs.open_trees.Family.take_child.Goals as goal

pub overflow_add-self : goal.overflow_add-self
overflow_add-self c =
    let family = c.args.self.now in
    omega (arith, count_children c.args.ops family.parent family.line, length-alphabet c.args.ops (length family.parent) family.line c.requires.inner)

pub returns-clause-child : goal.returns-clause-child
returns-clause-child c =
    let family = c.args.self.now in
    let instr = c.instr_at-instr.result in
    child_at c.args.ops c.lines.result family.parent family.line family.rank instr c.lines.ensures.count c.instr_at-instr.ensures
    ∙ ap (λ (p : Program). Some p) (sym (c.define.ensures ∙ ap (λ (p : Program). with_line p family.line instr) c.copy-child.ensures))
