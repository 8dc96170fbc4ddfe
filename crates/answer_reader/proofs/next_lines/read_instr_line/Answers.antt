use Rattle.std.proofs.Common.{◌≡◌, ℕ, List, length}
use Rattle.std.specs.Prelude.{Option, Some, None, IfNone}
use Rattle.program_model.specs.declared.instr.Instr.{Instr}
use Rattle.program_model.specs.Program.{IsInstr}
use Rattle.program_text.specs.Texts.{instr_text}
use Rattle.program_text.specs.Reading.{MayStand}
use Rattle.answer_reader.proofs.Taken.{no_line_left, told_by}
use Rattle.answer_reader.proofs.next_lines.read_instr_line.Goals as goal

none_stands : (texts : List (List ℕ)) (lines line : ℕ) (text : List ℕ) (told : Option Instr) → IfNone told (MayStand texts lines line text → ⊥)
    → IfNone told ((instr : Instr) → IsInstr (length texts) lines line instr × (instr_text texts instr ≡ text) → ⊥)
none_stands texts lines line text (Some instr) none = none
none_stands texts lines line text None none = λ instr says. none (record { instr = instr; allowed = says.0; written = says.1 })

pub returns : goal.returns
returns c =
    let names = c.args.names.now in
    told_by (λ instr text. IsInstr (length names) c.args.lines c.args.line instr × (instr_text names instr ≡ text)) c.args.reader.now c.next_line.new.self c.in_ok-text.text.now c.number-number.result c.read_instr.result c.ok_or.result
    c.ok_or.ensures.value c.number-number.ensures c.in_ok-text.ensures.ok c.read_instr.ensures.some (none_stands names c.args.lines c.args.line c.in_ok-text.text.now c.read_instr.result c.read_instr.ensures.none)

pub returns-in_err-text : goal.returns-in_err-text
returns-in_err-text c = no_line_left (λ instr text. IsInstr (length c.args.names.now) c.args.lines c.args.line instr × (instr_text c.args.names.now instr ≡ text)) c.args.reader.now c.next_line.new.self c.in_err-text.field-0.0 c.from_residual.result c.from_residual.ensures.1 c.in_err-text.ensures.number c.in_err-text.ensures.none
