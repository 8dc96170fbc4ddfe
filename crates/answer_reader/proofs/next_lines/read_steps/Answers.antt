use Rattle.std.proofs.Common.{◌≡◌, ◌≢◌, ◌≤◌, ℕ, List, ◌++◌}
use Rattle.std.specs.Prelude.{codes}
use Rattle.refutation_tree.specs.declared.ranges.TheConstants.{MAX_STEPS}
use Rattle.flag_rules.specs.Line.{then_number}
use Rattle.answer_reader.proofs.Taken.{no_line_left, told_by, none_more}
use Rattle.answer_reader.proofs.next_lines.read_steps.Goals as goal

pub returns : goal.returns
returns c =
    let t = c.args.t in
    let text = c.in_ok-line.line.now in
    let Says : ℕ → List ℕ → Type 0 = λ steps line. (steps ≤ MAX_STEPS) × (line ≡ codes "ends" ++ then_number t ++ then_number steps) in
    told_by Says c.args.reader.now c.next_line.new.self text c.number-number.result c.ends_of.result c.ok_or.result c.ok_or.ensures.value c.number-number.ensures c.in_ok-line.ensures.ok c.ends_of.ensures.some
    (none_more ((steps : ℕ) → steps ≤ MAX_STEPS → text ≢ codes "ends" ++ then_number t ++ then_number steps) ((steps : ℕ) → Says steps text → ⊥) c.ends_of.result (λ none steps says. none steps says.0 says.1) c.ends_of.ensures.none)

pub returns-in_err-line : goal.returns-in_err-line
returns-in_err-line c = no_line_left {A = ℕ} (λ steps line. (steps ≤ MAX_STEPS) × (line ≡ codes "ends" ++ then_number c.args.t ++ then_number steps)) c.args.reader.now c.next_line.new.self c.in_err-line.field-0.0 c.from_residual.result c.from_residual.ensures.1 c.in_err-line.ensures.number c.in_err-line.ensures.none
