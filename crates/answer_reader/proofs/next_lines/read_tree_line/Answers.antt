use Rattle.std.proofs.Common.{◌≡◌, ◌∙◌, ◌++◌, ℕ, refl, sym, ap, arith}
use Rattle.std.specs.Prelude.{Option, Some, codes, ◌==◌}
use Rattle.std.specs.Option.{option_eq}
use Rattle.std.proofs.lemmas.Bool.{true≢false}
use Rattle.std.proofs.lemmas.Bool.Decides.{Decides-eqb}
use Rattle.program_model.specs.declared.alphabet.TheConstants.{MAX_LINES}
use Rattle.flag_rules.specs.Line.{then_number}
use Rattle.answer_reader.proofs.Numbered.{not_told}
use Rattle.answer_reader.proofs.Taken.{no_line_left, says_none}
use Rattle.answer_reader.proofs.next_lines.read_tree_line.Goals as goal

pub returns-else-eq : goal.returns-else-eq
returns-else-eq c =
    let size = c.args.size in
    let text = c.in_ok-line.line.now in
    let told = c.number_after.result in
    says_none {A = Unit {0}} (λ _ line. line ≡ codes "tree" ++ then_number size) c.args.reader.now c.next_line.new.self text c.number-number.result c.number-number.ensures c.in_ok-line.ensures.ok
    (λ _ says. not_told (codes "tree") text MAX_LINES size told (omega arith) (c.requires.some, c.requires.few) c.number_after.ensures.some c.number_after.ensures.none
    (λ same. true≢false (sym ((Decides-eqb size size).1 refl) ∙ ap (λ (o : Option ℕ). option_eq ◌==◌ o (Some size)) (sym same) ∙ sym c.eq.ensures ∙ c.if-eq.false)) says)

pub returns-in_err-line : goal.returns-in_err-line
returns-in_err-line c = no_line_left {A = Unit {0}} (λ _ line. line ≡ codes "tree" ++ then_number c.args.size) c.args.reader.now c.next_line.new.self c.in_err-line.field-0.0 c.from_residual.result c.from_residual.ensures.1 c.in_err-line.ensures.number c.in_err-line.ensures.none
