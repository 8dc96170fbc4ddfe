use Rattle.std.proofs.Common.{◌≡◌, ◌∙◌, sym}
use Rattle.std.proofs.lemmas.Bool.{true≢false}
use Rattle.std.proofs.lemmas.Bool.Decides.{Decides-eqb}
use Rattle.std.proofs.lemmas.Slice.Eq.{slice_eq-Decides}
use Rattle.answer_reader.proofs.Taken.{no_line_left, says_none}
use Rattle.answer_reader.proofs.next_lines.read_known.Goals as goal

pub returns-else-eq : goal.returns-else-eq
returns-else-eq c =
    let decides = slice_eq-Decides Decides-eqb c.in_ok-line.line.now c.args.text.now c.eq.result c.eq.ensures in
    says_none {A = Unit {0}} (λ _ line. line ≡ c.args.text.now) c.args.reader.now c.next_line.new.self c.in_ok-line.line.now c.number-number.result
    c.number-number.ensures c.in_ok-line.ensures.ok (λ _ e. true≢false (sym (decides.1 e) ∙ c.if-eq.false))

pub returns-in_err-line : goal.returns-in_err-line
returns-in_err-line c = no_line_left {A = Unit {0}} (λ _ line. line ≡ c.args.text.now) c.args.reader.now c.next_line.new.self c.in_err-line.field-0.0 c.from_residual.result c.from_residual.ensures.1 c.in_err-line.ensures.number c.in_err-line.ensures.none
