use Rattle.std.proofs.Common.{◌≡◌, ◌≢◌, ℕ, List, ◌++◌}
use Rattle.flag_rules.specs.Line.{then_number}
use Rattle.refutation_tree.specs.Grammar.{IsFromOneTo}
use Rattle.answer_reader.proofs.Taken.{no_line_left, told_by, none_more}
use Rattle.answer_reader.proofs.next_lines.read_number.Goals as goal

pub returns : goal.returns
returns c =
    let words = c.args.words.now in
    let most = c.args.most in
    let text = c.in_ok-line.line.now in
    let Says : ℕ → List ℕ → Type 0 = λ number line. IsFromOneTo most number × (line ≡ words ++ then_number number) in
    told_by Says c.args.reader.now c.next_line.new.self text c.number-number.result c.number_after.result c.ok_or.result c.ok_or.ensures.value c.number-number.ensures c.in_ok-line.ensures.ok c.number_after.ensures.some
    (none_more ((n : ℕ) → IsFromOneTo most n → text ≢ words ++ then_number n) ((n : ℕ) → Says n text → ⊥) c.number_after.result (λ none n says. none n says.0 says.1) c.number_after.ensures.none)

pub returns-in_err-line : goal.returns-in_err-line
returns-in_err-line c = no_line_left {A = ℕ} (λ number line. IsFromOneTo c.args.most number × (line ≡ c.args.words.now ++ then_number number)) c.args.reader.now c.next_line.new.self c.in_err-line.field-0.0 c.from_residual.result c.from_residual.ensures.1 c.in_err-line.ensures.number c.in_err-line.ensures.none
