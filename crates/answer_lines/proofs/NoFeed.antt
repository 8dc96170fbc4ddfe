-- No line of a document has a line feed.
use Rattle.std.proofs.Common.{◌≡◌, ℕ, ◌<◌, ◌≤◌, ◌^◌, true, not, List, [], ◌∷◌, ◌++◌, length, refl, ◌∙◌, ap, arith}
use Rattle.std.specs.Prelude.{All, codes, decimal, ◌==◌}
use Rattle.std.proofs.lemmas.List.Elements.{All-head, All-tail}
use Rattle.std.proofs.lemmas.List.Sums.{list_all-from_AllPass}
use Rattle.flag_rules.specs.Line.{then_number}
use Rattle.program_model.specs.declared.alphabet.TheConstants.{MAX_LINES}
use Rattle.program_model.specs.declared.instr.Instr.{Instr}
use Rattle.program_model.specs.Program.{IsInstr}
use Rattle.program_text.specs.Names.{IsWorded, AreNames}
use Rattle.program_text.specs.Texts.{instr_text}
use Rattle.program_text.proofs.Spelled.{line_as_written, plain_instr, instr_worded}
use Rattle.refutation_tree.specs.declared.evidence.Mark.{Mark}
use Rattle.refutation_tree.specs.declared.evidence.Outcome.{Outcome}
use Rattle.answer_lines.specs.Cuts.{is_free_of, then_numbers}
use Rattle.answer_lines.specs.Lines.{IsMarkOf, IsVerdictOf, IsLine, is_form, is_pointers, is_lines, is_instances, is_verdict, is_tree, is_mark, is_program, is_instr, is_ends, is_end}
use Rattle.answer_lines.proofs.Cutting.{free-append, decimal_free}
use Rattle.answer_lines.proofs.Worded.{mark_worded, verdict_worded}
use Rattle.answer_lines.proofs.OneReading.{small_mark, small_outcome}

-- ---- the kinds of lines

pub words_free : (text : List ℕ) → IsWorded text → is_free_of 10 text ≡ true
words_free text worded = list_all-from_AllPass (λ b. not (b == 10)) text (λ k d h. ap not ((line_as_written text worded).no_feed k d h))

pub number_free : (words : List ℕ) (n : ℕ) → is_free_of 10 words ≡ true → n < 2 ^ 64 → is_free_of 10 (words ++ then_number n) ≡ true
number_free words n free h = free-append 10 words (then_number n) free (free-append 10 (codes " ") (decimal n) refl (decimal_free 10 (omega arith) n h))

numbers_alone_free : (numbers : List ℕ) → All (λ n. n < 2 ^ 64) numbers → is_free_of 10 (then_numbers numbers) ≡ true
numbers_alone_free [] each = refl
numbers_alone_free (n ∷ ns) each =
    free-append 10 (then_number n) (then_numbers ns) (number_free [] n refl (All-head (λ m. m < 2 ^ 64) n ns each)) (numbers_alone_free ns (All-tail (λ m. m < 2 ^ 64) n ns each))

pub numbers_free : (words numbers : List ℕ) → is_free_of 10 words ≡ true → All (λ n. n < 2 ^ 64) numbers → is_free_of 10 (words ++ then_numbers numbers) ≡ true
numbers_free words numbers free each = free-append 10 words (then_numbers numbers) free (numbers_alone_free numbers each)

-- of two texts that are the same
free_like : (text other : List ℕ) → text ≡ other → is_free_of 10 other ≡ true → is_free_of 10 text ≡ true
free_like text other same free = ap (is_free_of 10) same ∙ free

pub mark_free : (instances : ℕ) (text : List ℕ) (mark : Mark) → instances ≤ 2 ^ 8 → IsMarkOf instances text mark → is_free_of 10 text ≡ true
mark_free instances text mark few is = free_like text _ is.written (words_free _ (mark_worded mark (small_mark instances mark few is.in_range is.within)))

pub verdict_free : (lines instances : ℕ) (text : List ℕ) (outcome : Outcome) → lines ≤ 2 ^ 8 → instances ≤ 2 ^ 8 → IsVerdictOf lines instances text outcome → is_free_of 10 text ≡ true
verdict_free lines instances text outcome short few is =
    free_like text _ is.written (words_free _ (verdict_worded outcome (small_outcome lines instances outcome short few (is.size, is.instance))))

pub ends_free : (t steps : ℕ) → t < 2 ^ 64 → steps < 2 ^ 64 → is_free_of 10 (codes "ends" ++ then_number t ++ then_number steps) ≡ true
ends_free t steps h k = number_free (codes "ends" ++ then_number t) steps (number_free (codes "ends") t refl h) k

pub instr_free : (texts : List (List ℕ)) (lines line : ℕ) (instr : Instr) → AreNames texts → lines ≤ MAX_LINES → line < lines → IsInstr (length texts) lines line instr
    → is_free_of 10 (instr_text texts instr) ≡ true
instr_free texts lines line instr names few within there = words_free (instr_text texts instr) (instr_worded texts instr names (plain_instr texts lines line instr (omega (arith, few)) within there))

-- ---- all lines

pub line_free : (texts : List (List ℕ)) (text : List ℕ) → AreNames texts → IsLine texts text → is_free_of 10 text ≡ true
line_free texts text names (is_form is) = free_like text (codes "bfgp answer 1") is refl
line_free texts text names (is_pointers k h is) = free_like text _ is (number_free (codes "pointers") k refl (omega (arith, h.1)))
line_free texts text names (is_lines n h is) = free_like text _ is (number_free (codes "lines") n refl (omega (arith, h.1)))
line_free texts text names (is_instances t h is) = free_like text _ is (number_free (codes "instances") t refl (omega (arith, h.1)))
line_free texts text names (is_verdict lines instances outcome short few is) = verdict_free lines instances text outcome (omega (arith, short)) (omega (arith, few)) is
line_free texts text names (is_tree size h is) = free_like text _ is (number_free (codes "tree") size refl (omega (arith, h.1)))
line_free texts text names (is_mark instances mark few is) = mark_free instances text mark (omega (arith, few)) is
line_free texts text names (is_program is) = free_like text (codes "program") is refl
line_free texts text names (is_instr lines line instr few within there is) = free_like text (instr_text texts instr) is (instr_free texts lines line instr names few within there)
line_free texts text names (is_ends t steps h k is) = free_like text _ is (ends_free t steps (omega (arith, h)) (omega (arith, k)))
line_free texts text names (is_end is) = free_like text (codes "end of answer") is refl
