-- How long lines may be: all are short but the texts of operations.
use Rattle.std.proofs.Common.{◌≡◌, ℕ, ◌+◌, ◌<◌, ◌≤◌, ◌^◌, List, [], ◌++◌, length, ◌⊎◌, inl, inr, subst, sym, arith, length-append}
use Rattle.std.specs.Prelude.{codes, decimal, slice_index_or}
use Rattle.std.proofs.lemmas.Fmt.{length-decimal-le}
use Rattle.flag_rules.specs.declared.flags.Cond.{Cond}
use Rattle.flag_rules.specs.declared.flags.Cond.TheVariants.{Zero, Nonzero, Carry, Nocarry}
use Rattle.flag_rules.specs.Line.{then_number}
use Rattle.program_model.specs.declared.instr.Instr.{Instr}
use Rattle.program_model.specs.declared.instr.Instr.TheVariants.{Op, Goto, End}
use Rattle.program_text.specs.Texts.{cond_text, jump_text, instr_text}
use Rattle.program_text.proofs.Spelled.{IsPlain, plain_instr}
use Rattle.refutation_tree.specs.declared.evidence.Mark.{Mark}
use Rattle.refutation_tree.specs.declared.evidence.Mark.TheVariants as marks
use Rattle.refutation_tree.specs.declared.evidence.Outcome.{Outcome}
use Rattle.refutation_tree.specs.declared.evidence.Outcome.TheVariants as outcomes
use Rattle.answer_writer.specs.Document.{mark_line, verdict_line}
use Rattle.answer_lines.specs.Lines.{IsLine, is_form, is_pointers, is_lines, is_instances, is_verdict, is_tree, is_mark, is_program, is_instr, is_ends, is_end, IsOperationLine}
use Rattle.answer_lines.proofs.Worded.{IsSmall, IsSmallOutcome}
use Rattle.answer_lines.proofs.OneReading.{small_mark, small_outcome}

length-decimal : (n : ℕ) → n < 2 ^ 64 → length (decimal n) ≤ 20
length-decimal n h = length-decimal-le 20 n (omega arith) (omega (arith, h)) h

-- one number more
longer : (front : List ℕ) (size n : ℕ) → length front ≤ size → n < 2 ^ 64 → length (front ++ then_number n) ≤ size + 21
longer front size n short h = omega (arith, short, length-decimal n h, length-append front (then_number n), length-append (codes " ") (decimal n))

-- a line of words and one, two or three numbers
after_words : (words : List ℕ) (n : ℕ) → length words ≤ 43 → n < 2 ^ 64 → length (words ++ then_number n) ≤ 64
after_words words n short h = longer words 43 n short h

after_number : (words : List ℕ) (m n : ℕ) → length words ≤ 22 → m < 2 ^ 64 → n < 2 ^ 64 → length (words ++ then_number m ++ then_number n) ≤ 64
after_number words m n short h k = after_words (words ++ then_number m) n (longer words 22 m short h) k

after_two_numbers : (words : List ℕ) (l m n : ℕ) → length words ≤ 1 → l < 2 ^ 64 → m < 2 ^ 64 → n < 2 ^ 64
    → length (words ++ then_number l ++ then_number m ++ then_number n) ≤ 64
after_two_numbers words l m n short h k j = after_number (words ++ then_number l) m n (longer words 1 l short h) k j

pub length-mark_line : (mark : Mark) → IsSmall mark → length (mark_line mark) ≤ 64
length-mark_line (marks.Split line stamp) h = after_number (codes "s") line stamp (omega arith) h.0 h.1
length-mark_line (marks.Unmet t steps) h = after_number (codes "f") t steps (omega arith) h.0 h.1
length-mark_line (marks.Loops t from to) h = after_two_numbers (codes "l") t from to (omega arith) h.0 h.1 h.2
length-mark_line marks.Twin h = omega arith
length-mark_line marks.Waiting h = omega arith
length-mark_line marks.Solved h = omega arith
length-mark_line (marks.AtLimit t) h = after_words (codes "r") t (omega arith) h

pub length-verdict_line : (outcome : Outcome) → IsSmallOutcome outcome → length (verdict_line outcome) ≤ 64
length-verdict_line (outcomes.Program size) h = after_words (codes "verdict program") size (omega arith) h
length-verdict_line outcomes.Nothing h = omega arith
length-verdict_line (outcomes.SpentExpansions size) h = after_words (codes "verdict spent expansions") size (omega arith) h
length-verdict_line (outcomes.SpentRun size t) h = after_number (codes "verdict spent run") size t (omega arith) h.0 h.1

length-cond_text : (cond : Cond) → length (cond_text cond) ≤ 7
length-cond_text Zero = omega arith
length-cond_text Nonzero = omega arith
length-cond_text Carry = omega arith
length-cond_text Nocarry = omega arith

pub length-jump_text : (target : ℕ) (cond : Cond) → target < 2 ^ 64 → length (jump_text target cond) ≤ 64
length-jump_text target cond h = omega (
  arith,
  length-decimal target h,
  length-cond_text cond,
  length-append (codes "goto " ++ decimal target ++ codes " if ") (cond_text cond),
  length-append (codes "goto " ++ decimal target) (codes " if "),
  length-append (codes "goto ") (decimal target),
)

-- of two texts that are the same
short_like : {Long : Type 0} (text other : List ℕ) → text ≡ other → length other ≤ 64 → (length text ≤ 64) ⊎ Long
short_like text other same short = inl (subst (λ (l : List ℕ). length l ≤ 64) (sym same) short)

short_instr : (texts : List (List ℕ)) (text : List ℕ) (instr : Instr) → IsPlain texts instr → text ≡ instr_text texts instr → (length text ≤ 64) ⊎ IsOperationLine texts text
short_instr texts text (Op op) plain is = inr (record { op = op; within = plain; written = is })
short_instr texts text (Goto target cond) plain is = short_like text _ is (length-jump_text target cond plain)
short_instr texts text End plain is = short_like text (codes "end") is (omega arith)

-- a line is short, or an operation's text
pub short_or_operation : (texts : List (List ℕ)) (text : List ℕ) → IsLine texts text → (length text ≤ 64) ⊎ IsOperationLine texts text
short_or_operation texts text (is_form is) = short_like text (codes "bfgp answer 1") is (omega arith)
short_or_operation texts text (is_pointers k h is) = short_like text _ is (after_words (codes "pointers") k (omega arith) (omega (arith, h.1)))
short_or_operation texts text (is_lines n h is) = short_like text _ is (after_words (codes "lines") n (omega arith) (omega (arith, h.1)))
short_or_operation texts text (is_instances t h is) = short_like text _ is (after_words (codes "instances") t (omega arith) (omega (arith, h.1)))
short_or_operation texts text (is_verdict lines instances outcome short few is) =
    short_like text _ is.written (length-verdict_line outcome (small_outcome lines instances outcome (omega (arith, short)) (omega (arith, few)) (is.size, is.instance)))
short_or_operation texts text (is_tree size h is) = short_like text _ is (after_words (codes "tree") size (omega arith) (omega (arith, h.1)))
short_or_operation texts text (is_mark instances mark few is) =
    short_like text _ is.written (length-mark_line mark (small_mark instances mark (omega (arith, few)) is.in_range is.within))
short_or_operation texts text (is_program is) = short_like text (codes "program") is (omega arith)
short_or_operation texts text (is_instr lines line instr few within there is) = short_instr texts text instr (plain_instr texts lines line instr (omega (arith, few)) within there) is
short_or_operation texts text (is_ends t steps h k is) = short_like text _ is (after_number (codes "ends") t steps (omega arith) (omega (arith, h)) (omega (arith, k)))
short_or_operation texts text (is_end is) = short_like text (codes "end of answer") is (omega arith)

-- there is room for each line where there is for the short ones and for the texts of the operations
pub line_fits : (texts : List (List ℕ)) (text : List ℕ) (room : ℕ) → 64 ≤ room → ((op : ℕ) → op < length texts → length (slice_index_or texts op []) ≤ room) → IsLine texts text
    → length text ≤ room
line_fits texts text room plain each is = elim (short_or_operation texts text is) [
  | inl short ↦ omega (arith, short, plain)
  | inr operation ↦ subst (λ (l : List ℕ). length l ≤ room) (sym operation.written) (each operation.op operation.within)
]
