-- A line says one thing: one mark, one outcome, one instruction. Worded has the same of numbers and of the ends of runs.
use Rattle.std.proofs.Common.{◌≡◌, ℕ, ◌<◌, ◌≤◌, ◌^◌, List, length, sym, ◌∙◌, arith}
use Rattle.program_model.specs.declared.alphabet.TheConstants.{MAX_LINES}
use Rattle.program_model.specs.declared.instr.Instr.{Instr}
use Rattle.program_model.specs.Program.{IsInstr}
use Rattle.program_text.specs.Names.{AreNames}
use Rattle.program_text.specs.Texts.{instr_text}
use Rattle.program_text.proofs.Apart.{same_instr_of_lines}
use Rattle.refutation_tree.specs.declared.evidence.Mark.{Mark}
use Rattle.refutation_tree.specs.declared.evidence.Mark.TheVariants as marks
use Rattle.refutation_tree.specs.declared.evidence.Outcome.{Outcome}
use Rattle.refutation_tree.specs.declared.evidence.Outcome.TheVariants as outcomes
use Rattle.refutation_tree.specs.Grammar.{IsFromOneTo, IsInRange, last_size}
use Rattle.answer_lines.specs.Lines.{SplitsWithin, IsMarkOf, NamesInstance, IsVerdictOf}
use Rattle.answer_lines.proofs.Worded.{IsSmall, same_mark, IsSmallOutcome, same_verdict}

-- ---- marks

pub small_mark : (instances : ℕ) (mark : Mark) → instances ≤ 2 ^ 8 → IsInRange instances mark → SplitsWithin MAX_LINES mark → IsSmall mark
small_mark instances (marks.Split line stamp) few h within = (omega (arith, within), omega (arith, h))
small_mark instances (marks.Unmet t steps) few h within = (omega (arith, h.0, few), omega (arith, h.1))
small_mark instances (marks.Loops t from to) few h within = (omega (arith, h.0, few), omega (arith, h.1, h.2), omega (arith, h.2))
small_mark instances marks.Twin few h within = tt
small_mark instances marks.Waiting few h within = tt
small_mark instances marks.Solved few h within = tt
small_mark instances (marks.AtLimit t) few h within = omega (arith, h, few)

pub one_mark : (instances : ℕ) (text : List ℕ) (one other : Mark) → instances ≤ 2 ^ 8 → IsMarkOf instances text one → IsMarkOf instances text other → one ≡ other
one_mark instances text one other few a b =
    same_mark one other (small_mark instances one few a.in_range a.within) (small_mark instances other few b.in_range b.within) (sym a.written ∙ b.written)

-- ---- verdicts

pub small_outcome : (lines instances : ℕ) (outcome : Outcome) → lines ≤ 2 ^ 8 → instances ≤ 2 ^ 8
    → IsFromOneTo lines (last_size lines outcome) × NamesInstance instances outcome → IsSmallOutcome outcome
small_outcome lines instances (outcomes.Program size) short few told = omega (arith, told.0.1, short)
small_outcome lines instances outcomes.Nothing short few told = tt
small_outcome lines instances (outcomes.SpentExpansions size) short few told = omega (arith, told.0.1, short)
small_outcome lines instances (outcomes.SpentRun size t) short few told = (omega (arith, told.0.1, short), omega (arith, told.1, few))

pub one_verdict : (lines instances : ℕ) (text : List ℕ) (one other : Outcome) → lines ≤ 2 ^ 8 → instances ≤ 2 ^ 8
    → IsVerdictOf lines instances text one → IsVerdictOf lines instances text other → one ≡ other
one_verdict lines instances text one other short few a b =
    same_verdict one other (small_outcome lines instances one short few (a.size, a.instance)) (small_outcome lines instances other short few (b.size, b.instance))
    (sym a.written ∙ b.written)

-- ---- instructions

pub one_instr : (texts : List (List ℕ)) (lines line : ℕ) (text : List ℕ) (one other : Instr) → AreNames texts → lines ≤ MAX_LINES → line < lines
    → IsInstr (length texts) lines line one → IsInstr (length texts) lines line other → instr_text texts one ≡ text → instr_text texts other ≡ text → one ≡ other
one_instr texts lines line text one other names few within a b says says_other =
    same_instr_of_lines texts lines line line one other names (omega (arith, few)) within within a b (says ∙ sym says_other)
