-- The marks of a partial program, and those that a line alone tells.
use Rattle.std.proofs.Common.{ℕ, ◌≤◌, ◌^◌, List, length, subst, arith}
use Rattle.program_model.specs.declared.alphabet.TheConstants.{MAX_LINES}
use Rattle.program_model.specs.Program.{Program}
use Rattle.refutation_tree.specs.declared.evidence.Mark.{Mark}
use Rattle.refutation_tree.specs.declared.evidence.Mark.TheVariants as marks
use Rattle.answer_lines.specs.Lines.{SplitsWithin, IsMarkOf}
use Rattle.answer_reader.specs.Inner.Following.{MayMark, IsMarkOn}
use Rattle.answer_lines.proofs.OneReading.{one_mark}

splits_within : (q : Program) (mark : Mark) → length q ≤ MAX_LINES → MayMark q mark → SplitsWithin MAX_LINES mark
splits_within q (marks.Split line stamp) few may = omega (arith, may.within, few)
splits_within q (marks.Unmet t steps) few may = tt
splits_within q (marks.Loops t from to) few may = tt
splits_within q marks.Twin few may = tt
splits_within q marks.Waiting few may = tt
splits_within q marks.Solved few may = tt
splits_within q (marks.AtLimit t) few may = tt

pub mark_alone : (instances : ℕ) (q : Program) (text : List ℕ) (mark : Mark) → length q ≤ MAX_LINES → IsMarkOn instances q text mark → IsMarkOf instances text mark
mark_alone instances q text mark few is = record { written = is.written; in_range = is.in_range; within = splits_within q mark few is.may }

-- what the line tells, where that may not mark the program, no other does
pub none_marks : (instances : ℕ) (q : Program) (text : List ℕ) (told other : Mark) → instances ≤ 2 ^ 8 → length q ≤ MAX_LINES → IsMarkOf instances text told → (MayMark q told → ⊥) → IsMarkOn instances q text other → ⊥
none_marks instances q text told other some few is not is_other =
    let same = one_mark instances text other told some (mark_alone instances q text other few is_other) is in
    not (subst (MayMark q) same is_other.may)
