-- How many marks trees have: no more than there are partial programs and children of splits.
use Rattle.std.proofs.Common.{◌≡◌, ℕ, ◌+◌, ◌*◌, ◌<◌, ◌≤◌, Bool, true, false, cond, List, [], ◌∷◌, ◌++◌, length, get_or, All, inl, inr, sym, ap, subst, arith, length-append, length-set}
use Rattle.std.specs.Prelude.{Some, count_by}
use Rattle.std.proofs.lemmas.Bool.{cases_lt, cond-true, eq-eqb}
use Rattle.std.proofs.lemmas.List.{length-map}
use Rattle.std.proofs.lemmas.List.Elements.{All-head, All-tail, All-append, All-map}
use Rattle.std.proofs.lemmas.List.Sums.{sum_by-cons}
use Rattle.program_model.specs.declared.alphabet.TheConstants.{MAX_LINES, MAX_OPS}
use Rattle.program_model.specs.declared.instr.Instr.{Instr}
use Rattle.program_model.specs.declared.instr.Instr.TheVariants.{End}
use Rattle.program_model.specs.Alphabet.{alphabet}
use Rattle.program_model.specs.Program.{Program, with_line}
use Rattle.program_model.proofs.Alphabets.{length-alphabet}
use Rattle.refutation_tree.specs.declared.evidence.Mark.{Mark}
use Rattle.refutation_tree.specs.declared.evidence.Mark.TheVariants as marks
use Rattle.refutation_tree.specs.Grammar.{child_programs, AreTrees}
use Rattle.refutation_tree.specs.Splits.{is_split}
use Rattle.answer_lines.specs.Lines.{SplitsWithin}

-- a program of few enough lines
abbrev pub IsShort : Program → Type 0
IsShort q = length q ≤ MAX_LINES

-- a split has at most as many children as there are operations, and jumps by four conditions to each line
abbrev pub most_children : ℕ
most_children = MAX_OPS + 4 * MAX_LINES

few_instrs : (ops lines line : ℕ) → ops ≤ MAX_OPS → lines ≤ MAX_LINES → line < lines → length (alphabet ops lines line) ≤ most_children
few_instrs ops lines line few short within = elim (cases_lt (line + 1) lines) [
  | inl inner ↦ omega (arith, length-alphabet ops lines line inner, few, short)
  | inr over ↦ (let last : alphabet ops lines line ≡ End ∷ [] = cond-true _ _ _ (eq-eqb (line + 1) lines (omega arith)) in omega (arith, ap length last))
]

few_children : (ops : ℕ) (q : Program) (line : ℕ) → ops ≤ MAX_OPS → IsShort q → line < length q → length (child_programs ops q line) ≤ most_children
few_children ops q line few short within = omega (arith, length-map (alphabet ops (length q) line) (with_line q line), few_instrs ops (length q) line few short within)

short_children : (ops : ℕ) (q : Program) (line : ℕ) → IsShort q → All IsShort (child_programs ops q line)
short_children ops q line short =
    let instrs : List Instr = alphabet ops (length q) line in
    All-map IsShort (with_line q line) instrs (λ k d h. subst (λ (n : ℕ). n ≤ MAX_LINES) (sym (length-set q line (Some (get_or instrs k d)))) short)

-- how many programs a mark brings at most, beside those that wait
abbrev brought : Mark → ℕ
brought mark = cond (is_split mark) most_children 0

-- after a mark of some programs there are trees for others
pub record Onward (ops : ℕ) (programs : List Program) (mark : Mark) (more : List Mark) : Type 0 where
  pub within : SplitsWithin MAX_LINES mark
  pub others : List Program
  pub short : All IsShort others
  pub trees : AreTrees ops others more
  pub few : length others + 1 ≤ length programs + brought mark

pub onward : (ops : ℕ) (q : Program) (qs : List Program) (mark : Mark) (more : List Mark) → ops ≤ MAX_OPS → All IsShort (q ∷ qs) → AreTrees ops (q ∷ qs) (mark ∷ more) → Onward ops (q ∷ qs) mark more
onward ops q qs (marks.Split line stamp) more few short are =
    let first = All-head IsShort q qs short in
    record {
      within = omega (arith, are.0.within, first);
      others = child_programs ops q line ++ qs;
      short = All-append IsShort (child_programs ops q line) qs (short_children ops q line first) (All-tail IsShort q qs short);
      trees = are.1;
      few = omega (arith, length-append (child_programs ops q line) qs, few_children ops q line few first are.0.within);
    }
onward ops q qs (marks.Unmet t steps) more few short are = record { within = tt; others = qs; short = All-tail IsShort q qs short; trees = are; few = omega arith }
onward ops q qs (marks.Loops t from to) more few short are = record { within = tt; others = qs; short = All-tail IsShort q qs short; trees = are; few = omega arith }
onward ops q qs marks.Twin more few short are = record { within = tt; others = qs; short = All-tail IsShort q qs short; trees = are; few = omega arith }
onward ops q qs marks.Waiting more few short are = record { within = tt; others = qs; short = All-tail IsShort q qs short; trees = are; few = omega arith }
onward ops q qs marks.Solved more few short are = record { within = tt; others = qs; short = All-tail IsShort q qs short; trees = are; few = omega arith }
onward ops q qs (marks.AtLimit t) more few short are = record { within = tt; others = qs; short = All-tail IsShort q qs short; trees = are; few = omega arith }

-- one split more brings as many programs more
count-cons : (mark : Mark) (more : List Mark) → most_children * count_by is_split (mark ∷ more) ≡ brought mark + most_children * count_by is_split more
count-cons mark more = by_kind _ _ (is_split mark) (sum_by-cons (λ (m : Mark). cond (is_split m) 1 0) mark more)
  where
    by_kind : (n k : ℕ) (split : Bool) → n ≡ cond split 1 0 + k → most_children * n ≡ cond split most_children 0 + most_children * k
    by_kind n k true is = omega (arith, is)
    by_kind n k false is = omega (arith, is)

-- the marks of trees are no more than the programs and the children of all splits
pub few_marks : (ops : ℕ) (programs : List Program) (ms : List Mark) → ops ≤ MAX_OPS → All IsShort programs → AreTrees ops programs ms → length ms ≤ length programs + most_children * count_by is_split ms
few_marks ops programs [] few short are = omega arith
few_marks ops [] (mark ∷ more) few short are = absurd are
few_marks ops (q ∷ qs) (mark ∷ more) few short are =
    let next = onward ops q qs mark more few short are in
    omega (arith, next.few, few_marks ops next.others more few next.short next.trees, count-cons mark more)
