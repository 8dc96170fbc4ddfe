-- The marks of a tree, read one after another: the programs that wait are partial, and stand in the order of the tree.
use Rattle.std.proofs.Common.{◌≡◌, ℕ, ◌+◌, ◌<◌, List, [], ◌∷◌, ◌++◌, length, get_or, refl, sym, ◌∙◌, subst}
use Rattle.std.specs.Prelude.{All, Option, Some, None, IfSome, IfNone, option_to_list}
use Rattle.std.proofs.lemmas.List.Elements.{All-nil, All-cons, All-head, All-tail, All-append, All-map, Contains-get_or}
use Rattle.program_model.specs.declared.instr.Instr.{Instr}
use Rattle.program_model.specs.Alphabet.{alphabet}
use Rattle.program_model.specs.Program.{Program, empty, with_line, IsOpen, IsPartial}
use Rattle.program_model.proofs.Programs.{partial_empty, partial_with_line, open_is_not_last}
use Rattle.refutation_tree.specs.declared.evidence.Mark.{Mark}
use Rattle.refutation_tree.specs.declared.evidence.Mark.TheVariants as marks
use Rattle.refutation_tree.specs.Grammar.{child_programs}
use Rattle.answer_reader.specs.Inner.Following.{MayMark, brought}

pub first_partial : (ops size : ℕ) → 0 < size → All (IsPartial ops) (empty size ∷ [])
first_partial ops size some = All-cons (IsPartial ops) (empty size) [] (partial_empty ops size some) (All-nil (IsPartial ops))

pub inner_line : (ops : ℕ) (q : Program) (qs : List Program) (line : ℕ) → All (IsPartial ops) (q ∷ qs) → IsOpen q line → line + 1 < length q
inner_line ops q qs line partial may = open_is_not_last ops q line (All-head (IsPartial ops) q qs partial) may

children_partial : (ops : ℕ) (q : Program) (line : ℕ) → IsPartial ops q → IsOpen q line → All (IsPartial ops) (child_programs ops q line)
children_partial ops q line partial may =
    let instrs : List Instr = alphabet ops (length q) line in
    All-map (IsPartial ops) (with_line q line) instrs (λ k d h. partial_with_line ops q line (get_or instrs k d) partial may (Contains-get_or instrs k d h))

brought_partial : (ops : ℕ) (q : Program) (mark : Mark) → IsPartial ops q → MayMark q mark → All (IsPartial ops) (brought ops q mark)
brought_partial ops q (marks.Split line stamp) partial may = children_partial ops q line partial may
brought_partial ops q (marks.Unmet t steps) partial may = All-nil (IsPartial ops)
brought_partial ops q (marks.Loops t from to) partial may = All-nil (IsPartial ops)
brought_partial ops q marks.Twin partial may = All-nil (IsPartial ops)
brought_partial ops q marks.Waiting partial may = All-nil (IsPartial ops)
brought_partial ops q marks.Solved partial may = All-nil (IsPartial ops)
brought_partial ops q (marks.AtLimit t) partial may = All-nil (IsPartial ops)

pub still_partial : (ops : ℕ) (q : Program) (qs after : List Program) (mark : Mark) → All (IsPartial ops) (q ∷ qs) → MayMark q mark → after ≡ brought ops q mark ++ qs → All (IsPartial ops) after
still_partial ops q qs after mark partial may is =
    subst (All (IsPartial ops)) (sym is)
    (All-append (IsPartial ops) (brought ops q mark) qs (brought_partial ops q mark (All-head (IsPartial ops) q qs partial) may) (All-tail (IsPartial ops) q qs partial))

-- a mark that is no split brings none
pub none_brought : (ops : ℕ) (q : Program) (mark : Mark) → ((line stamp : ℕ) → mark ≡ marks.Split line stamp → ⊥) → brought ops q mark ≡ []
none_brought ops q (marks.Split line stamp) other = absurd (other line stamp refl)
none_brought ops q (marks.Unmet t steps) other = refl
none_brought ops q (marks.Loops t from to) other = refl
none_brought ops q marks.Twin other = refl
none_brought ops q marks.Waiting other = refl
none_brought ops q marks.Solved other = refl
none_brought ops q (marks.AtLimit t) other = refl

-- the next program and the others are those that waited
pub next_and_others : (next : Option Program) (old new : List Program) → IfSome next (λ program. old ≡ program ∷ new) → IfNone next ((old ≡ []) × (new ≡ [])) → option_to_list next ++ new ≡ old
next_and_others None old new some none = none.1 ∙ sym none.0
next_and_others (Some program) old new some none = sym some

-- where there is no next program, none waits
pub none_waits : (next : Option Program) (left : List Program) → next ≡ None → IfNone next (left ≡ []) → option_to_list next ++ left ≡ []
none_waits None left is none = none
none_waits (Some program) left is none = absurd (cc)
