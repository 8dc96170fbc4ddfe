-- Each split defines a line, so a path of a tree is no longer than the undefined lines of its root.
use Rattle.std.proofs.Common.{◌≡◌, ℕ, zero, suc, ◌+◌, ◌-◌, ◌<◌, List, [], ◌∷◌, ◌++◌, length, take, set, get_or, Some, None, refl, sym, ◌∙◌, ap, subst, arith, cond, length-append, length-set}
use Rattle.std.specs.Prelude.{is_none, slice_get}
use Rattle.std.proofs.lemmas.List.{get_or-take, length-take}
use Rattle.std.proofs.lemmas.List.Sums.{count_by-le-length, sum_by-cons}
use Rattle.std.proofs.lemmas.Option.{none-some, same_Some, slice_get_within, slice_get-get_or}
use Rattle.program_model.specs.declared.alphabet.TheConstants.{MAX_LINES}
use Rattle.program_model.specs.declared.instr.Instr.{Instr}
use Rattle.program_model.specs.declared.instr.Instr.TheVariants.{End}
use Rattle.program_model.specs.Alphabet.{alphabet}
use Rattle.program_model.specs.Program.{Program, line_at, with_line, IsOpen}
use Rattle.refutation_tree.specs.Grammar.{child_programs}
use Rattle.refutation_tree.proofs.Children.{count_children, child_at}
use Rattle.refutation_check.specs.declared.family.Family.{Family}
use Rattle.refutation_check.specs.Walking.{IsRoot, NarrowDown, open_lines}
use Rattle.refutation_check.proofs.Places.{each_set, each_push}

-- a line more, undefined or defined
more_open : (q : Program) → open_lines (None ∷ q) ≡ 1 + open_lines q
more_open q = sum_by-cons (λ o. cond (is_none o) 1 0) None q

more_closed : (w : Instr) (q : Program) → open_lines (Some w ∷ q) ≡ open_lines q
more_closed w q = sum_by-cons (λ o. cond (is_none o) 1 0) (Some w) q ∙ omega arith

-- a line that is defined is open no more
pub open_less : (q : Program) (line : ℕ) (instr : Instr) → line < length q → line_at q line ≡ None → open_lines (with_line q line instr) + 1 ≡ open_lines q
open_less [] line instr less e = absurd (omega arith)
open_less (None ∷ q) zero instr less e = omega (arith, more_open q, more_closed instr q)
open_less (Some w ∷ q) zero instr less e = absurd (none-some w (sym e))
open_less (None ∷ q) (suc line) instr less e = let rest = open_less q line instr (omega arith) e in omega (arith, rest, more_open q, more_open (with_line q line instr))
open_less (Some w ∷ q) (suc line) instr less e = let rest = open_less q line instr (omega arith) e in omega (arith, rest, more_closed w q, more_closed w (with_line q line instr))

-- where a line is defined, not all are open
closed_less : (q : Program) (line : ℕ) (instr : Instr) → line_at q line ≡ Some instr → open_lines q < length q
closed_less [] line instr e = absurd (none-some instr e)
closed_less (None ∷ q) zero instr e = absurd (none-some instr e)
closed_less (Some w ∷ q) zero instr e = omega (arith, more_closed w q, count_by-le-length is_none q)
closed_less (None ∷ q) (suc line) instr e = let rest = closed_less q line instr e in omega (arith, rest, more_open q)
closed_less (Some w ∷ q) (suc line) instr e = let rest = closed_less q line instr e in omega (arith, rest, more_closed w q)

-- of the root not all lines are open
pub root_narrow : (ops : ℕ) (q : Program) → IsRoot ops q → open_lines q < MAX_LINES
root_narrow ops q root = let less = closed_less q (length q - 1) End root.partial.last in let short = root.short in omega (arith, less, short)

-- a split program has an open line
pub split_narrow : (q : Program) (line : ℕ) → IsOpen q line → 0 < open_lines q
split_narrow q line here = let less = open_less q line End here.within here.undefined in omega arith

-- a child has one less than its parent
pub child_narrow : (ops : ℕ) (q : Program) (line rank : ℕ) (child : Program) → IsOpen q line → slice_get (child_programs ops q line) rank ≡ Some child → open_lines child + 1 ≡ open_lines q
child_narrow ops q line rank child here e =
    let instrs = alphabet ops (length q) line in
    let left = slice_get_within (child_programs ops q line) rank child e in
    let instr = get_or instrs rank End in
    let ranked = slice_get-get_or instrs rank End (omega (arith, left, count_children ops q line)) in
    let same : with_line q line instr ≡ child = same_Some _ _ (sym (child_at ops (length q) q line rank instr refl ranked) ∙ e) in
    subst (λ (p : Program). open_lines p + 1 ≡ open_lines q) same (open_less q line instr here.within here.undefined)

-- ---- paths

module _ {C : Type 0} (families : List (Family C)) (narrow : NarrowDown families) where
  abbrev Fits : ℕ → Family C → Type 0
  Fits place family = open_lines family.parent + place < MAX_LINES

  pub narrow_set : (last : ℕ) (family after : Family C) → last < length families → get_or families last family ≡ family → after.parent ≡ family.parent → NarrowDown (set families last after)
  narrow_set last family after within here same =
      let there : Fits last after = subst (λ (q : Program). open_lines q + last < MAX_LINES) (ap (λ (f : Family C). f.parent) here ∙ sym same) (narrow last family within) in
      λ place d less. each_set Fits families (length families) last after (omega arith) narrow there place d (omega (arith, less, length-set families last after))

  pub narrow_push : (family : Family C) → open_lines family.parent + length families < MAX_LINES → NarrowDown (families ++ family ∷ [])
  narrow_push family below = λ place d less. each_push Fits families (length families) family refl narrow below place d (omega (arith, less, length-append families (family ∷ [])))

  pub narrow_take : (n : ℕ) → NarrowDown (take n families)
  narrow_take n = λ place d less.
      let size = length-take n families in
      subst (Fits place) (sym (get_or-take n families place d (omega (arith, less, size)))) (narrow place d (omega (arith, less, size)))

  -- the child of the last family
  pub next_narrow : (last : ℕ) (family : Family C) (child : Program) → length families ≡ last + 1 → get_or families last family ≡ family → open_lines child + 1 ≡ open_lines family.parent → open_lines child + length families < MAX_LINES
  next_narrow last family child size here less =
      let above = narrow last family (omega arith) in
      let same : open_lines (get_or families last family).parent ≡ open_lines family.parent = ap (λ (f : Family C). open_lines f.parent) here in
      omega (arith, above, same, less)
