-- Lines that are gathered one after another.
use Rattle.std.proofs.Common.{◌≡◌, ℕ, zero, suc, ◌+◌, ◌<◌, List, [], ◌∷◌, ◌++◌, length, get_or, flat_map, Option, Result, Ok, Err, IsErr, refl, sym, ◌∙◌, ap, arith}
use Rattle.std.specs.Prelude.{codes}
use Rattle.std.proofs.lemmas.Bool.{false≢true}
use Rattle.std.proofs.lemmas.List.{append-nil}
use Rattle.flag_rules.specs.Line.{lines_of, then_number}
use Rattle.flag_rules.proofs.Lines.{lines_of-append}
use Rattle.program_text.specs.Gathered.{Gathers}
use Rattle.program_text.proofs.Gathering.{AllGathered, all_gathered, then_gathered, failed_gathered, same_gathered}
use Rattle.refutation_tree.specs.declared.evidence.Tree.{Tree}
use Rattle.answer_writer.specs.Document.{tree_lines, ends_lines}

module _ {S : Type 0} (written : S → Option (List ℕ)) (faults : S → ℕ) where
  -- some lines, and then what the next call gathered
  pub then_lines : {T E : Type 0} (a b c : S) (h i j : List ℕ) (result : Result T E) (xs ys : List (List ℕ)) → AllGathered written faults a b h i (lines_of xs) → Gathers written faults b c i j result (lines_of ys) → Gathers written faults a c h j result (lines_of (xs ++ ys))
  then_lines a b c h i j result xs ys some next =
      same_gathered written faults a c h j result _ _ (sym (lines_of-append xs ys)) (then_gathered written faults a b c h i j result (lines_of xs) (lines_of ys) some next)

  -- some lines, and then others
  pub more_lines : {T E : Type 0} (a b c : S) (h i j : List ℕ) (value : T) (xs ys : List (List ℕ)) → AllGathered written faults a b h i (lines_of xs) → Gathers {S = S} {T = T} {E = E} written faults b c i j (Ok value) (lines_of ys) → AllGathered written faults a c h j (lines_of (xs ++ ys))
  more_lines a b c h i j value xs ys some next = then_lines a b c h i j (Ok tt) xs ys some (all_gathered written faults b c i j value (lines_of ys) next)

  -- some lines, and then a call that failed, its error handed on by `?`
  pub stopped_lines : {T E U F : Type 0} (a b c : S) (h i j : List ℕ) (error : E) (result : Result U F) (xs ys : List (List ℕ)) → IsErr result → AllGathered written faults a b h i (lines_of xs) → Gathers {S = S} {T = T} {E = E} written faults b c i j (Err error) (lines_of ys) → Gathers written faults a c h j result (lines_of (xs ++ ys))
  stopped_lines {T} a b c h i j error result xs ys is_err some part =
      same_gathered written faults a c h j result _ _ (append-nil (lines_of (xs ++ ys)))
      (failed_gathered written faults a c h j j error result (lines_of (xs ++ ys)) [] is_err (then_lines {T = T} a b c h i j (Err error) xs ys some part))

  -- the first call failed, its error handed on by `?`
  pub first_stopped : {T E U F : Type 0} (a b : S) (h i : List ℕ) (error : E) (result : Result U F) (xs : List ℕ) → IsErr result → Gathers {S = S} {T = T} {E = E} written faults a b h i (Err error) xs → Gathers written faults a b h i result xs
  first_stopped a b h i error result xs is_err part =
      same_gathered written faults a b h i result _ _ (append-nil xs) (failed_gathered written faults a b h i i error result xs [] is_err part)

  -- an error tells nothing of the lines that would have come after it
  pub before_lines : {U F : Type 0} (a b : S) (h i : List ℕ) (result : Result U F) (xs ys : List (List ℕ)) → IsErr result → Gathers written faults a b h i result (lines_of xs) → Gathers written faults a b h i result (lines_of (xs ++ ys))
  before_lines a b h i (Ok value) xs ys is_err part = absurd (false≢true is_err)
  before_lines a b h i (Err error) xs ys is_err part =
      same_gathered written faults a b h i (Err error) _ _ (sym (lines_of-append xs ys)) (failed_gathered written faults a b h i i error (Err error) (lines_of xs) (lines_of ys) is_err part)

-- ---- the items of a document

pub one_tree : (tree : Tree) → tree_lines tree ≡ flat_map tree_lines (tree ∷ [])
one_tree tree = sym (append-nil (tree_lines tree))

-- ---- the ends of runs, one line after another

abbrev pub ends_line : ℕ → ℕ → List ℕ
ends_line t steps = codes "ends" ++ then_number t ++ then_number steps

pub length-ends_lines : (from : ℕ) (ends : List ℕ) → length (ends_lines from ends) ≡ length ends
length-ends_lines from [] = refl
length-ends_lines from (steps ∷ ends) = ap suc (length-ends_lines (from + 1) ends)

pub ends_line_at : (from t : ℕ) (ends : List ℕ) (i steps d : ℕ) → t ≡ from + i → i < length ends → steps ≡ get_or ends i d → ends_line t steps ≡ get_or (ends_lines from ends) i (ends_line t steps)
ends_line_at from t [] i steps d same within is = absurd (omega arith)
ends_line_at from t (first ∷ ends) zero steps d same within is =
    let here : t ≡ from = omega arith in
    ap (λ (n : ℕ). ends_line n steps) here ∙ ap (ends_line from) is
ends_line_at from t (first ∷ ends) (suc i) steps d same within is = ends_line_at (from + 1) t ends i steps d (omega arith) (omega arith) is
