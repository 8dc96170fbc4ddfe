-- How many lines trees have.
use Rattle.std.proofs.Common.{◌≡◌, ℕ, ◌+◌, ◌*◌, ◌≤◌, List, [], ◌∷◌, ◌++◌, length, map, flat_map, All, refl, arith}
use Rattle.std.specs.Prelude.{codes, count_by}
use Rattle.std.specs.List.{range_with_len}
use Rattle.std.proofs.lemmas.List.{length-map}
use Rattle.std.proofs.lemmas.List.Elements.{All-nil, All-cons, All-head, All-tail}
use Rattle.std.proofs.lemmas.List.Sums.{sum_by-cons}
use Rattle.flag_rules.specs.Line.{then_number}
use Rattle.program_model.specs.declared.alphabet.TheConstants.{MAX_LINES, MAX_OPS}
use Rattle.program_model.specs.declared.machine.TheConstants.{MAX_INSTANCES}
use Rattle.program_model.specs.Program.{Program, empty}
use Rattle.program_model.proofs.Programs.{length-empty}
use Rattle.refutation_tree.specs.declared.evidence.Mark.{Mark}
use Rattle.refutation_tree.specs.declared.evidence.Tree.{Tree}
use Rattle.refutation_tree.specs.Grammar.{IsInRange, AreTrees, IsTree}
use Rattle.refutation_tree.specs.Splits.{is_split, splits_of}
use Rattle.answer_writer.specs.Document.{mark_line, tree_lines}
use Rattle.answer_lines.specs.Lines.{is_tree, is_mark}
use Rattle.document_length.proofs.Marks.{IsShort, most_children, onward, few_marks}
use Rattle.document_length.proofs.ShortLines.{IsPlainLine, ArePlain, plain_nil, plain_append, plain_within}

module _ (ops instances : ℕ) (few : ops ≤ MAX_OPS) (known : instances ≤ MAX_INSTANCES) where
  plain_marks : (programs : List Program) (ms : List Mark) → All IsShort programs → All (IsInRange instances) ms → AreTrees ops programs ms → All IsPlainLine (map mark_line ms)
  plain_marks programs [] short in_range are = All-nil IsPlainLine
  plain_marks [] (mark ∷ more) short in_range are = absurd are
  plain_marks (q ∷ qs) (mark ∷ more) short in_range are =
      let next = onward ops q qs mark more few short are in
      All-cons IsPlainLine (mark_line mark) (map mark_line more)
      (is_mark instances mark known (record { written = refl; in_range = All-head (IsInRange instances) mark more in_range; within = next.within }))
      (plain_marks next.others more next.short (All-tail (IsInRange instances) mark more in_range) next.trees)

  -- a tree has its line, a mark for its program, and marks for the children of its splits
  plain_tree : (tree : Tree) → 1 ≤ tree.size → tree.size ≤ MAX_LINES → IsTree ops instances tree → ArePlain (2 + most_children * count_by is_split tree.marks) (tree_lines tree)
  plain_tree tree one most is =
      let short : All IsShort (empty tree.size ∷ []) = All-cons IsShort (empty tree.size) [] (omega (arith, most, length-empty tree.size (omega (arith, one)))) (All-nil IsShort) in
      let count = few_marks ops (empty tree.size ∷ []) tree.marks few short is.shape in
      record {
        few = omega (arith, length-map tree.marks mark_line, count);
        each = All-cons IsPlainLine (codes "tree" ++ then_number tree.size) (map mark_line tree.marks)
            (is_tree tree.size (one, most) refl)
            (plain_marks (empty tree.size ∷ []) tree.marks short is.in_range is.shape);
      }

  pub plain_trees : (from : ℕ) (trees : List Tree) → 1 ≤ from → from + length trees ≤ MAX_LINES + 1 → map (λ (tree : Tree). tree.size) trees ≡ range_with_len from (length trees) → All (IsTree ops instances) trees
      → ArePlain (2 * length trees + most_children * splits_of trees) (flat_map tree_lines trees)
  plain_trees from [] one most sizes each = plain_nil
  plain_trees from (tree ∷ trees) one most sizes each =
      let size : tree.size ≡ from = cc in
      let rest : map (λ (t : Tree). t.size) trees ≡ range_with_len (from + 1) (length trees) = cc in
      let splits : splits_of (tree ∷ trees) ≡ count_by is_split tree.marks + splits_of trees = sum_by-cons (λ (t : Tree). count_by is_split t.marks) tree trees in
      plain_within _ _ _ (omega (arith, splits))
      (plain_append _ _ (tree_lines tree) (flat_map tree_lines trees)
      (plain_tree tree (omega (arith, size, one)) (omega (arith, size, most)) (All-head (IsTree ops instances) tree trees each))
      (plain_trees (from + 1) trees (omega (arith, one)) (omega (arith, most)) rest (All-tail (IsTree ops instances) tree trees each)))
