-- How many splits trees tell.
use Rattle.std.specs.Prelude.{ℕ, Bool, true, false, List, sum_by, count_by}
use Rattle.refutation_tree.specs.declared.evidence.Mark.{Mark}
use Rattle.refutation_tree.specs.declared.evidence.Mark.TheVariants as marks
use Rattle.refutation_tree.specs.declared.evidence.Tree.{Tree}

-- whether a mark is that of a split
abbrev pub is_split : Mark → Bool
is_split (marks.Split line stamp) = true
is_split _ = false

-- how many splits were made: as many as their marks in all trees
abbrev pub splits_of : List Tree → ℕ
splits_of trees = sum_by (λ (tree : Tree). count_by is_split tree.marks) trees
