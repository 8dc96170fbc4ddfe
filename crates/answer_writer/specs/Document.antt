-- The answer document: what was asked, the verdict, the trees with their marks, the program, and where its runs end.
use Rattle.std.specs.Prelude.{ℕ, ◌+◌, List, [], ◌∷◌, ◌++◌, map, flat_map, Option, Some, None, codes}
use Rattle.flag_rules.specs.Line.{lines_of, then_number}
use Rattle.program_model.specs.Program.{Program}
use Rattle.program_text.specs.Texts.{program_line}
use Rattle.refutation_tree.specs.declared.evidence.Mark.{Mark}
use Rattle.refutation_tree.specs.declared.evidence.Mark.TheVariants as marks
use Rattle.refutation_tree.specs.declared.evidence.Tree.{Tree}
use Rattle.refutation_tree.specs.declared.evidence.Outcome.{Outcome}
use Rattle.refutation_tree.specs.declared.evidence.Outcome.TheVariants as outcomes
use Rattle.refutation_tree.specs.declared.evidence.Answer.{Answer}

-- the form of the document, and what was asked
abbrev pub head_lines : Answer → List (List ℕ)
head_lines a = codes "bfgp answer 1" ∷ (codes "pointers" ++ then_number a.pointers) ∷ (codes "lines" ++ then_number a.lines) ∷ (codes "instances" ++ then_number a.instances) ∷ []

abbrev pub verdict_line : Outcome → List ℕ
verdict_line (outcomes.Program size) = codes "verdict program" ++ then_number size
verdict_line outcomes.Nothing = codes "verdict none"
verdict_line (outcomes.SpentExpansions size) = codes "verdict spent expansions" ++ then_number size
verdict_line (outcomes.SpentRun size t) = codes "verdict spent run" ++ then_number size ++ then_number t

abbrev pub mark_line : Mark → List ℕ
mark_line (marks.Split line stamp) = codes "s" ++ then_number line ++ then_number stamp
mark_line (marks.Unmet t steps) = codes "f" ++ then_number t ++ then_number steps
mark_line (marks.Loops t from to) = codes "l" ++ then_number t ++ then_number from ++ then_number to
mark_line marks.Twin = codes "t"
mark_line marks.Waiting = codes "o"
mark_line marks.Solved = codes "g"
mark_line (marks.AtLimit t) = codes "r" ++ then_number t

-- a tree: its size, and its marks, one in each line
abbrev pub tree_lines : Tree → List (List ℕ)
tree_lines tree = (codes "tree" ++ then_number tree.size) ∷ map mark_line tree.marks

-- the program, if one was found, where these are the texts of the operations
abbrev pub program_lines : List (List ℕ) → Option Program → List (List ℕ)
program_lines texts None = []
program_lines texts (Some program) = codes "program" ∷ map (program_line texts) program

-- the steps after which the program's runs end, from an instance on
abbrev pub ends_lines : ℕ → List ℕ → List (List ℕ)
ends_lines t [] = []
ends_lines t (steps ∷ rest) = (codes "ends" ++ then_number t ++ then_number steps) ∷ ends_lines (t + 1) rest

-- the lines of the document of an answer, where these are the texts of the operations
abbrev pub document_lines : List (List ℕ) → Answer → List (List ℕ)
document_lines texts a =
    head_lines a ++
    (verdict_line a.outcome ∷ flat_map tree_lines a.trees) ++
    program_lines texts a.program ++
    ends_lines 0 a.ends ++
    codes "end of answer" ∷ []

-- the document of an answer: each line ends with a line feed
abbrev pub document : List (List ℕ) → Answer → List ℕ
document texts a = lines_of (document_lines texts a)
