-- The summary of a search over a family: which instances it was over, what it came to, and the program, if one was found.
use Rattle.std.specs.Prelude.{ℕ, List, [], ◌∷◌, ◌++◌, flat_map, codes}
use Rattle.flag_rules.specs.Line.{lines_of, then_number}
use Rattle.refutation_tree.specs.declared.evidence.Answer.{Answer}
use Rattle.refutation_tree.specs.Splits.{splits_of}
use Rattle.answer_writer.specs.Document.{verdict_line, program_lines}
use Rattle.family_gen.specs.declared.kinds.Family.{Family}
use Rattle.family_gen.specs.Families.{family_name, sizes_of}

-- the family and its number, and the sizes of its instances
abbrev pub family_lines : Family → ℕ → List (List ℕ)
family_lines family number =
    (codes "family " ++ family_name family ++ codes " number" ++ then_number number) ∷
    (codes "sizes" ++ flat_map then_number (sizes_of family number)) ∷ []

-- what the search came to: its verdict, and how many splits it made
abbrev pub result_lines : Answer → List (List ℕ)
result_lines answer = verdict_line answer.outcome ∷ (codes "splits" ++ then_number (splits_of answer.trees)) ∷ []

-- the lines of the summary, where these are the texts of the operations
abbrev pub summary_lines : List (List ℕ) → Family → ℕ → Answer → List (List ℕ)
summary_lines texts family number answer = family_lines family number ++ result_lines answer ++ program_lines texts answer.program

-- the summary: each line ends with a line feed
abbrev pub summary : List (List ℕ) → Family → ℕ → Answer → List ℕ
summary texts family number answer = lines_of (summary_lines texts family number answer)
