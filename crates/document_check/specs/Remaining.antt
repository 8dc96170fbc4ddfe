-- What is still to come of the document of an accepted answer, line by line, at each place of it. It speaks of the lines that follow
-- alone: what came before is in the numbers, the partial programs and the program that each place has.
use Rattle.std.specs.Prelude.{◌≡◌, ℕ, ◌+◌, ◌-◌, ◌≤◌, Bool, List, [], ◌∷◌, ◌++◌, length, map, flat_map, drop, All, codes}
use Rattle.std.specs.List.{range_with_len}
use Rattle.flag_rules.specs.Line.{then_number}
use Rattle.program_model.specs.Semantics.{Semantics}
use Rattle.program_model.specs.Program.{Program, IsProgram}
use Rattle.program_model.specs.declared.alphabet.TheConstants.{MAX_LINES}
use Rattle.program_text.specs.Texts.{program_line}
use Rattle.refutation_tree.specs.declared.ranges.TheConstants.{MAX_STEPS}
use Rattle.refutation_tree.specs.declared.evidence.Mark.{Mark}
use Rattle.refutation_tree.specs.declared.evidence.Tree.{Tree}
use Rattle.refutation_tree.specs.declared.evidence.Outcome.{Outcome}
use Rattle.refutation_tree.specs.declared.evidence.Outcome.TheVariants as outcomes
use Rattle.refutation_tree.specs.Covers.{Child}
use Rattle.refutation_tree.specs.Grammar.{IsFromOneTo, IsTree, last_size}
use Rattle.refutation_tree.specs.Accepted.{AreEndsFrom, CoversRefuted}
use Rattle.pointer_symmetry.specs.Twins.{twins}
use Rattle.answer_writer.specs.Document.{verdict_line, mark_line, tree_lines, ends_lines}
use Rattle.answer_lines.specs.Lines.{NamesInstance}
use Rattle.refutation_check.specs.Walking.{AllStand}

-- the last line alone
abbrev pub LastLine : List (List ℕ) → Type 0
LastLine more = more ≡ codes "end of answer" ∷ []

-- where the runs of a program end on the instances from t on, and the last line
pub record EndsToCome {C : Type 0} (m : Semantics C) (program : Program) (t : ℕ) (more : List (List ℕ)) : Type 0 where
  pub ends : List ℕ
  pub are_ends : AreEndsFrom m program t ends
  pub in_range : All (λ j. j ≤ MAX_STEPS) ends
  pub written : more ≡ ends_lines t ends ++ codes "end of answer" ∷ []

-- the lines of a program of so many, after these, and where its runs end
pub record InstrsToCome {C : Type 0} (m : Semantics C) (texts : List (List ℕ)) (size : ℕ) (before : Program) (more : List (List ℕ)) : Type 0 where
  pub rest : Program
  pub is_program : IsProgram m.ops (before ++ rest)
  pub size_is : length (before ++ rest) ≡ size
  pub after : List (List ℕ)
  pub ends : EndsToCome m (before ++ rest) 0 after
  pub written : more ≡ map (program_line texts) rest ++ after

-- a program of so many lines, and where its runs end
pub record ProgramToCome {C : Type 0} (m : Semantics C) (texts : List (List ℕ)) (size : ℕ) (more : List (List ℕ)) : Type 0 where
  pub after : List (List ℕ)
  pub instrs : InstrsToCome m texts size [] after
  pub written : more ≡ codes "program" ∷ after

-- what follows the last tree: the program, where one was found
abbrev pub FoundToCome : {C : Type 0} → Semantics C → List (List ℕ) → Outcome → List (List ℕ) → Type 0
FoundToCome m texts (outcomes.Program size) more = ProgramToCome m texts size more
FoundToCome m texts outcomes.Nothing more = LastLine more
FoundToCome m texts (outcomes.SpentExpansions size) more = LastLine more
FoundToCome m texts (outcomes.SpentRun size t) more = LastLine more

-- the trees of the sizes above a given one, up to the last that has a tree, and what follows them
pub record TreesToCome {C : Type 0} (m : Semantics C) (texts : List (List ℕ)) (lines : ℕ) (outcome : Outcome) (size : ℕ) (more : List (List ℕ)) : Type 0 where
  pub trees : List Tree
  pub sizes : map (λ (tree : Tree). tree.size) trees ≡ range_with_len (size + 1) (last_size lines outcome - size)
  pub are_trees : All (IsTree m.ops m.instances) trees
  pub covered : All (CoversRefuted m (twins m) outcome) trees
  pub after : List (List ℕ)
  pub found : FoundToCome m texts outcome after
  pub written : more ≡ flat_map tree_lines trees ++ after

-- the marks of these partial programs in the tree of a size, and what follows that tree
pub record MarksToCome {C : Type 0} (m : Semantics C) (texts : List (List ℕ)) (lines : ℕ) (outcome : Outcome) (size : ℕ) (covering : Bool) (pending : List Child) (more : List (List ℕ)) : Type 0 where
  pub marks : List Mark
  pub stand : AllStand m covering pending marks
  pub after : List (List ℕ)
  pub trees : TreesToCome m texts lines outcome size after
  pub written : more ≡ map mark_line marks ++ after

-- the verdict, and what follows it
pub record VerdictToCome {C : Type 0} (m : Semantics C) (texts : List (List ℕ)) (lines : ℕ) (more : List (List ℕ)) : Type 0 where
  pub outcome : Outcome
  pub size : IsFromOneTo lines (last_size lines outcome)
  pub instance : NamesInstance m.instances outcome
  pub after : List (List ℕ)
  pub trees : TreesToCome m texts lines outcome 0 after
  pub written : more ≡ verdict_line outcome ∷ after

-- the lines before the verdict: the form of the document, and what was asked
abbrev pub heading_lines : {C : Type 0} → Semantics C → ℕ → List (List ℕ)
heading_lines m lines = codes "bfgp answer 1" ∷ (codes "pointers" ++ then_number m.pointers) ∷ (codes "lines" ++ then_number lines) ∷ (codes "instances" ++ then_number m.instances) ∷ []

-- the lines before the verdict without the first so many, and what follows them
pub record HeadingToCome {C : Type 0} (m : Semantics C) (texts : List (List ℕ)) (lines count : ℕ) (more : List (List ℕ)) : Type 0 where
  pub in_range : IsFromOneTo MAX_LINES lines
  pub after : List (List ℕ)
  pub verdict : VerdictToCome m texts lines after
  pub written : more ≡ drop count (heading_lines m lines) ++ after
