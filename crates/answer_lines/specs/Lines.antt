-- The lines of an answer document: what each says by itself, and which there are.
use Rattle.std.specs.Prelude.{◌≡◌, ℕ, ◌<◌, ◌≤◌, List, [], ◌++◌, length, slice_index_or, codes}
use Rattle.flag_rules.specs.Line.{then_number}
use Rattle.program_model.specs.declared.alphabet.TheConstants.{MAX_LINES}
use Rattle.program_model.specs.declared.machine.TheConstants.{MAX_INSTANCES, MAX_POINTERS}
use Rattle.program_model.specs.declared.instr.Instr.{Instr}
use Rattle.program_model.specs.Program.{IsInstr}
use Rattle.program_text.specs.Texts.{instr_text}
use Rattle.refutation_tree.specs.declared.ranges.TheConstants.{MAX_STEPS}
use Rattle.refutation_tree.specs.declared.evidence.Mark.{Mark}
use Rattle.refutation_tree.specs.declared.evidence.Mark.TheVariants as marks
use Rattle.refutation_tree.specs.declared.evidence.Outcome.{Outcome}
use Rattle.refutation_tree.specs.declared.evidence.Outcome.TheVariants as outcomes
use Rattle.answer_writer.specs.Document.{mark_line, verdict_line}
use Rattle.refutation_tree.specs.Grammar.{IsFromOneTo, IsInRange, last_size}

-- a split is at a line of a program of at most so many lines
abbrev pub SplitsWithin : ℕ → Mark → Type 0
SplitsWithin lines (marks.Split line stamp) = line < lines
SplitsWithin lines (marks.Unmet t j) = Unit {0}
SplitsWithin lines (marks.Loops t i j) = Unit {0}
SplitsWithin lines marks.Twin = Unit {0}
SplitsWithin lines marks.Waiting = Unit {0}
SplitsWithin lines marks.Solved = Unit {0}
SplitsWithin lines (marks.AtLimit t) = Unit {0}

-- the line is that of a mark, where there are so many instances
pub record IsMarkOf (instances : ℕ) (text : List ℕ) (mark : Mark) : Type 0 where
  pub written : text ≡ mark_line mark
  pub in_range : IsInRange instances mark
  pub within : SplitsWithin MAX_LINES mark

-- an instance that an outcome names is one of so many
abbrev pub NamesInstance : ℕ → Outcome → Type 0
NamesInstance instances (outcomes.Program size) = Unit {0}
NamesInstance instances outcomes.Nothing = Unit {0}
NamesInstance instances (outcomes.SpentExpansions size) = Unit {0}
NamesInstance instances (outcomes.SpentRun size t) = t < instances

-- the line is the verdict of an outcome, where so many lines were asked for and there are so many instances
pub record IsVerdictOf (lines instances : ℕ) (text : List ℕ) (outcome : Outcome) : Type 0 where
  pub written : text ≡ verdict_line outcome
  pub size : IsFromOneTo lines (last_size lines outcome)
  pub instance : NamesInstance instances outcome

-- the text is one of these; each line of a document of the grammar is, where these are the texts of the operations
pub data IsLine (texts : List (List ℕ)) (text : List ℕ) : Type 0 where
  is_form : text ≡ codes "bfgp answer 1" → IsLine texts text
  is_pointers : (count : ℕ) → IsFromOneTo MAX_POINTERS count → text ≡ codes "pointers" ++ then_number count → IsLine texts text
  is_lines : (count : ℕ) → IsFromOneTo MAX_LINES count → text ≡ codes "lines" ++ then_number count → IsLine texts text
  is_instances : (count : ℕ) → IsFromOneTo MAX_INSTANCES count → text ≡ codes "instances" ++ then_number count → IsLine texts text
  is_verdict : (lines instances : ℕ) (outcome : Outcome) → lines ≤ MAX_LINES → instances ≤ MAX_INSTANCES → IsVerdictOf lines instances text outcome → IsLine texts text
  is_tree : (size : ℕ) → IsFromOneTo MAX_LINES size → text ≡ codes "tree" ++ then_number size → IsLine texts text
  is_mark : (instances : ℕ) (mark : Mark) → instances ≤ MAX_INSTANCES → IsMarkOf instances text mark → IsLine texts text
  is_program : text ≡ codes "program" → IsLine texts text
  is_instr : (lines line : ℕ) (instr : Instr) → lines ≤ MAX_LINES → line < lines → IsInstr (length texts) lines line instr → text ≡ instr_text texts instr → IsLine texts text
  is_ends : (t steps : ℕ) → t < MAX_INSTANCES → steps ≤ MAX_STEPS → text ≡ codes "ends" ++ then_number t ++ then_number steps → IsLine texts text
  is_end : text ≡ codes "end of answer" → IsLine texts text

-- the line is the text of an operation
pub record IsOperationLine (texts : List (List ℕ)) (text : List ℕ) : Type 0 where
  pub op : ℕ
  pub within : op < length texts
  pub written : text ≡ slice_index_or texts op []
