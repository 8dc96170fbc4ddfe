-- For which bytes a checker stands, of which it keeps none but those of a line that has not ended.
use Rattle.std.specs.Prelude.{◌≡◌, ◌≢◌, ℕ, ◌+◌, ◌<◌, ◌≤◌, ◌↔◌, List, [], ◌∷◌, ◌++◌, length, take, drop, All, IsSome, IsTrue}
use Rattle.flag_rules.specs.Line.{lines_of}
use Rattle.program_model.specs.Semantics.{Semantics}
use Rattle.program_model.specs.Program.{Program, IsPartial, empty, line_at}
use Rattle.program_model.specs.declared.alphabet.TheConstants.{MAX_LINES}
use Rattle.program_text.specs.Names.{AreNames}
use Rattle.refutation_tree.specs.Grammar.{IsFromOneTo, last_size}
use Rattle.answer_lines.specs.Cuts.{is_free_of}
use Rattle.refutation_check.specs.Walking.{IsWalk, pending}
use Rattle.refutation_check.specs.declared.walk.Walk.{Walk}
use Rattle.document_check.specs.declared.stage.Stage.{Stage}
use Rattle.document_check.specs.declared.stage.Stage.TheVariants as stages
use Rattle.document_check.specs.declared.progress.Progress.{Progress}
use Rattle.document_check.specs.declared.reading.Reading.{Reading}
use Rattle.document_check.specs.Documents.{IsAcceptedDocument}
use Rattle.document_check.specs.Fronts.{LineFront}
use Rattle.document_check.specs.Remaining.{LastLine, EndsToCome, InstrsToCome, ProgramToCome, TreesToCome, MarksToCome, HeadingToCome}

-- what is still to come of an accepted document where such a line comes next
abbrev pub ExpectsAt : {C : Type 0} → Semantics C → List (List ℕ) → ℕ → Walk C → Program → Stage → List (List ℕ) → Type 0
ExpectsAt m texts lines walk program stages.Form more = HeadingToCome m texts lines 0 more
ExpectsAt m texts lines walk program stages.Pointers more = HeadingToCome m texts lines 1 more
ExpectsAt m texts lines walk program stages.Lines more = HeadingToCome m texts lines 2 more
ExpectsAt m texts lines walk program stages.Instances more = HeadingToCome m texts lines 3 more
ExpectsAt m texts lines walk program stages.Verdict more = HeadingToCome m texts lines 4 more
ExpectsAt m texts lines walk program (stages.Tree outcome size) more = TreesToCome m texts lines outcome size more
ExpectsAt m texts lines walk program (stages.Mark outcome size) more = MarksToCome m texts lines outcome size walk.covering (pending m walk) more
ExpectsAt m texts lines walk program (stages.Program size) more = ProgramToCome m texts size more
ExpectsAt m texts lines walk program (stages.Instr line) more = InstrsToCome m texts (length program) (take line program) more
ExpectsAt m texts lines walk program (stages.Ends t) more = EndsToCome m program t more
ExpectsAt m texts lines walk program stages.End more = LastLine more
ExpectsAt m texts lines walk program stages.Nothing more = more ≡ []
ExpectsAt m texts lines walk program stages.Rejected more = ⊥

-- what is still to come of an accepted document after as much as was read
abbrev pub Expects : {C : Type 0} → Semantics C → List (List ℕ) → ℕ → Progress C → List (List ℕ) → Type 0
Expects m texts lines progress more = ExpectsAt m texts lines progress.walk progress.program progress.stage more

-- the program is read up to a line: `end` and what was read of it is there, and nothing else
pub record IsReadTo (ops : ℕ) (program : Program) (line : ℕ) : Type 0 where
  pub is_partial : IsPartial ops program
  pub within : line < length program
  pub short : length program ≤ MAX_LINES
  pub read : (i : ℕ) → i < line → IsSome (line_at program i)
  pub unread : drop line program ≡ drop line (empty (length program))

-- a size that has a tree, or 0, where so many lines were asked for
pub record IsTreeSize (lines size last : ℕ) : Type 0 where
  pub in_range : IsFromOneTo MAX_LINES lines
  pub asked : IsFromOneTo lines last
  pub within : size ≤ last

-- what has to be so where such a line comes next
abbrev pub FitsStage : {C : Type 0} → Semantics C → ℕ → Walk C → Program → Stage → Type 0
FitsStage m lines walk program stages.Form = Unit {0}
FitsStage m lines walk program stages.Pointers = Unit {0}
FitsStage m lines walk program stages.Lines = Unit {0}
FitsStage m lines walk program stages.Instances = IsFromOneTo MAX_LINES lines
FitsStage m lines walk program stages.Verdict = IsFromOneTo MAX_LINES lines
FitsStage m lines walk program (stages.Tree outcome size) = IsTreeSize lines (size + 1) (last_size lines outcome)
FitsStage m lines walk program (stages.Mark outcome size) = IsTreeSize lines size (last_size lines outcome) × (pending m walk ≢ [])
FitsStage m lines walk program (stages.Program size) = IsFromOneTo MAX_LINES size
FitsStage m lines walk program (stages.Instr line) = IsReadTo m.ops program line
FitsStage m lines walk program (stages.Ends t) = IsPartial m.ops program × (t < m.instances)
FitsStage m lines walk program stages.End = Unit {0}
FitsStage m lines walk program stages.Nothing = Unit {0}
FitsStage m lines walk program stages.Rejected = Unit {0}

-- the walk is one of the machine, and what is held fits the line that comes next
pub record IsProgress {C : Type 0} (m : Semantics C) (belongs : ℕ → C → Type 0) (lines : ℕ) (progress : Progress C) : Type 0 where
  pub walk : IsWalk m belongs progress.walk
  pub stage : FitsStage m lines progress.walk progress.program progress.stage

-- a line of a document that a checker may keep: no line feed (10) is in it, and it has room
pub record FitsRoom (room : ℕ) (text : List ℕ) : Type 0 where
  pub free : IsTrue (is_free_of 10 text)
  pub short : length text ≤ room

-- after the front of a line that came, these bytes are the rest of an accepted document
pub record CompletesReading {C : Type 0} (m : Semantics C) (texts : List (List ℕ)) (reading : Reading C) (more : List ℕ) : Type 0 where
  pub rest : List (List ℕ)
  pub whole : reading.front.bytes ++ more ≡ lines_of rest
  pub each : All (FitsRoom reading.front.room) rest
  pub expected : Expects m texts reading.lines reading.progress rest

-- a reading over the partial programs of a machine and these names
pub record IsReading {C : Type 0} (m : Semantics C) (belongs : ℕ → C → Type 0) (texts : List (List ℕ)) (reading : Reading C) : Type 0 where
  pub names : AreNames texts
  pub progress : IsProgress m belongs reading.lines reading.progress
  pub free : IsTrue (is_free_of 10 reading.front.bytes)

-- what a checker has: a machine, the texts of its operations, how many lines were asked for, and how far a document was read
pub record Checking (M C : Type 0) : Type 0 where
  pub machine : M
  pub texts : List (List ℕ)
  pub lines : ℕ
  pub reading : Reading C

-- A checker of a machine that means this stands for bytes where, whatever follows them, the whole is an accepted document exactly where
-- that completes what was read. It stands for the bytes that it took, and for others that nothing after them can tell apart from those.
abbrev pub StandsFor : {M C : Type 0} → Semantics C → Checking M C → List ℕ → Type 0
StandsFor m checker bytes = (more : List ℕ) → IsAcceptedDocument m checker.texts checker.lines (bytes ++ more) ↔ CompletesReading m checker.texts checker.reading more

-- the machine, the texts and the lines that were asked for are the same
pub record KeepsAsked {M C : Type 0} (old new : Checking M C) : Type 0 where
  pub machine : new.machine ≡ old.machine
  pub texts : new.texts ≡ old.texts
  pub lines : new.lines ≡ old.lines
