-- What may follow at each place of a document: a line leads from a place to the next, and lines to where the answer is whole.
use Rattle.std.specs.Prelude.{◌≡◌, ℕ, ◌+◌, ◌≤◌, nat_lt, if◌then◌else◌, List, [], ◌∷◌, ◌++◌, length, Option, Some, None, codes}
use Rattle.program_model.specs.declared.instr.Instr.{Instr}
use Rattle.program_model.specs.declared.alphabet.TheConstants.{MAX_LINES}
use Rattle.program_model.specs.declared.machine.TheConstants.{MAX_INSTANCES, MAX_POINTERS}
use Rattle.program_model.specs.Program.{Program, empty, IsOpen, IsInstr}
use Rattle.program_text.specs.Texts.{instr_text}
use Rattle.answer_reader.specs.declared.heading.Heading.{Heading}
use Rattle.refutation_tree.specs.declared.ranges.TheConstants.{MAX_STEPS}
use Rattle.refutation_tree.specs.declared.evidence.Mark.{Mark}
use Rattle.refutation_tree.specs.declared.evidence.Mark.TheVariants as marks
use Rattle.refutation_tree.specs.declared.evidence.Tree.{Tree}
use Rattle.refutation_tree.specs.declared.evidence.Outcome.{Outcome}
use Rattle.refutation_tree.specs.declared.evidence.Outcome.TheVariants as outcomes
use Rattle.refutation_tree.specs.declared.evidence.Answer.{Answer}
use Rattle.flag_rules.specs.Line.{then_number}
use Rattle.answer_writer.specs.Document.{verdict_line, mark_line}
use Rattle.refutation_tree.specs.Grammar.{IsFromOneTo, IsInRange, child_programs, last_size}
use Rattle.answer_lines.specs.Lines.{NamesInstance}

-- The places between the lines of a document, each with what was read before it: those of the heading, one after another;
-- then where a tree, a mark of it, the program, an instruction of it, the end of a run, and the last line come; and the end.
-- At a mark there are the marks so far, and the partial programs that have no tree yet: the one whose mark comes, and others.
pub data Place : Type 0 where
  at_form : Place
  at_pointers : Place
  at_lines : ℕ → Place
  at_instances : ℕ → ℕ → Place
  at_verdict : ℕ → ℕ → ℕ → Place
  at_tree : Heading → List Tree → Place
  at_mark : Heading → List Tree → List Mark → Program → List Program → Place
  at_program : Heading → List Tree → ℕ → Place
  at_instr : Heading → List Tree → ℕ → Program → Place
  at_ends : Heading → List Tree → Program → List ℕ → Place
  at_end : Heading → List Tree → Option Program → List ℕ → Place
  at_rest : Answer → Place

-- an answer by its parts
abbrev pub answer_of : Heading → List Tree → Option Program → List ℕ → Answer
answer_of h trees program ends = record {
  pointers = h.pointers;
  lines = h.lines;
  instances = h.instances;
  outcome = h.outcome;
  trees = trees;
  program = program;
  ends = ends;
}

-- the place after all trees
abbrev pub past_trees : Heading → List Tree → Outcome → Place
past_trees h trees (outcomes.Program size) = at_program h trees size
past_trees h trees outcomes.Nothing = at_end h trees None []
past_trees h trees (outcomes.SpentExpansions size) = at_end h trees None []
past_trees h trees (outcomes.SpentRun size t) = at_end h trees None []

-- the place after some trees
abbrev pub past_tree : Heading → List Tree → Place
past_tree h trees = if nat_lt (length trees) (last_size h.lines h.outcome) then at_tree h trees else past_trees h trees h.outcome

-- the place after some marks of the next tree, where these programs have no tree yet
abbrev pub past_marks : Heading → List Tree → List Mark → List Program → Place
past_marks h trees ms [] = past_tree h (trees ++ record { size = length trees + 1; marks = ms } ∷ [])
past_marks h trees ms (q ∷ qs) = at_mark h trees ms q qs

-- the place after the steps of some runs
abbrev pub past_ends : Heading → List Tree → Program → List ℕ → Place
past_ends h trees program ends = if nat_lt (length ends) h.instances then at_ends h trees program ends else at_end h trees (Some program) ends

-- the place after some lines of a program of so many
abbrev pub past_instrs : Heading → List Tree → ℕ → Program → Place
past_instrs h trees size program = if nat_lt (length program) size then at_instr h trees size program else past_ends h trees program []

-- the mark may be that of the partial program: what it splits is undefined
abbrev pub MayMark : Program → Mark → Type 0
MayMark q (marks.Split line stamp) = IsOpen q line
MayMark q _ = Unit {0}

-- the line is the mark of the partial program, where there are so many instances
pub record IsMarkOn (instances : ℕ) (q : Program) (text : List ℕ) (mark : Mark) : Type 0 where
  pub written : text ≡ mark_line mark
  pub in_range : IsInRange instances mark
  pub may : MayMark q mark

-- the partial programs that a mark brings
abbrev pub brought : ℕ → Program → Mark → List Program
brought ops q (marks.Split line stamp) = child_programs ops q line
brought ops q _ = []

-- the outcome may be told, where so many lines were asked for, on so many instances
abbrev pub MayBeTold : ℕ → ℕ → Outcome → Type 0
MayBeTold lines instances outcome = IsFromOneTo lines (last_size lines outcome) × NamesInstance instances outcome

-- what a heading says is of the grammar
pub record IsHeading (h : Heading) : Type 0 where
  pub pointers : IsFromOneTo MAX_POINTERS h.pointers
  pub lines : IsFromOneTo MAX_LINES h.lines
  pub instances : IsFromOneTo MAX_INSTANCES h.instances
  pub told : MayBeTold h.lines h.instances h.outcome

-- the line leads from a place to the next
abbrev pub Leads : List (List ℕ) → Place → List ℕ → Place → Type 0
Leads texts at_form text next = (text ≡ codes "bfgp answer 1") × (next ≡ at_pointers)
Leads texts at_pointers text next = (k : ℕ) × IsFromOneTo MAX_POINTERS k × (text ≡ codes "pointers" ++ then_number k) × (next ≡ at_lines k)
Leads texts (at_lines k) text next = (n : ℕ) × IsFromOneTo MAX_LINES n × (text ≡ codes "lines" ++ then_number n) × (next ≡ at_instances k n)
Leads texts (at_instances k n) text next = (t : ℕ) × IsFromOneTo MAX_INSTANCES t × (text ≡ codes "instances" ++ then_number t) × (next ≡ at_verdict k n t)
Leads texts (at_verdict k n t) text next =
    (outcome : Outcome) × MayBeTold n t outcome × (text ≡ verdict_line outcome) × (next ≡ at_tree (record { pointers = k; lines = n; instances = t; outcome = outcome }) [])
Leads texts (at_tree h trees) text next = (text ≡ codes "tree" ++ then_number (length trees + 1)) × (next ≡ at_mark h trees [] (empty (length trees + 1)) [])
Leads texts (at_mark h trees ms q qs) text next =
    (mark : Mark) × IsInRange h.instances mark × MayMark q mark × (text ≡ mark_line mark) × (next ≡ past_marks h trees (ms ++ mark ∷ []) (brought (length texts) q mark ++ qs))
Leads texts (at_program h trees size) text next = (text ≡ codes "program") × (next ≡ past_instrs h trees size [])
Leads texts (at_instr h trees size program) text next =
    (instr : Instr) × IsInstr (length texts) size (length program) instr × (text ≡ instr_text texts instr) × (next ≡ past_instrs h trees size (program ++ Some instr ∷ []))
Leads texts (at_ends h trees program ends) text next =
    (steps : ℕ) × (steps ≤ MAX_STEPS) × (text ≡ codes "ends" ++ then_number (length ends) ++ then_number steps) × (next ≡ past_ends h trees program (ends ++ steps ∷ []))
Leads texts (at_end h trees program ends) text next = (text ≡ codes "end of answer") × (next ≡ at_rest (answer_of h trees program ends))
Leads texts (at_rest a) text next = ⊥

-- the lines lead from one place to another
abbrev pub LeadOn : List (List ℕ) → Place → List (List ℕ) → Place → Type 0
LeadOn texts from [] to = from ≡ to
LeadOn texts from (text ∷ more) to = (next : Place) × Leads texts from text next × LeadOn texts next more to
