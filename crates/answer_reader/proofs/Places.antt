-- What is known at each place of a document: the lines before it, and that what they say is of the grammar.
use Rattle.std.proofs.Common.{◌≡◌, ℕ, zero, suc, add-one, length-set, ◌+◌, ◌-◌, ◌<◌, ◌≤◌, List, [], ◌∷◌, ◌++◌, length, map, flat_map, get_or, refl, sym, ◌∙◌, ap, subst, inl, inr, arith, append_assoc}
use Rattle.std.specs.Prelude.{Option, Some, None, All, nat_lt, slice_get, is_some, option_and_then, codes}
use Rattle.std.specs.List.{range_with_len}
use Rattle.std.proofs.lemmas.Bool.{cases_lt, cond-true, cond-false, lt-ltb, le-ltb}
use Rattle.std.proofs.lemmas.Option.{same_Some}
use Rattle.std.proofs.lemmas.List.{map-append, append-nil, length_push}
use Rattle.std.proofs.lemmas.List.Concat.{flat_map-append}
use Rattle.std.proofs.lemmas.List.Elements.{All-nil, All-push, All-map}
use Rattle.program_model.specs.declared.instr.Instr.{Instr}
use Rattle.program_model.specs.declared.alphabet.TheConstants.{MAX_LINES}
use Rattle.program_model.specs.declared.machine.TheConstants.{MAX_INSTANCES, MAX_POINTERS}
use Rattle.program_model.specs.Alphabet.{alphabet}
use Rattle.program_model.specs.Program.{Program, empty, line_at, with_line, IsInstr, IsProgram}
use Rattle.program_model.proofs.Alphabets.{contains_last}
use Rattle.program_model.proofs.Programs.{line_within}
use Rattle.program_text.specs.Texts.{program_line}
use Rattle.answer_reader.specs.declared.heading.Heading.{Heading}
use Rattle.refutation_tree.specs.declared.ranges.TheConstants.{MAX_STEPS}
use Rattle.refutation_tree.specs.declared.evidence.Mark.{Mark}
use Rattle.refutation_tree.specs.declared.evidence.Tree.{Tree}
use Rattle.refutation_tree.specs.declared.evidence.Outcome.{Outcome}
use Rattle.refutation_tree.specs.declared.evidence.Outcome.TheVariants as outcomes
use Rattle.flag_rules.specs.Line.{then_number}
use Rattle.answer_writer.specs.Document.{verdict_line, mark_line, tree_lines, program_lines, ends_lines, document_lines}
use Rattle.refutation_tree.specs.Grammar.{IsFromOneTo, IsInRange, child_programs, AreTrees, IsTree, last_size, HasProgram, FitsOutcome, IsGrammatical}
use Rattle.answer_reader.specs.Inner.Following.{Place, at_form, at_pointers, at_lines, at_instances, at_verdict, at_tree, at_mark, at_program, at_instr, at_ends, at_end, at_rest, answer_of, past_trees, past_tree, past_marks, past_ends, past_instrs, IsHeading}
use Rattle.answer_lines.specs.Lines.{NamesInstance}

-- ---- what is known

-- the trees of the first sizes
pub record AreFirstTrees (ops : ℕ) (h : Heading) (trees : List Tree) : Type 0 where
  pub heading : IsHeading h
  pub sizes : map (λ (tree : Tree). tree.size) trees ≡ range_with_len 1 (length trees)
  pub each : All (IsTree ops h.instances) trees

pub record IsTreePlace (ops : ℕ) (h : Heading) (trees : List Tree) : Type 0 where
  pub first : AreFirstTrees ops h trees
  pub more : length trees < last_size h.lines h.outcome

pub record IsMarkPlace (ops : ℕ) (h : Heading) (trees : List Tree) (ms : List Mark) (pending : List Program) : Type 0 where
  pub place : IsTreePlace ops h trees
  pub in_range : All (IsInRange h.instances) ms
  pub shape : (more : List Mark) → AreTrees ops pending more → AreTrees ops (empty (length trees + 1) ∷ []) (ms ++ more)
  pub sizes : All (λ (q : Program). length q ≡ length trees + 1) pending

pub record IsProgramPlace (ops : ℕ) (h : Heading) (trees : List Tree) (size : ℕ) : Type 0 where
  pub first : AreFirstTrees ops h trees
  pub all : length trees ≡ last_size h.lines h.outcome
  pub outcome : h.outcome ≡ outcomes.Program size

-- the line is defined, with an instruction of its alphabet
pub record IsDefined (ops size : ℕ) (program : Program) (line : ℕ) : Type 0 where
  pub instr : Instr
  pub here : slice_get program line ≡ Some (Some instr)
  pub allowed : IsInstr ops size line instr

pub record IsInstrPlace (ops : ℕ) (h : Heading) (trees : List Tree) (size : ℕ) (program : Program) : Type 0 where
  pub place : IsProgramPlace ops h trees size
  pub few : length program < size
  pub each : (line : ℕ) → line < length program → IsDefined ops size program line

pub record IsEndsPlace (ops : ℕ) (h : Heading) (trees : List Tree) (program : Program) (ends : List ℕ) : Type 0 where
  pub place : IsProgramPlace ops h trees (length program)
  pub is_program : IsProgram ops program
  pub in_range : All (λ j. j ≤ MAX_STEPS) ends
  pub few : length ends < h.instances

-- what is known at a place
abbrev pub IsPlace : ℕ → Place → Type 0
IsPlace ops at_form = Unit {0}
IsPlace ops at_pointers = Unit {0}
IsPlace ops (at_lines k) = IsFromOneTo MAX_POINTERS k
IsPlace ops (at_instances k n) = IsFromOneTo MAX_POINTERS k × IsFromOneTo MAX_LINES n
IsPlace ops (at_verdict k n t) = IsFromOneTo MAX_POINTERS k × IsFromOneTo MAX_LINES n × IsFromOneTo MAX_INSTANCES t
IsPlace ops (at_tree h trees) = IsTreePlace ops h trees
IsPlace ops (at_mark h trees ms q qs) = IsMarkPlace ops h trees ms (q ∷ qs)
IsPlace ops (at_program h trees size) = IsProgramPlace ops h trees size
IsPlace ops (at_instr h trees size program) = IsInstrPlace ops h trees size program
IsPlace ops (at_ends h trees program ends) = IsEndsPlace ops h trees program ends
IsPlace ops (at_end h trees program ends) = IsGrammatical ops (answer_of h trees program ends)
IsPlace ops (at_rest a) = IsGrammatical ops a

-- ---- the lines before a place

abbrev pub first_lines : List (List ℕ)
first_lines = codes "bfgp answer 1" ∷ []

abbrev pub asked_lines : ℕ → ℕ → ℕ → List (List ℕ)
asked_lines k n t = codes "bfgp answer 1" ∷ (codes "pointers" ++ then_number k) ∷ (codes "lines" ++ then_number n) ∷ (codes "instances" ++ then_number t) ∷ []

-- the lines up to some trees
abbrev pub lines_to : Heading → List Tree → List (List ℕ)
lines_to h trees = asked_lines h.pointers h.lines h.instances ++ (verdict_line h.outcome ∷ flat_map tree_lines trees)

abbrev pub lines_before : List (List ℕ) → Place → List (List ℕ)
lines_before texts at_form = []
lines_before texts at_pointers = first_lines
lines_before texts (at_lines k) = codes "bfgp answer 1" ∷ (codes "pointers" ++ then_number k) ∷ []
lines_before texts (at_instances k n) = codes "bfgp answer 1" ∷ (codes "pointers" ++ then_number k) ∷ (codes "lines" ++ then_number n) ∷ []
lines_before texts (at_verdict k n t) = asked_lines k n t
lines_before texts (at_tree h trees) = lines_to h trees
lines_before texts (at_mark h trees ms q qs) = lines_to h trees ++ ((codes "tree" ++ then_number (length trees + 1)) ∷ map mark_line ms)
lines_before texts (at_program h trees size) = lines_to h trees
lines_before texts (at_instr h trees size program) = lines_to h trees ++ (codes "program" ∷ map (program_line texts) program)
lines_before texts (at_ends h trees program ends) = (lines_to h trees ++ (codes "program" ∷ map (program_line texts) program)) ++ ends_lines 0 ends
lines_before texts (at_end h trees program ends) = (lines_to h trees ++ program_lines texts program) ++ ends_lines 0 ends
lines_before texts (at_rest a) = document_lines texts a

-- these lines stand before the place, and what is known there holds
pub record IsAt (texts before : List (List ℕ)) (place : Place) : Type 0 where
  pub lines : lines_before texts place ≡ before
  pub known : IsPlace (length texts) place

-- ---- lists

range_suc : (from count : ℕ) → range_with_len from (suc count) ≡ range_with_len from count ++ (from + count) ∷ []
range_suc from zero = ap (λ (k : ℕ). k ∷ []) (omega arith)
range_suc from (suc count) =
    let same : from + 1 + count ≡ from + suc count = omega arith in
    ap (λ (l : List ℕ). from ∷ l) (range_suc (from + 1) count ∙ ap (λ (k : ℕ). range_with_len (from + 1) count ++ k ∷ []) same)

pub range_more : (from count : ℕ) → range_with_len from (count + 1) ≡ range_with_len from count ++ (from + count) ∷ []
range_more from count = ap (range_with_len from) (add-one count) ∙ range_suc from count

pub ends_more : (t : ℕ) (ends : List ℕ) (steps : ℕ) → ends_lines t (ends ++ steps ∷ []) ≡ ends_lines t ends ++ (codes "ends" ++ then_number (t + length ends) ++ then_number steps) ∷ []
ends_more t [] steps =
    let same : t ≡ t + 0 = omega arith in
    ap (λ (i : ℕ). (codes "ends" ++ then_number i ++ then_number steps) ∷ []) same
ends_more t (j ∷ ends) steps =
    let same : t + 1 + length ends ≡ t + suc (length ends) = omega arith in
    ap (λ (l : List (List ℕ)). (codes "ends" ++ then_number t ++ then_number j) ∷ l)
    (ends_more (t + 1) ends steps ∙ ap (λ (i : ℕ). ends_lines (t + 1) ends ++ (codes "ends" ++ then_number i ++ then_number steps) ∷ []) same)

pub length-child_programs : (ops : ℕ) (q : Program) (line : ℕ) → All (λ (child : Program). length child ≡ length q) (child_programs ops q line)
length-child_programs ops q line = All-map (λ (child : Program). length child ≡ length q) (with_line q line) (alphabet ops (length q) line) (λ k d h. length-set q line (Some (get_or (alphabet ops (length q) line) k d)))

-- a program all of whose lines are defined
defined_at : (ops size : ℕ) (program : Program) (line : ℕ) → (at : IsDefined ops size program line) → line_at program line ≡ Some at.instr
defined_at ops size program line at = ap (option_and_then (λ (i : Option Instr). i)) at.here

whole_program : (ops : ℕ) (program : Program) → 0 < length program → ((line : ℕ) → line < length program → IsDefined ops (length program) program line) → IsProgram ops program
whole_program ops program some each =
    let last : ℕ = length program - 1 in
    let there = each last (omega (arith, some)) in
    record {
      is_partial = record {
        some = some;
        last = defined_at ops (length program) program last there ∙ ap (λ (i : Instr). Some i) ((contains_last ops (length program) last there.instr (omega (arith, some))).0 there.allowed);
        each = λ line instr e.
            let at = each line (line_within program line instr e) in
            let same : at.instr ≡ instr = same_Some at.instr instr (sym (defined_at ops (length program) program line at) ∙ e) in
            subst (IsInstr ops (length program) line) same at.allowed;
      };
      whole = λ line h. ap is_some (defined_at ops (length program) program line (each line h));
    }

-- ---- the next place

module _ (texts : List (List ℕ)) (h : Heading) where
  pub grammatical : (trees : List Tree) (program : Option Program) (ends : List ℕ) → AreFirstTrees (length texts) h trees → length trees ≡ last_size h.lines h.outcome
      → FitsOutcome (length texts) (answer_of h trees program ends) h.outcome → IsGrammatical (length texts) (answer_of h trees program ends)
  grammatical trees program ends first all fits = record {
    pointers = first.heading.pointers;
    lines = first.heading.lines;
    instances = first.heading.instances;
    size = first.heading.told.0;
    sizes = first.sizes ∙ ap (range_with_len 1) all;
    trees = first.each;
    outcome = fits;
  }

  no_program_lines : (trees : List Tree) → (lines_to h trees ++ []) ++ [] ≡ lines_to h trees
  no_program_lines trees = append-nil (lines_to h trees ++ []) ∙ append-nil (lines_to h trees)

  at_past_trees : (trees : List Tree) (outcome : Outcome) → h.outcome ≡ outcome → AreFirstTrees (length texts) h trees → length trees ≡ last_size h.lines h.outcome
      → IsAt texts (lines_to h trees) (past_trees h trees outcome)
  at_past_trees trees (outcomes.Program size) is first all = record { lines = refl; known = record { first = first; all = all; outcome = is } }
  at_past_trees trees outcomes.Nothing is first all = record {
    lines = no_program_lines trees;
    known = grammatical trees None [] first all (subst (FitsOutcome (length texts) (answer_of h trees None [])) (sym is) (refl, refl));
  }
  at_past_trees trees (outcomes.SpentExpansions size) is first all = record {
    lines = no_program_lines trees;
    known = grammatical trees None [] first all (subst (FitsOutcome (length texts) (answer_of h trees None [])) (sym is) (refl, refl));
  }
  at_past_trees trees (outcomes.SpentRun size t) is first all = record {
    lines = no_program_lines trees;
    known = grammatical trees None [] first all
        (subst (FitsOutcome (length texts) (answer_of h trees None [])) (sym is) (subst (NamesInstance h.instances) is first.heading.told.1, (refl, refl)));
  }

  pub at_past_tree : (trees : List Tree) → AreFirstTrees (length texts) h trees → length trees ≤ last_size h.lines h.outcome → IsAt texts (lines_to h trees) (past_tree h trees)
  at_past_tree trees first few = elim (cases_lt (length trees) (last_size h.lines h.outcome)) [
    | inl more ↦
        let here : IsAt texts (lines_to h trees) (at_tree h trees) = record { lines = refl; known = record { first = first; more = more } } in
        subst (IsAt texts (lines_to h trees)) (sym (cond-true (nat_lt (length trees) (last_size h.lines h.outcome)) (at_tree h trees) (past_trees h trees h.outcome) (lt-ltb (length trees) (last_size h.lines h.outcome) more))) here
    | inr none ↦
        subst (IsAt texts (lines_to h trees)) (sym (cond-false (nat_lt (length trees) (last_size h.lines h.outcome)) (at_tree h trees) (past_trees h trees h.outcome) (le-ltb (length trees) (last_size h.lines h.outcome) none)))
        (at_past_trees trees h.outcome refl first (omega (arith, few, none)))
  ]

  pub at_past_marks : (trees : List Tree) (ms : List Mark) (pending : List Program) → IsMarkPlace (length texts) h trees ms pending
      → IsAt texts (lines_to h trees ++ ((codes "tree" ++ then_number (length trees + 1)) ∷ map mark_line ms)) (past_marks h trees ms pending)
  at_past_marks trees ms (q ∷ qs) known = record { lines = refl; known = known }
  at_past_marks trees ms [] known =
      let tree : Tree = record { size = length trees + 1; marks = ms } in
      let asked : List (List ℕ) = asked_lines h.pointers h.lines h.instances in
      let told : List (List ℕ) = verdict_line h.outcome ∷ flat_map tree_lines trees in
      let whole : IsTree (length texts) h.instances tree = record {
        in_range = known.in_range;
        shape = subst (AreTrees (length texts) (empty (length trees + 1) ∷ [])) (append-nil ms) (known.shape [] tt);
      } in
      let count : length (trees ++ tree ∷ []) ≡ length trees + 1 = length_push trees tree in
      let next_size : 1 + length trees ≡ length trees + 1 = omega arith in
      let first : AreFirstTrees (length texts) h (trees ++ tree ∷ []) = record {
        heading = known.place.first.heading;
        sizes =
            map-append (λ (t : Tree). t.size) trees (tree ∷ [])
            ∙ ap (λ (l : List ℕ). l ++ (length trees + 1) ∷ []) known.place.first.sizes
            ∙ ap (λ (k : ℕ). range_with_len 1 (length trees) ++ k ∷ []) (sym next_size)
            ∙ sym (range_more 1 (length trees))
            ∙ ap (range_with_len 1) (sym count);
        each = All-push (IsTree (length texts) h.instances) trees tree known.place.first.each whole;
      } in
      let lines : lines_to h (trees ++ tree ∷ []) ≡ lines_to h trees ++ tree_lines tree =
      ap (λ (l : List (List ℕ)). asked ++ (verdict_line h.outcome ∷ l)) (flat_map-append tree_lines trees (tree ∷ []) ∙ ap (λ (l : List (List ℕ)). flat_map tree_lines trees ++ l) (append-nil (tree_lines tree)))
      ∙ sym (append_assoc asked told (tree_lines tree)) in
      subst (λ (l : List (List ℕ)). IsAt texts l (past_tree h (trees ++ tree ∷ []))) lines (at_past_tree (trees ++ tree ∷ []) first (omega (arith, count, known.place.more)))

  pub at_past_ends : (trees : List Tree) (program : Program) (ends : List ℕ) → IsProgramPlace (length texts) h trees (length program) → IsProgram (length texts) program → All (λ j. j ≤ MAX_STEPS) ends
      → length ends ≤ h.instances → IsAt texts ((lines_to h trees ++ (codes "program" ∷ map (program_line texts) program)) ++ ends_lines 0 ends) (past_ends h trees program ends)
  at_past_ends trees program ends place is_program in_range few = elim (cases_lt (length ends) h.instances) [
    | inl more ↦
        let here : IsAt texts ((lines_to h trees ++ (codes "program" ∷ map (program_line texts) program)) ++ ends_lines 0 ends) (at_ends h trees program ends) =
        record { lines = refl; known = record { place = place; is_program = is_program; in_range = in_range; few = more } } in
        subst (IsAt texts ((lines_to h trees ++ (codes "program" ∷ map (program_line texts) program)) ++ ends_lines 0 ends))
        (sym (cond-true (nat_lt (length ends) h.instances) (at_ends h trees program ends) (at_end h trees (Some program) ends) (lt-ltb (length ends) h.instances more))) here
    | inr none ↦
        let all : length ends ≡ h.instances = omega (arith, few, none) in
        let has : HasProgram (length texts) (length program) (answer_of h trees (Some program) ends) =
        record { program = program; given = refl; is_program = is_program; size_is = refl; one_for_each = all; in_range = in_range } in
        let fits : FitsOutcome (length texts) (answer_of h trees (Some program) ends) h.outcome = subst (FitsOutcome (length texts) (answer_of h trees (Some program) ends)) (sym place.outcome) has in
        let here : IsAt texts ((lines_to h trees ++ (codes "program" ∷ map (program_line texts) program)) ++ ends_lines 0 ends) (at_end h trees (Some program) ends) =
        record { lines = refl; known = grammatical trees (Some program) ends place.first place.all fits } in
        subst (IsAt texts ((lines_to h trees ++ (codes "program" ∷ map (program_line texts) program)) ++ ends_lines 0 ends))
        (sym (cond-false (nat_lt (length ends) h.instances) (at_ends h trees program ends) (at_end h trees (Some program) ends) (le-ltb (length ends) h.instances none))) here
  ]

  pub size_of_place : (trees : List Tree) (size : ℕ) → IsProgramPlace (length texts) h trees size → (1 ≤ size) × (size ≤ MAX_LINES)
  size_of_place trees size place =
      let told : IsFromOneTo h.lines (last_size h.lines (outcomes.Program size)) = subst (λ (o : Outcome). IsFromOneTo h.lines (last_size h.lines o)) place.outcome place.first.heading.told.0 in
      (told.0, omega (arith, told.1, place.first.heading.lines.1))

  pub at_past_instrs : (trees : List Tree) (size : ℕ) (program : Program) → IsProgramPlace (length texts) h trees size → length program ≤ size
      → ((line : ℕ) → line < length program → IsDefined (length texts) size program line)
      → IsAt texts (lines_to h trees ++ (codes "program" ∷ map (program_line texts) program)) (past_instrs h trees size program)
  at_past_instrs trees size program place few each = elim (cases_lt (length program) size) [
    | inl more ↦
        let here : IsAt texts (lines_to h trees ++ (codes "program" ∷ map (program_line texts) program)) (at_instr h trees size program) =
        record { lines = refl; known = record { place = place; few = more; each = each } } in
        subst (IsAt texts (lines_to h trees ++ (codes "program" ∷ map (program_line texts) program)))
        (sym (cond-true (nat_lt (length program) size) (at_instr h trees size program) (past_ends h trees program []) (lt-ltb (length program) size more))) here
    | inr none ↦
        let all : size ≡ length program = omega (arith, few, none) in
        let there : IsProgramPlace (length texts) h trees (length program) = subst (IsProgramPlace (length texts) h trees) all place in
        let is_program = whole_program (length texts) program (omega (arith, all, (size_of_place trees size place).0)) (subst (λ (n : ℕ). (line : ℕ) → line < length program → IsDefined (length texts) n program line) all each) in
        let here = at_past_ends trees program [] there is_program (All-nil (λ j. j ≤ MAX_STEPS)) (omega arith) in
        subst (IsAt texts (lines_to h trees ++ (codes "program" ∷ map (program_line texts) program)))
        (sym (cond-false (nat_lt (length program) size) (at_instr h trees size program) (past_ends h trees program []) (le-ltb (length program) size none)))
        (subst (λ (l : List (List ℕ)). IsAt texts l (past_ends h trees program [])) (append-nil (lines_to h trees ++ (codes "program" ∷ map (program_line texts) program))) here)
  ]
