-- What each line that is read leads to.
use Rattle.std.proofs.Common.{◌≡◌, ℕ, ◌+◌, ◌<◌, ◌≤◌, List, [], ◌∷◌, ◌++◌, length, refl, sym, ◌∙◌, ap, subst, arith}
use Rattle.std.specs.Prelude.{Option, Some, codes}
use Rattle.program_model.specs.declared.instr.Instr.{Instr}
use Rattle.program_model.specs.declared.instr.Instr.TheVariants.{End}
use Rattle.program_model.specs.declared.alphabet.TheConstants.{MAX_LINES}
use Rattle.program_model.specs.declared.machine.TheConstants.{MAX_INSTANCES, MAX_POINTERS}
use Rattle.program_model.specs.Program.{Program, empty, IsInstr}
use Rattle.program_model.proofs.Alphabets.{contains_last}
use Rattle.program_text.specs.Texts.{instr_text}
use Rattle.answer_reader.specs.declared.heading.Heading.{Heading}
use Rattle.refutation_tree.specs.declared.ranges.TheConstants.{MAX_STEPS}
use Rattle.refutation_tree.specs.declared.evidence.Mark.{Mark}
use Rattle.refutation_tree.specs.declared.evidence.Tree.{Tree}
use Rattle.refutation_tree.specs.declared.evidence.Outcome.{Outcome}
use Rattle.flag_rules.specs.Line.{then_number}
use Rattle.refutation_tree.specs.Grammar.{IsFromOneTo, IsInRange}
use Rattle.answer_reader.specs.Inner.Following.{Place, at_form, at_pointers, at_lines, at_instances, at_verdict, at_tree, at_mark, at_program, at_instr, at_ends, at_end, at_rest, answer_of, past_marks, past_ends, past_instrs, brought, IsMarkOn}
use Rattle.std.specs.Prelude.{Result, Ok}
use Rattle.program_text.specs.Names.{AreNames}
use Rattle.answer_reader.specs.declared.refusal.AnswerRefusal.{AnswerRefusal}
use Rattle.answer_lines.specs.Lines.{IsVerdictOf}
use Rattle.answer_reader.specs.Inner.Unread.{Unread}
use Rattle.answer_reader.specs.Inner.ReadingOn.{TakesSuch, ReadsOn}
use Rattle.answer_reader.proofs.Whole.{instr_next, ends_next}
use Rattle.answer_reader.proofs.Said.{reads_such}

-- ---- one reader after another

pub reads_then : {A B : Type 0} (texts : List (List ℕ)) (from : Place) (mid : A → Place) (to : B → Place) (old between new : Unread) (a : A) (result : Result B AnswerRefusal)
    → ReadsOn texts from mid old between (Ok a) → ReadsOn texts (mid a) to between new result → ReadsOn texts from to old new result
reads_then texts from mid to old between new a result first then = λ bytes at. then bytes (first bytes at)

pub reads_from : {A : Type 0} (texts : List (List ℕ)) (from other : Place) (to : A → Place) (old new : Unread) (result : Result A AnswerRefusal) → from ≡ other → ReadsOn texts other to old new result → ReadsOn texts from to old new result
reads_from texts from other to old new result same on = subst (λ (p : Place). ReadsOn texts p to old new result) (sym same) on

-- ---- the heading

module _ {U : Type 0} (unit : U) (texts : List (List ℕ)) (names : AreNames texts) (old new : Unread) (result : Result U AnswerRefusal) where
  pub form_reads : TakesSuch (λ _ line. line ≡ codes "bfgp answer 1") old new result → ReadsOn texts at_form (λ _. at_pointers) old new result
  form_reads took = reads_such texts at_form (λ _. at_pointers) (λ _ line. line ≡ codes "bfgp answer 1") old new result names (λ _ text says. (says, refl)) (λ text next leads. (unit, leads.0)) (λ a e. absurd (cc)) took

  pub tree_line_reads : (h : Heading) (trees : List Tree) (size : ℕ) → size ≡ length trees + 1 → TakesSuch (λ _ line. line ≡ codes "tree" ++ then_number size) old new result
      → ReadsOn texts (at_tree h trees) (λ _. past_marks h trees [] (empty size ∷ [])) old new result
  tree_line_reads h trees size is took =
      reads_such texts (at_tree h trees) (λ _. past_marks h trees [] (empty size ∷ [])) (λ _ line. line ≡ codes "tree" ++ then_number size) old new result names
      (λ _ text says. (says ∙ ap (λ (n : ℕ). codes "tree" ++ then_number n) is, ap (λ (n : ℕ). at_mark h trees [] (empty n) []) is))
      (λ text next leads. (unit, leads.0 ∙ ap (λ (n : ℕ). codes "tree" ++ then_number n) (sym is))) (λ a e. absurd (cc)) took

  pub program_line_reads : (h : Heading) (trees : List Tree) (size : ℕ) → TakesSuch (λ _ line. line ≡ codes "program") old new result
      → ReadsOn texts (at_program h trees size) (λ _. past_instrs h trees size []) old new result
  program_line_reads h trees size took =
      reads_such texts (at_program h trees size) (λ _. past_instrs h trees size []) (λ _ line. line ≡ codes "program") old new result names
      (λ _ text says. (says, refl)) (λ text next leads. (unit, leads.0)) (λ a e. absurd (cc)) took

  pub end_reads : (h : Heading) (trees : List Tree) (size : ℕ) (program : Program) → length program + 1 ≡ size → TakesSuch (λ _ line. line ≡ codes "end") old new result
      → ReadsOn texts (past_instrs h trees size program) (λ _. past_instrs h trees size (program ++ Some End ∷ [])) old new result
  end_reads h trees size program last took =
      reads_from texts (past_instrs h trees size program) (at_instr h trees size program) (λ _. past_instrs h trees size (program ++ Some End ∷ [])) old new result (instr_next h trees size program (omega (arith, last)))
      (reads_such texts (at_instr h trees size program) (λ _. past_instrs h trees size (program ++ Some End ∷ [])) (λ _ line. line ≡ codes "end") old new result names
      (λ _ text says. (End, (contains_last (length texts) size (length program) End last).1 refl, says, refl))
      (λ text next leads. (unit, leads.2 ∙ ap (instr_text texts) ((contains_last (length texts) size (length program) leads.0 last).0 leads.1))) (λ a e. absurd (cc)) took)

  pub last_reads : (h : Heading) (trees : List Tree) (program : Option Program) (ends : List ℕ) → TakesSuch (λ _ line. line ≡ codes "end of answer") old new result
      → ReadsOn texts (at_end h trees program ends) (λ _. at_rest (answer_of h trees program ends)) old new result
  last_reads h trees program ends took =
      reads_such texts (at_end h trees program ends) (λ _. at_rest (answer_of h trees program ends)) (λ _ line. line ≡ codes "end of answer") old new result names
      (λ _ text says. (says, refl)) (λ text next leads. (unit, leads.0)) (λ a e. absurd (cc)) took

module _ (texts : List (List ℕ)) (names : AreNames texts) (old new : Unread) where
  pub pointers_reads : (result : Result ℕ AnswerRefusal) → TakesSuch (λ number line. IsFromOneTo MAX_POINTERS number × (line ≡ codes "pointers" ++ then_number number)) old new result
      → ReadsOn texts at_pointers at_lines old new result
  pointers_reads result took =
      reads_such texts at_pointers at_lines (λ number line. IsFromOneTo MAX_POINTERS number × (line ≡ codes "pointers" ++ then_number number)) old new result names
      (λ number text says. (number, says.0, says.1, refl)) (λ text next leads. (leads.0, (leads.1, leads.2))) (λ a e. absurd (cc)) took

  pub lines_reads : (k : ℕ) (result : Result ℕ AnswerRefusal) → TakesSuch (λ number line. IsFromOneTo MAX_LINES number × (line ≡ codes "lines" ++ then_number number)) old new result
      → ReadsOn texts (at_lines k) (at_instances k) old new result
  lines_reads k result took =
      reads_such texts (at_lines k) (at_instances k) (λ number line. IsFromOneTo MAX_LINES number × (line ≡ codes "lines" ++ then_number number)) old new result names
      (λ number text says. (number, says.0, says.1, refl)) (λ text next leads. (leads.0, (leads.1, leads.2))) (λ a e. absurd (cc)) took

  pub instances_reads : (k n : ℕ) (result : Result ℕ AnswerRefusal) → TakesSuch (λ number line. IsFromOneTo MAX_INSTANCES number × (line ≡ codes "instances" ++ then_number number)) old new result
      → ReadsOn texts (at_instances k n) (at_verdict k n) old new result
  instances_reads k n result took =
      reads_such texts (at_instances k n) (at_verdict k n) (λ number line. IsFromOneTo MAX_INSTANCES number × (line ≡ codes "instances" ++ then_number number)) old new result names
      (λ number text says. (number, says.0, says.1, refl)) (λ text next leads. (leads.0, (leads.1, leads.2))) (λ a e. absurd (cc)) took

  pub outcome_reads : (k n t : ℕ) (result : Result Outcome AnswerRefusal) → TakesSuch (λ outcome line. IsVerdictOf n t line outcome) old new result
      → ReadsOn texts (at_verdict k n t) (λ outcome. at_tree (record { pointers = k; lines = n; instances = t; outcome = outcome }) []) old new result
  outcome_reads k n t result took =
      reads_such texts (at_verdict k n t) (λ outcome. at_tree (record { pointers = k; lines = n; instances = t; outcome = outcome }) []) (λ outcome line. IsVerdictOf n t line outcome) old new result names
      (λ outcome text says. (outcome, (says.size, says.instance), says.written, refl))
      (λ text next leads. (leads.0, record { written = leads.2; size = leads.1.0; instance = leads.1.1 })) (λ a e. absurd (cc)) took

  pub mark_reads : (h : Heading) (trees : List Tree) (ms : List Mark) (q : Program) (qs : List Program) (instances : ℕ) (result : Result Mark AnswerRefusal) → h.instances ≡ instances
      → TakesSuch (λ mark line. IsMarkOn instances q line mark) old new result
      → ReadsOn texts (at_mark h trees ms q qs) (λ mark. past_marks h trees (ms ++ mark ∷ []) (brought (length texts) q mark ++ qs)) old new result
  mark_reads h trees ms q qs instances result same took =
      reads_such texts (at_mark h trees ms q qs) (λ mark. past_marks h trees (ms ++ mark ∷ []) (brought (length texts) q mark ++ qs)) (λ mark line. IsMarkOn instances q line mark) old new result names
      (λ mark text says. (mark, subst (λ (n : ℕ). IsInRange n mark) (sym same) says.in_range, says.may, says.written, refl))
      (λ text next leads. (leads.0, record { written = leads.3; in_range = subst (λ (n : ℕ). IsInRange n leads.0) same leads.1; may = leads.2 })) (λ a e. absurd (cc)) took

  pub instr_reads : (h : Heading) (trees : List Tree) (size line : ℕ) (program : Program) (result : Result Instr AnswerRefusal) → line ≡ length program → line < size
      → TakesSuch (λ instr text. IsInstr (length texts) size line instr × (instr_text texts instr ≡ text)) old new result
      → ReadsOn texts (past_instrs h trees size program) (λ instr. past_instrs h trees size (program ++ Some instr ∷ [])) old new result
  instr_reads h trees size line program result same more took =
      reads_from texts (past_instrs h trees size program) (at_instr h trees size program) (λ instr. past_instrs h trees size (program ++ Some instr ∷ [])) old new result (instr_next h trees size program (omega (arith, same, more)))
      (reads_such texts (at_instr h trees size program) (λ instr. past_instrs h trees size (program ++ Some instr ∷ [])) (λ instr text. IsInstr (length texts) size line instr × (instr_text texts instr ≡ text)) old new result names
      (λ instr text says. (instr, subst (λ (n : ℕ). IsInstr (length texts) size n instr) same says.0, sym says.1, refl))
      (λ text next leads. (leads.0, (subst (λ (n : ℕ). IsInstr (length texts) size n leads.0) (sym same) leads.1, sym leads.2))) (λ a e. absurd (cc)) took)

  pub steps_reads : (h : Heading) (trees : List Tree) (program : Program) (ends : List ℕ) (t : ℕ) (result : Result ℕ AnswerRefusal) → t ≡ length ends → t < h.instances
      → TakesSuch (λ steps line. (steps ≤ MAX_STEPS) × (line ≡ codes "ends" ++ then_number t ++ then_number steps)) old new result
      → ReadsOn texts (past_ends h trees program ends) (λ steps. past_ends h trees program (ends ++ steps ∷ [])) old new result
  steps_reads h trees program ends t result same more took =
      reads_from texts (past_ends h trees program ends) (at_ends h trees program ends) (λ steps. past_ends h trees program (ends ++ steps ∷ [])) old new result (ends_next h trees program ends (omega (arith, same, more)))
      (reads_such texts (at_ends h trees program ends) (λ steps. past_ends h trees program (ends ++ steps ∷ [])) (λ steps line. (steps ≤ MAX_STEPS) × (line ≡ codes "ends" ++ then_number t ++ then_number steps)) old new result names
      (λ steps text says. (steps, says.0, says.1 ∙ ap (λ (i : ℕ). codes "ends" ++ then_number i ++ then_number steps) same, refl))
      (λ text next leads. (leads.0, (leads.1, leads.2 ∙ ap (λ (i : ℕ). codes "ends" ++ then_number i ++ then_number leads.0) (sym same)))) (λ a e. absurd (cc)) took)
