-- Where a line of a document leads to, place by place.
use Rattle.std.proofs.Common.{◌≡◌, ◌≢◌, ℕ, ◌+◌, ◌-◌, ◌<◌, ◌≤◌, ◌^◌, Bool, true, false, suc, zero, List, [], ◌∷◌, ◌++◌, length, take, drop, get_or, Some, refl, sym, ◌∙◌, ap, subst, arith, below_more}
use Rattle.std.specs.Prelude.{Option, None, IsSome, IsTrue, ◌↔◌, slice_get, option_and_then, codes}
use Rattle.std.proofs.lemmas.Bool.{false≢true}
use Rattle.std.proofs.lemmas.List.{length-take-le, length-set}
use Rattle.flag_rules.specs.Line.{then_number}
use Rattle.program_model.specs.declared.alphabet.TheConstants.{MAX_LINES}
use Rattle.program_model.specs.declared.instr.Instr.{Instr}
use Rattle.program_model.specs.declared.instr.Instr.TheVariants.{End}
use Rattle.program_model.specs.Semantics.{Semantics}
use Rattle.program_model.specs.Program.{Program, IsInstr, IsOpen, IsPartial, IsProgram, empty, line_at, with_line}
use Rattle.program_model.proofs.Programs.{length-empty, line_at-empty, line_at-with_line, line_at-with_other, partial_empty, partial_with_line}
use Rattle.program_text.specs.Names.{AreNames}
use Rattle.program_text.specs.Texts.{instr_text}
use Rattle.program_text.specs.Reading.{MayStand}
use Rattle.refutation_tree.specs.declared.evidence.Outcome.{Outcome}
use Rattle.refutation_tree.specs.declared.evidence.Outcome.TheVariants as outcomes
use Rattle.refutation_tree.specs.Grammar.{IsFromOneTo, last_size}
use Rattle.refutation_tree.specs.Accepted.{SaysRefuted}
use Rattle.answer_lines.specs.Lines.{IsVerdictOf}
use Rattle.answer_lines.proofs.OneReading.{one_verdict, one_instr}
use Rattle.answer_reader.proofs.Instrs.{one_more_instr, rest_unread, all_but_end}
use Rattle.refutation_check.specs.Walking.{pending, rooted}
use Rattle.refutation_check.specs.declared.walk.Walk.{Walk}
use Rattle.document_check.specs.declared.stage.Stage.{Stage}
use Rattle.document_check.specs.declared.stage.Stage.TheVariants as stages
use Rattle.document_check.specs.Remaining.{EndsToCome, InstrsToCome, ProgramToCome, TreesToCome, MarksToCome, HeadingToCome}
use Rattle.document_check.specs.Standing.{ExpectsAt, FitsStage, IsReadTo, IsTreeSize}
use Rattle.document_check.specs.Inner.Steps.{Remains}
use Rattle.document_check.proofs.Steps.{verdict_on, tree_on, trees_done, program_on, ends_done}
use Rattle.document_check.proofs.Instrs.{instr_on, no_instr_on, end_on}

module _ {C : Type 0} (m : Semantics C) (texts : List (List ℕ)) (lines : ℕ) (walk : Walk C) (program : Program) where
  -- the line says what it has to
  pub says : {A : Type 0} (ToCome : List (List ℕ) → Type 0) (next : Stage) → A → FitsStage m lines walk program next → ((more : List (List ℕ)) → ToCome more ↔ (A × ExpectsAt m texts lines walk program next more)) → Remains m texts lines walk program ToCome next
  says ToCome next a fits on = record { fits = fits; expects = λ more. (λ h. ((on more).0 h).1, λ h. (on more).1 (a, h)) }

  -- the line does not say it
  pub says_not : {A : Type 0} (ToCome Later : List (List ℕ) → Type 0) → (A → ⊥) → ((more : List (List ℕ)) → ToCome more ↔ (A × Later more)) → Remains m texts lines walk program ToCome stages.Rejected
  says_not ToCome Later not on = record { fits = tt; expects = λ more. (λ h. not ((on more).0 h).0, λ h. absurd h) }

  -- nothing may come
  pub rejects : (ToCome : List (List ℕ) → Type 0) → ((more : List (List ℕ)) → ToCome more → ⊥) → Remains m texts lines walk program ToCome stages.Rejected
  rejects ToCome none = record { fits = tt; expects = λ more. (none more, λ h. absurd h) }

  -- ---- the verdict

  pub after_verdict : (outcome : Outcome) (text : List ℕ) → IsFromOneTo MAX_LINES lines → m.instances ≤ 2 ^ 8 → IsVerdictOf lines m.instances text outcome
      → Remains m texts lines walk program (λ more. HeadingToCome m texts lines 4 (text ∷ more)) (stages.Tree outcome 0)
  after_verdict outcome text in_range few is = record {
    fits = record { in_range = in_range; asked = is.size; within = omega (arith, is.size.0) };
    expects = λ more. verdict_on m texts lines outcome text more in_range is (λ other also. one_verdict lines m.instances text other outcome (omega (arith, in_range.1)) few also is);
  }

  -- ---- trees

  pub no_tree_line : (outcome : Outcome) (size : ℕ) (text : List ℕ) → IsTreeSize lines (size + 1) (last_size lines outcome) → (IsFromOneTo MAX_LINES (size + 1) × (text ≡ codes "tree" ++ then_number (size + 1)) → ⊥)
      → (covering : Bool) → IsTrue covering ↔ SaysRefuted outcome (size + 1) → Remains m texts lines walk program (λ more. TreesToCome m texts lines outcome size (text ∷ more)) stages.Rejected
  no_tree_line outcome size text fits not covering covers =
      let within : size < last_size lines outcome = omega (arith, fits.within) in
      let few : IsFromOneTo MAX_LINES (size + 1) = (omega arith, omega (arith, fits.within, fits.asked.1, fits.in_range.1)) in
      says_not (λ more. TreesToCome m texts lines outcome size (text ∷ more)) (λ more. MarksToCome m texts lines outcome (size + 1) covering (rooted (Some (empty (size + 1)))) more) (λ is. not (few, is)) (λ more. tree_on m texts lines outcome size covering text more within covers)

  pub after_tree : (outcome : Outcome) (size : ℕ) (text : List ℕ) → IsTreeSize lines (size + 1) (last_size lines outcome) → text ≡ codes "tree" ++ then_number (size + 1)
      → IsTrue walk.covering ↔ SaysRefuted outcome (size + 1) → pending m walk ≡ rooted (Some (empty (size + 1)))
      → Remains m texts lines walk program (λ more. TreesToCome m texts lines outcome size (text ∷ more)) (stages.Mark outcome (size + 1))
  after_tree outcome size text fits is covers root =
      let within : size < last_size lines outcome = omega (arith, fits.within) in
      says (λ more. TreesToCome m texts lines outcome size (text ∷ more)) (stages.Mark outcome (size + 1)) is (fits, λ none. (let both = sym root ∙ none in cc both))
      (λ more.
      let on = tree_on m texts lines outcome size walk.covering text more within covers in (
        λ h. let it = on.0 h in (it.0, subst (λ cs. MarksToCome m texts lines outcome (size + 1) walk.covering cs more) (sym root) it.1),
        λ both. on.1 (both.0, subst (λ cs. MarksToCome m texts lines outcome (size + 1) walk.covering cs more) root both.1),
      ))

  -- another tree comes after the last mark of one
  pub another_tree : (outcome : Outcome) (size : ℕ) → IsTreeSize lines size (last_size lines outcome) → size < last_size lines outcome → Remains m texts lines walk program (λ more. TreesToCome m texts lines outcome size more) (stages.Tree outcome size)
  another_tree outcome size fits less = record {
    fits = record { in_range = fits.in_range; asked = fits.asked; within = omega (arith, less) };
    expects = λ more. (λ h. h, λ h. h);
  }

  pub program_next : (outcome : Outcome) (size found : ℕ) → IsTreeSize lines size (last_size lines outcome) → (size < last_size lines outcome → ⊥) → outcome ≡ outcomes.Program found → Remains m texts lines walk program (λ more. TreesToCome m texts lines outcome size more) (stages.Program found)
  program_next (outcomes.Program n) size found fits last is =
      let same : n ≡ found = cc is in
      let all : size ≡ n = omega (arith, fits.within, last) in
      record {
        fits = subst (IsFromOneTo MAX_LINES) same (fits.asked.0, omega (arith, fits.asked.1, fits.in_range.1));
        expects = λ more. let on = trees_done m texts lines (outcomes.Program n) size more all in
            (λ h. subst (λ (k : ℕ). ProgramToCome m texts k more) same (on.0 h), λ h. on.1 (subst (λ (k : ℕ). ProgramToCome m texts k more) (sym same) h));
      }
  program_next outcomes.Nothing size found fits last is = cc is
  program_next (outcomes.SpentExpansions n) size found fits last is = cc is
  program_next (outcomes.SpentRun n t) size found fits last is = cc is

  pub end_next : (outcome : Outcome) (size : ℕ) → IsTreeSize lines size (last_size lines outcome) → (size < last_size lines outcome → ⊥) → ((found : ℕ) → outcome ≡ outcomes.Program found → ⊥) → Remains m texts lines walk program (λ more. TreesToCome m texts lines outcome size more) stages.End
  end_next (outcomes.Program n) size fits last not = absurd (not n refl)
  end_next outcomes.Nothing size fits last not = let all : size ≡ lines = omega (arith, fits.within, last) in record { fits = tt; expects = λ more. trees_done m texts lines outcomes.Nothing size more all }
  end_next (outcomes.SpentExpansions n) size fits last not = let all : size ≡ n = omega (arith, fits.within, last) in record { fits = tt; expects = λ more. trees_done m texts lines (outcomes.SpentExpansions n) size more all }
  end_next (outcomes.SpentRun n t) size fits last not = let all : size ≡ n = omega (arith, fits.within, last) in record { fits = tt; expects = λ more. trees_done m texts lines (outcomes.SpentRun n t) size more all }

  -- ---- the program

  pub after_program : (size : ℕ) (text : List ℕ) → IsFromOneTo MAX_LINES size → text ≡ codes "program" → program ≡ empty size → Remains m texts lines walk program (λ more. ProgramToCome m texts size (text ∷ more)) (stages.Instr 0)
  after_program size text fits is new =
      let count : length program ≡ size = ap length new ∙ length-empty size fits.0 in
      says (λ more. ProgramToCome m texts size (text ∷ more)) (stages.Instr 0) is
      (record {
        is_partial = subst (IsPartial m.ops) (sym new) (partial_empty m.ops size fits.0);
        within = omega (arith, count, fits.0);
        short = omega (arith, count, fits.1);
        read = λ i less. absurd (omega (arith, less));
        unread = new ∙ ap empty (sym count);
      })
      (λ more.
      let on = program_on m texts lines size text more in (
        λ h. let it = on.0 h in (it.0, subst (λ (n : ℕ). InstrsToCome m texts n [] more) (sym count) it.1),
        λ both. on.1 (both.0, subst (λ (n : ℕ). InstrsToCome m texts n [] more) count both.1),
      ))

  -- ---- the ends

  pub ends_next : (t : ℕ) → IsPartial m.ops program → t < m.instances → Remains m texts lines walk program (λ more. EndsToCome m program t more) (stages.Ends t)
  ends_next t is within = record { fits = (is, within); expects = λ more. (λ h. h, λ h. h) }

  pub last_next : (t : ℕ) → t ≤ m.instances → (t < m.instances → ⊥) → Remains m texts lines walk program (λ more. EndsToCome m program t more) stages.End
  last_next t few not = let all : t ≡ m.instances = omega (arith, few, not) in record { fits = tt; expects = λ more. ends_done m texts lines program t more all }

-- what remains where what is to come is what remains
pub remains_on : {C : Type 0} (m : Semantics C) (texts : List (List ℕ)) (lines : ℕ) (walk : Walk C) (program : Program) (ToCome Later : List (List ℕ) → Type 0) (next : Stage) → ((more : List (List ℕ)) → ToCome more ↔ Later more) → Remains m texts lines walk program Later next → Remains m texts lines walk program ToCome next
remains_on m texts lines walk program ToCome Later next on it = record { fits = it.fits; expects = λ more. (λ h. (it.expects more).0 ((on more).0 h), λ h. (on more).1 ((it.expects more).1 h)) }

-- what remains at the place where a line comes next
pub at_stage : {C : Type 0} (m : Semantics C) (texts : List (List ℕ)) (lines : ℕ) (old walk : Walk C) (before program : Program) (stage here : Stage) (text : List ℕ) (next : Stage) → stage ≡ here
    → Remains m texts lines walk program (λ more. ExpectsAt m texts lines old before here (text ∷ more)) next → Remains m texts lines walk program (λ more. ExpectsAt m texts lines old before stage (text ∷ more)) next
at_stage m texts lines old walk before program stage here text next is it = subst (λ (s : Stage). Remains m texts lines walk program (λ more. ExpectsAt m texts lines old before s (text ∷ more)) next) (sym is) it

-- ---- instructions

drop_at : (xs : Program) (k : ℕ) → line_at xs k ≡ line_at (drop k xs) 0
drop_at xs zero = refl
drop_at [] (suc k) = refl
drop_at (x ∷ xs) (suc k) = drop_at xs k

pub unread_line : (program : Program) (line : ℕ) → drop line program ≡ drop line (empty (length program)) → line + 1 < length program → line_at program line ≡ None
unread_line program line unread inner = drop_at program line ∙ ap (λ (l : Program). line_at l 0) unread ∙ sym (drop_at (empty (length program)) line) ∙ line_at-empty (length program) line inner

pub one_more : (ops : ℕ) (program : Program) (line : ℕ) (instr : Instr) → IsReadTo ops program line → line + 1 < length program → IsInstr ops (length program) line instr → IsReadTo ops (with_line program line instr) (line + 1)
one_more ops program line instr it inner fits =
    let here : IsOpen program line = record { within = it.within; undefined = unread_line program line it.unread inner } in
    let count : length (with_line program line instr) ≡ length program = length-set program line (Some instr) in
    record {
      is_partial = partial_with_line ops program line instr it.is_partial here fits;
      within = omega (arith, count, inner);
      short = omega (arith, count, it.short);
      read = below_more
          (λ (i : ℕ). IsSome (line_at (with_line program line instr) i)) line
          (λ i less. subst IsSome (sym (line_at-with_other program line i instr (λ e. omega (arith, e, less)))) (it.read i less))
          (subst IsSome (sym (line_at-with_line program line instr it.within)) refl);
      unread = rest_unread program (length program) line (line + 1) instr refl it.unread ∙ ap (λ (n : ℕ). drop (line + 1) (empty n)) (sym count);
    }

module _ {C : Type 0} (m : Semantics C) (texts : List (List ℕ)) (lines : ℕ) (walk : Walk C) where
  pub after_instr : (program : Program) (line : ℕ) (instr : Instr) (text : List ℕ) → AreNames texts → length texts ≡ m.ops → IsReadTo m.ops program line → line + 1 < length program
      → IsInstr (length texts) (length program) line instr → instr_text texts instr ≡ text
      → Remains m texts lines walk (with_line program line instr) (λ more. InstrsToCome m texts (length program) (take line program) (text ∷ more)) (stages.Instr (line + 1))
  after_instr program line instr text names ops it inner fits is =
      let before = take line program in
      let at : length before ≡ line = length-take-le line program (omega (arith, it.within)) in
      let count : length (with_line program line instr) ≡ length program = length-set program line (Some instr) in
      let more_read : take (line + 1) (with_line program line instr) ≡ before ++ Some instr ∷ [] = one_more_instr program line (line + 1) instr refl it.within in
      let only : (other : Instr) → IsInstr m.ops (length program) (length before) other → text ≡ instr_text texts other → other ≡ instr = λ other also says.
      one_instr texts (length program) line text other instr names it.short it.within
      (subst (λ (n : ℕ). IsInstr n (length program) line other) (sym ops) (subst (λ (n : ℕ). IsInstr m.ops (length program) n other) at also)) fits (sym says) is in
      record {
        fits = one_more m.ops program line instr it inner (subst (λ (n : ℕ). IsInstr n (length program) line instr) ops fits);
        expects = λ more.
            let on = instr_on m texts (length program) before instr text more (omega (arith, at, it.within)) (sym is) only in
            let there : InstrsToCome m texts (length (with_line program line instr)) (take (line + 1) (with_line program line instr)) more ≡ InstrsToCome m texts (length program) (before ++ Some instr ∷ []) more =
            ap (λ (n : ℕ). InstrsToCome m texts n (take (line + 1) (with_line program line instr)) more) count ∙ ap (λ (b : Program). InstrsToCome m texts (length program) b more) more_read in
            (λ h. subst (λ (T : Type 0). T) (sym there) (on.0 h), λ h. on.1 (subst (λ (T : Type 0). T) there h));
      }

  pub no_instr_line : (program : Program) (line : ℕ) (text : List ℕ) → length texts ≡ m.ops → IsReadTo m.ops program line → (MayStand texts (length program) line text → ⊥)
      → Remains m texts lines walk program (λ more. InstrsToCome m texts (length program) (take line program) (text ∷ more)) stages.Rejected
  no_instr_line program line text ops it none =
      let at : length (take line program) ≡ line = length-take-le line program (omega (arith, it.within)) in
      rejects m texts lines walk program (λ more. InstrsToCome m texts (length program) (take line program) (text ∷ more)) (λ more.
      no_instr_on m texts (length program) (take line program) text more (omega (arith, at, it.within)) (λ other fits says. none (record {
        instr = other;
        allowed = subst (λ (n : ℕ). IsInstr n (length program) line other) (sym ops) (subst (λ (n : ℕ). IsInstr m.ops (length program) n other) at fits);
        written = sym says;
      })))

  -- a program that is read but for its last line is whole
  whole_program : (program : Program) (line : ℕ) → IsReadTo m.ops program line → line + 1 ≡ length program → IsProgram m.ops program
  whole_program program line it last =
      let end : line_at program line ≡ Some End = subst (λ (n : ℕ). line_at program n ≡ Some End) (omega (arith, last)) it.is_partial.last in
      let all = below_more (λ (i : ℕ). IsSome (line_at program i)) line it.read (subst IsSome (sym end) refl) in
      record { is_partial = it.is_partial; whole = λ i less. all i (omega (arith, less, last)) }

  pub end_line : (program : Program) (line : ℕ) (text : List ℕ) (more : List (List ℕ)) → IsReadTo m.ops program line → line + 1 ≡ length program
      → InstrsToCome m texts (length program) (take line program) (text ∷ more) ↔ ((text ≡ codes "end") × EndsToCome m program 0 more)
  end_line program line text more it last =
      let at : length (take line program) ≡ line = length-take-le line program (omega (arith, it.within)) in
      let whole : take line program ++ Some End ∷ [] ≡ program = all_but_end program (length program) line (omega (arith, last)) last it.unread in
      end_on m texts (length program) (take line program) program text more (omega (arith, at, last)) whole (whole_program program line it last)
