-- Passing twins over is fair: a completion with a twin, over the pointers that make the twin canonical, is a completion with the
-- canonical instruction, since no pointer of a defined line gets another number.
use Rattle.std.proofs.Common.{◌≡◌, ℕ, ◌<◌, ◌≤◌, Bool, true, false, not, List, [], length, map, get_or, Some, None, refl, sym, ◌∙◌, ap, subst, inl, inr, length-set}
use Rattle.std.specs.Prelude.{◌==◌, option_map, slice_get, All}
use Rattle.std.proofs.lemmas.Option.{same_Some, get_or_from_slice_get, slice_get_within, option_and_then_some}
use Rattle.std.proofs.lemmas.Bool.{cases_eq, eq-eqb}
use Rattle.std.proofs.lemmas.List.Elements.{All-nil}
use Rattle.std.proofs.lemmas.List.Folds.{list_any_at}
use Rattle.program_model.specs.declared.instr.Instr.{Instr}
use Rattle.program_model.specs.declared.instr.Instr.TheVariants.{Op, Goto, End}
use Rattle.program_model.specs.declared.machine.TheConstants.{MAX_POINTERS}
use Rattle.program_model.specs.Semantics.{Semantics}
use Rattle.program_model.specs.Symmetry.{IsSymmetric}
use Rattle.program_model.specs.Renaming.{image, IsRenamingOf}
use Rattle.program_model.specs.Program.{Program, line_at, with_line, IsOpen, IsPartial, IsInstr, Completes}
use Rattle.program_model.proofs.Programs.{line_at-with_line, line_at-with_other, completes_with}
use Rattle.refutation_tree.specs.Covers.{IsFair}
use Rattle.pointer_symmetry.specs.Renamed.{renamed_instr, renamed_program}
use Rattle.pointer_symmetry.specs.Used.{names, is_used}
use Rattle.pointer_symmetry.specs.Twins.{canonical_renaming, canonical, canonical_instr, twins}
use Rattle.pointer_symmetry.specs.Counterparts.{HasRenamed}
use Rattle.pointer_symmetry.proofs.CanonicalForms.{canonical_is_renaming, image_is_number, used_keeps}
use Rattle.pointer_symmetry.proofs.CanonicalTwice.{canonical_keeps_new}
use Rattle.pointer_symmetry.proofs.RenamedRuns.{op_below, op_fits, line_at-renamed, length-renamed, renamed_fits, renamed_is_program, all_alike}

-- what is used of the canonical renaming
pub record IsCanonical (used : ℕ → Bool) (pointers : ℕ) (named : List ℕ) : Type 0 where
  pub is_renaming : IsRenamingOf pointers (canonical_renaming used pointers named)
  pub keeps_used : (pointer : ℕ) → used pointer ≡ true → image (canonical_renaming used pointers named) pointer ≡ pointer
  pub keeps_new :
      let new = map (image (canonical_renaming used pointers named)) named in
      All (λ pointer. image (canonical_renaming used pointers new) pointer ≡ pointer) new

pub is_canonical : (used : ℕ → Bool) (pointers : ℕ) (named : List ℕ) → All (λ pointer. pointer < pointers) named → pointers ≤ MAX_POINTERS → IsCanonical used pointers named
is_canonical used pointers named within few = record {
  is_renaming = canonical_is_renaming used pointers named within few;
  keeps_used = λ pointer is_used. image_is_number used pointers named within pointer few ∙ used_keeps used pointers named within pointer is_used;
  keeps_new = canonical_keeps_new used pointers named within few;
}

-- the pointers of an instruction; a jump and `end` have none
abbrev pub pointers_in : {C : Type 0} → Semantics C → Instr → List ℕ
pointers_in m (Op op) = m.pointers_of op
pointers_in m (Goto target cond) = []
pointers_in m End = []

-- the renaming that makes an instruction canonical
abbrev pub canonical_by : {C : Type 0} → Semantics C → (ℕ → Bool) → Instr → List ℕ
canonical_by m used instr = canonical_renaming used m.pointers (pointers_in m instr)

canonical-renamed : {C : Type 0} (m : Semantics C) (used : ℕ → Bool) (instr : Instr) → canonical_instr m used instr ≡ renamed_instr m (canonical_by m used instr) instr
canonical-renamed m used (Op op) = refl
canonical-renamed m used (Goto target cond) = refl
canonical-renamed m used End = refl

-- ---- the pointers of a defined line are used

defined : (q : Program) (line : ℕ) (instr : Instr) → line_at q line ≡ Some instr → slice_get q line ≡ Some (Some instr)
defined q line instr e = option_and_then_some (λ w. w) (slice_get q line) instr e (λ w here is. here ∙ ap Some is)

pub pointers_used : {C : Type 0} (m : Semantics C) (q : Program) (line op : ℕ) → line_at q line ≡ Some (Op op) → All (λ pointer. is_used m q pointer ≡ true) (m.pointers_of op)
pointers_used m q line op e k d h =
    let here = defined q line (Op op) e in
    let pointer = get_or (m.pointers_of op) k d in
    let named : names m pointer (Some (Op op)) ≡ true = list_any_at (λ other. other == pointer) (m.pointers_of op) k d h (eq-eqb pointer pointer refl) in
    list_any_at (names m pointer) q line None (slice_get_within q line (Some (Op op)) here) (ap (names m pointer) (get_or_from_slice_get q line (Some (Op op)) None here) ∙ named)

-- ---- completions

module _ {C : Type 0} (m : Semantics C) (belongs : ℕ → C → Type 0) (symmetric : IsSymmetric m belongs) (few : m.pointers ≤ MAX_POINTERS) where
  within_machine : (instr : Instr) → ((op : ℕ) → instr ≡ Op op → op < m.ops) → All (λ pointer. pointer < m.pointers) (pointers_in m instr)
  within_machine (Op op) below = symmetric.pointers op (below op refl)
  within_machine (Goto target cond) below = All-nil (λ pointer. pointer < m.pointers)
  within_machine End below = All-nil (λ pointer. pointer < m.pointers)

  -- the canonical form of an instruction is no twin
  canonical_kept : (q : Program) (instr : Instr) → ((op : ℕ) → instr ≡ Op op → op < m.ops) → twins m q (canonical_instr m (is_used m q) instr) ≡ false
  canonical_kept q (Op op) below =
      let used = is_used m q in
      let by = canonical_by m used (Op op) in
      let new = m.rename by op in
      let old = is_canonical used m.pointers (m.pointers_of op) (symmetric.pointers op (below op refl)) few in
      let new_below = symmetric.is_operation by op old.is_renaming (below op refl) in
      let again = is_canonical used m.pointers (m.pointers_of new) (symmetric.pointers new new_below) few in
      let named = symmetric.renames by op old.is_renaming (below op refl) in
      let keeps = subst (λ (pointers : List ℕ). All (λ pointer. image (canonical_renaming used m.pointers pointers) pointer ≡ pointer) pointers) (sym named) old.keeps_new in
      ap not (eq-eqb (canonical m used new) new (symmetric.keeps (canonical_renaming used m.pointers (m.pointers_of new)) new again.is_renaming new_below keeps))
  canonical_kept q (Goto target cond) below = refl
  canonical_kept q End below = refl

  -- an instruction whose pointers are all used keeps its form where the used pointers keep their numbers
  line_keeps : (q : Program) (by : List ℕ) (line : ℕ) (instr : Instr) → IsPartial m.ops q → IsRenamingOf m.pointers by → ((pointer : ℕ) → is_used m q pointer ≡ true → image by pointer ≡ pointer) → line_at q line ≡ Some instr → renamed_instr m by instr ≡ instr
  line_keeps q by line (Op op) partial renaming keeps e =
      ap Op (symmetric.keeps by op renaming (op_below m.ops q line op partial e) (λ k d h. keeps (get_or (m.pointers_of op) k d) (pointers_used m q line op e k d h)))
  line_keeps q by line (Goto target cond) partial renaming keeps e = refl
  line_keeps q by line End partial renaming keeps e = refl

  -- the canonical form is of the same alphabets
  canonical_fits : (q : Program) (line : ℕ) (instr : Instr) → IsOpen q line → IsInstr m.ops (length q) line instr → IsInstr m.ops (length q) line (canonical_instr m (is_used m q) instr)
  canonical_fits q line (Op op) here fits =
      let below = (op_fits m.ops (length q) line op here.within fits).1 in
      let canonical = is_canonical (is_used m q) m.pointers (m.pointers_of op) (symmetric.pointers op below) few in
      renamed_fits m belongs (canonical_by m (is_used m q) (Op op)) symmetric canonical.is_renaming (length q) line (Op op) here.within fits
  canonical_fits q line (Goto target cond) here fits = fits
  canonical_fits q line End here fits = fits

  module _ (q program : Program) (line : ℕ) (instr : Instr) (partial : IsPartial m.ops q) (here : IsOpen q line) (completes : Completes m.ops program (with_line q line instr)) where
    stands : line_at program line ≡ Some instr
    stands = completes.extends.keeps line instr (line_at-with_line q line instr here.within)

    ops_here : (op : ℕ) → instr ≡ Op op → op < m.ops
    ops_here op is = op_below m.ops program line op completes.is_program.is_partial (stands ∙ ap Some is)

    renamed_line : (by : List ℕ) (new : Instr) → IsRenamingOf m.pointers by → ((pointer : ℕ) → is_used m q pointer ≡ true → image by pointer ≡ pointer) → renamed_instr m by instr ≡ new → (other : ℕ) (w : Instr) → line_at (with_line q line new) other ≡ Some w → line_at (renamed_program m by program) other ≡ Some w
    renamed_line by new renaming keeps is other w e = elim (cases_eq other line) [
      | inl same ↦
          let is_new : new ≡ w = same_Some new w (sym (line_at-with_line q line new here.within) ∙ ap (line_at (with_line q line new)) (sym same) ∙ e) in
          line_at-renamed m by program other ∙ ap (option_map (renamed_instr m by)) (ap (line_at program) same ∙ stands) ∙ ap Some (is ∙ is_new)
      | inr apart ↦
          let old = sym (line_at-with_other q line other new apart) ∙ e in
          let kept = completes.extends.keeps other w (line_at-with_other q line other instr apart ∙ old) in
          line_at-renamed m by program other ∙ ap (option_map (renamed_instr m by)) kept ∙ ap Some (line_keeps q by other w partial renaming keeps old)
    ]

    pub has_renamed : HasRenamed m q line instr program
    has_renamed =
        let used = is_used m q in
        let by = canonical_by m used instr in
        let new = canonical_instr m used instr in
        let canonical = is_canonical used m.pointers (pointers_in m instr) (within_machine instr ops_here) few in
        record {
          by = by;
          is_renaming = canonical.is_renaming;
          completes = record {
            is_program = renamed_is_program m belongs by symmetric canonical.is_renaming program completes.is_program;
            extends = record {
              size = length-renamed m by program ∙ completes.extends.size ∙ length-set q line (Some instr) ∙ sym (length-set q line (Some new));
              keeps = renamed_line by new canonical.is_renaming canonical.keeps_used (sym (canonical-renamed m used instr));
            };
          };
          kept = canonical_kept q instr ops_here;
          alike = all_alike m belongs by symmetric canonical.is_renaming program completes.is_program.is_partial;
        }

  -- ---- fairness

  pub twins_fair : IsFair m (twins m)
  twins_fair q line p partial here completes solves =
      let with = completes_with m.ops p q line completes here in
      let other = has_renamed q p line with.instr partial here with.completes in
      let new = canonical_instr m (is_used m q) with.instr in
      record {
        program = renamed_program m other.by p;
        instr = new;
        fits = canonical_fits q line with.instr here with.fits;
        kept = other.kept;
        completes = other.completes;
        solves = other.alike.0 solves;
      }
