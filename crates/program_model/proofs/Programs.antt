-- Partial programs: the empty one, one more line, and what completes them.
use Rattle.std.proofs.Common.{◌≡◌, ◌≢◌, ℕ, ◌+◌, ◌-◌, ◌<◌, ◌≤◌, [], ◌∷◌, length, replicate, Option, Some, None, refl, sym, ◌∙◌, ap, subst, inl, inr, arith, length-set, length-append}
use Rattle.std.specs.Prelude.{option_and_then, IsSome}
use Rattle.std.proofs.lemmas.Option.{none-some, same_Some, slice_get_past}
use Rattle.std.proofs.lemmas.List.{length-replicate}
use Rattle.std.proofs.lemmas.Bool.{cases_lt, cases_eq, false≢true}
use Rattle.program_model.specs.declared.instr.Instr.{Instr}
use Rattle.program_model.specs.declared.instr.Instr.TheVariants.{End}
use Rattle.program_model.specs.Program.{Program, line_at, empty, with_line, IsOpen, IsInstr, IsPartial, IsProgram, Extends, Completes}
use Rattle.program_model.proofs.Places.{get-append_left, get-append_right, get-replicate, get-set_same, get-set_other}
use Rattle.program_model.proofs.Alphabets.{contains_last}

-- ---- lines

pub line_at-past : (q : Program) (line : ℕ) → length q ≤ line → line_at q line ≡ None
line_at-past q line h = ap (option_and_then (λ instr. instr)) (slice_get_past q line h)

pub line_within : (q : Program) (line : ℕ) (instr : Instr) → line_at q line ≡ Some instr → line < length q
line_within q line instr e = elim (cases_lt line (length q)) [ inl h ↦ h | inr h ↦ absurd (none-some instr (sym (line_at-past q line h) ∙ e)) ]

pub line_at-with_line : (q : Program) (line : ℕ) (instr : Instr) → line < length q → line_at (with_line q line instr) line ≡ Some instr
line_at-with_line q line instr h = ap (option_and_then (λ w. w)) (get-set_same q line (Some instr) h)

pub line_at-with_other : (q : Program) (line other : ℕ) (instr : Instr) → other ≢ line → line_at (with_line q line instr) other ≡ line_at q other
line_at-with_other q line other instr h = ap (option_and_then (λ w. w)) (get-set_other q line other (Some instr) h)

-- ---- the empty program

pub length-empty : (lines : ℕ) → 0 < lines → length (empty lines) ≡ lines
length-empty lines h = omega (arith, length-append (replicate (lines - 1) None) (Some End ∷ []), length-replicate {A = Option Instr} (lines - 1) None)

pub line_at-empty : (lines line : ℕ) → line + 1 < lines → line_at (empty lines) line ≡ None
line_at-empty lines line h =
    let before : line < lines - 1 = omega arith in
    ap (option_and_then (λ instr. instr))
    (get-append_left (replicate (lines - 1) None) (Some End ∷ []) line (omega (arith, length-replicate {A = Option Instr} (lines - 1) None))
    ∙ get-replicate (lines - 1) line None before)

pub last-empty : (lines : ℕ) → line_at (empty lines) (lines - 1) ≡ Some End
last-empty lines = ap (option_and_then (λ instr. instr))
    (get-append_right (replicate (lines - 1) None) (Some End ∷ []) 0 (lines - 1) (omega (arith, length-replicate {A = Option Instr} (lines - 1) None)))

-- the empty program is a partial program over any operations
pub partial_empty : (ops lines : ℕ) → 0 < lines → IsPartial ops (empty lines)
partial_empty ops lines h =
    let size = length-empty lines h in
    record {
      some = omega arith;
      last = ap (λ n. line_at (empty lines) (n - 1)) size ∙ last-empty lines;
      each = λ line instr e.
          let within = line_within (empty lines) line instr e in
          elim (cases_lt (line + 1) lines) [
            | inl k ↦ absurd (none-some instr (sym (line_at-empty lines line k) ∙ e))
            | inr k ↦
                let same : lines - 1 ≡ line = omega arith in
                let is_end : instr ≡ End = same_Some instr End (sym e ∙ ap (line_at (empty lines)) (sym same) ∙ last-empty lines) in
                rw size ((contains_last ops lines line instr (omega arith)).1 is_end)
          ];
    }

-- every program completes the empty one of its lines
pub completes_empty : (ops : ℕ) (p : Program) → IsProgram ops p → Completes ops p (empty (length p))
completes_empty ops p program =
    let size = length-empty (length p) program.is_partial.some in
    record {
      is_program = program;
      extends = record {
        size = sym size;
        keeps = λ line instr e.
            let within = line_within (empty (length p)) line instr e in
            elim (cases_lt (line + 1) (length p)) [
              | inl k ↦ absurd (none-some instr (sym (line_at-empty (length p) line k) ∙ e))
              | inr k ↦
                  let same : line ≡ length p - 1 = omega arith in
                  ap (line_at p) same ∙ program.is_partial.last ∙ sym (last-empty (length p)) ∙ ap (line_at (empty (length p))) (sym same) ∙ e
            ];
      };
    }

-- ---- one more line

pub extends_with_line : (q : Program) (line : ℕ) (instr : Instr) → IsOpen q line → Extends (with_line q line instr) q
extends_with_line q line instr here = record {
  size = length-set q line (Some instr);
  keeps = λ other w e. elim (cases_eq other line) [
    | inl same ↦ absurd (none-some w (sym here.undefined ∙ ap (line_at q) (sym same) ∙ e))
    | inr apart ↦ line_at-with_other q line other instr apart ∙ e
  ];
}

pub extends_itself : (q : Program) → Extends q q
extends_itself q = record { size = refl; keeps = λ line instr e. e }

pub extends_on : (p q r : Program) → Extends p q → Extends q r → Extends p r
extends_on p q r x y = record { size = x.size ∙ y.size; keeps = λ line instr e. x.keeps line instr (y.keeps line instr e) }

-- the last line of a partial program is defined
pub open_is_not_last : (ops : ℕ) (q : Program) (line : ℕ) → IsPartial ops q → IsOpen q line → line + 1 < length q
open_is_not_last ops q line partial here = elim (cases_lt (line + 1) (length q)) [
  | inl h ↦ h
  | inr h ↦
      let within = here.within in
      let same : length q - 1 ≡ line = omega arith in
      absurd (none-some End (sym here.undefined ∙ ap (line_at q) (sym same) ∙ partial.last))
]

-- with an instruction of the alphabet on an undefined line, a partial program is one again
pub partial_with_line : (ops : ℕ) (q : Program) (line : ℕ) (instr : Instr) → IsPartial ops q → IsOpen q line → IsInstr ops (length q) line instr → IsPartial ops (with_line q line instr)
partial_with_line ops q line instr partial here fits =
    let size : length (with_line q line instr) ≡ length q = length-set q line (Some instr) in
    let inner = open_is_not_last ops q line partial here in
    let some = partial.some in
    record {
      some = omega arith;
      last =
          ap (λ n. line_at (with_line q line instr) (n - 1)) size
          ∙ line_at-with_other q line (length q - 1) instr (λ e. omega arith)
          ∙ partial.last;
      each = λ other w e. elim (cases_eq other line) [
        | inl same ↦
            let is_new : instr ≡ w = same_Some instr w (sym (line_at-with_line q line instr here.within) ∙ ap (line_at (with_line q line instr)) (sym same) ∙ e) in
            rw (size, same, ← is_new) fits
        | inr apart ↦ rw size (partial.each other w (sym (line_at-with_other q line other instr apart) ∙ e))
      ];
    }

-- ---- completions

some_value : {X : Type 0} (o : Option X) → IsSome o → (x : X) × (o ≡ Some x)
some_value None e = absurd (false≢true e)
some_value (Some x) e = (x, refl)

-- what completes a partial program has on an undefined line an instruction of its alphabet, and completes the program
-- with that instruction there
pub record CompletesWith (ops : ℕ) (p q : Program) (line : ℕ) : Type 0 where
  pub instr : Instr
  pub fits : IsInstr ops (length q) line instr
  pub completes : Completes ops p (with_line q line instr)

pub completes_with : (ops : ℕ) (p q : Program) (line : ℕ) → Completes ops p q → IsOpen q line → CompletesWith ops p q line
completes_with ops p q line completes here =
    let extends = completes.extends in
    let size = extends.size in
    let within = here.within in
    let there = some_value (line_at p line) (completes.is_program.whole line (omega arith)) in
    record {
      instr = there.0;
      fits = subst (λ n. IsInstr ops n line there.0) size (completes.is_program.is_partial.each line there.0 there.1);
      completes = record {
        is_program = completes.is_program;
        extends = record {
          size = size ∙ sym (length-set q line (Some there.0));
          keeps = λ other w e. elim (cases_eq other line) [
            | inl same ↦
                let is_new : there.0 ≡ w = same_Some there.0 w (sym (line_at-with_line q line there.0 within) ∙ ap (line_at (with_line q line there.0)) (sym same) ∙ e) in
                ap (line_at p) same ∙ there.1 ∙ ap Some is_new
            | inr apart ↦ extends.keeps other w (sym (line_at-with_other q line other there.0 apart) ∙ e)
          ];
        };
      };
    }
