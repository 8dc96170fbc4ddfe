-- What is to come of a program is what the next line says and what is to come after it.
use Rattle.std.proofs.Common.{◌≡◌, ℕ, ◌+◌, ◌-◌, ◌<◌, List, [], ◌∷◌, ◌++◌, map, length, Some, refl, sym, ◌∙◌, ap, subst, arith}
use Rattle.std.specs.Prelude.{Option, None, IsSome, ◌↔◌, codes, option_and_then}
use Rattle.std.proofs.lemmas.List.{append_assoc, append-nil, length-append}
use Rattle.std.proofs.lemmas.Bool.{false≢true}
use Rattle.program_model.specs.declared.instr.Instr.{Instr}
use Rattle.program_model.specs.declared.instr.Instr.TheVariants.{End}
use Rattle.program_model.specs.Semantics.{Semantics}
use Rattle.program_model.specs.Program.{Program, IsInstr, IsProgram, line_at}
use Rattle.program_model.proofs.Places.{get-append_right}
use Rattle.program_text.specs.Texts.{instr_text, program_line}
use Rattle.document_check.specs.Remaining.{EndsToCome, InstrsToCome}
use Rattle.document_check.proofs.Steps.{begins}

-- the line after some lines of a program
line_after : (before rest : Program) (o : Option Instr) → line_at (before ++ o ∷ rest) (length before) ≡ o
line_after before rest o = ap (option_and_then (λ (i : Option Instr). i)) (get-append_right before (o ∷ rest) 0 (length before) (omega arith))

-- a program has an instruction after some of its lines, but for all of them
record NextInstr (ops size : ℕ) (before rest : Program) : Type 0 where
  instr : Instr
  later : Program
  split : rest ≡ Some instr ∷ later
  fits : IsInstr ops size (length before) instr
  there : line_at (before ++ rest) (length before) ≡ Some instr

next_instr : (ops size : ℕ) (before rest : Program) → IsProgram ops (before ++ rest) → length (before ++ rest) ≡ size → length before < size → NextInstr ops size before rest
next_instr ops size before [] is size_is within = let count = ap length (append-nil before) in absurd (omega (arith, size_is, within, count))
next_instr ops size before (None ∷ later) is size_is within = (let there = subst IsSome (line_after before later None) (is.whole (length before) (omega (arith, size_is, within))) in absurd (false≢true there))
next_instr ops size before (Some instr ∷ later) is size_is within = record {
  instr = instr;
  later = later;
  split = refl;
  fits = subst (λ (n : ℕ). IsInstr ops n (length before) instr) size_is (is.is_partial.each (length before) instr (line_after before later (Some instr)));
  there = line_after before later (Some instr);
}

module _ {C : Type 0} (m : Semantics C) (texts : List (List ℕ)) where
  first_line : (before later rest : Program) (instr : Instr) (text : List ℕ) (more after : List (List ℕ)) → rest ≡ Some instr ∷ later → text ∷ more ≡ map (program_line texts) rest ++ after → (text ≡ instr_text texts instr) × (more ≡ map (program_line texts) later ++ after)
  first_line before later rest instr text more after split written = begins (written ∙ ap (λ (l : Program). map (program_line texts) l ++ after) split)

  -- the line is an instruction of its place
  pub instr_on : (size : ℕ) (before : Program) (instr : Instr) (text : List ℕ) (more : List (List ℕ)) → length before < size → text ≡ instr_text texts instr
      → ((other : Instr) → IsInstr m.ops size (length before) other → text ≡ instr_text texts other → other ≡ instr)
      → InstrsToCome m texts size before (text ∷ more) ↔ InstrsToCome m texts size (before ++ Some instr ∷ []) more
  instr_on size before instr text more within is only = (
    λ h.
        let next = next_instr m.ops size before h.rest h.is_program h.size_is within in
        let line = first_line before next.later h.rest next.instr text more h.after next.split h.written in
        let same = only next.instr next.fits line.0 in
        let whole : before ++ h.rest ≡ (before ++ Some instr ∷ []) ++ next.later =
        ap (λ (l : Program). before ++ l) (next.split ∙ ap (λ (i : Instr). Some i ∷ next.later) same) ∙ sym (append_assoc before (Some instr ∷ []) next.later) in
        record {
          rest = next.later;
          is_program = subst (IsProgram m.ops) whole h.is_program;
          size_is = sym (ap length whole) ∙ h.size_is;
          after = h.after;
          ends = subst (λ (p : Program). EndsToCome m p 0 h.after) whole h.ends;
          written = line.1;
        },
    λ h.
        let whole : (before ++ Some instr ∷ []) ++ h.rest ≡ before ++ Some instr ∷ h.rest = append_assoc before (Some instr ∷ []) h.rest in
        record {
          rest = Some instr ∷ h.rest;
          is_program = subst (IsProgram m.ops) whole h.is_program;
          size_is = sym (ap length whole) ∙ h.size_is;
          after = h.after;
          ends = subst (λ (p : Program). EndsToCome m p 0 h.after) whole h.ends;
          written = ap (λ (t : List ℕ). t ∷ more) is ∙ ap (λ (l : List (List ℕ)). instr_text texts instr ∷ l) h.written;
        },
  )

  -- the line is no instruction of its place
  pub no_instr_on : (size : ℕ) (before : Program) (text : List ℕ) (more : List (List ℕ)) → length before < size → ((other : Instr) → IsInstr m.ops size (length before) other → text ≡ instr_text texts other → ⊥)
      → InstrsToCome m texts size before (text ∷ more) → ⊥
  no_instr_on size before text more within none h =
      let next = next_instr m.ops size before h.rest h.is_program h.size_is within in
      none next.instr next.fits (first_line before next.later h.rest next.instr text more h.after next.split h.written).0

  no_lines : (before later : Program) (o : Option Instr) → length (before ++ o ∷ later) ≡ length before + 1 → later ≡ []
  no_lines before [] o count = refl
  no_lines before (l ∷ later) o count = let all = length-append before (o ∷ l ∷ later) in absurd (omega (arith, count, all))

  -- the last line is `end`
  pub end_on : (size : ℕ) (before program : Program) (text : List ℕ) (more : List (List ℕ)) → length before + 1 ≡ size → before ++ Some End ∷ [] ≡ program → IsProgram m.ops program
      → InstrsToCome m texts size before (text ∷ more) ↔ ((text ≡ codes "end") × EndsToCome m program 0 more)
  end_on size before program text more last whole is = (
    λ h.
        let next = next_instr m.ops size before h.rest h.is_program h.size_is (omega (arith, last)) in
        let line = first_line before next.later h.rest next.instr text more h.after next.split h.written in
        let at_last : length (before ++ h.rest) - 1 ≡ length before = omega (arith, h.size_is, last) in
        let ended : line_at (before ++ h.rest) (length before) ≡ Some End = subst (λ (n : ℕ). line_at (before ++ h.rest) n ≡ Some End) at_last h.is_program.is_partial.last in
        let end : next.instr ≡ End = (let both = sym next.there ∙ ended in cc both) in
        let none : next.later ≡ [] = no_lines before next.later (Some next.instr) (sym (ap (λ (l : Program). length (before ++ l)) next.split) ∙ h.size_is ∙ sym last) in
        let same : before ++ h.rest ≡ program =
        ap (λ (l : Program). before ++ l) (next.split ∙ ap (λ (i : Instr). Some i ∷ next.later) end ∙ ap (λ (l : Program). Some End ∷ l) none) ∙ whole in
        let nothing_left : more ≡ h.after = line.1 ∙ ap (λ (l : Program). map (program_line texts) l ++ h.after) none in
        (line.0 ∙ ap (instr_text texts) end, subst (EndsToCome m program 0) (sym nothing_left) (subst (λ (p : Program). EndsToCome m p 0 h.after) same h.ends)),
    λ both. record {
      rest = Some End ∷ [];
      is_program = subst (IsProgram m.ops) (sym whole) is;
      size_is = length-append before (Some End ∷ []) ∙ last;
      after = more;
      ends = subst (λ (p : Program). EndsToCome m p 0 more) (sym whole) both.1;
      written = ap (λ (t : List ℕ). t ∷ more) both.0;
    },
  )
