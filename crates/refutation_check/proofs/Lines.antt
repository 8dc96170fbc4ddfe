-- A partial program is a program exactly where each line has an instruction of its alphabet.
use Rattle.std.proofs.Common.{◌≡◌, ℕ, ◌-◌, ◌<◌, length, Bool, Option, Some, None, refl, sym, ◌∙◌, ap, subst, arith}
use Rattle.std.specs.Prelude.{◌↔◌, IsTrue, IsSome, is_some, IfSome, IfNone, Contains, slice_get}
use Rattle.std.proofs.lemmas.Bool.{false≢true}
use Rattle.std.proofs.lemmas.Option.{same_Some}
use Rattle.program_model.specs.declared.instr.Instr.{Instr}
use Rattle.program_model.specs.declared.instr.Instr.TheVariants.{End}
use Rattle.program_model.specs.Alphabet.{alphabet}
use Rattle.program_model.specs.Program.{Program, line_at, IsInstr, IsProgram}
use Rattle.program_model.proofs.Alphabets.{contains_last}
use Rattle.program_model.proofs.Places.{contains_at}
use Rattle.program_model.proofs.Programs.{line_within}
use Rattle.refutation_check.specs.Inner.Judging.{HasInstr}

-- the instruction of a line that has one
pub has_instr_where : (ops lines : ℕ) (q : Program) (line : ℕ) (instr : Instr) (rank : Option ℕ) (b : Bool) → line_at q line ≡ Some instr → lines ≡ length q
    → IfSome rank (λ rank. slice_get (alphabet ops lines line) rank ≡ Some instr) → IfNone rank (Contains (alphabet ops lines line) instr → ⊥) → b ≡ is_some rank → IsTrue b ↔ HasInstr ops q line
has_instr_where ops lines q line instr None b here count some none test = (
  λ h. absurd (false≢true (sym test ∙ h)),
  λ there. absurd (none (subst (λ n. Contains (alphabet ops n line) instr) (sym count) (subst (IsInstr ops (length q) line) (same_Some there.0 instr (sym there.1 ∙ here)) there.2))),
)
has_instr_where ops lines q line instr (Some rank) b here count some none test = (
  λ h. (instr, here, subst (λ n. Contains (alphabet ops n line) instr) count (contains_at (alphabet ops lines line) rank instr some)),
  λ there. test,
)

some_value : {X : Type 0} (o : Option X) → IsSome o → (x : X) × (o ≡ Some x)
some_value None e = absurd (false≢true e)
some_value (Some x) e = (x, refl)

pub instr_of : (ops : ℕ) (q : Program) (line : ℕ) → IsProgram ops q → line < length q → HasInstr ops q line
instr_of ops q line program within =
    let there = some_value (line_at q line) (program.whole line within) in
    (there.0, there.1, program.is_partial.each line there.0 there.1)

pub program_of : (ops : ℕ) (q : Program) → 0 < length q → ((line : ℕ) → line < length q → HasInstr ops q line) → IsProgram ops q
program_of ops q some each =
    let last = length q - 1 in
    let at_last = each last (omega arith) in
    let is_end : at_last.0 ≡ End = (contains_last ops (length q) last at_last.0 (omega arith)).0 at_last.2 in
    record {
      is_partial = record {
        some = some;
        last = at_last.1 ∙ ap Some is_end;
        each = λ line instr e. let here = each line (line_within q line instr e) in subst (IsInstr ops (length q) line) (same_Some here.0 instr (sym here.1 ∙ e)) here.2;
      };
      whole = λ line within. let here = each line within in ap is_some here.1;
    }
