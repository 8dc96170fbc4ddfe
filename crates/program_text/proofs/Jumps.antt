-- The instructions of an inner line: a text that no operation and no jump has may not stand there.
use Rattle.std.proofs.Common.{◌≡◌, ℕ, ◌+◌, ◌<◌, ◌≤◌, List, [], length, Some, sym, ◌∙◌, ap, subst, inl, inr, arith}
use Rattle.std.specs.Prelude.{slice_get, Contains}
use Rattle.std.proofs.lemmas.Bool.{cases_lt}
use Rattle.std.proofs.lemmas.Option.{slice_get_within, slice_get-get_or, same_Some}
use Rattle.program_model.specs.declared.instr.Instr.{Instr}
use Rattle.program_model.specs.declared.instr.Instr.TheVariants.{Op}
use Rattle.program_model.specs.Alphabet.{alphabet}
use Rattle.program_model.specs.Program.{IsInstr}
use Rattle.program_model.proofs.Alphabets.{alphabet-inner, get-inner_op}
use Rattle.program_model.proofs.Places.{contains_at, at_contains}
use Rattle.program_text.specs.Texts.{instr_text}
use Rattle.program_text.specs.Reading.{MayStand}

-- the instruction of a rank stands in the alphabet
pub instr_there : (texts : List (List ℕ)) (ops lines line rank : ℕ) (instr : Instr) → ops ≡ length texts → slice_get (alphabet ops lines line) rank ≡ Some instr → IsInstr (length texts) lines line instr
instr_there texts ops lines line rank instr count e = subst (λ (n : ℕ). IsInstr n lines line instr) count (contains_at (alphabet ops lines line) rank instr e)

pub no_instr : (texts : List (List ℕ)) (ops lines line rank : ℕ) (text : List ℕ) → ops ≡ length texts → line + 1 < lines → (Contains texts text → ⊥) → length (alphabet ops lines line) ≤ rank
    → ((k : ℕ) (jump : Instr) → ops ≤ k → k < rank → slice_get (alphabet ops lines line) k ≡ Some jump → instr_text texts jump ≡ text → ⊥)
    → MayStand texts lines line text → ⊥
no_instr texts ops lines line rank text count inner no_operation end no_jump may =
    let found = at_contains (alphabet ops lines line) may.instr (subst (λ (n : ℕ). IsInstr n lines line may.instr) (sym count) may.allowed) in
    elim (cases_lt found.0 ops) [
      | inl below ↦
          let is_op : Op found.0 ≡ may.instr = same_Some (Op found.0) may.instr
          (sym (get-inner_op ops lines line found.0 below) ∙ ap (λ (l : List Instr). slice_get l found.0) (sym (alphabet-inner ops lines line inner)) ∙ found.1) in
          no_operation (contains_at texts found.0 text (slice_get-get_or texts found.0 [] (omega (arith, below, count)) ∙ ap (λ (t : List ℕ). Some t) (ap (instr_text texts) is_op ∙ may.written)))
      | inr above ↦ no_jump found.0 may.instr above (omega (arith, end, slice_get_within (alphabet ops lines line) found.0 may.instr found.1)) found.1 may.written
    ]
