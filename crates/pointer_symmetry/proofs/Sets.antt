-- Sets of pointers as numbers: one pointer more, and the least that is not in one.
use Rattle.std.proofs.Common.{◌≡◌, ℕ, ◌+◌, ◌*◌, ◌^◌, ◌%◌, ◌<◌, Bool, true, false, ◌||◌, refl, sym, ◌∙◌, ap, inl, inr, arith, bit_or, w8}
use Rattle.std.specs.Prelude.{◌==◌}
use Rattle.std.specs.Int.{bit_at, trailing_ones}
use Rattle.std.proofs.lemmas.Bool.{cases_order, eq-eqb, eqb-false, eqb-true}
use Rattle.std.proofs.lemmas.Nat.Bits.{bit_at_set_same, bit_at_set_other, bit_at-trailing_ones, bit_at_ones}
use Rattle.program_model.specs.declared.machine.TheConstants.{MAX_POINTERS}
use Rattle.pointer_symmetry.specs.Used.{has}
use Rattle.pointer_symmetry.proofs.Orders.{either_test}

or_true : (b : Bool) → (b || true) ≡ true
or_true true = refl
or_true false = refl

or_false : (b : Bool) → (b || false) ≡ b
or_false true = refl
or_false false = refl

pub one_more : (set pointer other : ℕ) → pointer < MAX_POINTERS → has (bit_or set (1 * 2 ^ pointer % 256)) other ≡ (has set other || other == pointer)
one_more set pointer other lt = elim (either_test (other == pointer)) [
  | inl h ↦
      let same = eqb-true other pointer h in
      eq-eqb _ 1 (ap (bit_at (bit_or set (1 * 2 ^ pointer % 256))) same ∙ bit_at_set_same w8 set pointer (omega arith))
      ∙ sym (ap (λ b. has set other || b) h ∙ or_true (has set other))
  | inr h ↦
      ap (λ bit. bit == 1) (bit_at_set_other w8 set pointer (omega arith) other (eqb-false other pointer h))
      ∙ sym (ap (λ b. has set other || b) h ∙ or_false (has set other))
]

-- a set that lacks a pointer is not the full one
not_full : (set pointer : ℕ) → pointer < MAX_POINTERS → set < 256 → has set pointer ≡ false → set + 1 < 256
not_full set pointer lt fits out = elim (cases_order set 255) [
  | inl e ↦ absurd (eqb-false (bit_at set pointer) 1 out (ap (λ n. bit_at n pointer) e ∙ bit_at_ones 8 pointer (omega arith)))
  | inr o ↦ elim o [ inl h ↦ omega arith | inr h ↦ omega arith ]
]

pub lowest_outside : (set pointer : ℕ) → pointer < MAX_POINTERS → set < 256 → has set pointer ≡ false → (has set (trailing_ones w8 set) ≡ false) × ((other : ℕ) → other < trailing_ones w8 set → has set other ≡ true) × (trailing_ones w8 set < 8)
lowest_outside set pointer lt fits out =
    let found = bit_at-trailing_ones w8 set (not_full set pointer lt fits out) in
    (ap (λ bit. bit == 1) found.1, λ other below. ap (λ bit. bit == 1) (found.2 other below), found.0)
