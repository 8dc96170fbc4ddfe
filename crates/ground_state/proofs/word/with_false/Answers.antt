use Rattle.std.proofs.Common.{◌*◌, ◌%◌, ◌^◌, ap, eqb, lt_of_le_of_lt, w64}
use Rattle.std.specs.Int.{bit_not}
use Rattle.std.proofs.lemmas.Nat.{and_le_l}
use Rattle.std.proofs.lemmas.Nat.Bits.{bit_at_clear_same, bit_at_clear_other}
use Rattle.ground_state.proofs.word.with_false.Goals as goal

pub returns : goal.returns
returns c = record {
  here = ap (λ b. eqb b 1) (bit_at_clear_same w64 c.args.word c.args.place c.requires);
  others = λ other low apart. ap (λ b. eqb b 1) (bit_at_clear_other w64 c.args.word c.args.place c.requires other low apart);
  small = lt_of_le_of_lt (and_le_l c.args.word (bit_not w64 (1 * 2 ^ c.args.place % 2 ^ 64))) c.ranges.word.fits;
}
