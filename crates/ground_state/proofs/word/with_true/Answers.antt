use Rattle.std.proofs.Common.{◌<◌, ◌*◌, ◌%◌, ◌^◌, ap, eqb, arith, w64}
use Rattle.std.proofs.lemmas.Nat.{or_lt}
use Rattle.std.proofs.lemmas.Nat.Bits.{bit_at_set_same, bit_at_set_other}
use Rattle.ground_state.proofs.word.with_true.Goals as goal

pub returns : goal.returns
returns c =
    let small : c.args.word < 2 ^ 64 = c.ranges.word.fits in
    let bit : 1 * 2 ^ c.args.place % 2 ^ 64 < 2 ^ 64 = omega arith in
    record {
      here = ap (λ b. eqb b 1) (bit_at_set_same w64 c.args.word c.args.place c.requires);
      others = λ other low apart. ap (λ b. eqb b 1) (bit_at_set_other w64 c.args.word c.args.place c.requires other apart);
      small = or_lt 64 c.args.word (1 * 2 ^ c.args.place % 2 ^ 64) small bit;
    }
