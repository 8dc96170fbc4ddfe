use Rattle.std.proofs.Common.{ap, eqb}
use Rattle.std.proofs.lemmas.Nat.Bits.{shr_and_one}
use Rattle.ground_state.proofs.word.is_set.Goals as goal

pub returns : goal.returns
returns c = ap (λ bit. eqb bit 1) (shr_and_one c.args.word c.args.place)
