-- Signs of results, and the conditions of jumps on them.
use Rattle.std.specs.Prelude.{ℤ, pos, negsuc, zero, suc, Bool, true, false}
use Rattle.flag_rules.specs.declared.flags.Sign.{Sign}
use Rattle.flag_rules.specs.declared.flags.Sign.TheVariants as signs
use Rattle.flag_rules.specs.declared.flags.Cond.{Cond}
use Rattle.flag_rules.specs.declared.flags.Cond.TheVariants as conds

-- the sign of a whole number
abbrev pub sign_of_int : ℤ → Sign
sign_of_int (negsuc n) = signs.Negative
sign_of_int (pos zero) = signs.Zero
sign_of_int (pos (suc n)) = signs.Positive

-- whether a condition holds at a sign
abbrev pub holds_at : Cond → Sign → Bool
holds_at conds.Zero signs.Negative = false
holds_at conds.Zero signs.Zero = true
holds_at conds.Zero signs.Positive = false
holds_at conds.Nonzero signs.Negative = true
holds_at conds.Nonzero signs.Zero = false
holds_at conds.Nonzero signs.Positive = true
holds_at conds.Carry signs.Negative = false
holds_at conds.Carry signs.Zero = false
holds_at conds.Carry signs.Positive = true
holds_at conds.Nocarry signs.Negative = true
holds_at conds.Nocarry signs.Zero = true
holds_at conds.Nocarry signs.Positive = false
