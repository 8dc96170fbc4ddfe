use Rattle.std.proofs.Common.{ℕ, List, ◌≡◌, ◌∙◌, ap, sym, subst, replicate, rules}
use Rattle.ground_state.specs.Inner.Packing.{values_of, IsPacked}
use Rattle.ground_state.proofs.Packing.{none_true, none_packed}
use Rattle.ground_state.proofs.bits.Bits.none.Goals as goal

pub invariant_of-result : goal.invariant_of-result
invariant_of-result c =
    let items : c.in_ok-words.words.items ≡ replicate c.div_ceil-enough.result 0 = search rules in
    let zeros = items ∙ ap (λ (n : ℕ). replicate {A = ℕ} n 0) c.div_ceil-enough.ensures in
    subst (λ (words : List ℕ). IsPacked c.args.count words) (sym zeros) (none_packed c.args.count c.ranges.count.fits)

pub returns : goal.returns
returns c =
    let items : c.in_ok-words.words.items ≡ replicate c.div_ceil-enough.result 0 = search rules in
    ap (values_of c.args.count) items ∙ none_true c.args.count c.div_ceil-enough.result
