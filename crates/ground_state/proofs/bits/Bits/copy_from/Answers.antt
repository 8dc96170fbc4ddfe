use Rattle.std.proofs.Common.{ℕ, ◌∙◌, ap, sym, subst, arith}
use Rattle.ground_state.specs.Inner.Packing.{values_of, IsPacked}
use Rattle.ground_state.proofs.Packing.{same_length}
use Rattle.ground_state.proofs.bits.Bits.copy_from.Goals as goal

pub copy_from_slice-requires : goal.copy_from_slice-requires
copy_from_slice-requires c =
    let one = c.self.inside in
    let other = c.other.inside in
    let same = same_length one.count other.count one.words.items other.words.items c.args.self.now c.args.other.now c.self.view_is c.other.view_is c.requires in
    omega (arith, same, c.self.invariant.enough, c.other.invariant.enough)

pub invariant_of-self : goal.invariant_of-self
invariant_of-self c =
    let one = c.self.inside in
    let other = c.other.inside in
    let same = same_length one.count other.count one.words.items other.words.items c.args.self.now c.args.other.now c.self.view_is c.other.view_is c.requires in
    rw (c.copy_from_slice.ensures.items, c.as_slice.ensures.value) (subst (λ (count : ℕ). IsPacked count other.words.items) (sym same) c.other.invariant)

pub returns : goal.returns
returns c =
    let one = c.self.inside in
    let other = c.other.inside in
    let same = same_length one.count other.count one.words.items other.words.items c.args.self.now c.args.other.now c.self.view_is c.other.view_is c.requires in
    ap (values_of one.count) (c.copy_from_slice.ensures.items ∙ c.as_slice.ensures.value)
    ∙ ap (λ count. values_of count other.words.items) same
    ∙ c.other.view_is
