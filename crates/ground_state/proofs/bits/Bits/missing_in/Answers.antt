use Rattle.std.proofs.Common.{◌∙◌}
use Rattle.ground_state.proofs.Packing.{same_length, missing_told, missing_within}
use Rattle.ground_state.proofs.bits.Bits.missing_in.Goals as goal

pub missing_in_words-requires : goal.missing_in_words-requires
missing_in_words-requires c =
    let one = c.self.inside in
    let other = c.other.inside in
    let same = same_length one.count other.count one.words.items other.words.items c.args.self.now c.args.other.now c.self.view_is c.other.view_is c.requires in
    rw (c.as_slice.ensures.value, c.as_slice-2.ensures.value) (missing_within one.count other.count one.words.items other.words.items same c.self.invariant c.other.invariant)

pub returns : goal.returns
returns c =
    let one = c.self.inside in
    let other = c.other.inside in
    let same = same_length one.count other.count one.words.items other.words.items c.args.self.now c.args.other.now c.self.view_is c.other.view_is c.requires in
    let told = rw (c.as_slice.ensures.value, c.as_slice-2.ensures.value) at c.missing_in_words.ensures in
    rw (← c.self.view_is, ← c.other.view_is) (told ∙ missing_told one.count other.count one.words.items other.words.items same c.self.invariant c.other.invariant)
