use Rattle.std.proofs.Common.{◌/◌, ◌%◌, ◌∙◌, Some, ap, sym, arith}
use Rattle.std.proofs.lemmas.List.{get_or_read}
use Rattle.ground_state.specs.Inner.Packing.{is_set}
use Rattle.ground_state.proofs.Packing.{value_at, place_within, word_within}
use Rattle.ground_state.proofs.bits.Bits.get.Goals as goal

pub index-requires : goal.index-requires
index-requires c =
    let bits = c.self.inside in
    let within = place_within bits.count bits.words.items c.args.self.now c.args.place c.self.view_is c.requires in
    omega (arith, word_within bits.count bits.words.items c.args.place c.self.invariant within)

pub returns : goal.returns
returns c =
    let bits = c.self.inside in
    let place = c.args.place in
    let within = place_within bits.count bits.words.items c.args.self.now place c.self.view_is c.requires in
    let word = get_or_read bits.words.items (place / 64) c.index.result.now (word_within bits.count bits.words.items place c.self.invariant within) c.index.ensures 0 in
    let told = c.is_set.ensures ∙ ap (λ w. is_set w (place % 64)) word in
    rw (← c.self.view_is) (value_at bits.count bits.words.items place within ∙ ap (λ value. Some value) (sym told))
