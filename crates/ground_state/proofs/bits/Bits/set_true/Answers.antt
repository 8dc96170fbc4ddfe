use Rattle.std.proofs.Common.{ℕ, ◌/◌, ◌%◌, subst, arith, true}
use Rattle.std.proofs.lemmas.List.{get_or_read}
use Rattle.ground_state.specs.Inner.Packing.{IsChangedAt}
use Rattle.ground_state.proofs.Packing.{place_within, word_within, one_written, written_packed}
use Rattle.ground_state.proofs.bits.Bits.set_true.Goals as goal

pub index-requires : goal.index-requires
index-requires c =
    let bits = c.self.inside in
    let within = place_within bits.count bits.words.items c.args.self.now c.args.place c.self.view_is c.requires in
    omega (arith, word_within bits.count bits.words.items c.args.place c.self.invariant within)

pub index_mut-requires : goal.index_mut-requires
index_mut-requires c =
    let bits = c.self.inside in
    let within = place_within bits.count bits.words.items c.args.self.now c.args.place c.self.view_is c.requires in
    omega (arith, word_within bits.count bits.words.items c.args.place c.self.invariant within)

pub invariant_of-self : goal.invariant_of-self
invariant_of-self c =
    let bits = c.self.inside in
    let place = c.args.place in
    let within = place_within bits.count bits.words.items c.args.self.now place c.self.view_is c.requires in
    let word = get_or_read bits.words.items (place / 64) c.index.result.now (word_within bits.count bits.words.items place c.self.invariant within) c.index.ensures 0 in
    let changed = subst (λ (earlier : ℕ). IsChangedAt (place % 64) true earlier c.with_true.result) word c.with_true.ensures in
    written_packed bits.count bits.words.items place c.with_true.result true c.self.invariant within changed

pub returns : goal.returns
returns c =
    let bits = c.self.inside in
    let place = c.args.place in
    let within = place_within bits.count bits.words.items c.args.self.now place c.self.view_is c.requires in
    let word = get_or_read bits.words.items (place / 64) c.index.result.now (word_within bits.count bits.words.items place c.self.invariant within) c.index.ensures 0 in
    let changed = subst (λ (earlier : ℕ). IsChangedAt (place % 64) true earlier c.with_true.result) word c.with_true.ensures in
    rw (← c.self.view_is) (one_written bits.count bits.words.items place c.with_true.result true c.self.invariant within changed)
