use Rattle.std.proofs.Common.{Some, set, refl, sym, ◌∙◌, ap, arith}
use Rattle.std.proofs.lemmas.Option.{same_Some, slice_get_read, slice_get_within}
use Rattle.synthesis.specs.declared.nodes.Held.TheVariants as holdings
use Rattle.synthesis.proofs.WaitingPairs.{taken_waits}
use Rattle.synthesis.proofs.nodes.Nodes.take_best.Goals as goal

pub index_mut-held-requires : goal.index_mut-held-requires
index_mut-held-requires g c =
    let taken = rw c.unwrap-number.ensures at c.pop_least.ensures.pairs in
    let is = taken_waits c.args.self.now.held.items _ _ c.unwrap-number.result taken c.requires.waiting in
    let within = slice_get_within c.args.self.now.held.items c.unwrap-number.result.1 _ is.here in
    omega (arith, within, c.args.self.now.held.ok.0)

pub unreachable-requires : goal.unreachable-requires
unreachable-requires g c =
    let taken = rw c.unwrap-number.ensures at c.pop_least.ensures.pairs in
    let is = taken_waits c.args.self.now.held.items _ _ c.unwrap-number.result taken c.requires.waiting in
    let within = slice_get_within c.args.self.now.held.items c.unwrap-number.result.1 _ is.here in
    let here = slice_get_read c.args.self.now.held.items _ c.unwrap-number.result.1 c.index_mut-held.result.now refl within c.index_mut-held.ensures.value in
    c.in_default.not-Waiting _ _ (same_Some _ _ (sym here ∙ is.here))

pub returns-clause-best : goal.returns-clause-best
returns-clause-best g c =
    let taken = rw c.unwrap-number.ensures at c.pop_least.ensures.pairs in
    let least = rw c.unwrap-number.ensures at c.pop_least.ensures.least in
    let is = taken_waits c.args.self.now.held.items _ _ c.unwrap-number.result taken c.requires.waiting in
    let within = slice_get_within c.args.self.now.held.items c.unwrap-number.result.1 _ is.here in
    let here = slice_get_read c.args.self.now.held.items _ c.unwrap-number.result.1 c.index_mut-held.result.now refl within c.index_mut-held.ensures.value in
    record {
      pair = c.unwrap-number.result;
      taken = taken;
      least = least;
      waited = here ∙ ap Some (cc (c.in-Waiting.is, c.replace.ensures.value, c.in-Waiting-replace.is));
      split = ap (set c.args.self.now.held.items c.unwrap-number.result.1) (c.replace.ensures.after ∙ ap (holdings.Split c.in-Waiting.line c.args.stamp) (omega (arith, c.len-first.ensures, c.args.self.now.held.ok.0)));
    }
