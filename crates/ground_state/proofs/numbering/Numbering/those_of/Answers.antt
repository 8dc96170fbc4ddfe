use Rattle.std.proofs.Common.{◌∙◌, ◌++◌, ◌∷◌, [], take, set, map, replicate, true, false, ap, sym, arith}
use Rattle.std.proofs.lemmas.List.{length-map, take_more}
use Rattle.std.proofs.lemmas.Option.{slice_get_within}
use Rattle.ground_state.specs.GroundAtoms.{ground_atoms}
use Rattle.ground_state.proofs.Places.{atom_once, length-ground_atoms}
use Rattle.ground_state.proofs.States.{is_among, set_adds, none_listed}
use Rattle.ground_state.proofs.numbering.Numbering.those_of.Goals as goal

pub loop-fact-init : goal.loop-fact-init
loop-fact-init c =
    let atoms = ground_atoms c.self.inside.objects c.self.inside.arities.items in
    let count = c.self.invariant.0 ∙ sym (length-ground_atoms c.self.inside.objects c.self.inside.arities.items) in
    rw (← c.self.view_is) (c.in_ok-bits.ensures ∙ ap (λ n. replicate n false) count ∙ sym (none_listed atoms))

pub set_true-requires : goal.set_true-requires
set_true-requires c =
    let atoms = ground_atoms c.args.self.now.0 c.args.self.now.1 in
    let within = slice_get_within atoms c.place_of.result _ c.place_of.ensures in
    rw c.loop-fact.invariant (omega (arith, within, length-map atoms (is_among (take c.loop-fact.fact-index c.args.facts.now))))

pub loop-fact-preserved : goal.loop-fact-preserved
loop-fact-preserved c =
    let atoms = ground_atoms c.args.self.now.0 c.args.self.now.1 in
    let front = take c.loop-fact.fact-index c.args.facts.now in
    let more = take_more c.args.facts.now c.loop-fact.fact-index c.fact-item.result c.loop-fact-test.true ∙ ap (λ fact. front ++ fact ∷ []) (sym c.fact-item.is) in
    let here = rw c.as_slice.ensures at c.place_of.ensures in
    let added = set_adds front c.fact-item.result atoms c.place_of.result here (λ m there. atom_once c.args.self.now.0 c.args.self.now.1 m c.place_of.result c.fact-item.result there here) in
    c.set_true.ensures ∙ ap (λ bits. set bits c.place_of.result true) c.loop-fact.invariant ∙ added ∙ ap (λ facts. map (is_among facts) atoms) (sym more)
