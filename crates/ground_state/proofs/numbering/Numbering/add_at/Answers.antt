use Rattle.std.proofs.Common.{◌∙◌, ap, set, take, map, true}
use Rattle.ground_state.specs.Action.{grounded}
use Rattle.ground_state.proofs.Acting.{nothing_added, one_added, length-added, place_within}
use Rattle.ground_state.proofs.numbering.Numbering.add_at.Goals as goal

pub loop-atom-init : goal.loop-atom-init
loop-atom-init c = nothing_added c.args.self.now.0 c.args.self.now.1 c.args.state.now c.requires.state

pub set_true-requires : goal.set_true-requires
set_true-requires c =
    let fits = length-added c.args.self.now.0 c.args.self.now.1 c.args.state.now (map (grounded c.args.args.now) (take c.loop-atom.atom-index c.args.atoms.now)) c.requires.state in
    place_within c.args.self.now.0 c.args.self.now.1 c.loop-atom.state _ c.place_at.result (rw (← c.loop-atom.invariant) at fits) c.place_at.ensures

pub loop-atom-preserved : goal.loop-atom-preserved
loop-atom-preserved c =
    c.set_true.ensures ∙ ap (λ state. set state c.place_at.result true) c.loop-atom.invariant ∙ one_added c.args.self.now.0 c.args.self.now.1 c.args.args.now c.args.atoms.now c.loop-atom.atom-index c.atom-item.result c.place_at.result c.args.state.now c.loop-atom-test.true c.atom-item.is c.place_at.ensures
