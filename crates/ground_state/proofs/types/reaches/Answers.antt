use Rattle.std.proofs.Common.{◌≡◌, length, arith}
use Rattle.ground_state.proofs.Typing.{reached_here, not_reached, at_within, parent_is_next, one_step_up}
use Rattle.ground_state.proofs.types.reaches.Goals as goal

pub returns-then-at-above : goal.returns-then-at-above
returns-then-at-above c =
    reached_here c.args.types.now c.args.number c.args.above c.loop.at c.loop.index c.requires.number c.loop-test.true c.loop.invariant.0 c.if-at-above.true

pub bounds-types-at : goal.bounds-types-at
bounds-types-at c = at_within c.args.types.now c.args.number c.loop.at c.loop.index c.requires.types c.requires.number c.loop.invariant.0

pub bounds-types-at-else-at-above : goal.bounds-types-at-else-at-above
bounds-types-at-else-at-above c = at_within c.args.types.now c.args.number c.loop.at c.loop.index c.requires.types c.requires.number c.loop.invariant.0

pub loop-preserved : goal.loop-preserved
loop-preserved c =
    let types = c.args.types.now in
    let within = at_within types c.args.number c.loop.at c.loop.index c.requires.types c.requires.number c.loop.invariant.0 in (
      parent_is_next types c.args.number c.loop.at c.loop.index c.index-types-at.result within c.loop.invariant.0,
      one_step_up types c.args.number c.args.above c.loop.at c.loop.index c.loop.invariant.0 c.if-at-above.false c.loop.invariant.1,
    )

pub returns : goal.returns
returns c =
    let whole : c.loop.index ≡ length c.args.types.now = omega (arith, c.loop.auto.index-end, c.loop-test.false) in
    not_reached c.args.types.now c.args.number c.args.above (rw whole at c.loop.invariant.1)
