use Rattle.std.proofs.Common.{◌∙◌, ap}
use Rattle.flag_rules.specs.Counts.{raised}
use Rattle.interpreter.specs.Inner.Progress.{copies_after}
use Rattle.interpreter.proofs.MarkCounts.{copied_once}
use Rattle.interpreter.proofs.run.Run.make_step.Goals as goal

pub returns-clause-copies : goal.returns-clause-copies
returns-clause-copies g c =
    rw c.follow_mark.ensures.marked
    (copied_once _ _ c.turn-turn.new.self c.turn-turn.result _ _ c.turn-turn.ensures.counted c.requires.latest.is_mark_step c.turn-turn.ensures.answer
    (c.follow_mark.ensures.copies ∙ ap (λ n. raised n (copies_after c.turn-turn.result)) c.step.ensures.copies))
