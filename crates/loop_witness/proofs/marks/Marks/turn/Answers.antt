use Rattle.std.proofs.Common.{◌+◌, refl, sym, subst, arith}
use Rattle.loop_witness.specs.Marks.{IsLatest}
use Rattle.loop_witness.proofs.MarkSteps.{next_mark, latest_moved, latest_kept}
use Rattle.loop_witness.proofs.marks.Marks.turn.Goals as goal

pub invariant_of-self-then-self : goal.invariant_of-self-then-self
invariant_of-self-then-self c = (next_mark c.self.inside.mark (c.self.inside.steps + 1) c.self.invariant.0 c.if-self.true, omega arith)

pub returns-then-self-clause-latest : goal.returns-then-self-clause-latest
returns-then-self-clause-latest c differs latest = latest_moved _ _ (subst IsLatest (sym c.self.view_is) latest) c.if-self.true refl

pub returns-else-self-clause-latest : goal.returns-else-self-clause-latest
returns-else-self-clause-latest c differs latest = latest_kept _ _ (subst IsLatest (sym c.self.view_is) latest) refl c.if-self.false refl
