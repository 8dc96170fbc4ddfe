use Rattle.std.proofs.Common.{◌+◌, refl, ◌∙◌, subst, arith}
use Rattle.program_model.specs.Standing.{NothingBefore}
use Rattle.interpreter.proofs.Following.{op_is_there, nothing_up_to, follows_on, repeated_on, counted_on}
use Rattle.interpreter.proofs.MarkCounts.{not_raised, copied_on}
use Rattle.interpreter.proofs.Shared.{shared}
use Rattle.interpreter.proofs.run.Run.advance.Goals as goal

pub is_repeated-repeated-requires : goal.is_repeated-repeated-requires
is_repeated-repeated-requires g c = (_, c.requires.run.here_belongs, c.requires.run.marked_belongs)

pub loop-stand-init : goal.loop-stand-init
loop-stand-init g c = record {
  run = c.requires.run;
  instance = refl;
  in_limit = c.requires.steps;
  repeated = c.is_repeated-repeated.ensures;
  spent = refl;
  later = omega arith;
  acts = omega arith;
  copies = not_raised _ _ _ refl;
}

pub make_step-repeated-requires-clause-op : goal.make_step-repeated-requires-clause-op
make_step-repeated-requires-clause-op g c =
    let goes = c.in-Step.ensures.next.1 in
    op_is_there _ _ _ _ c.requires.partial goes.inner goes.defined

pub loop-stand-preserved : goal.loop-stand-preserved
loop-stand-preserved g c =
    let m = g.M.Machine.semantics c.args.machine.now in
    let belongs = g.M.Machine.belongs c.args.machine.now in
    let before = c.loop-stand.invariant in
    let next = c.in-Step.ensures.next in
    let made = c.make_step-repeated.ensures in
    let run = c.loop-stand.self in
    let new = c.make_step-repeated.new.self in
    let counted = made.stepped.counted in
    record {
      run = follows_on m belongs c.args.partial.now c.requires.partial run before.run c.in-Step.instr next.1 new c.make_step-repeated.result made.stepped made.here made.marked;
      instance = made.stepped.instance ∙ before.instance;
      in_limit = omega (arith, next.0, counted);
      repeated = repeated_on m belongs c.args.partial.now c.requires.partial run before.run c.in-Step.instr next.1 new c.make_step-repeated.result made.stepped;
      spent = omega (arith, before.spent, counted, c.if-left-eq0.false);
      later = omega (arith, before.later, counted);
      acts = counted_on m belongs c.args.partial.now c.requires.partial run before.run c.in-Step.instr next.1 new c.make_step-repeated.result made.stepped c.args.self.now.marks.steps _ _ _ before.later before.acts made.acts;
      copies = copied_on _ _ _ _ _ _ before.later (omega (arith, counted)) before.copies made.copies;
    }

pub returns-in-Stop-clause-shared : goal.returns-in-Stop-clause-shared
returns-in-Stop-clause-shared g c = λ line program is extends. shared _ _ _ _ _ extends c.loop-stand.invariant.run

pub returns-then-left-eq0-clause-told : goal.returns-then-left-eq0-clause-told
returns-then-left-eq0-clause-told g c =
    let m = g.M.Machine.semantics c.args.machine.now in
    let before = c.loop-stand.invariant in
    let next = c.in-Step.ensures.next in (
      omega (arith, before.spent, c.if-left-eq0.true),
      next.0,
      subst (λ t. NothingBefore m c.args.partial.now t (c.loop-stand.self.marks.steps + 1)) before.instance (nothing_up_to m _ c.args.partial.now c.requires.partial c.loop-stand.self before.run c.in-Step.instr next.1),
    )
