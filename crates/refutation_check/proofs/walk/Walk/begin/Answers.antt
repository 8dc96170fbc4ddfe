use Rattle.std.proofs.Common.{◌∙◌, [], length, ap, sym, subst, arith}
use Rattle.std.proofs.lemmas.List.Elements.{All-cons, All-nil}
use Rattle.program_model.specs.Program.{IsPartial}
use Rattle.program_model.proofs.Programs.{length-empty, partial_empty}
use Rattle.refutation_check.specs.Walking.{IsOpenFamily, IsRoot}
use Rattle.refutation_check.proofs.walk.Walk.begin.Goals as goal

pub returns-clause-walk : goal.returns-clause-walk
returns-clause-walk g c =
    let m = g.M.Machine.semantics c.args.machine.now in
    let belongs = g.M.Machine.belongs c.args.machine.now in
    let walk = c.requires.walk in
    let short = c.requires.short in
    let size = ap length c.empty.ensures ∙ length-empty c.args.size c.requires.from_one in
    let root : IsRoot m.ops c.empty.result = record {
      partial = subst (IsPartial m.ops) (sym c.empty.ensures) (partial_empty m.ops c.args.size c.requires.from_one);
      short = omega (arith, size, short);
    } in
    record {
      room = walk.room;
      within = omega arith;
      runs = walk.runs;
      trials = walk.trials;
      families = All-nil (IsOpenFamily m belongs);
      narrow = λ place d less. absurd (omega arith);
      root = All-cons (IsRoot m.ops) c.empty.result [] root (All-nil (IsRoot m.ops));
    }
