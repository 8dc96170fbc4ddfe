use Rattle.std.proofs.Common.{refl, subst, sym, ◌∙◌, ap}
use Rattle.std.proofs.lemmas.Result.{on_ok_weaker}
use Rattle.program_model.specs.Program.{IsInstr}
use Rattle.program_model.proofs.Alphabets.{contains_op}
use Rattle.program_model.proofs.Programs.{open_is_not_last}
use Rattle.synthesis.specs.BestFirst.{best_first}
use Rattle.synthesis.specs.FreshWork.{operations_of_child, copies_of_child}
use Rattle.synthesis.proofs.AddedNodes.{passed_child}
use Rattle.synthesis.proofs.FreshWork.{child_work}
use Rattle.synthesis.proofs.searcher.Searcher.add_next.Goals as goal

pub is_twin-requires : goal.is_twin-requires
is_twin-requires g c = λ op is.
    let m = g.M.Machine.semantics c.args.self.now.machine.now in
    let parent = c.args.parent.now in
    (contains_op m.ops _ parent.line op (open_is_not_last m.ops parent.program parent.line c.requires.parent.partial c.requires.parent.is_open)).0 (subst (IsInstr m.ops _ parent.line) is c.requires.instr)

pub returns-then-is_twin-clause-adds : goal.returns-then-is_twin-clause-adds
returns-then-is_twin-clause-adds g c =
    let parent = c.args.parent.now in
    let s = best_first (g.M.Machine.semantics c.args.self.now.machine.now) c.args.self.now.bounds.now in
    let passed = sym (c.is_twin.ensures.twins parent.program c.requires.parent.used) ∙ c.if-is_twin.true in
    on_ok_weaker c.add_decided.result
    (λ pushed. passed_child s parent.program parent.line c.args.instr c.args.nodes.now.held.items c.add_decided.new.self.held.items c.args.nodes.now.frontier.pairs c.add_decided.new.self.frontier.pairs c.args.newest.now c.args.newest.now
    passed pushed (ap (λ f. f.pairs) c.add_decided.ensures.frontier) refl)
    c.add_decided.ensures.held

pub returns-clause-acts : goal.returns-clause-acts
returns-clause-acts g c =
    let parent = c.args.parent.now in
    let s = best_first (g.M.Machine.semantics c.args.self.now.machine.now) c.args.self.now.bounds.now in
    let kept = sym (c.is_twin.ensures.twins parent.program c.requires.parent.used) ∙ c.if-is_twin.false in
    on_ok_weaker c.add_child.result
    (λ raised reached steps. child_work s reached parent.program parent.line (operations_of_child s reached parent.program parent.line) c.args.instr (g.M.Machine.acts c.args.meter.now) (g.M.Machine.acts c.add_child.new.meter) kept (raised reached steps))
    c.add_child.ensures.acts

pub returns-clause-copies : goal.returns-clause-copies
returns-clause-copies g c =
    let parent = c.args.parent.now in
    let s = best_first (g.M.Machine.semantics c.args.self.now.machine.now) c.args.self.now.bounds.now in
    let kept = sym (c.is_twin.ensures.twins parent.program c.requires.parent.used) ∙ c.if-is_twin.false in
    on_ok_weaker c.add_child.result
    (λ raised reached steps. child_work s reached parent.program parent.line (copies_of_child s reached parent.program parent.line) c.args.instr (g.M.Machine.copies c.args.meter.now) (g.M.Machine.copies c.add_child.new.meter) kept (raised reached steps))
    c.add_child.ensures.copies
