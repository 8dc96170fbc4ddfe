use Rattle.std.proofs.Common.{◌∙◌, ap, sym, map, take, arith}
use Rattle.pddl_task.specs.Names.{with_name, with_names}
use Rattle.pddl_task.specs.Types.{text_of}
use Rattle.pddl_task.proofs.NamesOf.{names_more}
use Rattle.pddl_task.proofs.names.Names.add_all.Goals as goal

pub loop-item-preserved : goal.loop-item-preserved
loop-item-preserved g c =
    c.in_ok-add.ensures.names
    ∙ ap (λ names. with_name names c.as_slice.result.now) c.loop-item.invariant
    ∙ ap (with_name (with_names c.args.self.now (map text_of (map g.W.Worded.word (take c.loop-item.item-index c.args.items.now))))) (c.as_slice.ensures ∙ ap text_of c.word.ensures)
    ∙ sym (names_more text_of g.W.Worded.word c.args.self.now c.args.items.now c.loop-item.item-index c.item-item.result (omega arith) c.item-item.is)
