use Rattle.std.proofs.Common.{ℕ, List, flat_map, ap, arith}
use Rattle.flag_rules.specs.Line.{lines_of}
use Rattle.bfgp_outside.proofs.Puts.{lines_flat_map_joined}
use Rattle.program_text.proofs.Gathering.{none_gathered, item_gathered, item_stopped, items_gathered, same_gathered}
use Rattle.refutation_tree.specs.declared.evidence.Tree.{Tree}
use Rattle.answer_writer.specs.Document.{tree_lines}
use Rattle.answer_writer.proofs.Puts.{one_tree}
use Rattle.answer_writer.proofs.writing.add_trees.Goals as goal

abbrev text : List Tree → List ℕ
text trees = lines_of (flat_map tree_lines trees)

pub returns-in_err-add_tree : goal.returns-in_err-add_tree
returns-in_err-add_tree g c =
    let tree = c.tree-item.result in
    item_stopped g.K.Sink.written g.K.Sink.faults text (lines_flat_map_joined tree_lines) c.args.trees.now c.loop-tree.tree-index tree tree (omega arith) c.tree-item.is c.args.sink.now c.loop-tree.sink c.add_tree.new.sink
    c.args.gathered.now c.loop-tree.gathered c.add_tree.new.gathered c.add_tree.new.gathered c.in_err-add_tree.field-0.0 c.from_residual.result c.from_residual.ensures.0 c.loop-tree.invariant
    (same_gathered g.K.Sink.written g.K.Sink.faults c.loop-tree.sink c.add_tree.new.sink c.loop-tree.gathered c.add_tree.new.gathered _ _ _ (ap lines_of (one_tree tree)) c.in_err-add_tree.ensures)

pub loop-tree-init : goal.loop-tree-init
loop-tree-init g c = none_gathered g.K.Sink.written g.K.Sink.faults c.args.sink.now c.args.gathered.now

pub loop-tree-preserved : goal.loop-tree-preserved
loop-tree-preserved g c =
    let tree = c.tree-item.result in
    item_gathered g.K.Sink.written g.K.Sink.faults text (lines_flat_map_joined tree_lines) c.args.trees.now c.loop-tree.tree-index tree tree (omega arith) c.tree-item.is c.args.sink.now c.loop-tree.sink c.add_tree.new.sink
    c.args.gathered.now c.loop-tree.gathered c.add_tree.new.gathered c.in_ok-add_tree.field-0 c.loop-tree.invariant
    (same_gathered g.K.Sink.written g.K.Sink.faults c.loop-tree.sink c.add_tree.new.sink c.loop-tree.gathered c.add_tree.new.gathered _ _ _ (ap lines_of (one_tree tree)) c.in_ok-add_tree.ensures)

pub returns : goal.returns
returns g c =
    items_gathered g.K.Sink.written g.K.Sink.faults text c.args.trees.now c.loop-tree.tree-index c.args.sink.now c.loop-tree.sink c.args.gathered.now c.loop-tree.gathered _ (omega arith) c.loop-tree.invariant
