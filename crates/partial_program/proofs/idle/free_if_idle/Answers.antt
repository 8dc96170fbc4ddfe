-- A node that is held or has children stays; else it is taken out, and its parent counts one child less.
use Rattle.std.proofs.Common.{◌≡◌, Some, false, sym, ◌∙◌, arith}
use Rattle.partial_program.proofs.Ties.{tied_without_root, left_of_freed, parent_lives, parent_counts, tied_without, settled_without, left_of_both}
use Rattle.partial_program.proofs.idle.free_if_idle.Goals as goal

pub returns-in_err-link-clause-tied : goal.returns-in_err-link-clause-tied
returns-in_err-link-clause-tied c =
    let r = c.remove in
    let same : Some r.result ≡ Some c.index-node.result.now = sym r.ensures.value ∙ c.index-node.ensures in
    let is_held = c.if-node.false in
    let unheld : r.result.is_held ≡ false = cc in
    let few = c.if-node-gt0.false in
    let same_children : r.result.children ≡ c.index-node.result.now.children = cc in
    let childless : r.result.children ≡ 0 = omega arith in
    tied_without_root c.args.nodes.now.slots r.new.self.slots c.args.place r.result c.requires.tied r.ensures.value r.ensures.updates.changed r.ensures.updates.others unheld childless c.in_err-link.was

pub returns-in_err-link-clause-left : goal.returns-in_err-link-clause-left
returns-in_err-link-clause-left c =
    let r = c.remove in
    let same : Some r.result ≡ Some c.index-node.result.now = sym r.ensures.value ∙ c.index-node.ensures in
    let is_held = c.if-node.false in
    let unheld : r.result.is_held ≡ false = cc in
    let few = c.if-node-gt0.false in
    let same_children : r.result.children ≡ c.index-node.result.now.children = cc in
    let childless : r.result.children ≡ 0 = omega arith in
    left_of_freed c.args.nodes.now.slots r.new.self.slots c.args.place r.result c.requires.tied r.ensures.value r.ensures.updates.changed r.ensures.updates.others unheld childless

pub index_mut-requires : goal.index_mut-requires
index_mut-requires c =
    let r = c.remove in
    let same : Some r.result ≡ Some c.index-node.result.now = sym r.ensures.value ∙ c.index-node.ensures in
    let is_held = c.if-node.false in
    let unheld : r.result.is_held ≡ false = cc in
    let few = c.if-node-gt0.false in
    let same_children : r.result.children ≡ c.index-node.result.now.children = cc in
    let childless : r.result.children ≡ 0 = omega arith in
    parent_lives c.args.nodes.now.slots r.new.self.slots c.args.place r.result c.requires.tied r.ensures.value r.ensures.updates.changed r.ensures.updates.others unheld childless c.in_ok-link.link c.in_ok-link.was

pub overflow_sub-index_mut : goal.overflow_sub-index_mut
overflow_sub-index_mut c =
    let r = c.remove in
    let same : Some r.result ≡ Some c.index-node.result.now = sym r.ensures.value ∙ c.index-node.ensures in
    let is_held = c.if-node.false in
    let unheld : r.result.is_held ≡ false = cc in
    let few = c.if-node-gt0.false in
    let same_children : r.result.children ≡ c.index-node.result.now.children = cc in
    let childless : r.result.children ≡ 0 = omega arith in
    parent_counts c.args.nodes.now.slots r.new.self.slots c.args.place r.result c.requires.tied r.ensures.value r.ensures.updates.changed r.ensures.updates.others unheld childless c.in_ok-link.link c.in_ok-link.was c.index_mut.result.now c.index_mut.ensures.value

pub returns-clause-tied : goal.returns-clause-tied
returns-clause-tied c =
    let r = c.remove in
    let same : Some r.result ≡ Some c.index-node.result.now = sym r.ensures.value ∙ c.index-node.ensures in
    let is_held = c.if-node.false in
    let unheld : r.result.is_held ≡ false = cc in
    let few = c.if-node-gt0.false in
    let same_children : r.result.children ≡ c.index-node.result.now.children = cc in
    let childless : r.result.children ≡ 0 = omega arith in
    tied_without c.args.nodes.now.slots r.new.self.slots c.args.place r.result c.requires.tied r.ensures.value r.ensures.updates.changed r.ensures.updates.others unheld childless c.in_ok-link.link c.in_ok-link.was c.index_mut.result.now c.index_mut.ensures.value

pub returns-clause-settled : goal.returns-clause-settled
returns-clause-settled c =
    let r = c.remove in
    let same : Some r.result ≡ Some c.index-node.result.now = sym r.ensures.value ∙ c.index-node.ensures in
    let is_held = c.if-node.false in
    let unheld : r.result.is_held ≡ false = cc in
    let few = c.if-node-gt0.false in
    let same_children : r.result.children ≡ c.index-node.result.now.children = cc in
    let childless : r.result.children ≡ 0 = omega arith in
    settled_without c.args.nodes.now.slots r.new.self.slots c.args.place r.result c.requires.tied r.ensures.value r.ensures.updates.changed r.ensures.updates.others unheld childless c.in_ok-link.link c.in_ok-link.was c.index_mut.result.now c.index_mut.ensures.value c.requires.settled

pub returns-clause-left : goal.returns-clause-left
returns-clause-left c =
    let r = c.remove in
    let same : Some r.result ≡ Some c.index-node.result.now = sym r.ensures.value ∙ c.index-node.ensures in
    let is_held = c.if-node.false in
    let unheld : r.result.is_held ≡ false = cc in
    let few = c.if-node-gt0.false in
    let same_children : r.result.children ≡ c.index-node.result.now.children = cc in
    let childless : r.result.children ≡ 0 = omega arith in
    left_of_both c.args.nodes.now.slots r.new.self.slots c.args.place r.result c.requires.tied r.ensures.value r.ensures.updates.changed r.ensures.updates.others unheld childless c.in_ok-link.link c.in_ok-link.was c.index_mut.result.now c.index_mut.ensures.value
