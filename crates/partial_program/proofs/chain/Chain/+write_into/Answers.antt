-- The program of the parent is written first, and then the line of the node.
use Rattle.std.proofs.Common.{ap, arith}
use Rattle.partial_program.specs.Chain.{Nodes}
use Rattle.partial_program.proofs.Views.{parent_lives, parent_before, line_within, child_written}
use Rattle.partial_program.proofs.chain.Chain.+write_into.Goals as goal

pub write_into-requires : goal.write_into-requires
write_into-requires t c =
    (omega (arith, c.decreases, parent_before c.self.inside.lines c.self.inside.root c.self.inside.nodes.slots c.self.invariant c.id.inside.place c.index.result.now c.index.ensures c.in-Some.link c.in-Some.is c.args.self.now.nodes c.args.id (ap (λ (v : Nodes). v.nodes) c.self.view_is) c.id.view_is), parent_lives c.self.inside.lines c.self.inside.root c.self.inside.nodes.slots c.self.invariant c.id.inside.place c.index.result.now c.index.ensures c.in-Some.link c.in-Some.is c.args.self.now.nodes c.args.id (ap (λ (v : Nodes). v.nodes) c.self.view_is) c.id.view_is)

pub define-requires : goal.define-requires
define-requires t c =
    line_within c.self.inside.lines c.self.inside.root c.self.inside.nodes.slots c.self.invariant c.id.inside.place c.index.result.now c.index.ensures c.in-Some.link c.in-Some.is c.args.self.now.nodes c.args.id (ap (λ (v : Nodes). v.nodes) c.self.view_is) c.id.view_is c.write_into.new.to c.write_into.ensures

pub returns-in-Some : goal.returns-in-Some
returns-in-Some t c =
    child_written c.self.inside.lines c.self.inside.root c.self.inside.nodes.slots c.self.invariant c.id.inside.place c.index.result.now c.index.ensures c.in-Some.link c.in-Some.is c.args.self.now.nodes c.args.id (ap (λ (v : Nodes). v.nodes) c.self.view_is) c.id.view_is c.write_into.new.to c.write_into.ensures c.define.new.self c.define.ensures
