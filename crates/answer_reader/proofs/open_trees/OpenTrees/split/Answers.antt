use Rattle.std.proofs.Common.{◌∙◌, ◌++◌, ap, refl}
use Rattle.answer_reader.specs.declared.open_trees.Family.{Family}
use Rattle.refutation_tree.specs.Grammar.{child_programs}
use Rattle.answer_reader.specs.Inner.Pending.{Pending, waiting_in}
use Rattle.answer_reader.proofs.Waiting.{all_children}
use Rattle.answer_reader.proofs.open_trees.OpenTrees.split.Goals as goal

pub returns-clause-ok : goal.returns-clause-ok
returns-clause-ok c =
    let ops = c.self.inside.ops in
    let family : Family = record { parent = c.args.parent; line = c.args.line; rank = 0 } in
    ap (waiting_in ops) c.in_ok-push.ensures.items
    ∙ all_children ops c.self.inside.families.items family refl
    ∙ ap (λ (p : Pending). child_programs p.ops c.args.parent c.args.line ++ p.programs) c.self.view_is
