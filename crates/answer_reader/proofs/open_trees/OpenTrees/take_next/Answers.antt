use Rattle.std.proofs.Common.{◌≡◌, ◌∙◌, ◌+◌, ◌-◌, ◌<◌, ◌∷◌, List, length, set, take, rules, sym, ap, arith}
use Rattle.std.proofs.lemmas.Bool.Decides.{nat_tests}
use Rattle.program_model.specs.Program.{Program}
use Rattle.answer_reader.specs.declared.open_trees.Family.{Family}
use Rattle.answer_reader.specs.Inner.Pending.{Pending, waiting_in}
use Rattle.answer_reader.proofs.Waiting.{IsNext, taken, taken_last}
use Rattle.answer_reader.proofs.open_trees.OpenTrees.take_next.Goals as goal
use Rattle.answer_reader.proofs.open_trees.OpenTrees.take_next.Goals.{then-is_done, else-is_done}

pub returns-clause-some : goal.returns-clause-some
returns-clause-some c =
    let ops = c.self.inside.ops in
    let families : List Family = c.self.inside.families.items in
    let last = c.len-last.result - 1 in
    let family = c.index_mut-family.result.now in
    let after = c.take_child-child.new.self in
    let child = c.take_child-child.result in
    let some : 0 < c.len-last.result = grind (arith, nat_tests) in
    let count : length families ≡ c.len-last.result = search rules in
    let size : length families ≡ last + 1 = omega (arith, some, count) in
    let next : IsNext ops family after child = record { here = c.take_child-child.ensures.child; parent = c.take_child-child.ensures.parent; line = c.take_child-child.ensures.line; rank = c.take_child-child.ensures.rank } in
    let rest = taken ops last families family after child size (sym c.index_mut-family.ensures.value) next in
    let there : c.args.self.now.programs ≡ child ∷ waiting_in ops (set families last after) = ap (λ (p : Pending). p.programs) (sym c.self.view_is) ∙ rest in
    elim c.if-is_done.branch [
      | then-is_done w ↦
          let pop : take last (set families last after) ≡ w.pop.new.self.items = search rules in
          there ∙ ap (λ (l : List Program). child ∷ l) (taken_last ops last families after size (c.is_done.ensures.0 w.if-is_done.true) ∙ ap (waiting_in ops) pop ∙ ap (λ (p : Pending). p.programs) (sym w.self-is))
      | else-is_done w ↦ there ∙ ap (λ (l : List Program). child ∷ l) (ap (λ (p : Pending). p.programs) (sym w.self-is))
    ]
