use Rattle.std.proofs.Common.{◌∙◌, ap, sym, subst, map, take, arith, refl, ◌+◌}
use Rattle.pddl_task.specs.Faults.{IsFirst, IsTwice}
use Rattle.pddl_task.specs.Names.{with_name, with_names}
use Rattle.pddl_task.specs.Types.{text_of}
use Rattle.pddl_task.specs.Inner.Faults.{earlier_of}
use Rattle.pddl_task.proofs.NamesOf.{names_more}
use Rattle.pddl_task.proofs.Again.{told_again, first_again_more, first_of_no_words, words_at_end}
use Rattle.pddl_task.proofs.twice.first_twice.Goals as goal

pub loop-item-init : goal.loop-item-init
loop-item-init g c = record { names = refl; faults = first_of_no_words c.args.seen }

pub loop-item-preserved : goal.loop-item-preserved
loop-item-preserved g c =
    let words = map g.W.Worded.word (take c.loop-item.item-index c.args.items.now) in
    let again = told_again c.in_ok-again.again (g.W.Worded.word c.item-item.result) c.word.result.now c.loop-item.seen (with_names c.args.seen (map text_of words)) c.in_ok-again.ensures.fault c.word.ensures c.loop-item.invariant.names in
    record {
      names =
          c.in_ok-again.ensures.names
          ∙ ap (λ names. with_name names c.word.result.now.text) c.loop-item.invariant.names
          ∙ ap (λ w. with_name (with_names c.args.seen (map text_of words)) w.text) c.word.ensures
          ∙ sym (names_more text_of g.W.Worded.word c.args.seen c.args.items.now c.loop-item.item-index c.item-item.result (omega arith) c.item-item.is);
      faults = subst (λ o. IsFirst (IsTwice c.args.seen (map g.W.Worded.word (take (c.loop-item.item-index + 1) c.args.items.now))) o)
          (sym (c.earlier-first.ensures ∙ ap (earlier_of c.loop-item.first) again))
          (first_again_more g.W.Worded.word c.args.seen c.args.items.now c.loop-item.item-index c.item-item.result c.loop-item.first (omega arith) c.item-item.is c.loop-item.invariant.faults);
    }

pub returns : goal.returns
returns g c = words_at_end g.W.Worded.word c.args.seen c.args.items.now c.loop-item.item-index c.loop-item.first (omega arith) c.loop-item.invariant.faults
