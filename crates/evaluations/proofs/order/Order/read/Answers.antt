use Rattle.std.proofs.Common.{◌∙◌, [], ◌∷◌, ◌++◌, ◌≢◌, ℕ, List, map, Bor, Some, sym, ap, subst, rules, tests, arith}
use Rattle.std.specs.Prelude.{◌==◌, AllPairs}
use Rattle.std.proofs.lemmas.List.{map-append, length_push}
use Rattle.std.proofs.lemmas.Iterator.Consumers.{YieldsList-at}
use Rattle.std.proofs.lemmas.Iterator.Splits.{YieldsList-from_slice_split}
use Rattle.evaluations.specs.declared.evaluation.Evaluation.{Evaluation}
use Rattle.evaluations.specs.Orders.{name_of}
use Rattle.evaluations.proofs.Named.{few_different, is_there, is_new}
use Rattle.evaluations.proofs.SoFar.{at_turn, at_end}
use Rattle.evaluations.proofs.order.Order.read.Goals as goal

pub returns-in_default : goal.returns-in_default
returns-in_default c =
    let turn =
    at_turn (λ (name : Bor (List ℕ)). name.now) c.args.text.now c.len-place.result c.loop-name.evaluations.items c.loop-name.yielded c.loop-name.name-iterator c.loop-name.yielded_by c.next.result c.next.new.self c.in-Some.name c.in-Some.is c.next.ensures.steps c.len-place.ensures.value c.loop-name.invariant.named c.loop-name.invariant.different
    (YieldsList-at c.into_iter-name-iterator.ensures.into_iter_gives (YieldsList-from_slice_split _ (λ byte. byte == 44) c.args.text.now (c.split-name-items.ensures.rest ∙ c.as_bytes.ensures.value) c.split-name-items.ensures.done c.split-name-items.ensures.closure (λ x b q k. search (rules, tests)))) in (
      λ none. search (rules, tests),
      record {
        earlier = c.loop-name.evaluations.items;
        before = turn.0;
        entry = c.in-Some.name.now;
        here = turn.1;
        no_name = c.in_default.ensures.none;
      },
    )

pub returns-then-contains : goal.returns-then-contains
returns-then-contains c =
    let turn =
    at_turn (λ (name : Bor (List ℕ)). name.now) c.args.text.now c.len-place.result c.loop-name.evaluations.items c.loop-name.yielded c.loop-name.name-iterator c.loop-name.yielded_by c.next.result c.next.new.self c.in-Some.name c.in-Some.is c.next.ensures.steps c.len-place.ensures.value c.loop-name.invariant.named c.loop-name.invariant.different
    (YieldsList-at c.into_iter-name-iterator.ensures.into_iter_gives (YieldsList-from_slice_split _ (λ byte. byte == 44) c.args.text.now (c.split-name-items.ensures.rest ∙ c.as_bytes.ensures.value) c.split-name-items.ensures.done c.split-name-items.ensures.closure (λ x b q k. search (rules, tests)))) in (
      λ none. search (rules, tests),
      record {
        earlier = c.loop-name.evaluations.items;
        before = turn.0;
        evaluation = c.in-Some-named.evaluation;
        here = turn.1 ∙ ap Some c.in-Some-named.ensures.some;
        repeated = is_there c.loop-name.evaluations.items c.as_slice.result.now c.in-Some-named.evaluation c.as_slice.ensures.value c.if-contains.ensures.cases;
      },
    )

pub push-requires : goal.push-requires
push-requires c =
    let order = c.loop-name.evaluations.items in
    let evaluation = c.in-Some-named.evaluation in
    let different = is_new order c.as_slice.result.now evaluation c.as_slice.ensures.value c.if-contains.ensures.cases c.loop-name.invariant.different in
    (omega arith, omega (arith, few_different (order ++ evaluation ∷ []) different, length_push order evaluation))

pub loop-name-preserved : goal.loop-name-preserved
loop-name-preserved c =
    let told = λ (name : Bor (List ℕ)). name.now in
    let order = c.loop-name.evaluations.items in
    let evaluation = c.in-Some-named.evaluation in
    record {
      named =
          map-append told c.loop-name.yielded (c.in-Some.name ∷ [])
          ∙ ap (λ (l : List (List ℕ)). l ++ c.in-Some.name.now ∷ []) c.loop-name.invariant.named
          ∙ ap (λ (name : List ℕ). map name_of order ++ name ∷ []) c.in-Some-named.ensures.some
          ∙ sym (map-append name_of order (evaluation ∷ []))
          ∙ ap (map name_of) (sym c.push.ensures.items);
      different = subst (λ (l : List Evaluation). AllPairs (λ a b. a ≢ b) l) (sym c.push.ensures.items) (is_new order c.as_slice.result.now evaluation c.as_slice.ensures.value c.if-contains.ensures.cases c.loop-name.invariant.different);
    }

pub returns : goal.returns
returns c =
    at_end (λ (name : Bor (List ℕ)). name.now) c.args.text.now c.loop-name.evaluations.items c.loop-name.yielded c.loop-name.name-iterator c.loop-name.yielded_by c.next.result c.next.new.self c.in-None.is c.next.ensures.steps c.loop-name.invariant.named c.loop-name.invariant.different
    (YieldsList-at c.into_iter-name-iterator.ensures.into_iter_gives (YieldsList-from_slice_split _ (λ byte. byte == 44) c.args.text.now (c.split-name-items.ensures.rest ∙ c.as_bytes.ensures.value) c.split-name-items.ensures.done c.split-name-items.ensures.closure (λ x b q k. search (rules, tests))))
