use Rattle.std.proofs.lemmas.Result.{err_from_is_err_and}
use Rattle.pddl_forms.proofs.TypedSteps.{some_words-found, group-empty, group-dash, group-no_dash}
use Rattle.pddl_forms.proofs.typed_lists.group_type.Goals as goal

pub returns-then-is_empty-clause-goes_on : goal.returns-then-is_empty-clause-goes_on
returns-then-is_empty-clause-goes_on c = rw (c.is_empty.ensures.0 c.if-is_empty.true) (group-empty c.args.cursor.now)

pub returns-in_err-mark-clause-goes_on : goal.returns-in_err-mark-clause-goes_on
returns-in_err-mark-clause-goes_on c =
    let p = err_from_is_err_and c.from_residual.result c.from_residual.ensures.1 in
    rw (p.1, p.2) (group-no_dash c.args.waiting.now c.args.cursor.now _ _ c.in_err-mark.ensures.reads)

pub returns-clause-goes_on : goal.returns-clause-goes_on
returns-clause-goes_on c =
    let some = some_words-found c.args.waiting.now (λ e. let found = c.is_empty.ensures.1 e in let is = c.if-is_empty.false in absurd cc) in
    group-dash c.args.waiting.now c.args.cursor.now _ _ _ c.type_name.result some c.in_ok-mark.ensures.reads c.type_name.ensures.goes_on
