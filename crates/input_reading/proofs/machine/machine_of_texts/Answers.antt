use Rattle.std.proofs.Common.{Err, refl, arith}
use Rattle.std.proofs.lemmas.Result.{err_from_is_err_and}
use Rattle.pddl_task.proofs.TaskFits.{task-fits}
use Rattle.input_reading.specs.Inputs.{domain_due, tables_of_texts_due}
use Rattle.input_reading.proofs.Chain.{then_next, then_end}
use Rattle.input_reading.proofs.Sequels.{after_domain_of_texts, after_tables}
use Rattle.input_reading.proofs.Machines.{all_named, as_many_pointers, some_instances, counted}
use Rattle.input_reading.proofs.machine.machine_of_texts.Goals as goal

pub returns-in_err-domain-clause-due : goal.returns-in_err-domain-clause-due
returns-in_err-domain-clause-due c =
    let p = err_from_is_err_and c.from_residual.result c.from_residual.ensures.1 in
    let name = c.args.name.now in
    rw (p.1, p.2) (then_end (domain_due name c.args.domain.now) (after_domain_of_texts name c.args.problems.now c.args.pointers) c.in_err-domain.field-0.0 c.in_err-domain.ensures.due)

pub returns-in_err-tables-clause-due : goal.returns-in_err-tables-clause-due
returns-in_err-tables-clause-due c =
    let p = err_from_is_err_and c.from_residual-in_err-tables.result c.from_residual-in_err-tables.ensures.1 in
    let name = c.args.name.now in
    let domain = c.in_ok-domain.domain in
    rw (p.1, p.2) (then_next (domain_due name c.args.domain.now) (after_domain_of_texts name c.args.problems.now c.args.pointers) domain (Err c.in_err-tables.field-0.0) c.in_ok-domain.ensures.due
    (then_end (tables_of_texts_due name domain c.args.problems.now) (after_tables name c.args.pointers domain) c.in_err-tables.field-0.0 c.in_err-tables.ensures.due))

pub returns-clause-due : goal.returns-clause-due
returns-clause-due c =
    let name = c.args.name.now in
    let domain = c.in_ok-domain.domain in
    let tables = c.in_ok-tables.tables in
    let result = c.machine_over.result in
    then_next (domain_due name c.args.domain.now) (after_domain_of_texts name c.args.problems.now c.args.pointers) domain result c.in_ok-domain.ensures.due
    (then_next (tables_of_texts_due name domain c.args.problems.now) (after_tables name c.args.pointers domain) tables result c.in_ok-tables.ensures.due
    (counted name c.args.pointers domain tables name result refl c.machine_over.ensures.few c.machine_over.ensures.told c.machine_over.ensures.machine))

pub returns-clause-names : goal.returns-clause-names
returns-clause-names c =
    let domain = c.in_ok-domain.domain in
    let read = c.in_ok-domain.ensures.read in
    all_named domain.task c.in_ok-tables.tables c.args.pointers c.machine_over.result (task-fits domain.text domain.task read.text read.task) c.requires.some_pointers c.requires.few_pointers c.machine_over.ensures.few c.machine_over.ensures.machine

pub returns-clause-pointers : goal.returns-clause-pointers
returns-clause-pointers c =
    as_many_pointers c.in_ok-domain.domain.task c.in_ok-tables.tables c.args.pointers c.machine_over.result c.machine_over.ensures.machine

pub returns-clause-instances : goal.returns-clause-instances
returns-clause-instances c =
    let count = c.in_ok-tables.ensures.count in
    some_instances c.in_ok-domain.domain.task c.in_ok-tables.tables c.args.pointers c.machine_over.result (omega (arith, count, c.requires.some_problems), omega (arith, count, c.requires.few_problems)) c.machine_over.ensures.machine
