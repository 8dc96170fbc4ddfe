use Rattle.std.proofs.Common.{length, Err, ap, arith}
use Rattle.std.proofs.lemmas.Result.{err_from_is_err_and}
use Rattle.pddl_task.proofs.TaskFits.{task-fits}
use Rattle.input_reading.proofs.AskedFor.{asks_domain, asks_inputs}
use Rattle.input_reading.proofs.Machines.{from_bytes, at_bytes, from_domain, at_domain, from_tables, at_tables, all_named, as_many_pointers, some_instances, counted}
use Rattle.input_reading.proofs.machine.machine_for.Goals as goal

pub returns-in_err-bytes-clause-due : goal.returns-in_err-bytes-clause-due
returns-in_err-bytes-clause-due g c =
    let p = err_from_is_err_and c.from_residual.result c.from_residual.ensures.1 in
    rw (p.1, p.2) (at_bytes (g.S.Shelf.files c.args.shelf.now) c.args.inputs.now c.args.pointers c.as_slice-domain_name.result.now c.in_err-bytes.field-0.0 c.as_slice-domain_name.ensures c.in_err-bytes.ensures.due)

pub returns-in_err-domain-clause-due : goal.returns-in_err-domain-clause-due
returns-in_err-domain-clause-due g c =
    let p = err_from_is_err_and c.from_residual-in_err-domain.result c.from_residual-in_err-domain.ensures.1 in
    let told = g.S.Shelf.files c.args.shelf.now in
    let inputs = c.args.inputs.now in
    let name = c.as_slice-domain_name.result.now in
    rw (p.1, p.2) (from_bytes told inputs c.args.pointers name c.in_ok-bytes.bytes (Err c.in_err-domain.field-0.0) c.as_slice-domain_name.ensures c.in_ok-bytes.ensures.due
    (at_domain told inputs c.args.pointers name c.in_ok-bytes.bytes c.as_slice.result.now c.in_err-domain.field-0.0 c.as_slice-domain_name.ensures c.as_slice.ensures c.in_err-domain.ensures.due))

pub returns-in_err-tables-clause-due : goal.returns-in_err-tables-clause-due
returns-in_err-tables-clause-due g c =
    let p = err_from_is_err_and c.from_residual-in_err-tables.result c.from_residual-in_err-tables.ensures.1 in
    let told = g.S.Shelf.files c.args.shelf.now in
    let later = g.S.Shelf.files c.read_input.new.shelf in
    let inputs = c.args.inputs.now in
    let name = c.as_slice-domain_name.result.now in
    rw (p.1, p.2) (from_bytes told inputs c.args.pointers name c.in_ok-bytes.bytes (Err c.in_err-tables.field-0.0) c.as_slice-domain_name.ensures c.in_ok-bytes.ensures.due
    (from_domain told inputs c.args.pointers name c.in_ok-bytes.bytes c.as_slice.result.now c.in_ok-domain.domain (Err c.in_err-tables.field-0.0) c.as_slice-domain_name.ensures c.as_slice.ensures c.in_ok-domain.ensures.due
    (at_tables told inputs c.args.pointers later c.in_ok-bytes.ensures.goes_on.kept c.in_ok-domain.domain c.as_slice-2.result.now c.as_slice-2.ensures c.in_err-tables.field-0.0 c.in_err-tables.ensures.due)))

pub returns-clause-due : goal.returns-clause-due
returns-clause-due g c =
    let told = g.S.Shelf.files c.args.shelf.now in
    let later = g.S.Shelf.files c.read_input.new.shelf in
    let inputs = c.args.inputs.now in
    let name = c.as_slice-domain_name.result.now in
    let result = c.machine_over.result in
    from_bytes told inputs c.args.pointers name c.in_ok-bytes.bytes result c.as_slice-domain_name.ensures c.in_ok-bytes.ensures.due
    (from_domain told inputs c.args.pointers name c.in_ok-bytes.bytes c.as_slice.result.now c.in_ok-domain.domain result c.as_slice-domain_name.ensures c.as_slice.ensures c.in_ok-domain.ensures.due
    (from_tables told inputs c.args.pointers later c.in_ok-bytes.ensures.goes_on.kept c.in_ok-domain.domain c.as_slice-2.result.now c.as_slice-2.ensures c.in_ok-tables.tables result c.in_ok-tables.ensures.due
    (counted inputs.domain c.args.pointers c.in_ok-domain.domain c.in_ok-tables.tables name result c.as_slice-domain_name.ensures c.machine_over.ensures.few c.machine_over.ensures.told c.machine_over.ensures.machine)))

pub returns-clause-names : goal.returns-clause-names
returns-clause-names g c =
    let domain = c.in_ok-domain.domain in
    let read = c.in_ok-domain.ensures.read in
    all_named domain.task c.in_ok-tables.tables c.args.pointers c.machine_over.result (task-fits domain.text domain.task read.text read.task) c.requires.some_pointers c.requires.few_pointers c.machine_over.ensures.few c.machine_over.ensures.machine

pub returns-clause-pointers : goal.returns-clause-pointers
returns-clause-pointers g c =
    as_many_pointers c.in_ok-domain.domain.task c.in_ok-tables.tables c.args.pointers c.machine_over.result c.machine_over.ensures.machine

pub returns-clause-instances : goal.returns-clause-instances
returns-clause-instances g c =
    let count = c.in_ok-tables.ensures.count in
    let names = ap length c.as_slice-2.ensures in
    let inputs = c.requires.inputs in
    some_instances c.in_ok-domain.domain.task c.in_ok-tables.tables c.args.pointers c.machine_over.result (omega (arith, count, names), omega (arith, count, names)) c.machine_over.ensures.machine

pub returns-in_err-bytes-clause-asks : goal.returns-in_err-bytes-clause-asks
returns-in_err-bytes-clause-asks g c = asks_domain _ _ c.args.inputs.now c.as_slice-domain_name.result.now c.as_slice-domain_name.ensures c.in_err-bytes.ensures.asks

pub returns-in_err-domain-clause-asks : goal.returns-in_err-domain-clause-asks
returns-in_err-domain-clause-asks g c = asks_domain _ _ c.args.inputs.now c.as_slice-domain_name.result.now c.as_slice-domain_name.ensures c.in_ok-bytes.ensures.asks

pub returns-in_err-tables-clause-asks : goal.returns-in_err-tables-clause-asks
returns-in_err-tables-clause-asks g c = asks_inputs _ _ _ c.args.inputs.now c.as_slice-domain_name.result.now c.as_slice-2.result.now c.as_slice-domain_name.ensures c.as_slice-2.ensures c.in_ok-bytes.ensures.asks c.in_err-tables.ensures.asks

pub returns-clause-asks : goal.returns-clause-asks
returns-clause-asks g c = asks_inputs _ _ _ c.args.inputs.now c.as_slice-domain_name.result.now c.as_slice-2.result.now c.as_slice-domain_name.ensures c.as_slice-2.ensures c.in_ok-bytes.ensures.asks c.in_ok-tables.ensures.asks
