use Rattle.std.proofs.Common.{[], ◌+◌, refl, ◌∙◌, arith, rules, Ok, Err}
use Rattle.std.proofs.lemmas.Result.{err_from_is_err_and}
use Rattle.std.proofs.lemmas.List.{length_push}
use Rattle.std.proofs.lemmas.List.Elements.{All-push}
use Rattle.ground_state.specs.Action.{IsTableOf}
use Rattle.bfgp_outside.specs.Shelf.{Files}
use Rattle.input_reading.specs.Steps.{Gives}
use Rattle.input_reading.specs.Inputs.{tables_due}
use Rattle.input_reading.proofs.Chain.{knowing, knowing_always}
use Rattle.input_reading.proofs.AskedFor.{asks_nothing, asks_more, asks_part}
use Rattle.input_reading.proofs.Tables.{no_items, Continues, begins, finished, known_file, known_table, known_more, at_bytes}
use Rattle.input_reading.proofs.instance_reading.tables_of.Goals as goal

pub loop-name-init : goal.loop-name-init
loop-name-init g c = record {
  goes_on = search rules;
  reads = refl;
  asked = asks_nothing _ [];
  continues = rw c.new-tables.ensures (knowing_always (g.S.Shelf.files c.args.shelf.now) (λ (files : Files). Continues files c.args.domain.now c.args.names.now 0 []) (λ files. begins files c.args.domain.now c.args.names.now));
  fit = rw c.new-tables.ensures (no_items (IsTableOf c.args.domain.now.task));
  count = rw c.new-tables.ensures refl;
}

pub returns-in_err-bytes-clause-due : goal.returns-in_err-bytes-clause-due
returns-in_err-bytes-clause-due g c =
    let p = err_from_is_err_and c.from_residual.result c.from_residual.ensures.1 in
    let so_far = c.loop-name.invariant in
    rw (p.1, p.2) (known_file (g.S.Shelf.files c.args.shelf.now) (g.S.Shelf.files c.loop-name.shelf) so_far.goes_on.kept c.args.domain.now c.args.names.now c.loop-name.name-index c.loop-name.tables c.name-item.result c.as_slice.result.now c.as_slice.ensures so_far.continues (omega arith) c.name-item.is c.in_err-bytes.field-0.0 c.in_err-bytes.ensures.due)

pub returns-in_err-table_of-clause-due : goal.returns-in_err-table_of-clause-due
returns-in_err-table_of-clause-due g c =
    let p = err_from_is_err_and c.from_residual-in_err-table_of.result c.from_residual-in_err-table_of.ensures.1 in
    let so_far = c.loop-name.invariant in
    let ended = at_bytes c.name-item.result c.as_slice-in-loop-name.result.now c.in_ok-bytes.bytes c.as_slice-in-loop-name-2.result.now c.args.domain.now (Err c.in_err-table_of.field-0.0) c.as_slice-in-loop-name.ensures c.as_slice-in-loop-name-2.ensures c.in_err-table_of.ensures.due in
    rw (p.1, p.2) (known_table (g.S.Shelf.files c.args.shelf.now) (g.S.Shelf.files c.loop-name.shelf) so_far.goes_on.kept c.args.domain.now c.args.names.now c.loop-name.name-index c.loop-name.tables c.name-item.result c.as_slice.result.now c.as_slice.ensures so_far.continues (omega arith) c.name-item.is c.in_ok-bytes.bytes c.in_err-table_of.field-0.0 c.in_ok-bytes.ensures.due ended)

pub loop-name-preserved : goal.loop-name-preserved
loop-name-preserved g c =
    let so_far = c.loop-name.invariant in
    let made = at_bytes c.name-item.result c.as_slice-in-loop-name.result.now c.in_ok-bytes.bytes c.as_slice-in-loop-name-2.result.now c.args.domain.now (Ok c.in_ok-table_of.field-0) c.as_slice-in-loop-name.ensures c.as_slice-in-loop-name-2.ensures c.in_ok-table_of.ensures.due in
    let more = known_more (g.S.Shelf.files c.args.shelf.now) (g.S.Shelf.files c.loop-name.shelf) so_far.goes_on.kept c.args.domain.now c.args.names.now c.loop-name.name-index c.loop-name.tables c.name-item.result c.as_slice.result.now c.as_slice.ensures so_far.continues (omega arith) c.name-item.is c.in_ok-bytes.bytes c.in_ok-table_of.field-0 c.in_ok-bytes.ensures.due made in
    record {
      goes_on = search rules;
      reads = c.in_ok-bytes.ensures.reads ∙ so_far.reads;
      asked = asks_more _ _ c.args.names.now c.loop-name.name-index _ c.name-item.result c.as_slice.result.now (omega arith) c.name-item.is c.as_slice.ensures so_far.asked c.in_ok-bytes.ensures.asks;
      continues = rw c.in_ok-push.ensures.ok more;
      fit = rw c.in_ok-push.ensures.ok (All-push (IsTableOf c.args.domain.now.task) c.loop-name.tables c.in_ok-table_of.field-0 so_far.fit c.in_ok-table_of.ensures.fits);
      count = rw c.in_ok-push.ensures.ok (omega (arith, length_push c.loop-name.tables c.in_ok-table_of.field-0, so_far.count));
    }

pub returns-clause-due : goal.returns-clause-due
returns-clause-due g c =
    knowing (g.S.Shelf.files c.args.shelf.now) (λ (files : Files). Continues files c.args.domain.now c.args.names.now c.loop-name.name-index c.loop-name.tables) (λ (files : Files). Gives (tables_due files c.args.domain.now c.args.names.now) (Ok c.loop-name.tables)) (λ files so_far. finished files c.args.domain.now c.args.names.now c.loop-name.name-index c.loop-name.tables so_far (omega arith)) c.loop-name.invariant.continues

pub returns-in_err-bytes-clause-asks : goal.returns-in_err-bytes-clause-asks
returns-in_err-bytes-clause-asks g c =
    asks_part _ _ c.args.names.now (c.loop-name.name-index + 1)
    (asks_more _ _ c.args.names.now c.loop-name.name-index _ c.name-item.result c.as_slice.result.now (omega arith) c.name-item.is c.as_slice.ensures c.loop-name.invariant.asked c.in_err-bytes.ensures.asks)

pub returns-in_err-table_of-clause-asks : goal.returns-in_err-table_of-clause-asks
returns-in_err-table_of-clause-asks g c =
    asks_part _ _ c.args.names.now (c.loop-name.name-index + 1)
    (asks_more _ _ c.args.names.now c.loop-name.name-index _ c.name-item.result c.as_slice.result.now (omega arith) c.name-item.is c.as_slice.ensures c.loop-name.invariant.asked c.in_ok-bytes.ensures.asks)

pub returns-in_err-push-clause-asks : goal.returns-in_err-push-clause-asks
returns-in_err-push-clause-asks g c =
    asks_part _ _ c.args.names.now (c.loop-name.name-index + 1)
    (asks_more _ _ c.args.names.now c.loop-name.name-index _ c.name-item.result c.as_slice.result.now (omega arith) c.name-item.is c.as_slice.ensures c.loop-name.invariant.asked c.in_ok-bytes.ensures.asks)

pub returns-clause-asks : goal.returns-clause-asks
returns-clause-asks g c = asks_part _ _ c.args.names.now c.loop-name.name-index c.loop-name.invariant.asked
