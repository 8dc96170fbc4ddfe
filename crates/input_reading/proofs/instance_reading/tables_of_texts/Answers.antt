use Rattle.std.proofs.Common.{ℕ, ◌≤◌, List, length, refl, sym, ◌∙◌, arith, subst}
use Rattle.std.proofs.lemmas.Result.{err_from_is_err_and}
use Rattle.std.proofs.lemmas.List.{length_push}
use Rattle.std.proofs.lemmas.List.Elements.{All-get_or, All-push}
use Rattle.flag_rules.specs.declared.file.TheConstants.{MAX_FILE_BYTES}
use Rattle.ground_state.specs.Action.{IsTableOf}
use Rattle.input_reading.proofs.Tables.{no_items}
use Rattle.input_reading.proofs.TextTables.{begins, ends_at_table, continues, finished}
use Rattle.input_reading.proofs.instance_reading.tables_of_texts.Goals as goal

pub loop-text-init : goal.loop-text-init
loop-text-init c = record {
  continues = rw c.new-tables.ensures (begins c.args.name.now c.args.domain.now c.args.texts.now);
  fit = rw c.new-tables.ensures (no_items (IsTableOf c.args.domain.now.task));
  count = rw c.new-tables.ensures refl;
}

pub table_of-requires-clause-short : goal.table_of-requires-clause-short
table_of-requires-clause-short c =
    subst (λ (t : List ℕ). length t ≤ MAX_FILE_BYTES) (sym (c.as_slice.ensures ∙ c.text-item.is))
    (All-get_or (λ (t : List ℕ). length t ≤ MAX_FILE_BYTES) c.args.texts.now c.loop-text.text-index c.text-item.result (omega arith) c.requires.short)

pub returns-in_err-table_of-clause-due : goal.returns-in_err-table_of-clause-due
returns-in_err-table_of-clause-due c =
    let p = err_from_is_err_and c.from_residual.result c.from_residual.ensures.1 in
    rw (p.1, p.2) (ends_at_table c.args.name.now c.args.domain.now c.args.texts.now c.loop-text.text-index c.loop-text.tables c.text-item.result c.as_slice.result.now c.as_slice.ensures c.loop-text.invariant.continues (omega arith) c.text-item.is c.in_err-table_of.field-0.0 c.in_err-table_of.ensures.due)

pub loop-text-preserved : goal.loop-text-preserved
loop-text-preserved c =
    let so_far = c.loop-text.invariant in
    let table = c.in_ok-table_of.field-0 in
    record {
      continues = rw c.in_ok-push.ensures.ok (continues c.args.name.now c.args.domain.now c.args.texts.now c.loop-text.text-index c.loop-text.tables c.text-item.result c.as_slice.result.now c.as_slice.ensures so_far.continues (omega arith) c.text-item.is table c.in_ok-table_of.ensures.due);
      fit = rw c.in_ok-push.ensures.ok (All-push (IsTableOf c.args.domain.now.task) c.loop-text.tables table so_far.fit c.in_ok-table_of.ensures.fits);
      count = rw c.in_ok-push.ensures.ok (omega (arith, length_push c.loop-text.tables table, so_far.count));
    }

pub returns-clause-due : goal.returns-clause-due
returns-clause-due c = finished c.args.name.now c.args.domain.now c.args.texts.now c.loop-text.text-index c.loop-text.tables c.loop-text.invariant.continues (omega arith)
