use Rattle.std.proofs.Common.{◌≡◌, length, All}
use Rattle.ground_state.specs.Action.{IsTableOf}
use Rattle.input_reading.proofs.TextTables.{Continues}
use Rattle.input_reading.proofs.instance_reading.tables_of_texts.Given as goal

abbrev pub invariant-loop-text : goal.invariant-loop-text
invariant-loop-text l = record {
  continues : Continues l.name l.domain l.texts l.text-index l.tables;
  fit : All (IsTableOf l.domain.task) l.tables;
  count : length l.tables ≡ l.text-index;
}
