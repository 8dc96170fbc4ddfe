use Rattle.std.proofs.Common.{◌≡◌, ◌+◌, ◌*◌, ◌≤◌, ◌++◌, length, flat_map, take}
use Rattle.arrayvec.specs.ArrayVec.{array_vec_len}
use Rattle.flag_rules.specs.Line.{then_number}
use Rattle.answer_writer.proofs.written_lines.line_text.Given as goal

abbrev pub invariant-loop-number : goal.invariant-loop-number
invariant-loop-number l = record {
  text : l.text.items ≡ l.word ++ flat_map then_number (take l.number-index l.numbers);
  few : array_vec_len l.text ≤ length l.word + 21 * l.number-index;
}
