use Rattle.std.proofs.Common.{◌≡◌, ◌+◌, ◌*◌, ◌≤◌, ◌++◌, flat_map, take, codes}
use Rattle.arrayvec.specs.ArrayVec.{array_vec_len}
use Rattle.flag_rules.specs.Line.{then_number}
use Rattle.summary_writer.proofs.written_lines.sizes_line.Given as goal

abbrev pub invariant-loop-size : goal.invariant-loop-size
invariant-loop-size l = record {
  text : l.text.items ≡ codes "sizes" ++ flat_map then_number (take l.size-index l.sizes);
  few : array_vec_len l.text ≤ 5 + 21 * l.size-index;
}
