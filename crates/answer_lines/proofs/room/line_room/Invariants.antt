use Rattle.std.proofs.Common.{ℕ, ◌<◌, ◌≤◌, ◌^◌, List, [], length, All}
use Rattle.std.specs.Prelude.{slice_index_or}
use Rattle.answer_lines.proofs.room.line_room.Given as goal

abbrev pub invariant-loop-op : goal.invariant-loop-op
invariant-loop-op l = record {
  plain : 64 ≤ l.room;
  texts : (op : ℕ) → op < l.op → length (slice_index_or l.names op []) ≤ l.room;
  least : (room : ℕ) → 64 ≤ room → All (λ (text : List ℕ). length text ≤ room) l.names → l.room ≤ room;
  top : l.room < 2 ^ 63;
}
