use Rattle.std.proofs.Common.{◌≡◌, ℕ, List, length, map, Bor}
use Rattle.program_text.specs.Lines.{numbered_from}
use Rattle.program_text.proofs.lines.instruction_lines.Given as goal

abbrev pub invariant-loop-line : goal.invariant-loop-line
invariant-loop-line l = record {
  counted : l.number ≡ length l.yielded;
  numbered : l.lines ≡ numbered_from 1 (map (λ (line : Bor (List ℕ)). line.now) l.yielded);
}
