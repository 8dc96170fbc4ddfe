use Rattle.std.proofs.Common.{◌≡◌, ℕ, List, map, Bor}
use Rattle.std.specs.Prelude.{filter}
use Rattle.std.specs.List.{join_with_byte}
use Rattle.program_text.specs.Lines.{has_items}
use Rattle.program_text.proofs.lines.line_text.Given as goal

abbrev pub invariant-loop-word : goal.invariant-loop-word
invariant-loop-word l = l.text ≡ join_with_byte 32 (filter has_items (map (λ (word : Bor (List ℕ)). word.now) l.yielded))
