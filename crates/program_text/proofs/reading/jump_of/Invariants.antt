use Rattle.std.proofs.Common.{◌≡◌, ◌≤◌, ◌<◌, ℕ, Some}
use Rattle.std.specs.Prelude.{slice_get}
use Rattle.program_model.specs.declared.instr.Instr.{Instr}
use Rattle.program_model.specs.Alphabet.{alphabet}
use Rattle.program_text.specs.Texts.{instr_text}
use Rattle.program_text.proofs.reading.jump_of.Given as goal

abbrev pub invariant-loop-rank : goal.invariant-loop-rank
invariant-loop-rank l = (k : ℕ) (jump : Instr) → l.ops ≤ k → k < l.rank → slice_get (alphabet l.ops l.lines l.line) k ≡ Some jump → instr_text l.names jump ≡ l.text → ⊥
