-- The pointers that a partial program uses.
use Rattle.std.specs.Prelude.{◌≡◌, ℕ, ◌==◌, Bool, false, Option, Some}
use Rattle.std.specs.List.{list_any}
use Rattle.std.specs.Int.{bit_at}
use Rattle.program_model.specs.declared.instr.Instr.{Instr}
use Rattle.program_model.specs.declared.instr.Instr.TheVariants.{Op}
use Rattle.program_model.specs.Semantics.{Semantics}
use Rattle.program_model.specs.Program.{Program}

-- whether a line names a pointer; a jump, `end` and nothing name none
abbrev pub names : {C : Type 0} → Semantics C → ℕ → Option Instr → Bool
names m pointer (Some (Op op)) = list_any (λ other. other == pointer) (m.pointers_of op)
names m pointer _ = false

-- whether a pointer stands on a defined line of a partial program
abbrev pub is_used : {C : Type 0} → Semantics C → Program → ℕ → Bool
is_used m q pointer = list_any (names m pointer) q

-- whether a pointer is one of a set, whose number has the bit 1 for each pointer in it
abbrev pub has : ℕ → ℕ → Bool
has set pointer = bit_at set pointer == 1

-- the set of the pointers that a partial program uses
abbrev pub AreUsed : {C : Type 0} → Semantics C → Program → ℕ → Type 0
AreUsed m q set = (pointer : ℕ) → has set pointer ≡ is_used m q pointer
