-- An instruction on a later line.
use Rattle.std.proofs.Common.{◌≡◌, ◌∙◌, ℕ, ◌+◌, ◌-◌, Bool, false, zero, suc, [], ◌∷◌, length, drop, Option, Some, None, refl, ap, arith}
use Rattle.std.specs.List.{range_with_len, list_any}
use Rattle.program_model.specs.declared.instr.Instr.{Instr}
use Rattle.program_model.specs.Program.{Program, line_at}
use Rattle.evaluations.specs.Evaluations.{instrs_of, same_instr}

-- whether a line has an instruction
abbrev pub has_instr : Instr → Option Instr → Bool
has_instr instr None = false
has_instr instr (Some other) = same_instr instr other

shifted : (test other : ℕ → Bool) → ((i : ℕ) → test (suc i) ≡ other i) → (a n : ℕ) → list_any test (range_with_len (a + 1) n) ≡ list_any other (range_with_len a n)
shifted test other same a zero = refl
shifted test other same a (suc n) =
    let next : a + 1 ≡ suc a = omega arith in
    let here : test (a + 1) ≡ other a = ap test next ∙ same a in
    let later = shifted test other same (a + 1) n in
    grind (arith, here, later)

from_first : (instr : Instr) (program : Program) → list_any (λ line. has_instr instr (line_at program line)) (range_with_len 0 (length program)) ≡ list_any (same_instr instr) (instrs_of program)
from_first instr [] = refl
from_first instr (None ∷ xs) = shifted (λ line. has_instr instr (line_at (None ∷ xs) line)) (λ line. has_instr instr (line_at xs line)) (λ i. refl) 0 (length xs) ∙ from_first instr xs
from_first instr (Some x ∷ xs) =
    let later = shifted (λ line. has_instr instr (line_at (Some x ∷ xs) line)) (λ line. has_instr instr (line_at xs line)) (λ i. refl) 0 (length xs) ∙ from_first instr xs in
    grind (arith, later)

pub later_found : (instr : Instr) (program : Program) (first : ℕ) → list_any (λ line. has_instr instr (line_at program line)) (range_with_len first (length program - first)) ≡ list_any (same_instr instr) (instrs_of (drop first program))
later_found instr program zero =
    let all : length program - 0 ≡ length program = omega arith in
    ap (λ n. list_any (λ line. has_instr instr (line_at program line)) (range_with_len 0 n)) all ∙ from_first instr program
later_found instr [] (suc first) =
    let none : 0 - suc first ≡ 0 = omega arith in
    ap (λ n. list_any (λ line. has_instr instr (line_at [] line)) (range_with_len (suc first) n)) none
later_found instr (x ∷ xs) (suc first) =
    let next : suc first ≡ first + 1 = omega arith in
    let count : length (x ∷ xs) - suc first ≡ length xs - first = omega arith in
    ap (λ n. list_any (λ line. has_instr instr (line_at (x ∷ xs) line)) (range_with_len (suc first) n)) count
    ∙ ap (λ n. list_any (λ line. has_instr instr (line_at (x ∷ xs) line)) (range_with_len n (length xs - first))) next
    ∙ shifted (λ line. has_instr instr (line_at (x ∷ xs) line)) (λ line. has_instr instr (line_at xs line)) (λ i. refl) first (length xs - first)
    ∙ later_found instr xs first
