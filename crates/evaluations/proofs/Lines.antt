-- What is counted line by line.
use Rattle.std.proofs.Common.{◌≡◌, ◌∙◌, ℕ, ◌+◌, ◌-◌, ◌≤◌, Bool, false, zero, suc, List, [], ◌∷◌, length, drop, Option, Some, None, refl, sym, ap, arith}
use Rattle.std.specs.Prelude.{filter, count_by, is_none, if◌then◌else◌}
use Rattle.std.specs.List.{range_with_len}
use Rattle.std.proofs.lemmas.List.Sums.{sum_by-cons}
use Rattle.program_model.specs.declared.instr.Instr.{Instr}
use Rattle.program_model.specs.Program.{Program, line_at}
use Rattle.evaluations.specs.Evaluations.{instrs_of, is_jump, different}
use Rattle.evaluations.specs.Inner.Lines.{is_among, stands_again}

-- whether a line has a jump
abbrev pub jumps_on : Option Instr → Bool
jumps_on None = false
jumps_on (Some instr) = is_jump instr

shifted : (test other : ℕ → Bool) → ((i : ℕ) → test (suc i) ≡ other i) → (a n : ℕ) → length (filter test (range_with_len (a + 1) n)) ≡ length (filter other (range_with_len a n))
shifted test other same a zero = refl
shifted test other same a (suc n) =
    let next : a + 1 ≡ suc a = omega arith in
    let here : test (a + 1) ≡ other a = ap test next ∙ same a in
    let later = shifted test other same (a + 1) n in
    grind (arith, here, later)

-- a count over the lines, from what it is at a first line and at the others
counted : (test : Program → ℕ → Bool) (count : Program → ℕ) → count [] ≡ 0 → ((x : Option Instr) (xs : Program) → count (x ∷ xs) ≡ (if test (x ∷ xs) 0 then 1 else 0) + count xs) → ((x : Option Instr) (xs : Program) (i : ℕ) → test (x ∷ xs) (suc i) ≡ test xs i) → (program : Program) → length (filter (test program) (range_with_len 0 (length program))) ≡ count program
counted test count none more same [] = sym none
counted test count none more same (x ∷ xs) =
    let here = more x xs in
    let later = shifted (test (x ∷ xs)) (test xs) (same x xs) 0 (length xs) in
    let others = counted test count none more same xs in
    grind (arith, here, later, others)

jumps_more : (x : Option Instr) (xs : Program) → count_by is_jump (instrs_of (x ∷ xs)) ≡ (if jumps_on x then 1 else 0) + count_by is_jump (instrs_of xs)
jumps_more None xs = omega arith
jumps_more (Some instr) xs = sum_by-cons (λ (x : Instr). if is_jump x then 1 else 0) instr (instrs_of xs)

pub jumps_counted : (program : Program) → length (filter (λ line. jumps_on (line_at program line)) (range_with_len 0 (length program))) ≡ count_by is_jump (instrs_of program)
jumps_counted program = counted (λ p line. jumps_on (line_at p line)) (λ p. count_by is_jump (instrs_of p)) refl jumps_more (λ x xs i. refl) program

undefined_more : (x : Option Instr) (xs : Program) → count_by is_none (x ∷ xs) ≡ (if is_none x then 1 else 0) + count_by is_none xs
undefined_more x xs = sum_by-cons (λ (y : Option Instr). if is_none y then 1 else 0) x xs

pub undefined_counted : (program : Program) → length (filter (λ line. is_none (line_at program line)) (range_with_len 0 (length program))) ≡ count_by is_none program
undefined_counted program = counted (λ p line. is_none (line_at p line)) (λ p. count_by is_none p) refl undefined_more (λ x xs i. refl) program

different_few : (instrs : List Instr) → different instrs ≤ length instrs
different_few [] = omega arith
different_few (instr ∷ instrs) =
    let others = different_few instrs in
    grind (arith, others)

repeated_more : (x : Option Instr) (xs : Program) → length (instrs_of (x ∷ xs)) - different (instrs_of (x ∷ xs)) ≡ (if is_among (instrs_of xs) x then 1 else 0) + (length (instrs_of xs) - different (instrs_of xs))
repeated_more None xs = omega arith
repeated_more (Some instr) xs =
    let few = different_few (instrs_of xs) in
    grind (arith, few)

stands_later : (x : Option Instr) (xs : Program) (i : ℕ) → stands_again (x ∷ xs) (suc i) ≡ stands_again xs i
stands_later x xs i =
    let next : suc i + 1 ≡ suc (i + 1) = omega arith in
    ap (λ n. is_among (instrs_of (drop n (x ∷ xs))) (line_at xs i)) next

pub repeated_counted : (program : Program) → length (filter (stands_again program) (range_with_len 0 (length program))) ≡ length (instrs_of program) - different (instrs_of program)
repeated_counted program = counted stands_again (λ p. length (instrs_of p) - different (instrs_of p)) refl repeated_more stands_later program
