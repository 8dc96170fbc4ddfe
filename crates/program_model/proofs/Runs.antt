-- Runs: where they stop, that a program runs as what it extends, and what refutes all completions.
use Rattle.std.proofs.Common.{◌≡◌, ℕ, zero, suc, ◌+◌, ◌-◌, ◌≤◌, length, Some, None, refl, sym, ◌∙◌, ap, inl, inr, arith}
use Rattle.std.specs.Prelude.{option_and_then}
use Rattle.std.proofs.lemmas.Option.{option_and_then_some, none-some, same_Some}
use Rattle.std.proofs.lemmas.Bool.{cases_lt, cases_order}
use Rattle.program_model.specs.Semantics.{Semantics}
use Rattle.program_model.specs.Program.{Program, line_at, IsPartial, Extends, Completes}
use Rattle.program_model.specs.Run.{Config, step, next, at, EndsMissing, Unmet, Loops, Solves}

-- ---- a program runs as what it extends

next-extends : {C : Type 0} (m : Semantics C) (p q : Program) (t : ℕ) (c d : Config C) → Extends p q → next m q t c ≡ Some d → next m p t c ≡ Some d
next-extends m p q t c d extends e =
    option_and_then_some (λ instr. step m t instr c) (line_at q c.line) d e
    (λ instr here stepped. ap (option_and_then (λ w. step m t w c)) (extends.keeps c.line instr here) ∙ stepped)

pub at-extends : {C : Type 0} (m : Semantics C) (p q : Program) (t j : ℕ) (c : Config C) → Extends p q → at m q t j ≡ Some c → at m p t j ≡ Some c
at-extends m p q t zero c extends e = e
at-extends m p q t (suc j) c extends e =
    option_and_then_some (next m q t) (at m q t j) c e
    (λ d here stepped. ap (option_and_then (next m p t)) (at-extends m p q t j d extends here) ∙ next-extends m p q t d c extends stepped)

-- ---- where runs stop

-- a run that has no step is over
pub at_stops : {C : Type 0} (m : Semantics C) (q : Program) (t j : ℕ) (c : Config C) → at m q t j ≡ Some c → next m q t c ≡ None → at m q t (suc j) ≡ None
at_stops m q t j c here none = ap (option_and_then (next m q t)) here ∙ none

-- a run that is over stays so
pub over_stays : {C : Type 0} (m : Semantics C) (q : Program) (t j after k : ℕ) → k ≡ j + after → at m q t j ≡ None → at m q t k ≡ None
over_stays m q t j zero k e none = let same : k ≡ j = omega arith in rw same none
over_stays m q t j (suc after) zero e none = absurd (omega arith)
over_stays m q t j (suc after) (suc k) e none = ap (option_and_then (next m q t)) (over_stays m q t j after k (omega arith) none)

-- a run that makes so many steps makes fewer
pub no_later : {C : Type 0} (m : Semantics C) (q : Program) (t j k : ℕ) (c : Config C) → at m q t j ≡ None → j ≤ k → at m q t k ≡ Some c → ⊥
no_later m q t j k c none le e = none-some c (sym (over_stays m q t j (k - j) k (omega arith) none) ∙ e)

-- on an undefined line there is no step
pub open_stops : {C : Type 0} (m : Semantics C) (q : Program) (t j : ℕ) (c : Config C) → at m q t j ≡ Some c → line_at q c.line ≡ None → at m q t (suc j) ≡ None
open_stops m q t j c here undefined = at_stops m q t j c here (ap (option_and_then (λ w. step m t w c)) undefined)

-- on the last line there is no step
pub last_stops : {C : Type 0} (m : Semantics C) (ops : ℕ) (q : Program) (t j : ℕ) (c : Config C) → IsPartial ops q → at m q t j ≡ Some c → c.line + 1 ≡ length q → at m q t (suc j) ≡ None
last_stops m ops q t j c partial here last =
    let same : c.line ≡ length q - 1 = omega arith in
    at_stops m q t j c here (ap (option_and_then (λ w. step m t w c)) (ap (line_at q) same ∙ partial.last))

-- a run ends at one step
pub same_end : {C : Type 0} (m : Semantics C) (ops : ℕ) (q : Program) (t i j a b : ℕ) → IsPartial ops q → EndsMissing m q t i a → EndsMissing m q t j b → i ≡ j
same_end m ops q t i j a b partial x y = elim (cases_order i j) [
  | inl e ↦ e
  | inr o ↦ elim o [
    | inl h ↦ absurd (no_later m q t (suc i) j y.config (last_stops m ops q t i x.config partial x.comes x.last) (omega arith) y.comes)
    | inr h ↦ absurd (no_later m q t (suc j) i x.config (last_stops m ops q t j y.config partial y.comes y.last) (omega arith) x.comes)
  ]
]

-- and with so much missing
pub same_missing : {C : Type 0} (m : Semantics C) (ops : ℕ) (q : Program) (t i j a b : ℕ) → IsPartial ops q → EndsMissing m q t i a → EndsMissing m q t j b → a ≡ b
same_missing m ops q t i j a b partial x y =
    let same = same_end m ops q t i j a b partial x y in
    let config : x.config ≡ y.config = same_Some x.config y.config (sym x.comes ∙ ap (at m q t) same ∙ y.comes) in
    sym x.lacks ∙ ap (λ (c : Config _). m.missing t c.value) config ∙ y.lacks

-- ---- what refutes all completions

pub unmet_refutes : {C : Type 0} (m : Semantics C) (q p : Program) (t j : ℕ) → Unmet m q t j → Completes m.ops p q → Solves m p t → ⊥
unmet_refutes {C} m q p t j unmet completes solves =
    let ends : EndsMissing m p t j (suc unmet.0) = record {
      config = unmet.1.config;
      comes = at-extends m p q t j unmet.1.config completes.extends unmet.1.comes;
      last = unmet.1.last ∙ sym completes.extends.size;
      lacks = unmet.1.lacks;
    } in
    let same = same_missing m m.ops p t j solves.0 (suc unmet.0) 0 completes.is_program.is_partial ends solves.1 in
    omega arith

-- a run goes on alike from two equal configurations
pub repeats_on : {C : Type 0} (m : Semantics C) (q : Program) (t i j after a b : ℕ) → a ≡ i + after → b ≡ j + after → at m q t i ≡ at m q t j → at m q t a ≡ at m q t b
repeats_on m q t i j zero a b x y same =
    let here : a ≡ i = omega arith in
    let there : b ≡ j = omega arith in
    ap (at m q t) here ∙ same ∙ ap (at m q t) (sym there)
repeats_on m q t i j (suc after) zero b x y same = absurd (omega arith)
repeats_on m q t i j (suc after) (suc a) zero x y same = absurd (omega arith)
repeats_on m q t i j (suc after) (suc a) (suc b) x y same = ap (option_and_then (next m q t)) (repeats_on m q t i j after a b (omega arith) (omega arith) same)

-- a run that repeats goes on from each step that it comes to
pub loops_go_on : {C : Type 0} (m : Semantics C) (q : Program) (t i j k : ℕ) (c : Config C) → Loops m q t i j → at m q t k ≡ Some c → at m q t (suc k) ≡ None → ⊥
loops_go_on m q t i j k c loops here stop =
    let before = loops.before in
    elim (cases_lt k i) [
      | inl h ↦ no_later m q t (suc k) i loops.config stop (omega arith) loops.first_time
      | inr h ↦ no_later m q t (suc k) (j + (k - i)) c stop (omega arith)
          (sym (repeats_on m q t i j (k - i) k (j + (k - i)) (omega arith) refl (loops.first_time ∙ sym loops.second_time)) ∙ here)
    ]

-- a run that repeats does not end
pub loops_on : {C : Type 0} (m : Semantics C) (ops : ℕ) (q : Program) (t i j k a : ℕ) → IsPartial ops q → Loops m q t i j → EndsMissing m q t k a → ⊥
loops_on m ops q t i j k a partial loops ends = loops_go_on m q t i j k ends.config loops ends.comes (last_stops m ops q t k ends.config partial ends.comes ends.last)

pub loops_refutes : {C : Type 0} (m : Semantics C) (q p : Program) (t i j : ℕ) → Loops m q t i j → Completes m.ops p q → Solves m p t → ⊥
loops_refutes {C} m q p t i j loops completes solves =
    let again : Loops m p t i j = record {
      config = loops.config;
      before = loops.before;
      first_time = at-extends m p q t i loops.config completes.extends loops.first_time;
      second_time = at-extends m p q t j loops.config completes.extends loops.second_time;
    } in
    loops_on m m.ops p t i j solves.0 0 completes.is_program.is_partial again solves.1
