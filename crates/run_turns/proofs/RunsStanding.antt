-- Runs of a program: their outcomes, and that none of them is past the step where its standing is reached.
use Rattle.std.proofs.Common.{◌≡◌, ℕ, zero, suc, ◌+◌, ◌-◌, ◌≤◌, refl, ◌∙◌, ap, subst, inl, inr, arith, le-add_right}
use Rattle.std.proofs.lemmas.Bool.{cases_lt}
use Rattle.program_model.specs.declared.standing.Stand.{Stand}
use Rattle.program_model.specs.declared.standing.Stand.TheVariants as stands
use Rattle.program_model.specs.declared.outcome.RunOutcome.{RunOutcome}
use Rattle.program_model.specs.Semantics.{Semantics}
use Rattle.program_model.specs.Program.{Program, IsPartial, line_at}
use Rattle.program_model.specs.Run.{at}
use Rattle.program_model.specs.Standing.{Comes, NothingBefore, IsStanding}
use Rattle.program_model.specs.Outcome.{IsOutcome}
use Rattle.program_model.specs.Counts.{op_here, operations_made}
use Rattle.program_model.proofs.Runs.{open_stops, last_stops, no_later}
use Rattle.interpreter.specs.declared.run.Run.{Run}
use Rattle.interpreter.specs.Runs.{config_of, IsRunOf, IsTold}

-- ---- counts that grow with the steps

grows : (count : ℕ → ℕ) → ((s : ℕ) → count s ≤ count (suc s)) → (from after to : ℕ) → to ≡ from + after → count from ≤ count to
grows count each from zero to e = let same : from ≡ to = omega arith in subst (λ s. count from ≤ count s) same (omega arith)
grows count each from (suc after) zero e = absurd (omega arith)
grows count each from (suc after) (suc to) e =
    let before = grows count each from after to (omega arith) in
    let here = each to in
    omega arith

module _ {C : Type 0} (m : Semantics C) (q : Program) (t : ℕ) where
  pub operations_grow : (from to : ℕ) → from ≤ to → operations_made m q t from ≤ operations_made m q t to
  operations_grow from to h = grows (operations_made m q t) (λ s. le-add_right (operations_made m q t s) (op_here q (at m q t s))) from (to - from) to (omega arith)

  -- ---- what is told

  pub standing_within : (limit s : ℕ) (stand : Stand) → IsStanding m q t limit s stand → s ≤ limit
  standing_within limit s stands.Ended h = h.0
  standing_within limit s stands.Unmet h = h.0
  standing_within limit s (stands.Repeats from to) h = h.0
  standing_within limit s (stands.Waits line) h = h.0
  standing_within limit s stands.AtLimit h = let same = h.0 in omega arith
  standing_within limit s stands.QuotaUsed h = absurd h

  pub told_within : (quota limit from to : ℕ) (stand : Stand) → IsTold m q t quota limit from to stand → to ≤ limit
  told_within quota limit from to stands.Ended h = standing_within limit to stands.Ended h.1
  told_within quota limit from to stands.Unmet h = standing_within limit to stands.Unmet h.1
  told_within quota limit from to (stands.Repeats i j) h = standing_within limit to (stands.Repeats i j) h.1
  told_within quota limit from to (stands.Waits line) h = standing_within limit to (stands.Waits line) h.1
  told_within quota limit from to stands.AtLimit h = standing_within limit to stands.AtLimit h.1
  told_within quota limit from to stands.QuotaUsed h = let below = h.1 in omega arith

module _ {C : Type 0} (m : Semantics C) (belongs : ℕ → C → Type 0) (q : Program) (partial : IsPartial m.ops q) (run : Run C) (is_run : IsRunOf m belongs q run) where
  -- ---- one run

  -- a run comes to nothing before its step
  nothing_before : NothingBefore m q run.instance run.marks.steps
  nothing_before r stands.Ended l c = no_later m q run.instance (suc r) run.marks.steps (config_of run.here) (last_stops m m.ops q run.instance r c.config partial c.comes c.last) (omega arith) is_run.stands.here
  nothing_before r stands.Unmet l c = no_later m q run.instance (suc r) run.marks.steps (config_of run.here) (last_stops m m.ops q run.instance r c.1.config partial c.1.comes c.1.last) (omega arith) is_run.stands.here
  nothing_before r (stands.Waits line) l c = no_later m q run.instance (suc r) run.marks.steps (config_of run.here) (open_stops m q run.instance r c.config c.comes (ap (line_at q) c.here ∙ c.is_open.undefined)) (omega arith) is_run.stands.here
  nothing_before r (stands.Repeats i j) l c = let same : j ≡ r = c.0 in is_run.stands.unnoticed i j (omega arith) c.1
  nothing_before r stands.AtLimit l c = c
  nothing_before r stands.QuotaUsed l c = c

  not_past_coming : (r : ℕ) (stand : Stand) → Comes m q run.instance r stand → run.marks.steps ≤ r
  not_past_coming r stand c = elim (cases_lt r run.marks.steps) [ inl l ↦ absurd (nothing_before r stand l c) | inr l ↦ l ]

  -- a run within the limit is not past the step where its standing is reached
  pub not_past : (limit r : ℕ) (stand : Stand) → run.marks.steps ≤ limit → IsStanding m q run.instance limit r stand → run.marks.steps ≤ r
  not_past limit r stands.Ended l h = not_past_coming r stands.Ended h.1
  not_past limit r stands.Unmet l h = not_past_coming r stands.Unmet h.1
  not_past limit r (stands.Repeats from to) l h = not_past_coming r (stands.Repeats from to) h.1
  not_past limit r (stands.Waits line) l h = not_past_coming r (stands.Waits line) h.1
  not_past limit r stands.AtLimit l h = let same = h.0 in omega arith
  not_past limit r stands.QuotaUsed l h = absurd h

  -- where a run stands, that is its outcome
  pub outcome_of : (limit : ℕ) (stand : Stand) (x : RunOutcome) → IsStanding m q run.instance limit run.marks.steps stand →
      x ≡ record { instance = run.instance; steps = run.marks.steps; missing = m.missing run.instance run.here.value; standing = stand } → IsOutcome m q limit x
  outcome_of limit stand x h e = rw e (record {
    within = is_run.within;
    config = config_of run.here;
    comes = is_run.stands.here;
    lacks = refl;
    stands = h;
  })
