-- Counts of mark steps, and counts that rise.
use Rattle.std.proofs.Common.{◌≡◌, ℕ, zero, suc, ◌+◌, ◌^◌, ◌<◌, ◌≤◌, Bool, true, false, refl, sym, ◌∙◌, ap, inl, inr, arith, pow-suc}
use Rattle.std.specs.Prelude.{◌||◌, ◌==◌, if◌then◌else◌}
use Rattle.std.specs.List.{range_with_len, list_any}
use Rattle.std.proofs.lemmas.Bool.{cases_lt, eq-eqb}
use Rattle.flag_rules.specs.Counts.{raised}
use Rattle.loop_witness.specs.declared.turn.Turn.{Turn}
use Rattle.loop_witness.specs.declared.turn.Turn.TheVariants as turns
use Rattle.loop_witness.specs.Marks.{IsMarkStep, Counted}
use Rattle.loop_witness.specs.Turns.{IsAnswer}
use Rattle.loop_witness.proofs.MarkSteps.{next_mark}
use Rattle.interpreter.specs.Counts.{is_mark_step, marks_up_to, marks_between, RaisedAtMost}
use Rattle.interpreter.specs.Inner.Progress.{copies_after}

-- ---- which steps are counted

or_true : (b : Bool) → (b || true) ≡ true
or_true true = refl
or_true false = refl

any_counted : (p : ℕ → Bool) (start n k place : ℕ) → start + k ≡ place → k < n → p place ≡ true → list_any p (range_with_len start n) ≡ true
any_counted p start zero k place e less here = absurd (omega arith)
any_counted p start (suc n) zero place e less here =
    let first : start ≡ place = omega arith in
    ap (λ b. b || list_any p (range_with_len (start + 1) n)) (ap p first ∙ here)
any_counted p start (suc n) (suc k) place e less here =
    ap (λ b. p start || b) (any_counted p (start + 1) n k place (omega arith) (omega arith) here) ∙ or_true (p start)

below_power : (k : ℕ) → k < 2 ^ k
below_power zero = omega arith
below_power (suc k) = omega (arith, below_power k, pow-suc 2 k)

is_counted : (step : ℕ) → IsMarkStep step → is_mark_step step ≡ true
is_counted step mark =
    any_counted (λ k. 2 ^ k == step + 1) 0 (step + 1) mark.0 mark.0 (omega arith) (omega (arith, below_power mark.0, mark.1)) (eq-eqb (2 ^ mark.0) (step + 1) (sym mark.1))

-- ---- the counts up to a step

marks_next : (step : ℕ) → marks_up_to (suc step) ≡ marks_up_to step + (if is_mark_step (suc step) then 1 else 0)
marks_next step = refl

pub marks_grow : (from to : ℕ) → from ≤ to → marks_up_to from ≤ marks_up_to to
marks_grow from zero le = let same : from ≡ 0 = omega arith in omega (arith, ap marks_up_to same)
marks_grow from (suc to) le = elim (cases_lt to from) [
  | inl h ↦ let same : from ≡ suc to = omega arith in omega (arith, ap marks_up_to same)
  | inr h ↦ omega (arith, marks_grow from to h, marks_next to)
]

-- a mark step is one more
pub mark_more : (step after : ℕ) → after ≡ step + 1 → IsMarkStep after → marks_between step after ≡ 1
mark_more step zero e mark = absurd (omega arith)
mark_more step (suc after) e mark =
    let same : step ≡ after = omega arith in
    let one : ◌≡◌ {A = ℕ} (if is_mark_step (suc after) then 1 else 0) 1 = ap {B = ℕ} (λ b. if b then 1 else 0) (is_counted (suc after) mark) in
    omega (arith, ap marks_up_to same, marks_next after, one)

-- ---- counts that rise

pub not_raised : (by old new : ℕ) → new ≡ old → RaisedAtMost by old new
not_raised by old new e = (omega arith, omega arith)

pub raised_by : (by some old new : ℕ) → some ≤ by → new ≡ raised old some → RaisedAtMost by old new
raised_by by some old new le e = (omega arith, omega arith)

pub raised_on : (first second both old mid new : ℕ) → first + second ≤ both → RaisedAtMost first old mid → RaisedAtMost second mid new → RaisedAtMost both old new
raised_on first second both old mid new le x y =
    let low = x.0 in
    let lower = y.0 in
    let high = x.1 in
    let higher = y.1 in
    (omega arith, omega arith)

-- the copies of a run up to a step, and those of later steps
pub copied_on : (from mid to old here new : ℕ) → from ≤ mid → mid ≤ to → RaisedAtMost (marks_between from mid) old here → RaisedAtMost (marks_between mid to) here new → RaisedAtMost (marks_between from to) old new
copied_on from mid to old here new before after x y =
    let low = marks_grow from mid before in
    let high = marks_grow mid to after in
    raised_on (marks_between from mid) (marks_between mid to) (marks_between from to) old here new (omega arith) x y

-- a step of the marks copies a configuration at a mark step alone
pub copied_once : (same : Bool) (old new : Counted) (turn : Turn) (before after : ℕ) → new.steps ≡ old.steps + 1 → IsMarkStep old.mark → IsAnswer same old new turn → after ≡ raised before (copies_after turn) → RaisedAtMost (marks_between old.steps new.steps) before after
copied_once same old new turns.MarkHere before after counted mark answer copied =
    let one = mark_more old.steps new.steps counted (next_mark old.mark new.steps mark answer.1) in
    raised_by (marks_between old.steps new.steps) 1 before after (omega arith) copied
copied_once same old new turns.Go before after counted mark answer copied = raised_by (marks_between old.steps new.steps) 0 before after (omega arith) copied
copied_once same old new (turns.Repeat from to) before after counted mark answer copied = raised_by (marks_between old.steps new.steps) 0 before after (omega arith) copied
