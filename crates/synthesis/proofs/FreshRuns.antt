-- The fresh work of a program, as sums over its runs and over the instances.
use Rattle.std.proofs.Common.{◌≡◌, ℕ, zero, suc, ◌+◌, ◌*◌, ◌-◌, ◌<◌, Bool, true, false, List, [], ◌∷◌, map, length, get_or, cond, refl, sym, ◌∙◌, ap, ap₂, inl, inr, arith}
use Rattle.std.specs.Prelude.{◌==◌, All, filter, sum_by}
use Rattle.std.specs.List.{range_with_len}
use Rattle.std.proofs.lemmas.Bool.{cases_lt}
use Rattle.std.proofs.lemmas.List.Elements.{All-head, All-tail, All-map, All-contains}
use Rattle.std.proofs.lemmas.List.Sums.{sum_by-cons}
use Rattle.program_model.specs.declared.standing.Stand.{Stand}
use Rattle.program_model.specs.declared.standing.Stand.TheVariants as stands
use Rattle.program_model.specs.Semantics.{Semantics}
use Rattle.program_model.specs.Program.{Program, IsPartial, empty}
use Rattle.program_model.specs.Run.{at, first}
use Rattle.program_model.specs.Standing.{IsStanding}
use Rattle.program_model.specs.Counts.{operations_made}
use Rattle.program_model.proofs.Programs.{length-empty, line_at-empty, partial_empty}
use Rattle.program_model.proofs.Standings.{same_standing}
use Rattle.interpreter.specs.declared.run.Run.{Run}
use Rattle.interpreter.specs.Counts.{marks_between, RaisedAtMost}
use Rattle.interpreter.specs.Runs.{IsRunOf}
use Rattle.interpreter.proofs.MarkCounts.{not_raised, raised_on}
use Rattle.run_turns.specs.Settling.{instances_of, AreReached, HasSettled, operations_left, marks_left}
use Rattle.synthesis.specs.Search.{Setting}
use Rattle.synthesis.specs.FreshWork.{AreStandingSteps, is_on, operations_of_child, copies_of_child}
use Rattle.synthesis.specs.Inner.Keeping.{runs_waiting_at}

-- ---- counts that rise

pub raised_none : (count : ℕ) → RaisedAtMost 0 count count
raised_none count = not_raised 0 count count refl

pub raised_twice : (a b old mid new : ℕ) → RaisedAtMost a old mid → RaisedAtMost b mid new → RaisedAtMost (a + b) old new
raised_twice a b old mid new h k = raised_on a b (a + b) old mid new (omega arith) h k

-- ---- sums

sum_of_cond : {X : Type 0} (f : X → ℕ) (b : Bool) (x : X) (xs : List X) → sum_by f (cond b (x ∷ xs) xs) ≡ cond b (f x) 0 + sum_by f xs
sum_of_cond f true x xs = sum_by-cons f x xs
sum_of_cond f false x xs = omega arith

-- a sum over the elements that pass a test is one over what they are sent to, where that passes
sum_of_sent : {X Y : Type 0} (sent : X → Y) (p : X → Bool) (q : Y → Bool) (f : X → ℕ) (g : Y → ℕ) (xs : List X) →
    All (λ x. (p x ≡ q (sent x)) × (f x ≡ g (sent x))) xs → sum_by f (filter p xs) ≡ sum_by g (filter q (map sent xs))
sum_of_sent sent p q f g [] h = refl
sum_of_sent sent p q f g (x ∷ xs) h =
    let here = All-head (λ x. (p x ≡ q (sent x)) × (f x ≡ g (sent x))) x xs h in
    let later = sum_of_sent sent p q f g xs (All-tail (λ x. (p x ≡ q (sent x)) × (f x ≡ g (sent x))) x xs h) in
    sum_of_cond f (p x) x (filter p xs)
    ∙ ap₂ (λ (n k : ℕ). n + k) (ap₂ (λ (b : Bool) (n : ℕ). cond b n 0) here.0 here.1) later
    ∙ sym (sum_of_cond g (q (sent x)) (sent x) (filter q (map sent xs)))

sum_of_more : {X : Type 0} (f : X → ℕ) (by : ℕ) (xs : List X) → sum_by (λ x. by + f x) xs ≡ by * length xs + sum_by f xs
sum_of_more f by [] = omega arith
sum_of_more f by (x ∷ xs) = omega (arith, sum_by-cons (λ x. by + f x) x xs, sum_by-cons f x xs, sum_of_more f by xs)

sum_of_none : {X : Type 0} (f : X → ℕ) (xs : List X) → All (λ x. f x ≡ 0) xs → sum_by f xs ≡ 0
sum_of_none f [] h = refl
sum_of_none f (x ∷ xs) h = omega (arith, sum_by-cons f x xs, All-head (λ x. f x ≡ 0) x xs h, sum_of_none f xs (All-tail (λ x. f x ≡ 0) x xs h))

module _ {C : Type 0} (m : Semantics C) (limit : ℕ) (reached : Program → ℕ → ℕ) (steps : AreStandingSteps m limit reached) where
  -- ---- where the runs of a program come to their standings

  pub child_reached : (child : Program) (runs : List (Run C)) → IsPartial m.ops child → All (λ (run : Run C). run.instance < m.instances) runs → AreReached m child limit (reached child) runs
  child_reached child runs partial within t among =
      steps child t partial (All-contains (λ t. t < m.instances) (instances_of runs) t (All-map (λ t. t < m.instances) (λ (run : Run C). run.instance) runs within) among)

  -- ---- the runs of an empty program, which stand at their first step

  empty_waits : (n t : ℕ) → 1 < n → IsStanding m (empty n) t limit 0 (stands.Waits 0)
  empty_waits n t more = (
    omega arith,
    record { config = first m t; comes = refl; here = refl; is_open = record { within = omega (arith, length-empty n (omega arith)); undefined = line_at-empty n 0 (omega arith) } },
    λ r standing before. absurd (omega arith),
  )

  empty_ends : (n t missing : ℕ) → n ≡ 1 → m.missing t (m.start t) ≡ missing → (stand : Stand) × IsStanding m (empty n) t limit 0 stand
  empty_ends n t zero one lacks = (
    stands.Ended,
    (
      omega arith,
      record { config = first m t; comes = refl; last = omega (arith, length-empty n (omega arith)); lacks = lacks },
      λ r standing before. absurd (omega arith),
    ),
  )
  empty_ends n t (suc missing) one lacks = (
    stands.Unmet,
    (
      omega arith,
      (missing, record { config = first m t; comes = refl; last = omega (arith, length-empty n (omega arith)); lacks = lacks }),
      λ r standing before. absurd (omega arith),
    ),
  )

  empty_stands : (n t : ℕ) → 0 < n → (stand : Stand) × IsStanding m (empty n) t limit 0 stand
  empty_stands n t some = elim (cases_lt 1 n) [
    | inl more ↦ (stands.Waits 0, empty_waits n t more)
    | inr few ↦ empty_ends n t (m.missing t (m.start t)) (omega arith) refl
  ]

  empty_reached : (n t : ℕ) → 0 < n → t < m.instances → reached (empty n) t ≡ 0
  empty_reached n t some within =
      let partial = partial_empty m.ops n some in
      let given = steps (empty n) t partial within in
      let standing = empty_stands n t some in
      (same_standing m m.ops (empty n) t partial limit (reached (empty n) t) 0 given.0 standing.0 given.1 standing.1).0

  module _ (n : ℕ) (some : 0 < n) (runs : List (Run C)) (within : All (λ (run : Run C). run.instance < m.instances) runs) where
    pub root_operations : operations_left m (empty n) (reached (empty n)) runs ≡ 0
    root_operations = sum_of_none _ runs (λ k d lt.
        let run = get_or runs k d in
        ap (λ step. operations_made m (empty n) run.instance step - operations_made m (empty n) run.instance run.marks.steps) (empty_reached n run.instance some (within k d lt)) ∙ omega arith)

    pub root_marks : marks_left (reached (empty n)) runs ≡ 0
    root_marks = sum_of_none _ runs (λ k d lt.
        let run = get_or runs k d in
        ap (λ step. marks_between run.marks.steps step) (empty_reached n run.instance some (within k d lt)) ∙ omega arith)

module _ {C : Type 0} (s : Setting C) (belongs : ℕ → C → Type 0) (reached : Program → ℕ → ℕ) (steps : AreStandingSteps s.machine s.limit reached)
    (q : Program) (partial : IsPartial s.machine.ops q) (runs : List (Run C)) (on_each : instances_of runs ≡ range_with_len 0 s.machine.instances) (are : All (IsRunOf s.machine belongs q) runs) (settled : All (HasSettled s.machine q s.limit) runs) where
  -- ---- the runs of a child, from where those of its parent wait

  standing_of_settled : (run : Run C) → HasSettled s.machine q s.limit run → (stand : Stand) × IsStanding s.machine q run.instance s.limit run.marks.steps stand
  standing_of_settled run settled = elim settled [ inl ended ↦ (stands.Ended, ended) | inr waits ↦ (stands.Waits waits.0, waits.1) ]

  -- a run that has settled stands at the step that is given for its instance
  settled_reached : (run : Run C) → IsRunOf s.machine belongs q run → HasSettled s.machine q s.limit run → run.marks.steps ≡ reached q run.instance
  settled_reached run is_run settled =
      let given = steps q run.instance partial is_run.within in
      let standing = standing_of_settled run settled in
      (same_standing s.machine s.machine.ops q run.instance partial s.limit run.marks.steps (reached q run.instance) standing.0 given.0 standing.1 given.1).0

  waits_alike : (line : ℕ) (run : Run C) → IsRunOf s.machine belongs q run → HasSettled s.machine q s.limit run → (run.here.line == line) ≡ is_on line (at s.machine q run.instance (reached q run.instance))
  waits_alike line run is_run settled =
      sym (ap (is_on line) (ap (at s.machine q run.instance) (sym (settled_reached run is_run settled)) ∙ is_run.stands.here))

  -- a sum over the runs that wait at a line is one over their instances
  sum_of_waiting : (line : ℕ) (work : ℕ → ℕ → ℕ) → sum_by (λ (run : Run C). work run.instance run.marks.steps) (runs_waiting_at line runs)
      ≡ sum_by (λ t. work t (reached q t)) (filter (λ t. is_on line (at s.machine q t (reached q t))) (range_with_len 0 s.machine.instances))
  sum_of_waiting line work =
      sum_of_sent (λ (run : Run C). run.instance) (λ (run : Run C). run.here.line == line) (λ t. is_on line (at s.machine q t (reached q t))) (λ (run : Run C). work run.instance run.marks.steps) (λ t. work t (reached q t)) runs
      (λ k d lt.
      let run = get_or runs k d in (
        waits_alike line run (are k d lt) (settled k d lt),
        ap (work run.instance) (settled_reached run (are k d lt) (settled k d lt)),
      ))
      ∙ ap (λ ts. sum_by (λ t. work t (reached q t)) (filter (λ t. is_on line (at s.machine q t (reached q t))) ts)) on_each

  pub child_operations : (line : ℕ) (child : Program) → operations_left s.machine child (reached child) (runs_waiting_at line runs) ≡ operations_of_child s reached q line child
  child_operations line child = sum_of_waiting line (λ t step. operations_made s.machine child t (reached child t) - operations_made s.machine child t step)

  pub child_copies : (line : ℕ) (child : Program) → 2 * length (runs_waiting_at line runs) + marks_left (reached child) (runs_waiting_at line runs) ≡ copies_of_child s reached q line child
  child_copies line child =
      sym (sum_of_more (λ (run : Run C). marks_between run.marks.steps (reached child run.instance)) 2 (runs_waiting_at line runs))
      ∙ sum_of_waiting line (λ t step. 2 + marks_between step (reached child t))
