-- Two runs that stand for one step of a program's run hold the same.
use Rattle.std.proofs.Common.{◌≡◌, ℕ, refl, sym, ◌∙◌, ap, subst, inl, inr, arith}
use Rattle.std.proofs.lemmas.Option.{same_Some}
use Rattle.std.proofs.lemmas.Bool.{cases_order}
use Rattle.loop_witness.specs.Marks.{Counted}
use Rattle.program_model.specs.Semantics.{Semantics}
use Rattle.program_model.specs.Program.{Program}
use Rattle.program_model.specs.Run.{Config, at}
use Rattle.program_model.specs.Standing.{IsNoticed}
use Rattle.interpreter.specs.declared.configuration.Configuration.{Configuration}
use Rattle.interpreter.specs.declared.run.Run.{Run}
use Rattle.interpreter.specs.Runs.{config_of, IsMarkOf, StandsFor}

-- ---- what holds the same is the same

marks_by : (x y : Counted) → x.steps ≡ y.steps → x.mark ≡ y.mark → x ≡ y
marks_by x y steps mark =
    let same : ◌≡◌ {A = Counted} (record { steps = x.steps; mark = x.mark }) y = rw (steps, mark) refl in same

here_by : {C : Type 0} (x y : Configuration C) → x.line ≡ y.line → x.value ≡ y.value → x ≡ y
here_by {C} x y line value =
    let same : ◌≡◌ {A = Configuration C} (record { line = x.line; value = x.value }) y = rw (line, value) refl in same

same_configuration : {C : Type 0} (x y : Configuration C) → config_of x ≡ config_of y → x ≡ y
same_configuration {C} x y e = here_by x y (ap (λ (config : Config C). config.line) e) (ap (λ (config : Config C). config.value) e)

run_by : {C : Type 0} (x y : Run C) → x.instance ≡ y.instance → x.here ≡ y.here → x.marked ≡ y.marked → x.marks ≡ y.marks → x ≡ y
run_by {C} x y instance here marked marks =
    let same : ◌≡◌ {A = Run C} (record { instance = x.instance; here = x.here; marked = x.marked; marks = x.marks }) y = rw (instance, here, marked, marks) refl in same

-- ---- runs

module _ {C : Type 0} (m : Semantics C) (q : Program) (t : ℕ) where
  -- of the repetitions that are noticed at one step there is one
  one_noticed : (a b s : ℕ) → IsNoticed m q t a s → IsNoticed m q t b s → a ≡ b
  one_noticed a b s x y = elim (cases_order a b) [
    | inl e ↦ e
    | inr o ↦ elim o [ inl h ↦ absurd (y.least_mark a s h x.noticeable) | inr h ↦ absurd (x.least_mark b s h y.noticeable) ]
  ]

  -- so the mark is where it is
  one_mark : (a b s : ℕ) → IsMarkOf m q t (record { steps = s; mark = a }) → IsMarkOf m q t (record { steps = s; mark = b }) → a ≡ b
  one_mark a b s x y = elim x [
    | inl noticed ↦ elim y [ inl other ↦ one_noticed a b s noticed other | inr none ↦ absurd (none.0 a noticed) ]
    | inr latest ↦ elim y [
      | inl noticed ↦ absurd (latest.0 b noticed)
      | inr other ↦
          let below = latest.1.greatest b other.1.is_mark_step other.1.reached in
          let above = other.1.greatest a latest.1.is_mark_step latest.1.reached in
          omega arith
    ]
  ]

  mark_at : (s : ℕ) (run : Run C) → StandsFor m q t s run → IsMarkOf m q t (record { steps = s; mark = run.marks.mark })
  mark_at s run x =
      let same : run.marks ≡ record { steps = s; mark = run.marks.mark } = marks_by run.marks (record { steps = s; mark = run.marks.mark }) x.steps refl in
      subst (IsMarkOf m q t) same x.mark

  pub same_run : (s : ℕ) (run other : Run C) → StandsFor m q t s run → StandsFor m q t s other → run ≡ other
  same_run s run other x y =
      let mark : run.marks.mark ≡ other.marks.mark = one_mark run.marks.mark other.marks.mark s (mark_at s run x) (mark_at s other y) in
      let here : config_of run.here ≡ config_of other.here = same_Some (config_of run.here) (config_of other.here) (sym x.here ∙ y.here) in
      let marked : config_of run.marked ≡ config_of other.marked = same_Some (config_of run.marked) (config_of other.marked) (sym x.marked ∙ ap (at m q t) mark ∙ y.marked) in
      run_by run other (x.instance ∙ sym y.instance) (same_configuration run.here other.here here) (same_configuration run.marked other.marked marked) (marks_by run.marks other.marks (x.steps ∙ sym y.steps) mark)
