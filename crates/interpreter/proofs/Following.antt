-- Runs on their way: what comes next, and that a step leads on.
use Rattle.std.proofs.Common.{◌≡◌, ◌≢◌, ℕ, zero, suc, ◌+◌, ◌-◌, ◌<◌, ◌≤◌, Bool, length, Some, None, refl, sym, ◌∙◌, ap, subst, inl, inr, arith, le-add_right}
use Rattle.std.specs.Prelude.{◌↔◌, IsTrue, option_and_then, IfSome}
use Rattle.std.proofs.lemmas.Option.{none-some, same_Some, option_and_then_some}
use Rattle.std.proofs.lemmas.Bool.{cases_lt, cases_cond, true≢false}
use Rattle.flag_rules.specs.Flags.{holds_at}
use Rattle.flag_rules.specs.Counts.{raised}
use Rattle.loop_witness.specs.declared.turn.Turn.{Turn}
use Rattle.loop_witness.specs.declared.turn.Turn.TheVariants as turns
use Rattle.loop_witness.specs.Marks.{Counted, IsLatest}
use Rattle.loop_witness.specs.Turns.{IsAnswer}
use Rattle.loop_witness.specs.Repetitions.{Repeats, NoneNoticedBy, Watches, IsTold as IsToldOf}
use Rattle.loop_witness.proofs.MarkSteps.{latest_half}
use Rattle.loop_witness.proofs.Repeating.{unnoticeable}
use Rattle.loop_witness.proofs.Watching.{told}
use Rattle.program_model.specs.declared.instr.Instr.{Instr}
use Rattle.program_model.specs.declared.instr.Instr.TheVariants.{Op, Goto, End}
use Rattle.program_model.specs.Semantics.{Semantics}
use Rattle.program_model.specs.Program.{Program, line_at, IsPartial, IsInstr}
use Rattle.program_model.specs.Run.{Config, first, step, next, at}
use Rattle.program_model.specs.declared.standing.Stand.{Stand}
use Rattle.program_model.specs.declared.standing.Stand.TheVariants as stands
use Rattle.program_model.specs.Standing.{IsNoticed, Comes, NothingBefore, IsStanding}
use Rattle.program_model.specs.Counts.{op_count, op_here, operations_made}
use Rattle.program_model.proofs.Alphabets.{contains_op, contains_jump, no_inner_end}
use Rattle.program_model.proofs.Runs.{open_stops, last_stops, no_later}
use Rattle.interpreter.specs.declared.configuration.Configuration.{Configuration}
use Rattle.interpreter.specs.declared.run.Run.{Run}
use Rattle.interpreter.specs.Runs.{config_of, IsMarkOf, StandsFor, IsRunOf, IsTold}
use Rattle.interpreter.specs.Inner.Progress.{IsRepeated, GoesOn, marked_after, HasStepped}
use Rattle.interpreter.proofs.Noticing.{is_run, noticeable_in, noticed_out}

-- ---- the lines where a run comes

-- the operations of a line that is not the last are there
pub op_is_there : (ops : ℕ) (q : Program) (line : ℕ) (instr : Instr) → IsPartial ops q → line + 1 < length q → line_at q line ≡ Some instr → (op : ℕ) → instr ≡ Op op → op < ops
op_is_there ops q line instr partial inner defined op is = (contains_op ops (length q) line op inner).0 (subst (IsInstr ops (length q) line) is (partial.each line instr defined))

-- a step from a line that is not the last leads to a line
step_within : {C : Type 0} (m : Semantics C) (q : Program) (t : ℕ) (instr : Instr) (here after : Config C) → IsInstr m.ops (length q) here.line instr → here.line + 1 < length q → step m t instr here ≡ Some after → after.line < length q
step_within m q t (Op op) here after fits inner e = let line : here.line + 1 ≡ after.line = ap (λ (config : Config _). config.line) (same_Some _ after e) in omega arith
step_within m q t (Goto target cond) here after fits inner e =
    let line = ap (λ (config : Config _). config.line) (same_Some _ after e) in
    let within = ((contains_jump m.ops (length q) here.line target cond inner).0 fits).within in
    elim (cases_cond (holds_at cond (m.sign here.value)) target (here.line + 1) after.line (sym line)) [ inl k ↦ omega arith | inr k ↦ omega arith ]
step_within m q t End here after fits inner e = absurd (none-some after e)

-- the last line has no step
last_has_none : {C : Type 0} (m : Semantics C) (q : Program) (t : ℕ) (here after : Config C) → IsPartial m.ops q → here.line + 1 ≡ length q → next m q t here ≡ Some after → ⊥
last_has_none m q t here after partial last e =
    let same : here.line ≡ length q - 1 = omega arith in
    none-some after (sym (ap (option_and_then (λ w. step m t w here)) (ap (line_at q) same ∙ partial.last)) ∙ e)

-- a run of a partial program is on one of its lines
pub at_within : {C : Type 0} (m : Semantics C) (q : Program) (t s : ℕ) (here : Config C) → IsPartial m.ops q → at m q t s ≡ Some here → here.line < length q
at_within m q t zero here partial e =
    let line : 0 ≡ here.line = ap (λ (config : Config _). config.line) (same_Some (first m t) here e) in
    let some = partial.some in
    omega arith
at_within m q t (suc s) here partial e =
    option_and_then_some (next m q t) (at m q t s) here e
    (λ before came stepped. elim (cases_lt (before.line + 1) (length q)) [
      | inl inner ↦ option_and_then_some (λ w. step m t w before) (line_at q before.line) here stepped
          (λ instr defined made. step_within m q t instr before here (partial.each before.line instr defined) inner made)
      | inr h ↦
          let within = at_within m q t s before partial came in
          absurd (last_has_none m q t before here partial (omega arith) stepped)
    ])

-- the instruction of a line that is not the last has a step
step_made : {C : Type 0} (m : Semantics C) (q : Program) (t : ℕ) (instr : Instr) (line : ℕ) (here after : Config C) → IsInstr m.ops (length q) line instr → line + 1 < length q → IfSome (step m t instr here) (λ config. after ≡ config) → step m t instr here ≡ Some after
step_made m q t (Op op) line here after fits inner e = ap Some (sym e)
step_made m q t (Goto target cond) line here after fits inner e = ap Some (sym e)
step_made m q t End line here after fits inner e = absurd (no_inner_end m.ops (length q) line inner fits)

-- ---- counts

raised_more : (count x y more : ℕ) → y ≤ x → raised (raised count (x - y)) more ≡ raised count (x + more - y)
raised_more count x y more h = omega arith

pub operations_grow : {C : Type 0} (m : Semantics C) (q : Program) (t from to : ℕ) → from ≤ to → operations_made m q t from ≤ operations_made m q t to
operations_grow m q t from zero le = let same : from ≡ 0 = omega arith in omega (arith, ap (operations_made m q t) same)
operations_grow m q t from (suc to) le = elim (cases_lt to from) [
  | inl h ↦ let same : from ≡ suc to = omega arith in omega (arith, ap (operations_made m q t) same)
  | inr h ↦
      let before = operations_grow m q t from to h in
      let more = le-add_right (operations_made m q t to) (op_here q (at m q t to)) in
      omega arith
]

-- ---- the first configuration

-- a run that has made no step is one of each program
pub begins : {C : Type 0} (m : Semantics C) (belongs : ℕ → C → Type 0) (q : Program) (run : Run C) → run.instance < m.instances → config_of run.here ≡ first m run.instance → config_of run.marked ≡ first m run.instance → run.marks ≡ record { steps = 0; mark = 0 } → IsLatest run.marks →
    belongs run.instance run.here.value → belongs run.instance run.marked.value → IsRunOf m belongs q run
begins m belongs q run within here marked marks latest here_belongs marked_belongs =
    let steps : run.marks.steps ≡ 0 = ap (λ (marks : Counted). marks.steps) marks in
    let mark : run.marks.mark ≡ 0 = ap (λ (marks : Counted). marks.mark) marks in
    record {
      within = within;
      stands = record {
        instance = refl;
        steps = refl;
        here = ap (at m q run.instance) steps ∙ ap Some (sym here);
        marked = ap (at m q run.instance) mark ∙ ap Some (sym marked);
        mark = inr (λ from x. let before = x.noticeable.loops.before in omega arith, latest);
        unnoticed = λ from to few x. omega arith;
      };
      here_belongs = here_belongs;
      marked_belongs = marked_belongs;
    }

module _ {C : Type 0} (m : Semantics C) (belongs : ℕ → C → Type 0) (q : Program) (partial : IsPartial m.ops q) (run : Run C) (one : IsRunOf m belongs q run) where
  -- ---- what comes

  -- before the run's step nothing comes
  nothing_before : NothingBefore m q run.instance run.marks.steps
  nothing_before r stands.Ended l c = no_later m q run.instance (suc r) run.marks.steps (config_of run.here) (last_stops m m.ops q run.instance r c.config partial c.comes c.last) (omega arith) one.stands.here
  nothing_before r stands.Unmet l c = no_later m q run.instance (suc r) run.marks.steps (config_of run.here) (last_stops m m.ops q run.instance r c.1.config partial c.1.comes c.1.last) (omega arith) one.stands.here
  nothing_before r (stands.Waits line) l c = no_later m q run.instance (suc r) run.marks.steps (config_of run.here) (open_stops m q run.instance r c.config c.comes (ap (line_at q) c.here ∙ c.is_open.undefined)) (omega arith) one.stands.here
  nothing_before r (stands.Repeats i j) l c = let same : j ≡ r = c.0 in one.stands.unnoticed i j (omega arith) c.1
  nothing_before r stands.AtLimit l c = c
  nothing_before r stands.QuotaUsed l c = c

  -- where no repetition is noticed at the run's step, the marks watch the run
  watching : ((from : ℕ) → IsNoticed m q run.instance from run.marks.steps → ⊥) → IsLatest run.marks → Watches (at m q run.instance) run.marks
  watching none latest =
      let none_by : NoneNoticedBy (at m q run.instance) run.marks.steps =
      λ from to few x. elim (cases_lt to run.marks.steps) [
        | inl h ↦ one.stands.unnoticed from to h (noticed_out m q run.instance from to x)
        | inr h ↦
            let same : to ≡ run.marks.steps = omega arith in
            none from (subst (IsNoticed m q run.instance from) same (noticed_out m q run.instance from to x))
      ] in
      record {
        latest = latest;
        unnoticed = λ i j few x. unnoticeable (next m q run.instance) (at m q run.instance) (is_run m q run.instance) run.marks.steps none_by (suc i) i j (omega arith) few x;
      }

  -- where the run is in the marked configuration once more, that is the repetition that is noticed
  noticed : IsRepeated run → IsNoticed m q run.instance run.marks.mark run.marks.steps
  noticed again = elim one.stands.mark [
    | inl x ↦ x
    | inr none ↦
        let half = latest_half run.marks none.1 in
        absurd ((watching none.0 none.1).unnoticed run.marks.mark run.marks.steps (omega arith) (record {
          mark = none.1.is_mark_step;
          soon = omega arith;
          repeats = record { config = config_of run.here; before = again.0; first_time = one.stands.marked ∙ ap Some (sym again.1); second_time = one.stands.here };
        }))
  ]

  -- else the marks watch the run
  watches : (IsRepeated run → ⊥) → Watches (at m q run.instance) run.marks
  watches apart = elim one.stands.mark [
    | inl x ↦ absurd (apart (x.noticeable.loops.before, same_Some (config_of run.here) (config_of run.marked) (sym one.stands.here ∙ x.noticeable.loops.second_time ∙ sym x.noticeable.loops.first_time ∙ one.stands.marked)))
    | inr none ↦ watching none.0 none.1
  ]

  pub within_lines : run.here.line < length q
  within_lines = at_within m q run.instance run.marks.steps (config_of run.here) partial one.stands.here

  -- where no case of a standing holds, the run goes on
  pub goes_on : (instr : Instr) → run.here.line ≢ length q - 1 → line_at q run.here.line ≡ Some instr → (IsRepeated run → ⊥) → GoesOn m q run instr
  goes_on instr inner defined apart = let within = within_lines in record { inner = omega (arith, inner); defined = defined; watches = watches apart }

  -- where the run goes on, nothing comes at its step
  nothing_here : (instr : Instr) → GoesOn m q run instr → (x : Stand) → Comes m q run.instance run.marks.steps x → ⊥
  nothing_here instr goes stands.Ended c =
      let here : c.config ≡ config_of run.here = same_Some c.config (config_of run.here) (sym c.comes ∙ one.stands.here) in
      let line : c.config.line ≡ run.here.line = ap (λ (config : Config C). config.line) here in
      let last = c.last in
      let inner = goes.inner in
      omega arith
  nothing_here instr goes stands.Unmet c =
      let here : c.1.config ≡ config_of run.here = same_Some c.1.config (config_of run.here) (sym c.1.comes ∙ one.stands.here) in
      let line : c.1.config.line ≡ run.here.line = ap (λ (config : Config C). config.line) here in
      let last = c.1.last in
      let inner = goes.inner in
      omega arith
  nothing_here instr goes (stands.Waits line) c =
      let here : c.config ≡ config_of run.here = same_Some c.config (config_of run.here) (sym c.comes ∙ one.stands.here) in
      none-some instr (sym c.is_open.undefined ∙ ap (line_at q) (sym c.here ∙ ap (λ (config : Config C). config.line) here) ∙ goes.defined)
  nothing_here instr goes (stands.Repeats i j) c = let same : j ≡ run.marks.steps = c.0 in goes.watches.unnoticed i j (omega arith) (noticeable_in m q run.instance i j c.1.noticeable)
  nothing_here instr goes stands.AtLimit c = c
  nothing_here instr goes stands.QuotaUsed c = c

  pub nothing_up_to : (instr : Instr) → GoesOn m q run instr → NothingBefore m q run.instance (run.marks.steps + 1)
  nothing_up_to instr goes r x l c = elim (cases_lt r run.marks.steps) [
    | inl h ↦ nothing_before r x h c
    | inr h ↦
        let same : r ≡ run.marks.steps = omega arith in
        nothing_here instr goes x (subst (λ s. Comes m q run.instance s x) same c)
  ]

  -- ---- where the run stands

  module _ (limit : ℕ) (in_limit : run.marks.steps ≤ limit) where
    -- on the last line it ended, or ended unmet
    pub stands_ended : (stand : Stand) (missing : ℕ) → run.here.line + 1 ≡ length q → m.missing run.instance run.here.value ≡ missing → (missing ≡ 0 → stand ≡ stands.Ended) → (0 < missing → stand ≡ stands.Unmet) → IsStanding m q run.instance limit run.marks.steps stand
    stands_ended stand zero last lacks met not_met = rw (met refl) (in_limit, record { config = config_of run.here; comes = one.stands.here; last = last; lacks = lacks }, nothing_before)
    stands_ended stand (suc missing) last lacks met not_met = rw (not_met (omega arith)) (in_limit, (missing, record { config = config_of run.here; comes = one.stands.here; last = last; lacks = lacks }), nothing_before)

    -- on an undefined line it waits
    pub stands_waiting : line_at q run.here.line ≡ None → IsStanding m q run.instance limit run.marks.steps (stands.Waits run.here.line)
    stands_waiting undefined = (in_limit, record { config = config_of run.here; comes = one.stands.here; here = refl; is_open = record { within = within_lines; undefined = undefined } }, nothing_before)

    -- in the marked configuration once more it repeats
    pub stands_looping : IsRepeated run → IsStanding m q run.instance limit run.marks.steps (stands.Repeats run.marks.mark run.marks.steps)
    stands_looping again = (in_limit, (refl, noticed again), nothing_before)

    -- at the limit it stands there
    pub stands_at_limit : (instr : Instr) → GoesOn m q run instr → run.marks.steps ≡ limit → IsStanding m q run.instance limit run.marks.steps stands.AtLimit
    stands_at_limit instr goes same = (same, rw (sym same, one.stands.here) refl, rw (sym same) (nothing_up_to instr goes))

  -- ---- a step leads on

  module _ (instr : Instr) (goes : GoesOn m q run instr) (new : Run C) (repeated : Bool) (stepped : HasStepped m instr run new repeated) where
    after_step : new.marks.steps ≡ suc run.marks.steps
    after_step = let counted = stepped.counted in omega arith

    comes_next : at m q run.instance new.marks.steps ≡ Some (config_of new.here)
    comes_next =
        ap (at m q run.instance) after_step
        ∙ ap (option_and_then (next m q run.instance)) one.stands.here
        ∙ ap (option_and_then (λ w. step m run.instance w (config_of run.here))) goes.defined
        ∙ step_made m q run.instance instr run.here.line (config_of run.here) (config_of new.here) (partial.each run.here.line instr goes.defined) goes.inner stepped.stepped

    repeats_so : IsTrue repeated ↔ Repeats (at m q run.instance) run.marks.mark new.marks.steps
    repeats_so = (
      λ yes.
          let counted = stepped.counted in
          let reached = goes.watches.latest.reached in
          record { config = config_of new.here; before = omega arith; first_time = one.stands.marked ∙ ap Some (sym (stepped.same.0 yes)); second_time = comes_next },
      λ x. stepped.same.1 (same_Some (config_of new.here) (config_of run.marked) (sym comes_next ∙ x.second_time ∙ sym x.first_time ∙ one.stands.marked)),
    )

    MarkOn : Turn → Type 0
    MarkOn turn = (at m q run.instance new.marks.mark ≡ Some (config_of new.marked)) × IsMarkOf m q run.instance new.marks

    mark_on : (turn : Turn) → IsAnswer repeated run.marks new.marks turn → IsToldOf (at m q run.instance) new.marks turn → new.marked ≡ marked_after turn new.here run.marked → MarkOn turn
    unfolding MarkOn
    mark_on (turns.Repeat from to) answer x marked =
        let mark : from ≡ new.marks.mark = answer.1 ∙ sym answer.3 in
        let here = subst (λ i. IsNoticed m q run.instance i to) mark (noticed_out m q run.instance from to x) in
        (ap (at m q run.instance) answer.3 ∙ one.stands.marked ∙ ap (λ (c : Configuration C). Some (config_of c)) (sym marked), inl (subst (IsNoticed m q run.instance new.marks.mark) answer.2 here))
    mark_on turns.MarkHere answer x marked = (
      ap (at m q run.instance) answer.2 ∙ comes_next ∙ ap (λ (c : Configuration C). Some (config_of c)) (sym marked),
      inr (λ from y. x.unnoticed from new.marks.steps (omega arith) (noticeable_in m q run.instance from new.marks.steps y.noticeable), x.latest),
    )
    mark_on turns.Go answer x marked = (
      ap (at m q run.instance) answer.2 ∙ one.stands.marked ∙ ap (λ (c : Configuration C). Some (config_of c)) (sym marked),
      inr (λ from y. x.unnoticed from new.marks.steps (omega arith) (noticeable_in m q run.instance from new.marks.steps y.noticeable), x.latest),
    )

    marked_on : MarkOn stepped.turn
    marked_on = mark_on stepped.turn stepped.answer (told (at m q run.instance) run.marks new.marks goes.watches stepped.counted repeated stepped.turn stepped.answer repeats_so) stepped.marked

    stands_on : StandsFor m q run.instance new.marks.steps new
    unfolding MarkOn
    stands_on = record {
      instance = stepped.instance;
      steps = refl;
      here = comes_next;
      marked = marked_on.0;
      mark = marked_on.1;
      unnoticed = λ from to few x. let counted = stepped.counted in goes.watches.unnoticed from to (omega arith) (noticeable_in m q run.instance from to x.noticeable);
    }

    -- after a step the run is the program's
    pub follows_on : belongs run.instance new.here.value → belongs run.instance new.marked.value → IsRunOf m belongs q new
    follows_on here marked = record {
      within = rw stepped.instance one.within;
      stands = subst (λ t. StandsFor m q t new.marks.steps new) (sym stepped.instance) stands_on;
      here_belongs = subst (λ t. belongs t new.here.value) (sym stepped.instance) here;
      marked_belongs = subst (λ t. belongs t new.marked.value) (sym stepped.instance) marked;
    }

    again_so : (turn : Turn) → IsAnswer repeated run.marks new.marks turn → new.marked ≡ marked_after turn new.here run.marked → IsTrue repeated ↔ IsRepeated new
    again_so (turns.Repeat from to) answer marked =
        let counted = stepped.counted in
        let reached = goes.watches.latest.reached in
        let mark = answer.3 in
        (λ yes. (omega arith, stepped.same.0 yes ∙ ap config_of (sym marked)), λ again. answer.0)
    again_so turns.MarkHere answer marked =
        let mark = answer.2 in
        (λ yes. absurd (true≢false (sym yes ∙ answer.0)), λ again. let less = again.0 in absurd (omega arith))
    again_so turns.Go answer marked =
        (λ yes. absurd (true≢false (sym yes ∙ answer.0)), λ again. stepped.same.1 (again.1 ∙ ap config_of marked))

    -- and the test tells whether it repeats there
    pub repeated_on : IsTrue repeated ↔ IsRepeated new
    repeated_on = again_so stepped.turn stepped.answer stepped.marked

    -- ---- counts

    operations_next : operations_made m q run.instance (suc run.marks.steps) ≡ operations_made m q run.instance run.marks.steps + op_count (Some instr)
    operations_next =
        let here : op_here q (at m q run.instance run.marks.steps) ≡ op_count (line_at q run.here.line) = ap (op_here q) one.stands.here in
        ap (λ n. operations_made m q run.instance run.marks.steps + n) (here ∙ ap op_count goes.defined)

    -- a count that rose by the operations from a step on, up to the run's step, and then by the step that was made
    counted_here : (entry start mid end : ℕ) → entry ≤ run.marks.steps →
        mid ≡ raised start (operations_made m q run.instance run.marks.steps - operations_made m q run.instance entry) → end ≡ raised mid (op_count (Some instr)) →
        end ≡ raised start (operations_made m q run.instance new.marks.steps - operations_made m q run.instance entry)
    counted_here entry start mid end le x y =
        y
        ∙ ap (λ count. raised count (op_count (Some instr))) x
        ∙ raised_more start (operations_made m q run.instance run.marks.steps) (operations_made m q run.instance entry) (op_count (Some instr)) (operations_grow m q run.instance entry run.marks.steps le)
        ∙ ap (λ n. raised start (n - operations_made m q run.instance entry)) (sym operations_next ∙ ap (operations_made m q run.instance) (sym after_step))

    pub counted_on : (entry start mid end : ℕ) → entry ≤ run.marks.steps →
        mid ≡ raised start (operations_made m q run.instance run.marks.steps - operations_made m q run.instance entry) → end ≡ raised mid (op_count (Some instr)) →
        end ≡ raised start (operations_made m q new.instance new.marks.steps - operations_made m q new.instance entry)
    counted_on entry start mid end le x y =
        subst (λ t. end ≡ raised start (operations_made m q t new.marks.steps - operations_made m q t entry)) (sym stepped.instance) (counted_here entry start mid end le x y)

-- ---- what is told

-- a standing is told as it is
pub told_standing : {C : Type 0} (m : Semantics C) (q : Program) (t quota limit from to : ℕ) (stand : Stand) → to ≤ from + quota → IsStanding m q t limit to stand → IsTold m q t quota limit from to stand
told_standing m q t quota limit from to stands.Ended few x = (few, x)
told_standing m q t quota limit from to stands.Unmet few x = (few, x)
told_standing m q t quota limit from to (stands.Repeats i j) few x = (few, x)
told_standing m q t quota limit from to (stands.Waits line) few x = (few, x)
told_standing m q t quota limit from to stands.AtLimit few x = (few, x)
told_standing m q t quota limit from to stands.QuotaUsed few x = absurd x
