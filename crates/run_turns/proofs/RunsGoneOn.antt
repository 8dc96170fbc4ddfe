-- Runs that went on: one of them, one time after another, and some of them alone.
use Rattle.std.proofs.Common.{◌≡◌, ℕ, ◌+◌, ◌-◌, ◌<◌, ◌≤◌, List, ◌++◌, length, get_or, set, refl, sym, ◌∙◌, ap, subst, arith}
use Rattle.std.specs.Prelude.{Contains, sum_by}
use Rattle.std.proofs.lemmas.List.{map-set, set-get_or, map-append, get_or-map, length-map}
use Rattle.std.proofs.lemmas.List.Elements.{All-set, All-append, Contains-get_or, Contains-append_left}
use Rattle.std.proofs.lemmas.List.Sums.{sum_by-set, sum_by-append}
use Rattle.flag_rules.specs.Counts.{raised}
use Rattle.program_model.specs.Semantics.{Semantics}
use Rattle.program_model.specs.Program.{Program, IsPartial}
use Rattle.program_model.specs.Counts.{operations_made}
use Rattle.interpreter.specs.declared.run.Run.{Run}
use Rattle.interpreter.specs.Counts.{marks_up_to, marks_between, RaisedAtMost}
use Rattle.interpreter.specs.Runs.{IsRunOf}
use Rattle.run_turns.specs.Settling.{instances_of, HasInstance, AreRunsOf, AreReached, operations_left, marks_left}
use Rattle.run_turns.specs.Inner.Rounds.{IsPaid, HaveGoneOn}
use Rattle.interpreter.proofs.MarkCounts.{marks_grow}
use Rattle.run_turns.proofs.RunsStanding.{operations_grow, not_past}

-- ---- counts

paid_nothing : (left count : ℕ) → IsPaid left left count count
paid_nothing left count = (omega arith, (omega arith, omega arith))

-- what is left at the end is left over
pub paid_at_most : (left last a b : ℕ) → IsPaid left last a b → RaisedAtMost left a b
paid_at_most left last a b h = (omega (arith, h), omega (arith, h))

paid_on : (left mid last a b c : ℕ) → IsPaid left mid a b → IsPaid mid last b c → IsPaid left last a c
paid_on left mid last a b c h k = (omega (arith, h, k), (omega (arith, h, k), omega (arith, h, k)))

-- what is left of a work by runs, which each make so much of it by a step
abbrev left_by : {C : Type 0} → (ℕ → ℕ → ℕ) → (ℕ → ℕ) → List (Run C) → ℕ
left_by made reached runs = sum_by (λ run. made run.instance (reached run.instance) - made run.instance run.marks.steps) runs

module _ {C : Type 0} (m : Semantics C) (belongs : ℕ → C → Type 0) (q : Program) (limit : ℕ) where
  -- ---- no run, and one time after another

  pub gone_none : (runs : List (Run C)) (acts copies : ℕ) → AreRunsOf m belongs q limit runs → HaveGoneOn m belongs q limit runs runs acts acts copies copies
  gone_none runs acts copies h = record {
    runs = h;
    instances = refl;
    steps = omega arith;
    acts = λ reached r. paid_nothing (operations_left m q reached runs) acts;
    copies = λ reached r. paid_nothing (marks_left reached runs) copies;
  }

  same_reached : (reached : ℕ → ℕ) (old new : List (Run C)) → instances_of new ≡ instances_of old → AreReached m q limit reached old → AreReached m q limit reached new
  same_reached reached old new e r = λ t among. r t (subst (λ ts. Contains ts t) e among)

  pub gone_on : (old mid new : List (Run C)) (acts acts_mid acts_new copies copies_mid copies_new : ℕ) →
      HaveGoneOn m belongs q limit old mid acts acts_mid copies copies_mid → HaveGoneOn m belongs q limit mid new acts_mid acts_new copies_mid copies_new → HaveGoneOn m belongs q limit old new acts acts_new copies copies_new
  gone_on old mid new acts acts_mid acts_new copies copies_mid copies_new h k =
      let before = h.steps in
      let after = k.steps in
      record {
        runs = k.runs;
        instances = k.instances ∙ h.instances;
        steps = omega arith;
        acts = λ reached r. paid_on (operations_left m q reached old) (operations_left m q reached mid) (operations_left m q reached new) acts acts_mid acts_new (h.acts reached r) (k.acts reached (same_reached reached old mid h.instances r));
        copies = λ reached r. paid_on (marks_left reached old) (marks_left reached mid) (marks_left reached new) copies copies_mid copies_new (h.copies reached r) (k.copies reached (same_reached reached old mid h.instances r));
      }

  -- ---- some of the runs

  module _ (old new rest : List (Run C)) (acts acts_new copies copies_new : ℕ) (gone : HaveGoneOn m belongs q limit old new acts acts_new copies copies_new) (others : AreRunsOf m belongs q limit rest) where
    joined_instances : (runs : List (Run C)) → instances_of (runs ++ rest) ≡ instances_of runs ++ instances_of rest
    joined_instances runs = map-append (λ (run : Run C). run.instance) runs rest

    among : (reached : ℕ → ℕ) → AreReached m q limit reached (old ++ rest) → AreReached m q limit reached old
    among reached r = λ t here. r t (subst (λ ts. Contains ts t) (sym (joined_instances old)) (Contains-append_left (instances_of old) (instances_of rest) t here))

    paid_among : (f : Run C → ℕ) (a b : ℕ) → IsPaid (sum_by f old) (sum_by f new) a b → IsPaid (sum_by f (old ++ rest)) (sum_by f (new ++ rest)) a b
    paid_among f a b h =
        let one = sum_by-append f old rest in
        let other = sum_by-append f new rest in
        (omega (arith, h, one, other), (omega (arith, h, one, other), omega (arith, h, one, other)))

    pub gone_among : HaveGoneOn m belongs q limit (old ++ rest) (new ++ rest) acts acts_new copies copies_new
    gone_among =
        let one = sum_by-append (λ (run : Run C). limit - run.marks.steps) old rest in
        let other = sum_by-append (λ (run : Run C). limit - run.marks.steps) new rest in
        let fewer = gone.steps in
        record {
          runs = All-append (λ (run : Run C). IsRunOf m belongs q run × (run.marks.steps ≤ limit)) new rest gone.runs others;
          instances = joined_instances new ∙ ap (λ ts. ts ++ instances_of rest) gone.instances ∙ sym (joined_instances old);
          steps = omega (arith, one, other, fewer);
          acts = λ reached r. paid_among (λ run. operations_made m q run.instance (reached run.instance) - operations_made m q run.instance run.marks.steps) acts acts_new (gone.acts reached (among reached r));
          copies = λ reached r. paid_among (λ run. marks_between run.marks.steps (reached run.instance)) copies copies_new (gone.copies reached (among reached r));
        }

  -- ---- one run

  module _ (partial : IsPartial m.ops q) (runs : List (Run C)) (place : ℕ) (x y : Run C) (within : place < length runs) (here : x ≡ get_or runs place x) (same : y.instance ≡ x.instance) where
    here_instance : get_or (instances_of runs) place x.instance ≡ x.instance
    here_instance = get_or-map (λ (run : Run C). run.instance) runs place x x.instance within ∙ ap (λ (run : Run C). run.instance) (sym here)

    is_among : HasInstance runs x.instance
    is_among =
        let inside : place < length (instances_of runs) = omega (arith, length-map runs (λ (run : Run C). run.instance)) in
        subst (Contains (instances_of runs)) here_instance (Contains-get_or (instances_of runs) place x.instance inside)

    pub same_instances : instances_of (set runs place y) ≡ instances_of runs
    same_instances =
        map-set (λ (run : Run C). run.instance) runs place y
        ∙ ap (set (instances_of runs) place) (same ∙ sym here_instance)
        ∙ set-get_or (instances_of runs) place x.instance

    -- the sum over the runs, where what one of them adds to it fell
    pub sum_after : (f : Run C → ℕ) → sum_by f (set runs place y) + f x ≡ sum_by f runs + f y
    sum_after f = ap (λ (run : Run C). sum_by f (set runs place y) + f run) here ∙ sum_by-set f runs place y x within

    paid_one : (made : ℕ → ℕ → ℕ) (reached : ℕ → ℕ) → ((t from to : ℕ) → from ≤ to → made t from ≤ made t to) → x.marks.steps ≤ y.marks.steps → y.marks.steps ≤ reached y.instance →
        (a b : ℕ) → RaisedAtMost (made x.instance y.marks.steps - made x.instance x.marks.steps) a b → IsPaid (left_by made reached runs) (left_by made reached (set runs place y)) a b
    paid_one made reached grow on not_past a b h =
        let total = sum_after (λ run. made run.instance (reached run.instance) - made run.instance run.marks.steps) in
        let mine : made y.instance (reached y.instance) - made y.instance y.marks.steps ≡ made x.instance (reached x.instance) - made x.instance y.marks.steps = ap (λ t. made t (reached t) - made t y.marks.steps) same in
        let first = grow x.instance x.marks.steps y.marks.steps on in
        let second = grow x.instance y.marks.steps (reached x.instance) (subst (λ t. y.marks.steps ≤ reached t) same not_past) in
        (omega (arith, total, mine, first, second, h), (omega (arith, total, mine, first, second, h), omega (arith, total, mine, first, second, h)))

    pub gone_one : AreRunsOf m belongs q limit runs → IsRunOf m belongs q y → x.marks.steps ≤ y.marks.steps → y.marks.steps ≤ limit → (acts acts_new copies copies_new : ℕ) →
        acts_new ≡ raised acts (operations_made m q x.instance y.marks.steps - operations_made m q x.instance x.marks.steps) → RaisedAtMost (marks_between x.marks.steps y.marks.steps) copies copies_new → HaveGoneOn m belongs q limit runs (set runs place y) acts acts_new copies copies_new
    gone_one are_runs is_run on in_limit acts acts_new copies copies_new a c =
        let total = sum_after (λ run. limit - run.marks.steps) in
        let not_past_at : (reached : ℕ → ℕ) → AreReached m q limit reached runs → y.marks.steps ≤ reached y.instance = λ reached r.
        let standing = r y.instance (subst (HasInstance runs) (sym same) is_among) in
        not_past m belongs q partial y is_run limit (reached y.instance) standing.0 in_limit standing.1 in
        record {
          runs = All-set (λ (run : Run C). IsRunOf m belongs q run × (run.marks.steps ≤ limit)) runs place y (is_run, in_limit) are_runs;
          instances = same_instances;
          steps = omega (arith, total, on);
          acts = λ reached r. paid_one (operations_made m q) reached (λ t. operations_grow m q t) on (not_past_at reached r) acts acts_new (omega (arith, a), omega (arith, a));
          copies = λ reached r. paid_one (λ t. marks_up_to) reached (λ t. marks_grow) on (not_past_at reached r) copies copies_new c;
        }
