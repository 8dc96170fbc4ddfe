-- The kept runs of a program in a child of it: those that wait at the line which the child defines go on, the others stay settled.
use Rattle.std.proofs.Common.{All, ◌≡◌, ◌≢◌, ◌⊎◌, ℕ, suc, ◌+◌, ◌<◌, ◌≤◌, Bool, true, List, [], ◌∷◌, map, filter, length, set, get_or, take, drop, cond, ◌++◌, Some, refl, sym, ◌∙◌, ap, subst, inl, inr, arith, length-set}
use Rattle.std.specs.Prelude.{◌==◌, slice_get, option_map, IsSomeAnd, Contains, AllPairs}
use Rattle.std.specs.List.{range_with_len}
use Rattle.std.proofs.lemmas.Option.{same_Some, slice_get-map, slice_get-get_or, get_or_from_slice_get}
use Rattle.std.proofs.lemmas.Bool.{cases_eq, eq-eqb}
use Rattle.std.proofs.lemmas.List.{map-set, set-get_or, get_or-map, length-map}
use Rattle.std.proofs.lemmas.List.Elements.{All-head, All-tail, All-filter, All-weaker, Contains-append_right, Contains-append_cases, Contains-push_cases, filter-append}
use Rattle.std.proofs.lemmas.List.FromFn.{length-range_with_len, get_or-range_with_len}
use Rattle.std.proofs.lemmas.List.Kept.{AllPairs-filter}
use Rattle.program_model.specs.declared.instr.Instr.{Instr}
use Rattle.program_model.specs.declared.standing.Stand.TheVariants as stands
use Rattle.program_model.specs.Semantics.{Semantics}
use Rattle.program_model.specs.Program.{Program, line_at, IsPartial, IsOpen, IsInstr, Extends, with_line}
use Rattle.program_model.specs.Run.{Config, Ends}
use Rattle.program_model.specs.Standing.{Waits, NothingBefore}
use Rattle.program_model.proofs.Places.{get-set_same, get-set_other}
use Rattle.program_model.proofs.Programs.{line_at-with_other, extends_with_line, partial_with_line}
use Rattle.program_model.proofs.Runs.{at-extends, open_stops, last_stops, no_later}
use Rattle.evaluations.specs.declared.standing.Standing.{Standing}
use Rattle.interpreter.specs.declared.run.Run.{Run}
use Rattle.interpreter.specs.Runs.{config_of, IsRunOf}
use Rattle.interpreter.proofs.Shared.{shared}
use Rattle.run_turns.specs.Settling.{instances_of, HasInstance, AreRising, AreRunsOf, HasSettled}
use Rattle.judgement.specs.Judging.{run_standing, IsSettledOn}
use Rattle.judgement.proofs.RunsSettled.{run_settles}
use Rattle.waiting_programs.specs.Programs.{with_runs, child_of, AreAmong}
use Rattle.synthesis.specs.Inner.Keeping.{runs_waiting_at, IsKeptFor}
use Rattle.synthesis.proofs.Lists.{read_at, split_at}

-- ---- lists

-- an element that passes a test is kept
passes : {X : Type 0} (p : X → Bool) (xs : List X) (i : ℕ) (x : X) → slice_get xs i ≡ Some x → p x ≡ true → Contains (filter p xs) x
passes p xs i x here pass =
    let split = split_at xs i x here in
    let kept : filter p (x ∷ drop (i + 1) xs) ≡ x ∷ filter p (drop (i + 1) xs) = ap (λ b. cond b (x ∷ filter p (drop (i + 1) xs)) (filter p (drop (i + 1) xs))) pass in
    subst (λ (ys : List _). Contains ys x) (sym (ap (filter p) split ∙ filter-append p (take i xs) (x ∷ drop (i + 1) xs) ∙ ap (λ ys. filter p (take i xs) ++ ys) kept))
    (Contains-append_right (filter p (take i xs)) (x ∷ filter p (drop (i + 1) xs)) x (0, omega arith, refl))

contains_none : (t : ℕ) → Contains [] t → ⊥
contains_none t h = let no = h.1 in omega arith

contains_cases : (s : ℕ) (ts : List ℕ) (t : ℕ) → Contains (s ∷ ts) t → (s ≡ t) ⊎ Contains ts t
contains_cases s ts t h = elim (Contains-append_cases (s ∷ []) ts t h) [
  | inl first ↦ elim (Contains-push_cases [] s t first) [ inl none ↦ absurd (contains_none t none) | inr e ↦ inl e ]
  | inr later ↦ inr later
]

-- ---- runs on each instance, in order

module _ {C : Type 0} (count : ℕ) where
  pub many : (runs : List (Run C)) → instances_of runs ≡ range_with_len 0 count → length runs ≡ count
  many runs on_each = sym (length-map runs (λ (run : Run C). run.instance)) ∙ ap (λ (ts : List ℕ). length ts) on_each ∙ length-range_with_len 0 count

  -- the run at a place is on that instance
  pub placed : (runs : List (Run C)) → instances_of runs ≡ range_with_len 0 count → (k : ℕ) (d : Run C) → k < length runs → (get_or runs k d).instance ≡ k
  placed runs on_each k d lt =
      let size = many runs on_each in
      let at : get_or (range_with_len 0 count) k 0 ≡ 0 + k = get_or-range_with_len 0 count k 0 (omega arith) in
      sym (get_or-map (λ (run : Run C). run.instance) runs k d 0 lt) ∙ ap (λ ts. get_or ts k 0) on_each ∙ at ∙ omega arith

  -- a run may stand in place of the one on its instance
  still_on_each : (runs : List (Run C)) (run : Run C) → run.instance < length runs → instances_of runs ≡ range_with_len 0 count → instances_of (set runs run.instance run) ≡ range_with_len 0 count
  still_on_each runs run within on_each =
      let here : get_or (instances_of runs) run.instance run.instance ≡ run.instance = get_or-map (λ (run : Run C). run.instance) runs run.instance run run.instance within ∙ placed runs on_each run.instance run within in
      map-set (λ (run : Run C). run.instance) runs run.instance run
      ∙ ap (set (instances_of runs) run.instance) (sym here)
      ∙ set-get_or (instances_of runs) run.instance run.instance
      ∙ on_each

  pub moved_on_each : (moved runs : List (Run C)) → All (λ run. run.instance < length runs) moved → instances_of runs ≡ range_with_len 0 count → instances_of (with_runs runs moved) ≡ range_with_len 0 count
  moved_on_each [] runs within on_each = on_each
  moved_on_each (run ∷ moved) runs within on_each =
      moved_on_each moved (set runs run.instance run)
      (All-weaker (λ (one : Run C). one.instance < length runs) (λ one. one.instance < length (set runs run.instance run)) (λ one l. omega (arith, l, length-set runs run.instance run)) moved (All-tail (λ (one : Run C). one.instance < length runs) run moved within))
      (still_on_each runs run (All-head (λ (one : Run C). one.instance < length runs) run moved within) on_each)

module _ {C : Type 0} where
  -- ---- runs in rising order

  rising_of : (runs : List (Run C)) → AllPairs (λ (a b : Run C). a.instance < b.instance) runs → AreRising runs
  rising_of [] h i j d lt within = absurd (omega arith)
  rising_of (run ∷ runs) h i j d lt within =
      let inside : j < length (run ∷ runs) = omega (arith, within, length-map (run ∷ runs) (λ (run : Run C). run.instance)) in
      omega (
        arith,
        get_or-map (λ (run : Run C). run.instance) (run ∷ runs) i run d (omega arith),
        get_or-map (λ (run : Run C). run.instance) (run ∷ runs) j run d inside,
        h i j run lt inside,
      )

  in_pairs : (count : ℕ) (runs : List (Run C)) → instances_of runs ≡ range_with_len 0 count → AllPairs (λ (a b : Run C). a.instance < b.instance) runs
  in_pairs count runs on_each i j d lt within = omega (arith, placed count runs on_each i d (omega arith), placed count runs on_each j d within, lt)

  pub all_rising : (count : ℕ) (runs : List (Run C)) → instances_of runs ≡ range_with_len 0 count → AreRising runs
  all_rising count runs on_each = rising_of runs (in_pairs count runs on_each)

  pub all_have : (count t : ℕ) (runs : List (Run C)) → instances_of runs ≡ range_with_len 0 count → t < count → HasInstance runs t
  all_have count t runs on_each below = subst (λ ts. Contains ts t) (sym on_each)
      (t, omega (arith, below, length-range_with_len 0 count), (let at : get_or (range_with_len 0 count) t t ≡ 0 + t = get_or-range_with_len 0 count t t below in at ∙ omega arith))

  -- the runs that wait at a line stay in order
  pub waiting_rising : (count line : ℕ) (runs : List (Run C)) → instances_of runs ≡ range_with_len 0 count → AreRising (runs_waiting_at line runs)
  waiting_rising count line runs on_each =
      rising_of (runs_waiting_at line runs)
      (AllPairs-filter (λ (a b : Run C). a.instance < b.instance) (λ (run : Run C). run.here.line == line) runs (in_pairs count runs on_each))

  has_instance : (runs : List (Run C)) (run : Run C) → Contains runs run → HasInstance runs run.instance
  has_instance runs run (k, lt, is) = (k, omega (arith, lt, length-map runs (λ (run : Run C). run.instance)), get_or-map (λ (run : Run C). run.instance) runs k run run.instance lt ∙ ap (λ (run : Run C). run.instance) is)

  -- of the run on each instance this holds, but for those on the instances of some others
  abbrev HoldsBut : (Run C → Type 0) → List (Run C) → List (Run C) → Type 0
  HoldsBut P runs moved = (t : ℕ) → t < length runs → HasInstance moved t ⊎ IsSomeAnd (slice_get runs t) P

  module _ (P : Run C → Type 0) where
    one_put : (run : Run C) (moved runs : List (Run C)) → P run → HoldsBut P runs (run ∷ moved) → HoldsBut P (set runs run.instance run) moved
    one_put run moved runs holds before t below =
        let inside : t < length runs = omega (arith, below, length-set runs run.instance run) in
        elim (cases_eq t run.instance) [
          | inl same ↦
              inr (subst (λ i. IsSomeAnd (slice_get (set runs run.instance run) i) P) (sym same)
              (subst (λ o. IsSomeAnd o P) (sym (get-set_same runs run.instance run (omega arith))) holds))
          | inr differs ↦ elim (before t inside) [
            | inl among ↦ elim (contains_cases run.instance (instances_of moved) t among) [ inl e ↦ absurd (differs (sym e)) | inr later ↦ inl later ]
            | inr is ↦ inr (subst (λ o. IsSomeAnd o P) (sym (get-set_other runs run.instance t run differs)) is)
          ]
        ]

    pub holds_with : (moved runs : List (Run C)) → All P moved → HoldsBut P runs moved → All P (with_runs runs moved)
    holds_with [] runs all before = λ k d lt. elim (before k lt) [
      | inl among ↦ absurd (contains_none k among)
      | inr is ↦ subst (λ o. IsSomeAnd o P) (slice_get-get_or runs k d lt) is
    ]
    holds_with (run ∷ moved) runs all before = holds_with moved (set runs run.instance run) (All-tail P run moved all) (one_put run moved runs (All-head P run moved all) before)

-- ---- one run

module _ {C : Type 0} (m : Semantics C) (belongs : ℕ → C → Type 0) where
  -- a run comes to nothing before its step
  nothing_before : (q : Program) (run : Run C) → IsPartial m.ops q → IsRunOf m belongs q run → NothingBefore m q run.instance run.marks.steps
  nothing_before q run partial is_run r stands.Ended l c = no_later m q run.instance (suc r) run.marks.steps (config_of run.here) (last_stops m m.ops q run.instance r c.config partial c.comes c.last) (omega arith) is_run.stands.here
  nothing_before q run partial is_run r stands.Unmet l c = no_later m q run.instance (suc r) run.marks.steps (config_of run.here) (last_stops m m.ops q run.instance r c.1.config partial c.1.comes c.1.last) (omega arith) is_run.stands.here
  nothing_before q run partial is_run r (stands.Waits line) l c = no_later m q run.instance (suc r) run.marks.steps (config_of run.here) (open_stops m q run.instance r c.config c.comes (ap (line_at q) c.here ∙ c.is_open.undefined)) (omega arith) is_run.stands.here
  nothing_before q run partial is_run r (stands.Repeats i j) l c = let same : j ≡ r = c.0 in is_run.stands.unnoticed i j (omega arith) c.1
  nothing_before q run partial is_run r stands.AtLimit l c = c
  nothing_before q run partial is_run r stands.QuotaUsed l c = c

  module _ (q : Program) (partial : IsPartial m.ops q) (line : ℕ) (here : IsOpen q line) (instr : Instr) (fits : IsInstr m.ops (length q) line instr) (limit : ℕ) where
    abbrev child : Program
    child = with_line q line instr

    pub child_partial : IsPartial m.ops child
    child_partial = partial_with_line m.ops q line instr partial here fits

    extends : Extends child q
    extends = extends_with_line q line instr here

    pub child_run : (run : Run C) → IsRunOf m belongs q run → IsRunOf m belongs child run
    child_run run is_run = shared m belongs q child run extends is_run

    within_limit : (run : Run C) → HasSettled m q limit run → run.marks.steps ≤ limit
    within_limit run settled = elim settled [ inl ended ↦ ended.0 | inr waits ↦ waits.1.0 ]

    ends_too : (t s : ℕ) → Ends m q t s → Ends m child t s
    ends_too t s x = record {
      config = x.config;
      comes = at-extends m child q t s x.config extends x.comes;
      last = x.last ∙ sym extends.size;
      lacks = x.lacks;
    }

    waits_too : (t s other : ℕ) → other ≢ line → Waits m q t s other → Waits m child t s other
    waits_too t s other differs x = record {
      config = x.config;
      comes = at-extends m child q t s x.config extends x.comes;
      here = x.here;
      is_open = record {
        within = let size = extends.size in let within = x.is_open.within in omega arith;
        undefined = line_at-with_other q line other instr differs ∙ x.is_open.undefined;
      };
    }

    -- a run that ended or waits at another line stands so in the child
    pub settled_too : (run : Run C) → IsRunOf m belongs q run → run.here.line ≢ line → HasSettled m q limit run → HasSettled m child limit run
    settled_too run is_run apart settled =
        let before = nothing_before child run child_partial (child_run run is_run) in
        elim settled [
          | inl ended ↦ inl (ended.0, ends_too run.instance run.marks.steps ended.1, before)
          | inr waits ↦
              let at_line : run.here.line ≡ waits.0 = ap (λ (c : Config C). c.line) (same_Some (config_of run.here) waits.1.1.config (sym is_run.stands.here ∙ waits.1.1.comes)) ∙ waits.1.1.here in
              inr (waits.0, (waits.1.0, waits_too run.instance run.marks.steps waits.0 (λ e. apart (at_line ∙ e)) waits.1.1, before))
        ]

    -- ---- the runs that are kept of a program, in its child

    module _ (runs : List (Run C)) (on_each : instances_of runs ≡ range_with_len 0 m.instances) (are : All (IsRunOf m belongs q) runs) (settled : All (HasSettled m q limit) runs) where
      pub waiting_are : AreRunsOf m belongs child limit (runs_waiting_at line runs)
      waiting_are = All-filter (λ (run : Run C). run.here.line == line) (λ (run : Run C). IsRunOf m belongs child run × (run.marks.steps ≤ limit)) runs
          (λ k d lt. (child_run (get_or runs k d) (are k d lt), within_limit (get_or runs k d) (settled k d lt)))

      pub waiting_within : All (λ (run : Run C). run.instance < m.instances) (runs_waiting_at line runs)
      waiting_within = All-weaker (λ (run : Run C). IsRunOf m belongs child run × (run.marks.steps ≤ limit)) (λ run. run.instance < m.instances) (λ run x. x.0.within) (runs_waiting_at line runs) waiting_are

      -- the run on an instance waits at the line, or is settled in the child
      record StaysSettled (t : ℕ) : Type 0 where
        pub run : Run C
        pub there : slice_get runs t ≡ Some run
        pub instance : run.instance ≡ t
        pub is_run : IsRunOf m belongs child run
        pub has_settled : HasSettled m child limit run

      waits_or_stays : (t : ℕ) → t < length runs → HasInstance (runs_waiting_at line runs) t ⊎ StaysSettled t
      waits_or_stays t below =
          let one = read_at runs t below in
          let same : get_or runs t one.0 ≡ one.0 = get_or_from_slice_get runs t one.0 one.0 one.1 in
          let instance : one.0.instance ≡ t = ap (λ (run : Run C). run.instance) (sym same) ∙ placed m.instances runs on_each t one.0 below in
          let is_run = subst (IsRunOf m belongs q) same (are t one.0 below) in
          elim (cases_eq one.0.here.line line) [
            | inl waits ↦ inl (subst (HasInstance (runs_waiting_at line runs)) instance (has_instance (runs_waiting_at line runs) one.0 (passes (λ (run : Run C). run.here.line == line) runs t one.0 one.1 (eq-eqb one.0.here.line line waits))))
            | inr apart ↦ inr (record {
              run = one.0;
              there = one.1;
              instance = instance;
              is_run = child_run one.0 is_run;
              has_settled = settled_too one.0 is_run apart (subst (HasSettled m q limit) same (settled t one.0 below));
            })
          ]

      -- the standings of the runs that do not wait at the line are those in the child
      pub standings_known : (standings : List Standing) → standings ≡ map (run_standing m (length q)) runs →
          (t : ℕ) → t < m.instances → HasInstance (runs_waiting_at line runs) t ⊎ IsSomeAnd (slice_get standings t) (IsSettledOn m child limit t)
      standings_known standings are_standings t below =
          let inside : t < length runs = omega (arith, below, many m.instances runs on_each) in
          elim (waits_or_stays t inside) [
            | inl waits ↦ inl waits
            | inr stays ↦
                let size : length child ≡ length q = extends.size in
                let here : slice_get standings t ≡ Some (run_standing m (length q) stays.run) =
                ap (λ (ss : List Standing). slice_get ss t) are_standings ∙ slice_get-map (run_standing m (length q)) runs t ∙ ap (option_map (run_standing m (length q))) stays.there in
                inr (subst (λ o. IsSomeAnd o (IsSettledOn m child limit t)) (sym here)
                (subst (λ n. IsSettledOn m child limit t (run_standing m n stays.run)) size
                (subst (λ i. IsSettledOn m child limit i (run_standing m (length child) stays.run)) stays.instance
                (run_settles m belongs child child_partial limit stays.run stays.is_run stays.has_settled))))
          ]

      -- where the others have moved on and settled, all runs are those of the child, and settled
      module _ (moved : List (Run C)) (same : instances_of moved ≡ instances_of (runs_waiting_at line runs)) (moved_are : All (IsRunOf m belongs child) moved) (moved_settled : All (HasSettled m child limit) moved) where
        moved_within : All (λ (run : Run C). run.instance < length runs) moved
        moved_within = All-weaker (IsRunOf m belongs child) (λ run. run.instance < length runs) (λ run x. let within = x.within in omega (arith, within, many m.instances runs on_each)) moved moved_are

        others_hold : (P : Run C → Type 0) → ((run : Run C) → IsRunOf m belongs child run → HasSettled m child limit run → P run) → All P moved → All P (with_runs runs moved)
        others_hold P keep all = holds_with P moved runs all (λ t below. elim (waits_or_stays t below) [
          | inl waits ↦ inl (subst (λ ts. Contains ts t) (sym same) waits)
          | inr stays ↦ inr (subst (λ o. IsSomeAnd o P) (sym stays.there) (keep stays.run stays.is_run stays.has_settled))
        ])

        pub child_kept : IsKeptFor m belongs limit child (child_of (record { program = q; runs = runs }) line instr moved)
        child_kept = record {
          program = refl;
          on_each = moved_on_each m.instances moved runs moved_within on_each;
          are = others_hold (IsRunOf m belongs child) (λ run is_run has_settled. is_run) moved_are;
          settled = others_hold (HasSettled m child limit) (λ run is_run has_settled. has_settled) moved_settled;
        }

        pub moved_among : AreAmong runs moved
        moved_among = moved_within
