-- Runs and trials, one on each instance, of which one is changed or added.
use Rattle.std.proofs.Common.{◌≡◌, ℕ, ◌+◌, ◌<◌, List, [], ◌∷◌, ◌++◌, length, set, get_or, ◌∙◌, arith, length-set, length-append}
use Rattle.program_model.specs.Semantics.{Semantics}
use Rattle.program_model.specs.Program.{Program}
use Rattle.refutation_check.specs.declared.run.Run.{Run}
use Rattle.refutation_check.specs.declared.trial.Trial.{Trial}
use Rattle.refutation_check.specs.Inner.Runs.{StandsAt, AllStandAt, AreRuns, AreTrials, IsTrial}
use Rattle.refutation_check.proofs.Places.{each_set, each_more, each_push}

module _ {C : Type 0} (belongs : ℕ → C → Type 0) where
  abbrev HasValue : ℕ → Run C → Type 0
  HasValue t run = belongs t run.here.value

  pub runs_push : (t : ℕ) (runs : List (Run C)) (run : Run C) → AreRuns belongs t runs → belongs t run.here.value → AreRuns belongs (t + 1) (runs ++ run ∷ [])
  runs_push t runs run all here = record {
    count = (let count = all.count in omega (arith, count, length-append runs (run ∷ [])));
    values = each_push HasValue runs t run all.count all.values here;
  }

  pub runs_set : (instances t : ℕ) (runs : List (Run C)) (run : Run C) → AreRuns belongs instances runs → belongs t run.here.value → AreRuns belongs instances (set runs t run)
  runs_set instances t runs run all here = record {
    count = length-set runs t run ∙ all.count;
    values = each_set HasValue runs instances t run (let count = all.count in omega (arith, count)) all.values here;
  }

  pub trials_push : (t : ℕ) (trials : List (Trial C)) (trial : Trial C) → AreTrials belongs t trials → IsTrial belongs t trial → AreTrials belongs (t + 1) (trials ++ trial ∷ [])
  trials_push t trials trial all here = record {
    count = (let count = all.count in omega (arith, count, length-append trials (trial ∷ [])));
    each = each_push (IsTrial belongs) trials t trial all.count all.each here;
  }

  pub trials_set : (instances t : ℕ) (trials : List (Trial C)) (trial : Trial C) → AreTrials belongs instances trials → IsTrial belongs t trial → AreTrials belongs instances (set trials t trial)
  trials_set instances t trials trial all here = record {
    count = length-set trials t trial ∙ all.count;
    each = each_set (IsTrial belongs) trials instances t trial (let count = all.count in omega (arith, count)) all.each here;
  }

module _ {C : Type 0} (m : Semantics C) (belongs : ℕ → C → Type 0) (q : Program) (runs : List (Run C)) where
  -- one more of the runs is a run of the program
  pub stand_more : (t : ℕ) (run : Run C) → t < length runs → ((k : ℕ) (d : Run C) → k < t → StandsAt m belongs q k (get_or runs k d)) → StandsAt m belongs q t run
      → (k : ℕ) (d : Run C) → k < t + 1 → StandsAt m belongs q k (get_or (set runs t run) k d)
  stand_more t run within all here = each_more (StandsAt m belongs q) runs t run within all here

  -- all still are, where one is replaced by one that is
  pub stand_set : (t : ℕ) (run : Run C) → length runs ≡ m.instances → AllStandAt m belongs q runs → StandsAt m belongs q t run → AllStandAt m belongs q (set runs t run)
  stand_set t run count all here = each_set (StandsAt m belongs q) runs m.instances t run (omega (arith, count)) all here

  -- runs of a program have values of their instances
  pub runs_stand : length runs ≡ m.instances → AllStandAt m belongs q runs → AreRuns belongs m.instances runs
  runs_stand count all = record { count = count; values = λ t d less. (all t d less).value }
