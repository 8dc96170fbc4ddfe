-- The repetitions of a program's run are those of the run's configurations in a row, and so are those that are noticed.
use Rattle.std.proofs.Common.{ℕ, refl}
use Rattle.loop_witness.specs.Repetitions.{IsRun, Repeats, IsNoticeable as IsNoticeableIn, IsNoticed as IsNoticedIn}
use Rattle.program_model.specs.Semantics.{Semantics}
use Rattle.program_model.specs.Program.{Program}
use Rattle.program_model.specs.Run.{next, at, Loops}
use Rattle.program_model.specs.Standing.{IsNoticeable, IsNoticed}

module _ {C : Type 0} (m : Semantics C) (q : Program) (t : ℕ) where
  pub is_run : IsRun (next m q t) (at m q t)
  is_run made = refl

  pub loops_in : (i j : ℕ) → Loops m q t i j → Repeats (at m q t) i j
  loops_in i j x = record { config = x.config; before = x.before; first_time = x.first_time; second_time = x.second_time }

  pub repeats_out : (i j : ℕ) → Repeats (at m q t) i j → Loops m q t i j
  repeats_out i j x = record { config = x.config; before = x.before; first_time = x.first_time; second_time = x.second_time }

  pub noticeable_in : (i j : ℕ) → IsNoticeable m q t i j → IsNoticeableIn (at m q t) i j
  noticeable_in i j x = record { mark = x.mark; soon = x.soon; repeats = loops_in i j x.loops }

  pub noticeable_out : (i j : ℕ) → IsNoticeableIn (at m q t) i j → IsNoticeable m q t i j
  noticeable_out i j x = record { mark = x.mark; soon = x.soon; loops = repeats_out i j x.repeats }

  pub noticed_in : (i j : ℕ) → IsNoticed m q t i j → IsNoticedIn (at m q t) i j
  noticed_in i j x = record {
    noticeable = noticeable_in i j x.noticeable;
    least_mark = λ a b less y. x.least_mark a b less (noticeable_out a b y);
    least_repeat = λ b less y. x.least_repeat b less (noticeable_out i b y);
  }

  pub noticed_out : (i j : ℕ) → IsNoticedIn (at m q t) i j → IsNoticed m q t i j
  noticed_out i j x = record {
    noticeable = noticeable_out i j x.noticeable;
    least_mark = λ a b less y. x.least_mark a b less (noticeable_in a b y);
    least_repeat = λ b less y. x.least_repeat b less (noticeable_in i b y);
  }
