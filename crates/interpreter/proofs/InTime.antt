-- A program's run that comes to one configuration again is noticed to repeat in time.
use Rattle.std.proofs.Common.{ℕ, ◌+◌, ◌*◌, ◌≤◌, ◌<◌, refl, arith}
use Rattle.loop_witness.proofs.Repeating.{noticed_in_time, none_in_a_third}
use Rattle.program_model.specs.declared.standing.Stand.TheVariants as stands
use Rattle.program_model.specs.Semantics.{Semantics}
use Rattle.program_model.specs.Program.{Program}
use Rattle.program_model.specs.Run.{next, at, Loops}
use Rattle.program_model.specs.Standing.{IsNoticed, NothingBefore, IsStanding}
use Rattle.interpreter.proofs.Noticing.{is_run, loops_in, noticed_in, noticed_out}

module _ {C : Type 0} (m : Semantics C) (q : Program) (t : ℕ) where
  -- by three times as many steps as it took to come to it again
  pub noticed_by_then : (i j from to : ℕ) → Loops m q t i j → IsNoticed m q t from to → to ≤ 3 * j
  noticed_by_then i j from to loops noticed = noticed_in_time (next m q t) (at m q t) (is_run m q t) i j from to (loops_in m q t i j loops) (noticed_in m q t from to noticed)

  -- a run that comes to nothing up to a limit comes to no configuration twice in the first third of the steps
  pub nothing_repeats : (limit i j : ℕ) → NothingBefore m q t (limit + 1) → 3 * j ≤ limit → Loops m q t i j → ⊥
  nothing_repeats limit i j nothing within loops =
      none_in_a_third (next m q t) (at m q t) (is_run m q t) limit i j
      (λ from to few noticed. nothing to (stands.Repeats from to) (omega arith) (refl, noticed_out m q t from to noticed))
      within (loops_in m q t i j loops)

  pub limited_repeats : (limit steps i j : ℕ) → IsStanding m q t limit steps stands.AtLimit → 3 * j ≤ limit → Loops m q t i j → ⊥
  limited_repeats limit steps i j h within loops = nothing_repeats limit i j h.2 within loops
