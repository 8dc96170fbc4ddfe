-- A run of a partial program is one of each program that extends it.
use Rattle.std.proofs.Common.{◌≡◌, ℕ, ◌≤◌, Option, Some, None, refl, sym, ◌∙◌, inl, inr, arith}
use Rattle.loop_witness.specs.Marks.{Counted}
use Rattle.loop_witness.proofs.MarkSteps.{marks_apart}
use Rattle.program_model.specs.Semantics.{Semantics}
use Rattle.program_model.specs.Program.{Program, Extends}
use Rattle.program_model.specs.Run.{Config, at, Loops}
use Rattle.program_model.specs.Standing.{IsNoticeable, IsNoticed}
use Rattle.program_model.proofs.Runs.{at-extends, no_later}
use Rattle.interpreter.specs.declared.run.Run.{Run}
use Rattle.interpreter.specs.Runs.{IsMarkOf, StandsFor, IsRunOf}

module _ {C : Type 0} (m : Semantics C) (q p : Program) (extends : Extends p q) (t : ℕ) where
  -- what repeats where the partial program runs does so where the program does
  loops_on : (i j : ℕ) → Loops m q t i j → Loops m p t i j
  loops_on i j x = record {
    config = x.config;
    before = x.before;
    first_time = at-extends m p q t i x.config extends x.first_time;
    second_time = at-extends m p q t j x.config extends x.second_time;
  }

  noticeable_on : (i j : ℕ) → IsNoticeable m q t i j → IsNoticeable m p t i j
  noticeable_on i j x = record { mark = x.mark; soon = x.soon; loops = loops_on i j x.loops }

  module _ (s : ℕ) (here : Config C) (comes : at m q t s ≡ Some here) where
    -- up to a step that the partial program comes to, its run and the program's are the same
    some_there : (r : ℕ) → r ≤ s → (there : Option (Config C)) → at m q t r ≡ there → at m q t r ≡ at m p t r
    some_there r le None over = absurd (no_later m q t r s here over le comes)
    some_there r le (Some config) is = is ∙ sym (at-extends m p q t r config extends is)

    same_there : (r : ℕ) → r ≤ s → at m q t r ≡ at m p t r
    same_there r le = some_there r le (at m q t r) refl

    noticeable_back : (i j : ℕ) → j ≤ s → IsNoticeable m p t i j → IsNoticeable m q t i j
    noticeable_back i j le x =
        let before = x.loops.before in
        record {
          mark = x.mark;
          soon = x.soon;
          loops = record {
            config = x.loops.config;
            before = x.loops.before;
            first_time = same_there i (omega arith) ∙ x.loops.first_time;
            second_time = same_there j le ∙ x.loops.second_time;
          };
        }

    noticed_back : (i j : ℕ) → j ≤ s → IsNoticed m p t i j → IsNoticed m q t i j
    noticed_back i j le x = record {
      noticeable = noticeable_back i j le x.noticeable;
      least_mark = λ a b less y. x.least_mark a b less (noticeable_on a b y);
      least_repeat = λ b less y. x.least_repeat b less (noticeable_on i b y);
    }

    noticed_on : (i j : ℕ) → j ≤ s → IsNoticed m q t i j → IsNoticed m p t i j
    noticed_on i j le x = record {
      noticeable = noticeable_on i j x.noticeable;
      least_mark = λ a b less y.
          let apart = marks_apart a i y.mark x.noticeable.mark less in
          let soon = y.soon in
          let before = x.noticeable.loops.before in
          x.least_mark a b less (noticeable_back a b (omega arith) y);
      least_repeat = λ b less y. x.least_repeat b less (noticeable_back i b (omega arith) y);
    }

    mark_on : (marks : Counted) → marks.steps ≤ s → IsMarkOf m q t marks → IsMarkOf m p t marks
    mark_on marks le x = elim x [
      | inl noticed ↦ inl (noticed_on marks.mark marks.steps le noticed)
      | inr none ↦ inr (λ from y. none.0 from (noticed_back from marks.steps le y), none.1)
    ]

  pub stands_too : (s : ℕ) (run : Run C) → StandsFor m q t s run → StandsFor m p t s run
  stands_too s run x = record {
    instance = x.instance;
    steps = x.steps;
    here = at-extends m p q t s _ extends x.here;
    marked = at-extends m p q t run.marks.mark _ extends x.marked;
    mark = mark_on s _ x.here run.marks (let steps = x.steps in omega arith) x.mark;
    unnoticed = λ from to less y. x.unnoticed from to less (noticed_back s _ x.here from to (omega arith) y);
  }

pub shared : {C : Type 0} (m : Semantics C) (belongs : ℕ → C → Type 0) (q p : Program) (run : Run C) → Extends p q → IsRunOf m belongs q run → IsRunOf m belongs p run
shared m belongs q p run extends one = record {
  within = one.within;
  stands = stands_too m q p extends run.instance run.marks.steps run one.stands;
  here_belongs = one.here_belongs;
  marked_belongs = one.marked_belongs;
}
