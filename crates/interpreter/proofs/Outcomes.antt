-- The outcome of a run that is made in one turn.
use Rattle.std.proofs.Common.{◌≡◌, ℕ, ◌+◌, ◌-◌, ◌<◌, refl, sym, ap, subst, arith}
use Rattle.program_model.specs.declared.standing.Stand.{Stand}
use Rattle.program_model.specs.declared.standing.Stand.TheVariants as stands
use Rattle.program_model.specs.declared.outcome.RunOutcome.{RunOutcome}
use Rattle.program_model.specs.Semantics.{Semantics}
use Rattle.program_model.specs.Program.{Program}
use Rattle.program_model.specs.Standing.{IsStanding}
use Rattle.program_model.specs.Outcome.{IsOutcome}
use Rattle.flag_rules.specs.Counts.{raised}
use Rattle.program_model.specs.Counts.{operations_made}
use Rattle.interpreter.specs.declared.run.Run.{Run}
use Rattle.interpreter.specs.Runs.{config_of, IsRunOf, IsTold}

-- where the quota has as many steps as the limit, a standing is told
whole_standing : {C : Type 0} (m : Semantics C) (q : Program) (t limit from to : ℕ) (stand : Stand) → from ≡ 0 → IsTold m q t limit limit from to stand → IsStanding m q t limit to stand
whole_standing m q t limit from to stands.Ended begins x = x.1
whole_standing m q t limit from to stands.Unmet begins x = x.1
whole_standing m q t limit from to (stands.Repeats i j) begins x = x.1
whole_standing m q t limit from to (stands.Waits line) begins x = x.1
whole_standing m q t limit from to stands.AtLimit begins x = x.1
whole_standing m q t limit from to stands.QuotaUsed begins x =
    let steps : to ≡ from + limit = x.0 in
    let few : to < limit = x.1 in
    absurd (omega arith)

-- the outcome of a run that began fresh and was advanced to its standing
pub outcome_of : {C : Type 0} (m : Semantics C) (belongs : ℕ → C → Type 0) (q : Program) (t limit : ℕ) (fresh run : Run C) (stand : Stand) (x : RunOutcome) →
    fresh.instance ≡ t → fresh.marks.steps ≡ 0 → run.instance ≡ fresh.instance → IsRunOf m belongs q run → IsTold m q fresh.instance limit limit fresh.marks.steps run.marks.steps stand →
    x ≡ record { instance = run.instance; steps = run.marks.steps; missing = m.missing run.instance run.here.value; standing = stand } → IsOutcome m q limit x
outcome_of m belongs q t limit fresh run stand x instance begins same one told is =
    rw is (record {
      within = one.within;
      config = config_of run.here;
      comes = one.stands.here;
      lacks = refl;
      stands = subst (λ i. IsStanding m q i limit run.marks.steps stand) (sym same) (whole_standing m q fresh.instance limit fresh.marks.steps run.marks.steps stand begins told);
    })

-- and the operations that were counted
pub operations_of : {C : Type 0} (m : Semantics C) (q : Program) (t : ℕ) (fresh run : Run C) (start end : ℕ) → fresh.instance ≡ t → fresh.marks.steps ≡ 0 →
    end ≡ raised start (operations_made m q fresh.instance run.marks.steps - operations_made m q fresh.instance fresh.marks.steps) → end ≡ raised start (operations_made m q t run.marks.steps)
operations_of m q t fresh run start end instance begins acts =
    let none : operations_made m q fresh.instance fresh.marks.steps ≡ 0 = ap (operations_made m q fresh.instance) begins in
    let all : operations_made m q fresh.instance run.marks.steps ≡ operations_made m q t run.marks.steps = ap (λ i. operations_made m q i run.marks.steps) instance in
    omega (arith, acts, none, all)
