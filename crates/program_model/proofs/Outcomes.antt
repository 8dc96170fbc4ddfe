-- Outcomes of runs: a run has one, and where each instance has one they make a list.
use Rattle.std.proofs.Common.{◌≡◌, ℕ, zero, suc, ◌+◌, ◌<◌, List, [], ◌∷◌, refl, sym, ◌∙◌, ap, subst, arith}
use Rattle.std.proofs.lemmas.Option.{same_Some}
use Rattle.program_model.specs.declared.outcome.RunOutcome.{RunOutcome}
use Rattle.program_model.specs.Semantics.{Semantics}
use Rattle.program_model.specs.Program.{Program, IsPartial}
use Rattle.program_model.specs.Run.{Config, at}
use Rattle.program_model.specs.Standing.{IsStanding}
use Rattle.program_model.specs.Outcome.{IsOutcome, AreOutcomesFrom, AreOutcomes, ComesOut}
use Rattle.program_model.proofs.Standings.{same_standing}

outcome_by : (x y : RunOutcome) → x.instance ≡ y.instance → x.steps ≡ y.steps → x.missing ≡ y.missing → x.standing ≡ y.standing → x ≡ y
outcome_by x y instance steps missing standing =
    let same : ◌≡◌ {A = RunOutcome} (record { instance = x.instance; steps = x.steps; missing = x.missing; standing = x.standing }) y = rw (instance, steps, missing, standing) refl in same

-- a run has one outcome
pub same_outcome : {C : Type 0} (m : Semantics C) (ops : ℕ) (q : Program) (limit : ℕ) → IsPartial ops q → (x y : RunOutcome) → x.instance ≡ y.instance → IsOutcome m q limit x → IsOutcome m q limit y → x ≡ y
same_outcome {C} m ops q limit partial x y e h k =
    let stands : IsStanding m q x.instance limit y.steps y.standing = rw e k.stands in
    let same = same_standing m ops q x.instance partial limit x.steps y.steps x.standing y.standing h.stands stands in
    let config : h.config ≡ k.config = same_Some h.config k.config (sym h.comes ∙ ap (at m q x.instance) same.0 ∙ ap (λ t. at m q t y.steps) e ∙ k.comes) in
    let missing : x.missing ≡ y.missing = sym h.lacks ∙ ap (λ t. m.missing t h.config.value) e ∙ ap (λ (c : Config C). m.missing y.instance c.value) config ∙ k.lacks in
    outcome_by x y e same.0 missing same.1

module _ {C : Type 0} (m : Semantics C) (ops : ℕ) (q : Program) (limit : ℕ) (partial : IsPartial ops q) where
  pub same_outcomes : (xs ys : List RunOutcome) (t : ℕ) → AreOutcomesFrom m q limit t xs → AreOutcomesFrom m q limit t ys → xs ≡ ys
  same_outcomes [] [] t h k = refl
  same_outcomes [] (y ∷ ys) t h k = let within = k.1.within in let here = k.0 in absurd (omega arith)
  same_outcomes (x ∷ xs) [] t h k = let within = h.1.within in let here = h.0 in absurd (omega arith)
  same_outcomes (x ∷ xs) (y ∷ ys) t h k =
      let same = same_outcome m ops q limit partial x y (h.0 ∙ sym k.0) h.1 k.1 in
      let rest = same_outcomes xs ys (t + 1) h.2 k.2 in
      rw (same, rest) refl

  -- two properties of the outcome of one run
  pub record Both (P Q : RunOutcome → Type 0) : Type 0 where
    pub outcome : RunOutcome
    pub one : P outcome
    pub other : Q outcome

  pub both_of : (t : ℕ) (P Q : RunOutcome → Type 0) → ComesOut m q limit t P → ComesOut m q limit t Q → Both P Q
  both_of t P Q h k = record {
    outcome = h.outcome;
    one = h.such;
    other = subst Q (sym (same_outcome m ops q limit partial h.outcome k.outcome (h.instance ∙ sym k.instance) h.is_outcome k.is_outcome)) k.such;
  }

module _ {C : Type 0} (m : Semantics C) (q : Program) (limit : ℕ) (P : RunOutcome → Type 0) where
  outcomes_from : (count t : ℕ) → t + count ≡ m.instances → ((s : ℕ) → s < m.instances → ComesOut m q limit s P) → (xs : List RunOutcome) × AreOutcomesFrom m q limit t xs
  outcomes_from zero t e each = ([], omega arith)
  outcomes_from (suc count) t e each =
      let here = each t (omega arith) in
      let later = outcomes_from count (t + 1) (omega arith) each in
      (here.outcome ∷ later.0, (here.instance, here.is_outcome, later.1))

  -- where the run on each instance has an outcome, they make a list
  pub outcomes_listed : ((s : ℕ) → s < m.instances → ComesOut m q limit s P) → (xs : List RunOutcome) × AreOutcomes m q limit xs
  outcomes_listed each = outcomes_from m.instances 0 (omega arith) each
