-- What runs of whole programs come to: none waits, and which instances are solved.
use Rattle.std.proofs.Common.{◌≡◌, ℕ, suc, ◌+◌, ◌<◌, ◌≤◌, Bool, true, false, List, [], ◌∷◌, refl, sym, ◌∙◌, ap, subst, inl, inr, arith}
use Rattle.std.specs.Prelude.{◌↔◌, ◌&&◌}
use Rattle.std.specs.List.{list_all}
use Rattle.std.proofs.lemmas.Bool.{cases_eq, false≢true, and_parts}
use Rattle.program_model.specs.Semantics.{Semantics}
use Rattle.program_model.specs.Program.{Program, line_at, IsPartial}
use Rattle.program_model.specs.Run.{Ends}
use Rattle.program_model.specs.declared.standing.Stand.{Stand}
use Rattle.program_model.specs.declared.standing.Stand.TheVariants as stands
use Rattle.program_model.specs.Standing.{NothingBefore, IsStanding}
use Rattle.program_model.specs.declared.outcome.RunOutcome.{RunOutcome}
use Rattle.program_model.specs.Outcome.{AreOutcomesFrom}
use Rattle.program_model.proofs.Runs.{open_stops, last_stops, no_later, loops_on}
use Rattle.program_model.proofs.Standings.{same_standing}
use Rattle.instance_report.specs.Runs.{is_ended, is_solved, SolvesAllWithin}

module _ {C : Type 0} (m : Semantics C) (ops : ℕ) (p : Program) (partial : IsPartial ops p) (limit t : ℕ) where
  -- before the step where a run ends it comes to nothing
  nothing_before : (j : ℕ) → Ends m p t j → NothingBefore m p t j
  nothing_before j ends r stands.Ended l c = no_later m p t (suc r) j ends.config (last_stops m ops p t r c.config partial c.comes c.last) (omega arith) ends.comes
  nothing_before j ends r stands.Unmet l c = no_later m p t (suc r) j ends.config (last_stops m ops p t r c.1.config partial c.1.comes c.1.last) (omega arith) ends.comes
  nothing_before j ends r (stands.Waits line) l c = no_later m p t (suc r) j ends.config (open_stops m p t r c.config c.comes (ap (line_at p) c.here ∙ c.is_open.undefined)) (omega arith) ends.comes
  nothing_before j ends r (stands.Repeats a b) l c = loops_on m ops p t a b j 0 partial c.1.noticeable.loops ends
  nothing_before j ends r stands.AtLimit l c = c
  nothing_before j ends r stands.QuotaUsed l c = c

  ended_standing : (s : ℕ) (x : Stand) → is_ended x ≡ true → IsStanding m p t limit s x → (j : ℕ) × (j ≤ limit) × Ends m p t j
  ended_standing s stands.Ended e h = (s, h.0, h.1)
  ended_standing s stands.Unmet e h = absurd (false≢true e)
  ended_standing s (stands.Waits line) e h = absurd (false≢true e)
  ended_standing s (stands.Repeats a b) e h = absurd (false≢true e)
  ended_standing s stands.AtLimit e h = absurd (false≢true e)
  ended_standing s stands.QuotaUsed e h = absurd (false≢true e)

  -- a run stands as ended exactly where it ends by a step of at most the limit
  standing_ended : (s : ℕ) (x : Stand) → IsStanding m p t limit s x → (j : ℕ) × (j ≤ limit) × Ends m p t j → is_ended x ≡ true
  standing_ended s x h k =
      let end : IsStanding m p t limit k.0 stands.Ended = (k.1, k.2, nothing_before k.0 k.2) in
      let same = same_standing m ops p t partial limit s k.0 x stands.Ended h end in
      ap is_ended same.1

module _ {C : Type 0} (m : Semantics C) (ops : ℕ) (p : Program) (partial : IsPartial ops p) (limit : ℕ) where
  all_from : (t : ℕ) (xs : List RunOutcome) → AreOutcomesFrom m p limit t xs → list_all is_solved xs ≡ true → (i : ℕ) → t ≤ i → i < m.instances → (j : ℕ) × (j ≤ limit) × Ends m p i j
  all_from t [] h e i l below = absurd (omega arith)
  all_from t (x ∷ xs) h e i l below =
      let both = and_parts (is_solved x) (list_all is_solved xs) e in
      elim (cases_eq i t) [
        | inl same ↦
            let instance : x.instance ≡ i = h.0 ∙ sym same in
            ended_standing m ops p partial limit i x.steps x.standing both.0 (subst (λ n. IsStanding m p n limit x.steps x.standing) instance h.1.stands)
        | inr apart ↦ all_from (t + 1) xs h.2 both.1 i (omega (arith, apart)) below
      ]

  all_ended : (t : ℕ) (xs : List RunOutcome) → AreOutcomesFrom m p limit t xs → SolvesAllWithin m p limit → list_all is_solved xs ≡ true
  all_ended t [] h solves = refl
  all_ended t (x ∷ xs) h solves =
      let here = standing_ended m ops p partial limit x.instance x.steps x.standing h.1.stands (solves x.instance h.1.within) in
      rw here (all_ended (t + 1) xs h.2 solves)

  pub solved_exactly : (xs : List RunOutcome) → AreOutcomesFrom m p limit 0 xs → (list_all is_solved xs ≡ true) ↔ SolvesAllWithin m p limit
  solved_exactly xs h = (λ e i below. all_from 0 xs h e i (omega arith) below, all_ended 0 xs h)

  -- an instance on which the run does not end with the goal met within the limit
  pub record UnsolvedOne : Type 0 where
    pub t : ℕ
    pub within : t < m.instances
    pub fails : (j : ℕ) → j ≤ limit → Ends m p t j → ⊥

  unsolved_from : (t : ℕ) (xs : List RunOutcome) → AreOutcomesFrom m p limit t xs → list_all is_solved xs ≡ false → UnsolvedOne
  unsolved_from t [] h e = absurd (false≢true (sym e))
  unsolved_from t (x ∷ xs) h e = by_first (is_solved x) refl (unsolved_from (t + 1) xs h.2)
    where
      by_first : (solved : Bool) → is_solved x ≡ solved → (list_all is_solved xs ≡ false → UnsolvedOne) → UnsolvedOne
      by_first true first rest = rest (subst (λ b. (b && list_all is_solved xs) ≡ false) first e)
      by_first false first rest = record {
        t = x.instance;
        within = h.1.within;
        fails = λ j few ends. false≢true (sym first ∙ standing_ended m ops p partial limit x.instance x.steps x.standing h.1.stands (j, few, ends));
      }

  -- where not all runs are told as solved there is such an instance
  pub unsolved_somewhere : (xs : List RunOutcome) → AreOutcomesFrom m p limit 0 xs → list_all is_solved xs ≡ false → UnsolvedOne
  unsolved_somewhere xs h e = unsolved_from 0 xs h e
