-- The standings of runs as they are looked up anew, run after run: what is known while some runs are left.
use Rattle.std.proofs.Common.{All, ◌≡◌, ◌⊎◌, ℕ, ◌+◌, ◌<◌, ◌≤◌, List, [], ◌∷◌, length, set, get_or, drop, sym, ◌∙◌, ap, subst, inl, inr, arith, length-set}
use Rattle.std.specs.Prelude.{slice_get, IsSomeAnd, Contains}
use Rattle.std.proofs.lemmas.List.{drop_more, drop_all}
use Rattle.std.proofs.lemmas.List.Elements.{Contains-append_cases, Contains-push_cases}
use Rattle.std.proofs.lemmas.Bool.{cases_eq}
use Rattle.program_model.specs.Semantics.{Semantics}
use Rattle.program_model.specs.Program.{Program, IsPartial}
use Rattle.program_model.proofs.Places.{get-set_same, get-set_other}
use Rattle.evaluations.specs.declared.standing.Standing.{Standing}
use Rattle.interpreter.specs.declared.run.Run.{Run}
use Rattle.interpreter.specs.Runs.{IsRunOf}
use Rattle.run_turns.specs.Settling.{instances_of, HasInstance, AreRunsOf, HasSettled}
use Rattle.judgement.specs.Judging.{run_standing, IsSettledOn}
use Rattle.judgement.proofs.RunsSettled.{run_settles}
use Rattle.judgement.proofs.SettledStandings.{AreSettled, settled_in_order}

contains_none : (x : ℕ) → Contains [] x → ⊥
contains_none x h = let no = h.1 in omega arith

contains_cases : (y : ℕ) (xs : List ℕ) (x : ℕ) → Contains (y ∷ xs) x → (y ≡ x) ⊎ Contains xs x
contains_cases y xs x h = elim (Contains-append_cases (y ∷ []) xs x h) [
  | inl first ↦ elim (Contains-push_cases [] y x first) [ inl none ↦ absurd (contains_none x none) | inr e ↦ inl e ]
  | inr later ↦ inr later
]

module _ {C : Type 0} (m : Semantics C) (q : Program) (limit : ℕ) where
  -- on each instance with none of the runs that are left, the standing is that of a settled run
  pub record AreKnownBut (left : List (Run C)) (standings : List Standing) : Type 0 where
    pub size : length standings ≡ m.instances
    pub known : (t : ℕ) → t < m.instances → HasInstance left t ⊎ IsSomeAnd (slice_get standings t) (IsSettledOn m q limit t)

  -- at first all runs are left, on the same instances as before they settled
  pub none_looked_up : (old new : List (Run C)) (standings : List Standing) → instances_of new ≡ instances_of old → length standings ≡ m.instances → ((t : ℕ) → t < m.instances → HasInstance old t ⊎ IsSomeAnd (slice_get standings t) (IsSettledOn m q limit t)) → AreKnownBut new standings
  none_looked_up old new standings same size known = record {
    size = size;
    known = λ t below. elim (known t below) [ inl among ↦ inl (subst (λ ts. Contains ts t) (sym same) among) | inr settled ↦ inr settled ];
  }

  -- one more run is looked at
  one_more_known : (run : Run C) (left : List (Run C)) (standings : List Standing) (standing : Standing) → run.instance < m.instances → IsSettledOn m q limit run.instance standing → AreKnownBut (run ∷ left) standings → AreKnownBut left (set standings run.instance standing)
  one_more_known run left standings standing within settled before = record {
    size = length-set standings run.instance standing ∙ before.size;
    known = λ t below. elim (cases_eq t run.instance) [
      | inl same ↦
          let size = before.size in
          inr (subst (λ i. IsSomeAnd (slice_get (set standings run.instance standing) i) (IsSettledOn m q limit i)) (sym same)
          (subst (λ o. IsSomeAnd o (IsSettledOn m q limit run.instance)) (sym (get-set_same standings run.instance standing (omega arith))) settled))
      | inr differs ↦ elim (before.known t below) [
        | inl among ↦ elim (contains_cases run.instance (instances_of left) t among) [ inl e ↦ absurd (differs (sym e)) | inr later ↦ inl later ]
        | inr known ↦ inr (subst (λ o. IsSomeAnd o (IsSettledOn m q limit t)) (sym (get-set_other standings run.instance t standing differs)) known)
      ]
    ];
  }

  -- all runs were looked at
  pub all_known : (runs : List (Run C)) (place : ℕ) (standings : List Standing) → length runs ≤ place → AreKnownBut (drop place runs) standings → AreSettled m q limit standings
  all_known runs place standings past h =
      settled_in_order m q limit standings h.size
      (λ t below. elim (h.known t below) [
        | inl among ↦ absurd (contains_none t (subst (λ left. HasInstance left t) (drop_all place runs past) among))
        | inr known ↦ known
      ])

-- one of the runs that settled, at a place
module _ {C : Type 0} (m : Semantics C) (belongs : ℕ → C → Type 0) (q : Program) (limit : ℕ) (runs : List (Run C)) (are : AreRunsOf m belongs q limit runs) (place : ℕ) (inside : place < length runs) (run : Run C) (here : run ≡ get_or runs place run) where
  pub is_run_here : IsRunOf m belongs q run
  is_run_here = subst (IsRunOf m belongs q) (sym here) (are place run inside).0

  -- its standing is looked up
  pub one_looked_up : IsPartial m.ops q → All (HasSettled m q limit) runs → (standings after : List Standing) (t lines : ℕ) (standing : Standing) → t ≡ run.instance → lines ≡ length q → standing ≡ run_standing m lines run → after ≡ set standings t standing → AreKnownBut m q limit (drop place runs) standings → AreKnownBut m q limit (drop (place + 1) runs) after
  one_looked_up partial settled standings after t lines standing instance count is made before =
      let stands_so : IsSettledOn m q limit run.instance standing =
      subst (IsSettledOn m q limit run.instance) (sym (is ∙ ap (λ n. run_standing m n run) count))
      (run_settles m belongs q partial limit run is_run_here (subst (HasSettled m q limit) (sym here) (settled place run inside))) in
      let left : drop place runs ≡ run ∷ drop (place + 1) runs = drop_more runs place run inside ∙ ap (λ r. r ∷ drop (place + 1) runs) (sym here) in
      subst (AreKnownBut m q limit (drop (place + 1) runs)) (sym (made ∙ ap (λ i. set standings i standing) instance))
      (one_more_known m q limit run (drop (place + 1) runs) standings standing is_run_here.within stands_so (subst (λ rs. AreKnownBut m q limit rs standings) left before))
