-- The runs of a program that is kept, looked at one after another.
use Rattle.std.proofs.Common.{All, ◌≡◌, ℕ, ◌+◌, ◌<◌, ◌≤◌, true, false, List, [], ◌∷◌, ◌++◌, map, cond, length, take, Option, Some, None, refl, sym, ◌∙◌, ap, subst, arith, append-nil}
use Rattle.std.specs.Prelude.{◌==◌, slice_get, IsSome, IsSomeAnd, IfSome}
use Rattle.std.specs.List.{range_with_len}
use Rattle.std.proofs.lemmas.Option.{slice_get_within, get_or_from_slice_get}
use Rattle.std.proofs.lemmas.List.{map-append, map-id, take_all}
use Rattle.std.proofs.lemmas.List.Elements.{All-same, All-push, filter-append}
use Rattle.std.proofs.lemmas.List.FromFn.{map-range_with_len_more}
use Rattle.program_model.specs.Semantics.{Semantics}
use Rattle.program_model.specs.Program.{Program}
use Rattle.evaluations.specs.declared.standing.Standing.{Standing}
use Rattle.interpreter.specs.declared.run.Run.{Run}
use Rattle.interpreter.specs.Runs.{IsRunOf}
use Rattle.run_turns.specs.Settling.{instances_of}
use Rattle.judgement.specs.Judging.{run_standing}
use Rattle.waiting_programs.specs.Programs.{Waiting}
use Rattle.synthesis.specs.Inner.Keeping.{runs_waiting_at, IsKeptFor}
use Rattle.synthesis.proofs.PlacesInLists.{take_seen}
use Rattle.synthesis.proofs.SharedRuns.{many}

range_more : (t : ℕ) → range_with_len 0 (t + 1) ≡ range_with_len 0 t ++ t ∷ []
range_more t = sym (map-id (range_with_len 0 (t + 1))) ∙ map-range_with_len_more (λ n. n) 0 t t (omega arith) ∙ ap (λ ts. ts ++ t ∷ []) (map-id (range_with_len 0 t))

-- one more run is put behind others
pub push_run : {C : Type 0} (runs after : List (Run C)) (run : Run C) (t : ℕ) → after ≡ runs ++ run ∷ [] → run.instance ≡ t → instances_of runs ≡ range_with_len 0 t → instances_of after ≡ range_with_len 0 (t + 1)
push_run runs after run t pushed instance before =
    ap instances_of pushed
    ∙ map-append (λ (one : Run _). one.instance) runs (run ∷ [])
    ∙ ap (λ ts. ts ++ run.instance ∷ []) before
    ∙ ap (λ s. range_with_len 0 t ++ s ∷ []) instance
    ∙ sym (range_more t)

pub All-pushed : {X : Type 0} (P : X → Type 0) (xs ys : List X) (x : X) → ys ≡ xs ++ x ∷ [] → All P xs → P x → All P ys
All-pushed P xs ys x pushed all holds = All-same P ys (xs ++ x ∷ []) pushed (All-push P xs x all holds)

-- so many lines the program of a kept one has
pub same_lines : {C : Type 0} (here : Option (Waiting C)) (program : Program) (lines : ℕ) → lines ≡ length program → IfSome here (λ waiting. program ≡ waiting.program) → IfSome here (λ waiting. lines ≡ length waiting.program)
same_lines None program lines count is = tt
same_lines (Some waiting) program lines count is = count ∙ ap (λ (q : Program). length q) is

module _ {C : Type 0} (m : Semantics C) (belongs : ℕ → C → Type 0) (limit : ℕ) where
  -- a program is kept here, with its runs
  abbrev pub IsKept : Option (Waiting C) → Type 0
  IsKept here = IsSomeAnd here (λ waiting. IsKeptFor m belongs limit waiting.program waiting)

  -- this is its run on an instance
  abbrev pub IsRunAt : Option (Waiting C) → ℕ → Run C → Type 0
  IsRunAt here t run = IfSome here (λ waiting. slice_get waiting.runs t ≡ Some run)

  pub is_some : (here : Option (Waiting C)) → IsKept here → IsSome here
  is_some None kept = absurd kept
  is_some (Some waiting) kept = refl

  -- what holds of the program that is kept
  pub of_kept : (P : Program → Type 0) (here : Option (Waiting C)) (program : Program) → IsKept here → IfSome here (λ waiting. P waiting.program) → IfSome here (λ waiting. program ≡ waiting.program) → P program
  of_kept P None program kept holds is = absurd kept
  of_kept P (Some waiting) program kept holds is = subst P (sym is) holds

  pub has_run : (here : Option (Waiting C)) (t : ℕ) → IsKept here → t < m.instances → IsSomeAnd here (λ waiting. t < length waiting.runs)
  has_run None t kept below = absurd kept
  has_run (Some waiting) t kept below = omega (arith, below, many m.instances waiting.runs kept.on_each)

  pub is_run : (here : Option (Waiting C)) (t : ℕ) (run : Run C) → IsKept here → IsRunAt here t run → (program : Program) × IsRunOf m belongs program run
  is_run None t run kept at = absurd kept
  is_run (Some waiting) t run kept at = (
    waiting.program,
    subst (IsRunOf m belongs waiting.program) (get_or_from_slice_get waiting.runs t run run at) (kept.are t run (slice_get_within waiting.runs t run at)),
  )

  pub all_seen : (here : Option (Waiting C)) (t : ℕ) (P : Waiting C → List (Run C) → Type 0) → IsKept here → m.instances ≤ t → IfSome here (λ waiting. P waiting (take t waiting.runs)) → IfSome here (λ waiting. P waiting waiting.runs)
  all_seen None t P kept past h = absurd kept
  all_seen (Some waiting) t P kept past h = subst (P waiting) (take_all t waiting.runs (omega (arith, past, many m.instances waiting.runs kept.on_each))) h

  -- ---- where they stand

  pub standing_more : (here : Option (Waiting C)) (t lines : ℕ) (run : Run C) (standings after : List Standing) (standing : Standing) → IsRunAt here t run → IfSome here (λ waiting. lines ≡ length waiting.program) →
      standing ≡ run_standing m lines run → after ≡ standings ++ standing ∷ [] → IfSome here (λ waiting. standings ≡ map (run_standing m (length waiting.program)) (take t waiting.runs)) →
      IfSome here (λ waiting. after ≡ map (run_standing m (length waiting.program)) (take (t + 1) waiting.runs))
  standing_more None t lines run standings after standing at count is pushed before = tt
  standing_more (Some waiting) t lines run standings after standing at count is pushed before =
      let standing_in = run_standing m (length waiting.program) in
      pushed
      ∙ ap (λ ss. ss ++ standing ∷ []) before
      ∙ ap (λ s. map standing_in (take t waiting.runs) ++ s ∷ []) (is ∙ ap (λ n. run_standing m n run) count)
      ∙ sym (map-append standing_in (take t waiting.runs) (run ∷ []))
      ∙ ap (map standing_in) (sym (take_seen waiting.runs t run at))

  -- ---- those that wait at a line

  waiting_more : (line t : ℕ) (run : Run C) (runs : List (Run C)) → slice_get runs t ≡ Some run → runs_waiting_at line (take (t + 1) runs) ≡ runs_waiting_at line (take t runs) ++ runs_waiting_at line (run ∷ [])
  waiting_more line t run runs at = ap (runs_waiting_at line) (take_seen runs t run at) ∙ filter-append (λ (one : Run C). one.here.line == line) (take t runs) (run ∷ [])

  pub copy_more : (here : Option (Waiting C)) (line t : ℕ) (run : Run C) (copies after : List (Run C)) → IsRunAt here t run → (run.here.line == line) ≡ true → after ≡ copies ++ run ∷ [] →
      IfSome here (λ waiting. copies ≡ runs_waiting_at line (take t waiting.runs)) → IfSome here (λ waiting. after ≡ runs_waiting_at line (take (t + 1) waiting.runs))
  copy_more None line t run copies after at waits pushed before = tt
  copy_more (Some waiting) line t run copies after at waits pushed before =
      pushed
      ∙ ap (λ runs. runs ++ run ∷ []) before
      ∙ ap (λ b. runs_waiting_at line (take t waiting.runs) ++ cond b (run ∷ []) []) (sym waits)
      ∙ sym (waiting_more line t run waiting.runs at)

  pub copy_none : (here : Option (Waiting C)) (line t : ℕ) (run : Run C) (copies : List (Run C)) → IsRunAt here t run → (run.here.line == line) ≡ false →
      IfSome here (λ waiting. copies ≡ runs_waiting_at line (take t waiting.runs)) → IfSome here (λ waiting. copies ≡ runs_waiting_at line (take (t + 1) waiting.runs))
  copy_none None line t run copies at apart before = tt
  copy_none (Some waiting) line t run copies at apart before =
      before
      ∙ sym (append-nil (runs_waiting_at line (take t waiting.runs)))
      ∙ ap (λ b. runs_waiting_at line (take t waiting.runs) ++ cond b (run ∷ []) []) (sym apart)
      ∙ sym (waiting_more line t run waiting.runs at)
