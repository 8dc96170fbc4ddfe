-- Drafts of children: the runs of one become those that wait at the line, and it is used again where no child keeps them.
use Rattle.std.proofs.Common.{All, ◌≡◌, ◌+◌, ◌<◌, ◌≤◌, ℕ, Bool, false, List, [], ◌∷◌, length, set, get_or, drop, Option, Some, None, refl, sym, ◌∙◌, ap, ap₂, subst, inl, inr, arith}
use Rattle.std.specs.Prelude.{◌==◌, slice_get, IfSome}
use Rattle.std.specs.List.{range_with_len}
use Rattle.std.proofs.lemmas.Bool.{cases_eq, true≢false}
use Rattle.std.proofs.lemmas.Option.{same_Some, slice_get-get_or, slice_get_within, get_or_from_slice_get}
use Rattle.std.proofs.lemmas.List.{set-set, length-set, get_or-set_same, get_or-set_other}
use Rattle.std.proofs.lemmas.List.Elements.{All-head, All-tail, All-filter, All-nil, All-same}
use Rattle.program_model.specs.declared.instr.Instr.{Instr}
use Rattle.program_model.specs.Semantics.{Semantics}
use Rattle.program_model.specs.Program.{Program, with_line}
use Rattle.program_model.proofs.Programs.{open_is_not_last}
use Rattle.interpreter.specs.declared.run.Run.{Run}
use Rattle.interpreter.specs.Runs.{IsRunOf}
use Rattle.run_turns.specs.Settling.{instances_of, AreRunsOf}
use Rattle.waiting_programs.specs.Programs.{Waiting, kept_at}
use Rattle.synthesis.specs.declared.splitting.Parent.{Parent}
use Rattle.synthesis.specs.declared.splitting.Draft.{Draft}
use Rattle.synthesis.specs.Inner.Keeping.{runs_waiting_at, IsKeptFor, IsParent, IsDraft}
use Rattle.synthesis.proofs.SharedRuns.{placed}
use Rattle.synthesis.proofs.KeptRuns.{IsKept, IsRunAt}

-- ---- the runs on some instances

module _ {C : Type 0} where
  -- a run is the one on its instance
  abbrev IsOneOf : List (Run C) → Run C → Type 0
  IsOneOf all run = slice_get all run.instance ≡ Some run

  same_runs : (all xs ys : List (Run C)) → All (IsOneOf all) xs → All (IsOneOf all) ys → instances_of xs ≡ instances_of ys → xs ≡ ys
  same_runs all [] [] h k e = refl
  same_runs all [] (y ∷ ys) h k e = absurd (let sizes = ap (λ (ts : List ℕ). length ts) e in omega (arith, sizes))
  same_runs all (x ∷ xs) [] h k e = absurd (let sizes = ap (λ (ts : List ℕ). length ts) e in omega (arith, sizes))
  same_runs all (x ∷ xs) (y ∷ ys) h k e =
      let first : x.instance ≡ y.instance = ap (λ (ts : List ℕ). get_or ts 0 0) e in
      let same : x ≡ y = same_Some x y (sym (All-head (IsOneOf all) x xs h) ∙ ap (slice_get all) first ∙ All-head (IsOneOf all) y ys k) in
      ap₂ (λ (z : Run C) (zs : List (Run C)). z ∷ zs) same (same_runs all xs ys (All-tail (IsOneOf all) x xs h) (All-tail (IsOneOf all) y ys k) (ap (λ (ts : List ℕ). drop 1 ts) e))

  waiting_ones : (count line : ℕ) (runs : List (Run C)) → instances_of runs ≡ range_with_len 0 count → All (IsOneOf runs) (runs_waiting_at line runs)
  waiting_ones count line runs on_each = All-filter (λ (run : Run C). run.here.line == line) (IsOneOf runs) runs
      (λ k d lt. ap (slice_get runs) (placed count runs on_each k d lt) ∙ slice_get-get_or runs k d lt)

  -- so it is of the first runs
  abbrev pub AreOnesBelow : Option (Waiting C) → ℕ → List (Run C) → Type 0
  AreOnesBelow here count runs = IfSome here (λ waiting. (i : ℕ) (d : Run C) → i < count → IsOneOf waiting.runs (get_or runs i d))

  pub no_ones : (here : Option (Waiting C)) (runs : List (Run C)) → AreOnesBelow here 0 runs
  no_ones None runs = tt
  no_ones (Some waiting) runs = λ i d below. absurd (omega arith)

  pub same_after : (here : Option (Waiting C)) (line : ℕ) (before after : List (Run C)) → instances_of after ≡ instances_of before → IfSome here (λ waiting. instances_of before ≡ instances_of (runs_waiting_at line waiting.runs)) → IfSome here (λ waiting. instances_of after ≡ instances_of (runs_waiting_at line waiting.runs))
  same_after None line before after e h = tt
  same_after (Some waiting) line before after e h = e ∙ h

module _ {C : Type 0} (m : Semantics C) (belongs : ℕ → C → Type 0) (limit : ℕ) where
  pub on_instance : (here : Option (Waiting C)) (t : ℕ) (run : Run C) → IsKept m belongs limit here → IsRunAt m belongs limit here t run → run.instance ≡ t
  on_instance None t run kept at = absurd kept
  on_instance (Some waiting) t run kept at =
      ap (λ (one : Run C). one.instance) (sym (get_or_from_slice_get waiting.runs t run run at)) ∙ placed m.instances waiting.runs kept.on_each t run (slice_get_within waiting.runs t run at)

  -- one run more is the one on its instance
  pub one_more : (here : Option (Waiting C)) (runs : List (Run C)) (place t : ℕ) (run : Run C) → place < length runs → run.instance ≡ t → IsRunAt m belongs limit here t run → AreOnesBelow here place runs → AreOnesBelow here (place + 1) (set runs place run)
  one_more None runs place t run inside instance at before = tt
  one_more (Some waiting) runs place t run inside instance at before = λ i d below. elim (cases_eq i place) [
    | inl e ↦ subst (IsOneOf waiting.runs) (sym (ap (λ n. get_or (set runs place run) n d) e ∙ get_or-set_same runs place run d inside)) (ap (slice_get waiting.runs) instance ∙ at)
    | inr differs ↦ subst (IsOneOf waiting.runs) (sym (get_or-set_other runs place i run d differs)) (before i d (omega arith))
  ]

  -- with all of them the runs are those that wait at the line
  pub all_ones : (here : Option (Waiting C)) (line : ℕ) (runs : List (Run C)) (count : ℕ) → IsKept m belongs limit here → length runs ≤ count → AreOnesBelow here count runs → IfSome here (λ waiting. instances_of runs ≡ instances_of (runs_waiting_at line waiting.runs)) → IfSome here (λ waiting. runs ≡ runs_waiting_at line waiting.runs)
  all_ones None line runs count kept past h same = tt
  all_ones (Some waiting) line runs count kept past h same =
      same_runs waiting.runs runs (runs_waiting_at line waiting.runs) (λ i d lt. h i d (omega arith)) (waiting_ones m.instances line waiting.runs kept.on_each) same

-- ---- a draft

module _ {C : Type 0} (m : Semantics C) (belongs : ℕ → C → Type 0) (kept : List (Option (Waiting C))) (parent : Parent) (draft : Draft C) where
  pub new_draft : draft.program ≡ parent.program → draft.runs.items ≡ [] → IsDraft m belongs kept parent draft
  new_draft program none = record {
    program = λ instr. ap (λ (q : Program). with_line q parent.line instr) program;
    instances = inl none;
    runs = All-same (λ run. (q : Program) × IsRunOf m belongs q run) draft.runs.items [] none (All-nil (λ run. (q : Program) × IsRunOf m belongs q run));
  }

  module _ (instr : Instr) (program : draft.program ≡ with_line parent.program parent.line instr) where
    used : (other : Instr) → with_line draft.program parent.line other ≡ with_line parent.program parent.line other
    used other = ap (λ (q : Program). with_line q parent.line other) program ∙ set-set parent.program parent.line (Some instr) (Some other)

    -- a child kept the runs
    pub runs_taken : draft.runs.items ≡ [] → IsDraft m belongs kept parent draft
    runs_taken none = record {
      program = used;
      instances = inl none;
      runs = All-same (λ run. (q : Program) × IsRunOf m belongs q run) draft.runs.items [] none (All-nil (λ run. (q : Program) × IsRunOf m belongs q run));
    }

    -- no child kept them
    pub runs_left : (limit : ℕ) (copies : List (Run C)) → IfSome (kept_at kept parent.id) (λ waiting. copies ≡ runs_waiting_at parent.line waiting.runs) → instances_of draft.runs.items ≡ instances_of copies → AreRunsOf m belongs (with_line parent.program parent.line instr) limit draft.runs.items → IsDraft m belongs kept parent draft
    runs_left limit copies same on_same are = record {
      program = used;
      instances = inr (on_them (kept_at kept parent.id) same);
      runs = λ k d lt. (with_line parent.program parent.line instr, (are k d lt).0);
    }
      where
        on_them : (here : Option (Waiting C)) → IfSome here (λ waiting. copies ≡ runs_waiting_at parent.line waiting.runs) → IfSome here (λ waiting. instances_of draft.runs.items ≡ instances_of (runs_waiting_at parent.line waiting.runs))
        on_them None h = tt
        on_them (Some waiting) h = on_same ∙ ap instances_of h

module _ {C : Type 0} (m : Semantics C) (belongs : ℕ → C → Type 0) (limit : ℕ) (kept : List (Option (Waiting C))) (parent : Parent) (draft : Draft C) (p : IsParent m belongs limit kept parent) (d : IsDraft m belongs kept parent draft) where
  -- the line of the split is one of a draft's, and not its last
  pub line_inside : Instr → parent.line + 1 < length draft.program
  line_inside instr = omega (
    arith,
    open_is_not_last m.ops parent.program parent.line p.partial p.is_open,
    ap (λ (q : Program). length q) (d.program instr),
    length-set draft.program parent.line (Some instr),
    length-set parent.program parent.line (Some instr),
  )

  pub parent_kept : IsKept m belongs limit (kept_at kept parent.id)
  parent_kept = subst (IsKept m belongs limit) (sym p.here) (subst (λ q. IsKeptFor m belongs limit q p.waiting) (sym p.is_kept.program) p.is_kept)

  -- with runs it has them on the right instances
  pub on_instances : (count : ℕ) (empty : Bool) → count ≡ length draft.runs.items → empty ≡ (count == 0) → empty ≡ false → IfSome (kept_at kept parent.id) (λ waiting. instances_of draft.runs.items ≡ instances_of (runs_waiting_at parent.line waiting.runs))
  on_instances count empty size is some = elim d.instances [
    | inl none ↦ absurd (true≢false (sym (ap (λ (n : ℕ). n == 0) (size ∙ ap (λ (runs : List (Run C)). length runs) none)) ∙ sym is ∙ some))
    | inr same ↦ same
  ]
