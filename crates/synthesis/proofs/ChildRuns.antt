-- The copies that a child takes of its parent's runs: what the judgement on the child asks for, what is kept after it, and the work.
use Rattle.std.proofs.Common.{All, ◌≡◌, ◌⊎◌, ℕ, ◌+◌, ◌*◌, ◌<◌, ◌≤◌, Bool, true, false, List, [], ◌∷◌, ◌++◌, filter, cond, length, take, drop, Option, Some, Result, Ok, Err, sym, ◌∙◌, ap, subst, arith}
use Rattle.std.specs.Prelude.{◌==◌, slice_get, IsSomeAnd, IfSome, OnOk}
use Rattle.std.proofs.lemmas.List.{length-map, take_all, drop_all, append-nil}
use Rattle.program_model.specs.declared.instr.Instr.{Instr}
use Rattle.program_model.specs.Semantics.{Semantics}
use Rattle.program_model.specs.Program.{Program, IsPartial, IsInstr, with_line}
use Rattle.evaluations.specs.declared.standing.Standing.{Standing}
use Rattle.interpreter.specs.declared.run.Run.{Run}
use Rattle.interpreter.specs.Counts.{RaisedAtMost}
use Rattle.interpreter.specs.Runs.{IsRunOf}
use Rattle.run_turns.specs.Settling.{instances_of, HasInstance, AreRising, AreRunsOf, HasSettled, AreReached, operations_left, marks_left}
use Rattle.program_model.specs.declared.verdict.Verdict.{Verdict}
use Rattle.program_model.specs.declared.verdict.Verdict.TheVariants as verdicts
use Rattle.judgement.specs.declared.judging.Judgement.{Judgement}
use Rattle.judgement.specs.declared.judging.Judgement.TheVariants as judgements
use Rattle.judgement.specs.Judging.{run_standing, IsSettledOn, HaveSettledIn}
use Rattle.synthesis.specs.Inner.Judged.{verdict_of}
use Rattle.search_bounds.specs.declared.bounds.Bounds.{Bounds}
use Rattle.waiting_programs.specs.Programs.{Waiting, kept_at, Becomes, child_of, AreAmong}
use Rattle.synthesis.specs.declared.splitting.Parent.{Parent}
use Rattle.synthesis.specs.BestFirst.{best_first}
use Rattle.synthesis.specs.FreshWork.{AreStandingSteps, operations_of_child, copies_of_child}
use Rattle.synthesis.specs.Inner.Keeping.{runs_waiting_at, IsKeptFor, IsParent}
use Rattle.synthesis.proofs.FreshRuns.{raised_twice, child_reached, child_operations, child_copies}
use Rattle.synthesis.proofs.SharedRuns.{many, child_partial, waiting_rising, waiting_are, standings_known, child_kept}

pub on_ok : {T E : Type 0} (P : Type 0) (r : Result T E) → P → OnOk r P
on_ok P (Ok x) p = p
on_ok P (Err e) p = tt

pub on_ok_too : {T E : Type 0} (P Q : Type 0) (r : Result T E) → (P → Q) → OnOk r P → OnOk r Q
on_ok_too P Q (Ok x) f p = f p
on_ok_too P Q (Err e) f p = tt

few_passed : {X : Type 0} (p : X → Bool) (xs : List X) → length (filter p xs) ≤ length xs
few_passed p [] = omega arith
few_passed p (x ∷ xs) = here (p x) (few_passed p xs)
  where
    here : (b : Bool) → length (filter p xs) ≤ length xs → length (cond b (x ∷ filter p xs) (filter p xs)) ≤ length (x ∷ xs)
    here true le = omega arith
    here false le = omega arith

-- what is written over a whole list is all of it
pub written_over : {X : Type 0} (len : ℕ) (old new : List X) → len ≡ length old → length new ≡ length old → take len (new ++ drop (length new) old) ≡ new
written_over len old new is same =
    ap (λ (ys : List _). take len (new ++ ys)) (drop_all (length new) old (omega arith))
    ∙ ap (take len) (append-nil new)
    ∙ take_all len new (omega arith)

module _ {C : Type 0} (m : Semantics C) (belongs : ℕ → C → Type 0) (limit : ℕ) (kept : List (Option (Waiting C))) (parent : Parent) (instr : Instr) (p : IsParent m belongs limit kept parent) (fits : IsInstr m.ops (length parent.program) parent.line instr)
    (copies : List (Run C)) (same : IfSome (kept_at kept parent.id) (λ waiting. copies ≡ runs_waiting_at parent.line waiting.runs)) where
  abbrev child : Program
  child = with_line parent.program parent.line instr

  are_copies : copies ≡ runs_waiting_at parent.line p.waiting.runs
  are_copies = subst (λ o. IfSome o (λ waiting. copies ≡ runs_waiting_at parent.line waiting.runs)) p.here same

  pub judged_partial : IsPartial m.ops child
  judged_partial = child_partial m belongs parent.program p.partial parent.line p.is_open instr fits limit

  pub judged_runs : AreRunsOf m belongs child limit copies
  judged_runs = subst (AreRunsOf m belongs child limit) (sym are_copies) (waiting_are m belongs parent.program p.partial parent.line p.is_open instr fits limit p.waiting.runs p.is_kept.on_each p.is_kept.are p.is_kept.settled)

  pub judged_rising : AreRising copies
  judged_rising = subst AreRising (sym are_copies) (waiting_rising m.instances parent.line p.waiting.runs p.is_kept.on_each)

  pub judged_all : (standings : List Standing) → standings ≡ parent.standings.items → length standings ≡ m.instances
  judged_all standings is = ap (λ (ss : List Standing). length ss) (is ∙ p.standings) ∙ length-map p.waiting.runs (run_standing m (length parent.program)) ∙ many m.instances p.waiting.runs p.is_kept.on_each

  pub judged_known : (standings : List Standing) → standings ≡ parent.standings.items → (t : ℕ) → t < m.instances → HasInstance copies t ⊎ IsSomeAnd (slice_get standings t) (IsSettledOn m child limit t)
  judged_known standings is = subst (λ runs. (t : ℕ) → t < m.instances → HasInstance runs t ⊎ IsSomeAnd (slice_get standings t) (IsSettledOn m child limit t)) (sym are_copies)
      (standings_known m belongs parent.program p.partial parent.line p.is_open instr fits limit p.waiting.runs p.is_kept.on_each p.is_kept.are p.is_kept.settled standings (is ∙ p.standings))

  few_copies : length copies ≤ m.instances
  few_copies = omega (arith, ap (λ (runs : List (Run C)). length runs) are_copies, few_passed (λ (run : Run C). run.here.line == parent.line) p.waiting.runs, many m.instances p.waiting.runs p.is_kept.on_each)

  -- ---- after they moved

  module _ (moved : List (Run C)) (on_same : instances_of moved ≡ instances_of copies) (moved_are : AreRunsOf m belongs child limit moved) where
    pub same_size : length moved ≡ length copies
    same_size = sym (length-map moved (λ (run : Run C). run.instance)) ∙ ap (λ (ts : List ℕ). length ts) on_same ∙ length-map copies (λ (run : Run C). run.instance)

    pub few_moved : length moved ≤ m.instances
    few_moved = omega (arith, same_size, few_copies)

    runs_moved : All (IsRunOf m belongs child) moved
    runs_moved k d lt = (moved_are k d lt).0

    pub among_parents : IsSomeAnd (kept_at kept parent.id) (λ waiting. AreAmong waiting.runs moved)
    among_parents = subst (λ o. IsSomeAnd o (λ (waiting : Waiting C). AreAmong waiting.runs moved)) (sym p.here)
        (λ k d lt. let within = (runs_moved k d lt).within in omega (arith, within, many m.instances p.waiting.runs p.is_kept.on_each))

    pub becomes_child : (now : List (Option (Waiting C))) (id : ℕ) → IfSome (kept_at kept parent.id) (λ waiting. Becomes kept now id (Some (child_of waiting parent.line instr moved))) → Becomes kept now id (Some (child_of p.waiting parent.line instr moved))
    becomes_child now id h = subst (λ o. IfSome o (λ (waiting : Waiting C). Becomes kept now id (Some (child_of waiting parent.line instr moved)))) p.here h

    pub moved_kept : All (HasSettled m child limit) moved → IsKeptFor m belongs limit child (child_of p.waiting parent.line instr moved)
    moved_kept settled =
        let is = child_kept m belongs parent.program p.partial parent.line p.is_open instr fits limit p.waiting.runs p.is_kept.on_each p.is_kept.are p.is_kept.settled moved (on_same ∙ ap instances_of are_copies) runs_moved settled in
        record { program = ap (λ q. with_line q parent.line instr) p.is_kept.program; on_each = is.on_each; are = is.are; settled = is.settled }

module _ {C : Type 0} (m : Semantics C) (bounds : Bounds) (belongs : ℕ → C → Type 0) (kept : List (Option (Waiting C))) (parent : Parent) (instr : Instr) (p : IsParent m belongs bounds.run kept parent) (fits : IsInstr m.ops (length parent.program) parent.line instr)
    (copies : List (Run C)) (same : IfSome (kept_at kept parent.id) (λ waiting. copies ≡ runs_waiting_at parent.line waiting.runs)) (reached : Program → ℕ → ℕ) (steps : AreStandingSteps m bounds.run reached) where
  abbrev the_child : Program
  the_child = with_line parent.program parent.line instr

  is_reached : AreReached m the_child bounds.run (reached the_child) copies
  is_reached = child_reached m bounds.run reached steps the_child copies (judged_partial m belongs bounds.run kept parent instr p fits copies same)
      (λ k d lt. (judged_runs m belongs bounds.run kept parent instr p fits copies same k d lt).0.within)

  copied : copies ≡ runs_waiting_at parent.line p.waiting.runs
  copied = are_copies m belongs bounds.run kept parent instr p fits copies same

  pub acts_of_child : (before mid after : ℕ) → mid ≡ before → ((given : ℕ → ℕ) → AreReached m the_child bounds.run given copies → RaisedAtMost (operations_left m the_child given copies) mid after) → RaisedAtMost (operations_of_child (best_first m bounds) reached parent.program parent.line the_child) before after
  acts_of_child before mid after is raised =
      subst (λ by. RaisedAtMost by before after) (ap (operations_left m the_child (reached the_child)) copied ∙ child_operations (best_first m bounds) belongs reached steps parent.program p.partial p.waiting.runs p.is_kept.on_each p.is_kept.are p.is_kept.settled parent.line the_child)
      (subst (λ from. RaisedAtMost (operations_left m the_child (reached the_child) copies) from after) is (raised (reached the_child) is_reached))

  pub copies_of_the_child : (before mid after : ℕ) → RaisedAtMost (2 * length copies) before mid → ((given : ℕ → ℕ) → AreReached m the_child bounds.run given copies → RaisedAtMost (marks_left given copies) mid after) → RaisedAtMost (copies_of_child (best_first m bounds) reached parent.program parent.line the_child) before after
  copies_of_the_child before mid after taken raised =
      subst (λ by. RaisedAtMost by before after) (ap (λ runs. 2 * length runs + marks_left (reached the_child) runs) copied ∙ child_copies (best_first m bounds) belongs reached steps parent.program p.partial p.waiting.runs p.is_kept.on_each p.is_kept.are p.is_kept.settled parent.line the_child)
      (raised_twice (2 * length copies) (marks_left (reached the_child) copies) before mid after taken (raised (reached the_child) is_reached))

-- ---- the root

abbrev WaitsSo : Verdict → Type 0
WaitsSo (verdicts.Waiting line) = Unit {0}
WaitsSo _ = ⊥

-- where the judgement is that a program waits, its runs have settled
pub settled_where_waiting : {C : Type 0} (m : Semantics C) (q : Program) (limit : ℕ) (runs : List (Run C)) (judgement : Judgement) (line : ℕ) → verdicts.Waiting line ≡ verdict_of judgement → HaveSettledIn m q limit runs judgement → All (HasSettled m q limit) runs
settled_where_waiting m q limit runs (judgements.Refused t cause) line e h = absurd (subst WaitsSo e tt)
settled_where_waiting m q limit runs (judgements.AtLimit t) line e h = absurd (subst WaitsSo e tt)
settled_where_waiting m q limit runs (judgements.Waiting its_line key) line e h = h
settled_where_waiting m q limit runs (judgements.Solved ends) line e h = h
