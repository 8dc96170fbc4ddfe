-- Each run is put in place in turn.
use Rattle.std.proofs.Common.{◌≡◌, ◌++◌, ◌∷◌, [], ℕ, List, set, refl, sym, arith}
use Rattle.std.proofs.lemmas.List.{length_push}
use Rattle.interpreter.specs.declared.run.Run.{Run}
use Rattle.waiting_programs.specs.Programs.{with_runs}
use Rattle.waiting_programs.specs.Inner.Holds.{values_at}
use Rattle.waiting_programs.proofs.Exchanging.{exchange_both}
use Rattle.waiting_programs.proofs.moves.put_runs.Goals as goal

with_runs-push : {C : Type 0} (runs moved : List (Run C)) (run : Run C) → with_runs runs (moved ++ run ∷ []) ≡ set (with_runs runs moved) run.instance run
with_runs-push runs [] run = refl
with_runs-push runs (first ∷ moved) run = with_runs-push (set runs first.instance first) moved run

one_more : {C : Type 0} (first old new moved : List (Run C)) (run : Run C) (at : ℕ) → old ≡ with_runs first moved → at ≡ run.instance → new ≡ set old at run → new ≡ with_runs first (moved ++ run ∷ [])
one_more first old new moved run at so_far is put = rw (put, so_far, is) (sym (with_runs-push first moved run))

pub loop-run-preserved : goal.loop-run-preserved
loop-run-preserved g c =
    let i = c.loop-run.invariant in
    let p = c.put_in_place.ensures in
    let run = c.in-Some.run' in
    record {
      exchanged = exchange_both _ c.loop-run.pool _ _ c.loop-run.slots _ c.requires.held i.exchanged p.exchanged;
      runs = one_more (values_at c.args.pool.now c.args.slots.now) (values_at c.loop-run.pool c.loop-run.slots) (values_at c.put_in_place.new.pool c.put_in_place.new.slots) c.loop-run.yielded run c.instance-place.result i.runs c.instance-place.ensures p.values;
      distinct = p.distinct;
      spare = omega (arith, i.spare, p.spare, length_push c.loop-run.yielded run);
    }
