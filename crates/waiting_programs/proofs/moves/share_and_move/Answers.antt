-- The slots are held once more, and then some of them exchanged.
use Rattle.std.proofs.Common.{◌≡◌, ◌++◌, [], ℕ, List, length, take, drop, ap, ◌∙◌, arith, rules}
use Rattle.std.proofs.lemmas.List.{append-nil, take_all, drop_all}
use Rattle.interpreter.specs.declared.run.Run.{Run}
use Rattle.waiting_programs.specs.Programs.{with_runs}
use Rattle.waiting_programs.proofs.Exchanging.{values_stay, exchange_both}
use Rattle.waiting_programs.proofs.moves.share_and_move.Goals as goal

-- what a list is after the slice of the whole was written
written_back : (old new : List ℕ) (len : ℕ) → length new ≡ length old → len ≡ length old → take len (new ++ drop (length new) old) ≡ new
written_back old new len same all =
    ap (λ (rest : List ℕ). take len (new ++ rest)) (drop_all (length new) old (omega (arith, same)))
    ∙ ap (take len) (append-nil new)
    ∙ take_all len new (omega (arith, same, all))

pub put_runs-requires-clause-distinct : goal.put_runs-requires-clause-distinct
put_runs-requires-clause-distinct g c = rw (c.as_mut_slice.ensures.value, c.in_ok-own.ensures.items) c.requires.distinct

pub returns : goal.returns
returns g c =
    let items = c.in_ok-own.ensures.items in
    let own = c.in_ok-own.own in
    let put = c.put_runs in
    let shared = rw (c.as_slice.ensures.value, items) at c.share_all.ensures.shared in
    let exchanged = rw (c.as_mut_slice.ensures.value, items) at put.ensures.exchanged in
    let runs = rw (c.as_mut_slice.ensures.value, items) at put.ensures.runs in
    let stay = values_stay c.args.pool.now c.share_all.new.pool [] c.args.slots.now c.args.slots.now shared (λ slot. omega (arith, c.requires.held slot)) in
    let back = written_back own.items put.new.slots own.len (put.auto.slots ∙ ap length c.as_mut_slice.ensures.value) own.ok.0 in
    rw back (record {
      taken = exchange_both _ c.share_all.new.pool _ [] c.args.slots.now put.new.slots (λ slot. omega arith) shared exchanged;
      runs = runs ∙ ap (λ (runs : List (Run _)). with_runs runs c.args.moved.items) stay;
      distinct = put.ensures.distinct;
      spare = omega (arith, c.share_all.ensures.spare, put.ensures.spare);
      refused = search rules;
    })
