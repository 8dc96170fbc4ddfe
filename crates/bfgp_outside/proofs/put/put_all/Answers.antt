use Rattle.std.proofs.Common.{ℕ, List, [], ◌++◌, take, drop, Ok, arith, length-drop, sym, ◌∙◌, ap}
use Rattle.std.proofs.Math.Seq.{take-add}
use Rattle.std.proofs.lemmas.List.{append-nil, take_rest, take-append-drop}
use Rattle.bfgp_outside.proofs.Written.{prefix_none}
use Rattle.bfgp_outside.proofs.Puts.{then_put, stopped_put, same_put}
use Rattle.bfgp_outside.proofs.put.put_all.Goals as goal

pub returns-in_err-done : goal.returns-in_err-done
returns-in_err-done g c =
    let written = g.K.Sink.written in
    let faults = g.K.Sink.faults in
    let bytes = c.args.bytes.now in
    let done = c.loop-done.done in
    same_put written faults c.args.sink.now c.put.new.self c.from_residual.result _ bytes (ap (λ (l : List ℕ). take done bytes ++ l) (append-nil (drop done bytes)) ∙ take-append-drop done bytes)
    (stopped_put written faults {T = ℕ} c.args.sink.now c.loop-done.sink c.put.new.self c.in_err-done.field-0.0 c.from_residual.result (take done bytes) (drop done bytes) [] c.from_residual.ensures.0 c.loop-done.invariant.so_far
    (record { ok = tt; err = prefix_none _ _ (drop done bytes) c.in_err-done.ensures.bytes; cause = c.in_err-done.ensures.cause }))

pub loop-done-preserved : goal.loop-done-preserved
loop-done-preserved g c =
    let written = g.K.Sink.written in
    let faults = g.K.Sink.faults in
    let bytes = c.args.bytes.now in
    let done = c.loop-done.done in
    let count = c.in_ok-done.field-0 in
    record {
      within = omega (arith, rw take_rest at c.in_ok-done.ensures.bound, length-drop done bytes);
      so_far = same_put written faults c.args.sink.now c.put.new.self (Ok tt) _ _ (sym (take-add done count bytes))
          (then_put written faults c.args.sink.now c.loop-done.sink c.put.new.self (Ok tt) (take done bytes) (take count (drop done bytes)) c.loop-done.invariant.so_far
          (record { ok = rw take_rest at c.in_ok-done.ensures.bytes; err = tt; cause = record { later = c.in_ok-done.ensures.cause.later; failed = tt; kept = c.in_ok-done.ensures.cause.kept } }));
    }
