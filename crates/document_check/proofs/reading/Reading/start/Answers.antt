use Rattle.std.proofs.Common.{◌≡◌, ◌∙◌, ℕ, ◌<◌, ◌≤◌, List, length, true, sym, subst, refl, ap, arith}
use Rattle.std.specs.Prelude.{IsTrue}
use Rattle.answer_lines.specs.Cuts.{is_free_of}
use Rattle.answer_lines.specs.Lines.{IsLine}
use Rattle.document_check.specs.Standing.{FitsStage}
use Rattle.document_check.specs.declared.stage.Stage.{Stage}
use Rattle.document_check.proofs.Starting.{starts}
use Rattle.document_check.proofs.reading.Reading.start.Goals as goal

pub returns-clause-reading : goal.returns-clause-reading
returns-clause-reading g c =
    let m = g.M.Machine.semantics c.args.machine.now in
    let progress = c.in_ok-start.field-0 in
    record {
      names = c.count-count.ensures.are_names;
      progress = record { walk = c.in_ok-start.ensures.walk; stage = subst (FitsStage m c.args.lines progress.walk progress.program) (sym c.in_ok-start.ensures.stage) tt };
      free = subst (λ (l : List ℕ). IsTrue (is_free_of 10 l)) (sym c.in_ok-new.ensures.bytes) refl;
    }

pub returns-clause-stands : goal.returns-clause-stands
returns-clause-stands g c =
    let m = g.M.Machine.semantics c.args.machine.now in
    let texts = c.args.names.now in
    let pointers = subst (λ (n : ℕ). (1 ≤ n) × (n ≤ 4)) c.pointers-pointers.ensures.value (omega (arith, c.pointers-pointers.ensures.some), omega (arith, c.pointers-pointers.ensures.few)) in
    let instances = subst (λ (n : ℕ). (1 ≤ n) × (n ≤ 32)) c.instances-instances.ensures.value (omega (arith, c.instances-instances.ensures.some), omega (arith, c.instances-instances.ensures.few)) in
    starts m texts (record { lines = c.args.lines; progress = c.in_ok-start.field-0; front = c.in_ok-new.field-0 }) c.count-count.ensures.are_names c.requires pointers instances c.in_ok-start.ensures.stage c.in_ok-new.ensures.bytes
    (λ text is. subst (λ (n : ℕ). length text ≤ n) (sym c.in_ok-new.ensures.room) (c.line_room.ensures.room text is))
