use Rattle.std.proofs.Common.{◌≡◌, ℕ, List, sym, subst}
use Rattle.std.specs.Prelude.{◌↔◌}
use Rattle.document_check.specs.Documents.{IsAcceptedDocument}
use Rattle.document_check.specs.Standing.{CompletesReading}
use Rattle.document_check.proofs.checker.Checker.start.Goals as goal

pub returns-clause-stands : goal.returns-clause-stands
returns-clause-stands g c =
    let m = g.M.Machine.semantics c.args.machine.now in
    let texts = c.args.names.now in
    let reading = c.in_ok-start.field-0 in
    subst (λ (n : ℕ). (more : List ℕ) → IsAcceptedDocument m texts n more ↔ CompletesReading m texts reading more) (sym c.in_ok-start.ensures.lines) c.in_ok-start.ensures.stands
