use Rattle.std.proofs.Common.{◌≡◌, ◌++◌, ℕ, List, [], sym, subst}
use Rattle.std.specs.Prelude.{◌↔◌, IsTrue}
use Rattle.std.proofs.lemmas.List.{append-nil}
use Rattle.document_check.specs.Documents.{IsAcceptedDocument}
use Rattle.document_check.proofs.checker.Checker.finish.Goals as goal

pub returns : goal.returns
returns g c = rw (← c.self.view_is) (λ bytes stands.
    let m = g.M.Machine.semantics c.self.inside.machine.now in
    let texts = c.self.inside.names.now in
    let reading = c.self.inside.reading in
    let complete = c.is_complete.ensures m texts c.self.invariant.1.free in
    let exactly = stands [] in
    let accepted : List ℕ → Type 0 = λ (l : List ℕ). IsAcceptedDocument m texts reading.lines l in
    (λ yes. subst accepted (append-nil bytes) (exactly.1 (complete.0 yes)), λ is. complete.1 (exactly.0 (subst accepted (sym (append-nil bytes)) is))))
