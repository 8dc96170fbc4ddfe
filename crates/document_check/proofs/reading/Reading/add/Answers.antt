use Rattle.std.proofs.Common.{◌≡◌, ◌∙◌, ◌+◌, ◌<◌, ◌≤◌, length, sym, arith}
use Rattle.std.proofs.lemmas.Bool.{true≢false}
use Rattle.document_check.proofs.Completing.{front_too_long}
use Rattle.document_check.proofs.reading.Reading.add.Goals as goal

pub returns-then-not-add-clause-goes_on : goal.returns-then-not-add-clause-goes_on
returns-then-not-add-clause-goes_on g c =
    let m = g.M.Machine.semantics c.args.machine.now in
    let old = c.args.self.now in
    let part = c.args.more.now in
    let not : length old.front.bytes + length part ≤ old.front.room → ⊥ = λ fits. true≢false (sym (c.add.ensures.fits.1 fits) ∙ c.if-not-add.true) in
    front_too_long m c.args.names.now old (record { lines = old.lines; progress = c.reject.new.self; front = c.clear.new.self }) part c.requires.reading.free c.requires.free (omega (arith, not)) c.reject.ensures.stage
