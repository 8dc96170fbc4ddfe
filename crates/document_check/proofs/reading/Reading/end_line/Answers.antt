use Rattle.std.proofs.Common.{◌≡◌, ◌∙◌, ◌+◌, ◌<◌, ◌≤◌, ◌++◌, ℕ, List, length, sym, subst, refl, ap, arith}
use Rattle.std.proofs.lemmas.Bool.{true≢false}
use Rattle.std.proofs.lemmas.List.{length-append}
use Rattle.document_check.specs.Inner.Steps.{Steps}
use Rattle.document_check.proofs.Completing.{line_ends, line_too_long}
use Rattle.document_check.proofs.reading.Reading.end_line.Goals as goal

pub returns-then-has_room-clause-goes_on : goal.returns-then-has_room-clause-goes_on
returns-then-has_room-clause-goes_on g c =
    let m = g.M.Machine.semantics c.args.machine.now in
    let texts = c.args.names.now in
    let old = c.args.self.now in
    let part = c.args.rest.now in
    let none = c.is_empty.ensures.0 c.if-is_empty.true in
    let text : part ≡ old.front.bytes ++ part = sym (ap (λ (l : List ℕ). l ++ part) none) in
    let fits : length (old.front.bytes ++ part) ≤ old.front.room = subst (λ (l : List ℕ). length l ≤ old.front.room) text (c.has_room.ensures.0 c.if-has_room.true) in
    line_ends m texts old (record { lines = old.lines; progress = c.take_line.new.self; front = old.front }) part c.requires.reading.free c.requires.free refl none refl fits
    (subst (λ (l : List ℕ). Steps m texts old.lines old.progress l c.take_line.new.self) text c.take_line.ensures.steps)

pub returns-then-add-clause-goes_on : goal.returns-then-add-clause-goes_on
returns-then-add-clause-goes_on g c =
    let m = g.M.Machine.semantics c.args.machine.now in
    let texts = c.args.names.now in
    let old = c.args.self.now in
    let part = c.args.rest.now in
    let text : c.as_slice.result.now ≡ old.front.bytes ++ part = c.as_slice.ensures ∙ c.add.ensures.bytes c.if-add.true in
    let count = length-append old.front.bytes part in
    let fits : length (old.front.bytes ++ part) ≤ old.front.room = omega (arith, count, c.add.ensures.fits.0 c.if-add.true) in
    line_ends m texts old (record { lines = old.lines; progress = c.take_line-then-add.new.self; front = c.clear.new.self }) part c.requires.reading.free c.requires.free refl c.clear.ensures.bytes (c.clear.ensures.room ∙ c.add.ensures.room) fits
    (subst (λ (l : List ℕ). Steps m texts old.lines old.progress l c.take_line-then-add.new.self) text c.take_line-then-add.ensures.steps)

pub returns-else-add-clause-goes_on : goal.returns-else-add-clause-goes_on
returns-else-add-clause-goes_on g c =
    let m = g.M.Machine.semantics c.args.machine.now in
    let old = c.args.self.now in
    let part = c.args.rest.now in
    let not : length old.front.bytes + length part ≤ old.front.room → ⊥ = λ fits. true≢false (sym (c.add.ensures.fits.1 fits) ∙ c.if-add.false) in
    line_too_long m c.args.names.now old (record { lines = old.lines; progress = c.reject.new.self; front = c.clear-else-add.new.self }) part c.requires.reading.free c.requires.free (omega (arith, not)) c.reject.ensures.stage
