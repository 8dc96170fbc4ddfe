use Rattle.std.proofs.Common.{◌≡◌, ◌∙◌, sym}
use Rattle.std.proofs.lemmas.Bool.{false≢true}
use Rattle.document_check.proofs.Completing as completing
use Rattle.document_check.proofs.reading.Reading.is_complete.Goals as goal

pub returns-then-is_whole : goal.returns-then-is_whole
returns-then-is_whole g c = λ m texts free.
    let complete = completing.is_complete m texts c.args.self.now free in (
      λ yes. complete.1 (c.is_whole.ensures.0 c.if-is_whole.true, c.is_empty.ensures.0 yes),
      λ is. c.is_empty.ensures.1 (complete.0 is).1,
    )

pub returns-else-is_whole : goal.returns-else-is_whole
returns-else-is_whole g c = λ m texts free.
    let complete = completing.is_complete m texts c.args.self.now free in (
      λ yes. absurd (false≢true (sym c.if-is_whole.false ∙ yes)),
      λ is. c.is_whole.ensures.1 (complete.0 is).0,
    )
