use Rattle.std.proofs.Common.{◌∙◌, sym, subst, arith}
use Rattle.std.specs.Prelude.{◌↔◌, IsTrue}
use Rattle.document_check.proofs.Told.{told_exactly}
use Rattle.document_check.proofs.said.says_number.Goals as goal

pub returns : goal.returns
returns c =
    let exactly = told_exactly c.args.words.now c.args.line.now c.args.most c.args.number c.number_after.result (omega (arith, c.ranges.most.fits)) c.number_after.ensures.some c.number_after.ensures.none in
    (λ yes. exactly.0 (sym c.eq.ensures ∙ yes), λ says. c.eq.ensures ∙ exactly.1 says)
