use Rattle.std.proofs.Common.{◌∙◌, sym, arith}
use Rattle.std.proofs.lemmas.List.{length-drop, take_rest}
use Rattle.pddl_lexer.proofs.Pieces.{reading-passed, reading-spelled, reading-stray, reading-end, tokens_are_in_order}
use Rattle.pddl_lexer.proofs.lexer.tokens.Goals as goal

pub loop-at-preserved-in-Passed : goal.loop-at-preserved-in-Passed
loop-at-preserved-in-Passed c =
    let piece = c.in-Passed.ensures in
    (grind (arith, piece.within, take_rest, length-drop), reading-passed _ _ _ c.loop-at-test.true _ piece.exact piece.within.0 ∙ c.loop-at.invariant.1)

pub loop-at-preserved : goal.loop-at-preserved
loop-at-preserved c =
    let piece = c.in-Spelled.ensures in
    let pushed = c.in_ok-push-in-Spelled.ensures.ok in
    (grind (arith, piece.within, take_rest, length-drop), rw pushed (reading-spelled _ _ _ c.loop-at-test.true _ _ piece.exact piece.within.0 ∙ c.loop-at.invariant.1))

pub returns-in-Stray-clause-exact : goal.returns-in-Stray-clause-exact
returns-in-Stray-clause-exact c =
    sym c.loop-at.invariant.1 ∙ reading-stray _ _ _ c.loop-at-test.true c.in-Stray.ensures.exact

pub returns-clause-exact : goal.returns-clause-exact
returns-clause-exact c = sym c.loop-at.invariant.1 ∙ reading-end _ _ _ c.loop-at-test.false

pub returns-clause-spans : goal.returns-clause-spans
returns-clause-spans c = tokens_are_in_order _ _ (sym c.loop-at.invariant.1 ∙ reading-end _ _ _ c.loop-at-test.false)
