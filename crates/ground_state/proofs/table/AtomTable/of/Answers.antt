use Rattle.std.proofs.Common.{◌∙◌, length, ap, arith}
use Rattle.std.proofs.lemmas.Grind.{common_steps}
use Rattle.ground_state.proofs.States.{length-those_of}
use Rattle.ground_state.proofs.table.AtomTable.of.Goals as goal

pub invariant_of-result : goal.invariant_of-result
invariant_of-result c =
    let numbering = c.in_ok-numbering.numbering in (
      grind (arith, common_steps),
      ap length c.in_ok-initial.ensures ∙ length-those_of numbering.0 numbering.1 c.as_slice.result.now,
      ap length c.in_ok-goal.ensures ∙ length-those_of numbering.0 numbering.1 c.as_slice-2.result.now,
    )
