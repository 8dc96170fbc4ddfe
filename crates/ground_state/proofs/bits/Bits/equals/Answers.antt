use Rattle.std.proofs.Common.{◌∙◌, sym}
use Rattle.std.proofs.lemmas.Bool.{eqb-true}
use Rattle.std.proofs.lemmas.Bool.Decides.{Decides-eqb}
use Rattle.std.proofs.lemmas.Slice.Eq.{slice_eq-Decides}
use Rattle.ground_state.proofs.Packing.{same_count, equal_rows}
use Rattle.ground_state.proofs.bits.Bits.equals.Goals as goal

pub returns-then-self-other : goal.returns-then-self-other
returns-then-self-other c =
    let one = c.self.inside in
    let other = c.other.inside in
    let told = rw (c.as_slice.ensures.value, c.as_slice-then-self-other.ensures.value) at c.eq.ensures in
    let decides = slice_eq-Decides Decides-eqb one.words.items other.words.items c.eq.result told in
    rw (← c.self.view_is, ← c.other.view_is) (equal_rows one.count other.count one.words.items other.words.items c.eq.result c.self.invariant c.other.invariant c.if-self-other.true decides)

pub returns-else-self-other : goal.returns-else-self-other
returns-else-self-other c =
    let one = c.self.inside in
    let other = c.other.inside in (
      (λ yes. absurd (c.if-self-other.false (eqb-true one.count other.count yes))),
      (λ equal. absurd (c.if-self-other.false (same_count one.count other.count one.words.items other.words.items (c.self.view_is ∙ equal ∙ sym c.other.view_is)))),
    )
