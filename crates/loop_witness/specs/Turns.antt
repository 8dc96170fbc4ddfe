-- How the marks move.
use Rattle.std.specs.Prelude.{◌≡◌, ◌≢◌, ◌+◌, ◌*◌, Bool, true, false}
use Rattle.loop_witness.specs.Marks.{Counted}
use Rattle.loop_witness.specs.declared.turn.Turn.{Turn}
use Rattle.loop_witness.specs.declared.turn.Turn.TheVariants as turns

-- what is answered at the step that was counted, and where the mark is then: in the marked configuration the repetition; else
-- the mark moves to the step that is twice its own plus one
abbrev pub IsAnswer : Bool → Counted → Counted → Turn → Type 0
IsAnswer same old new (turns.Repeat from to) = (same ≡ true) × (from ≡ old.mark) × (to ≡ new.steps) × (new.mark ≡ old.mark)
IsAnswer same old new turns.MarkHere = (same ≡ false) × (new.steps ≡ 2 * old.mark + 1) × (new.mark ≡ new.steps)
IsAnswer same old new turns.Go = (same ≡ false) × (new.steps ≢ 2 * old.mark + 1) × (new.mark ≡ old.mark)
