use Rattle.std.proofs.Common.{◌≡◌, ◌+◌, ◌-◌, ◌∙◌, ℕ, List, length, ap, sym, subst, refl, get_or, arith}
use Rattle.std.specs.Prelude.{Some, slice_get}
use Rattle.std.proofs.lemmas.Option.{slice_get_read}
use Rattle.program_model.specs.Program.{Program}
use Rattle.program_text.specs.Reading.{MayStand}
use Rattle.program_text.proofs.SoFar.{IsReadTo, one_more_read, astray_here, all_read}
use Rattle.program_text.proofs.reading.program_with_end.Goals as goal

pub returns-in-None : goal.returns-in-None
returns-in-None c =
    let lines = c.args.lines.now in
    let line = c.index-lines-from.result in
    let place = c.loop-place.place in
    let here : slice_get lines place ≡ Some line = slice_get_read lines (length lines) place line refl (omega arith) (c.index-lines-from.is ∙ ap (λ (i : ℕ). get_or lines i line) c.from.ensures) in
    let astray = subst (λ (t : List ℕ). MayStand c.args.names.now (length lines) place t → ⊥) c.as_slice.ensures c.in-None.ensures.none in
    (c.requires.few, c.requires.end, astray_here c.args.names.now lines place c.loop-place.program line c.loop-place.invariant here astray)

pub loop-place-preserved : goal.loop-place-preserved
loop-place-preserved c =
    let names = c.args.names.now in
    let lines = c.args.lines.now in
    let line = c.index-lines-from.result in
    let place = c.loop-place.place in
    let here : slice_get lines place ≡ Some line = slice_get_read lines (length lines) place line refl (omega arith) (c.index-lines-from.is ∙ ap (λ (i : ℕ). get_or lines i line) c.from.ensures) in
    subst (λ (program : Program). IsReadTo names lines (place + 1) program) (sym c.define.ensures)
    (one_more_read names lines place c.loop-place.program line c.in-Some.instr c.loop-place.invariant (omega arith) here c.in-Some.ensures.some.0 (c.in-Some.ensures.some.1 ∙ c.as_slice.ensures))

pub returns : goal.returns
returns c =
    let names = c.args.names.now in
    let lines = c.args.lines.now in
    let at_end : c.loop-place.place ≡ length lines - 1 = omega arith in
    all_read names lines c.loop-place.program (subst (λ (n : ℕ). IsReadTo names lines n c.loop-place.program) at_end c.loop-place.invariant) c.requires.some c.requires.few c.requires.end
