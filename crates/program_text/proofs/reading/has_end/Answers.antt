use Rattle.std.proofs.Common.{◌≡◌, ◌-◌, ◌∙◌, ℕ, List, length, ap, sym, refl, arith}
use Rattle.std.specs.Prelude.{Some, codes}
use Rattle.std.proofs.lemmas.Bool.Decides.{Decides-eqb}
use Rattle.std.proofs.lemmas.Option.{slice_get_read, same_Some}
use Rattle.std.proofs.lemmas.Slice.Eq.{slice_eq-Decides}
use Rattle.program_text.proofs.SoFar.{text_at}
use Rattle.program_text.proofs.reading.has_end.Goals as goal

pub returns-in-len1-up : goal.returns-in-len1-up
returns-in-len1-up c =
    let lines = c.args.lines.now in
    let last = c.last-item.result in
    let here = text_at lines (length lines - 1) last (slice_get_read lines (length lines) (length lines - 1) last refl (omega arith) c.last-item.is) in
    let decides = slice_eq-Decides Decides-eqb c.as_slice.result.now c.as_slice-in-len1-up.result.now c.eq.result c.eq.ensures in (
      (λ e. let same : last.text ≡ codes "end" = cc (decides.0 e) in here ∙ ap (λ (t : List ℕ). Some t) same),
      (λ e. let same : last.text ≡ codes "end" = same_Some last.text (codes "end") (sym here ∙ e) in decides.1 (cc)),
    )
