use Rattle.std.proofs.Common.{◌∙◌, sym, ap, subst, vec_items, List, ℕ}
use Rattle.std.specs.Prelude.{slice_get, Contains}
use Rattle.program_text.proofs.Found.{found_there, found_nowhere}
use Rattle.program_text.proofs.names.Names.find.Goals as goal

pub returns-in_err-place-clause-none : goal.returns-in_err-place-clause-none
returns-in_err-place-clause-none c =
    rw c.from_residual.ensures (λ there.
    found_nowhere vec_items c.args.text.now c.self.inside.texts.keys (sym c.in_err-place.ensures.index)
    (subst (λ (names : List (List ℕ)). Contains names c.args.text.now) (sym c.self.view_is) there))

pub returns-clause-some : goal.returns-clause-some
returns-clause-some c =
    ap (λ (names : List (List ℕ)). slice_get names c.in_ok-place.place) (sym c.self.view_is)
    ∙ found_there vec_items c.args.text.now c.self.inside.texts.keys c.in_ok-place.place (sym c.in_ok-place.ensures.index)
