use Rattle.std.proofs.Common.{◌∙◌, ℕ, List, Bor, sym, ap}
use Rattle.std.specs.List.{list_all}
use Rattle.std.proofs.lemmas.List.Folds.{list_all-map}
use Rattle.command_words.specs.Inner.Scanning.{is_used}
use Rattle.command_words.proofs.form.are_complete.Goals as goal

pub returns : goal.returns
returns c =
    let uses = c.args.uses.now in
    c.are_used.ensures
    ∙ sym (list_all-map (λ (name : List ℕ). is_used uses name) (λ (name : Bor (List ℕ)). name.now) c.required_of.result.now)
    ∙ ap (list_all (λ (name : List ℕ). is_used uses name)) c.required_of.ensures
