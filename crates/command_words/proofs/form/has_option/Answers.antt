use Rattle.std.proofs.Common.{◌∙◌, ℕ, List, Bor, sym, ap}
use Rattle.std.specs.List.{list_any}
use Rattle.std.specs.Str.{bytes_eq}
use Rattle.command_words.proofs.FormTests.{any_mapped}
use Rattle.command_words.proofs.form.has_option.Goals as goal

pub returns : goal.returns
returns c =
    let name = c.args.name.now in
    c.is_one_of.ensures
    ∙ sym (any_mapped (λ (option : Bor (List ℕ)). option.now) (λ (option : List ℕ). bytes_eq option name) c.options_of.result.now)
    ∙ ap (list_any (λ (option : List ℕ). bytes_eq option name)) c.options_of.ensures
