use Rattle.std.proofs.Common.{List, map, string_bytes, sym, ◌∙◌, subst}
use Rattle.std.proofs.lemmas.Bool.{false≢true}
use Rattle.command_words.specs.declared.scanning.OptionUse.{OptionUse}
use Rattle.command_words.specs.Inner.Scanning.{AreCutInto, use_of}
use Rattle.command_words.proofs.FormTests.{passed, uses_pass, names_pass}
use Rattle.command_words.proofs.form.has_form.Goals.{then-are_options, else-are_options}
use Rattle.command_words.proofs.form.has_form.Goals as goal

pub returns : goal.returns
returns c =
    let command = c.args.command in
    let uses = c.as_slice.result.now in
    let names = c.in_ok-cut.cut.names.now in
    let words = map string_bytes c.args.words.now in
    let cut : AreCutInto (map use_of uses) (map string_bytes names) words =
    subst (λ (l : List OptionUse). AreCutInto (map use_of l) (map string_bytes names) words) (sym c.as_slice.ensures) c.in_ok-cut.ensures in
    elim c.if-are_options.branch [
      | then-are_options w ↦ (
        λ yes. passed command uses names words cut (c.are_options.ensures.0 w.if-are_options.true) (w.are_names.ensures.0 (sym w.result-is ∙ yes)),
        λ has. w.result-is ∙ w.are_names.ensures.1 (names_pass command uses names words cut has),
      )
      | else-are_options w ↦ (
        λ yes. absurd (false≢true (sym w.if-are_options.false ∙ sym w.result-is ∙ yes)),
        λ has. absurd (false≢true (sym w.if-are_options.false ∙ c.are_options.ensures.1 (uses_pass command uses names words cut has))),
      )
    ]
