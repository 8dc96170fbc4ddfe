use Rattle.std.proofs.Common.{◌∙◌, map, ap}
use Rattle.std.proofs.lemmas.List.{length-map}
use Rattle.pddl_task.specs.Types.{text_of, word_of, names_of}
use Rattle.pddl_task.specs.Inner.Names.{different}
use Rattle.pddl_task.proofs.Apart.{different_apart}
use Rattle.pddl_task.proofs.entries.schema_entry.Goals as goal

pub schema_over-requires-clause-named : goal.schema_over-requires-clause-named
schema_over-requires-clause-named c =
    c.in_ok-params.ensures ∙ ap (λ items. different (names_of items)) c.as_slice.ensures ∙ different_apart (names_of c.args.action.now.params) c.requires.fits.apart

pub schema_over-requires-clause-few : goal.schema_over-requires-clause-few
schema_over-requires-clause-few c =
    rw (schema_over-requires-clause-named c, length-map (map word_of c.args.action.now.params) text_of, length-map c.args.action.now.params word_of) c.requires.fits.few
