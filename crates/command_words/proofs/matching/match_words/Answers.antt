use Rattle.std.proofs.Common.{◌∙◌, ap, sym, ℕ, List, map, Some, option_map, is_some, string_bytes, Bor}
use Rattle.std.proofs.lemmas.Bool.{false≢true}
use Rattle.std.proofs.lemmas.Result.{IfOk-weaker}
use Rattle.clap.specs.Words.{Row, found_of, rows_of, subcommand_of, takes}
use Rattle.command_words.specs.Inner.Parser.{parser_app}
use Rattle.command_words.proofs.MatchingRules.{command_matched, form_taken, matched_of, names_matched}
use Rattle.command_words.proofs.matching.match_words.Goals as goal

pub returns : goal.returns
returns c = record {
  matches = IfOk-weaker c.read_matches.result _ _ (λ matched reads.
      matched_of c.args.command (map string_bytes c.args.words.now) (rows_of (found_of c.in-Some.matches.now)) matched c.requires.form
      (sym c.in-Some.ensures.rows
      ∙ ap (option_map (λ (p : List ℕ × List Row). p.1)) (c.in-Ok.ensures.ok
      ∙ ap (λ (words : List (Bor (List ℕ))). subcommand_of parser_app (map (λ word. word.now) words)) c.as_slice.ensures.value
      ∙ ap (subcommand_of parser_app) c.in_ok-words.ensures)) reads) c.read_matches.ensures;
}

pub parsed-requires : goal.parsed-requires
parsed-requires c = record {
  taken = ap (λ (words : List (Bor (List ℕ))). takes parser_app (map (λ word. word.now) words)) c.as_slice.ensures.value
      ∙ ap (takes parser_app) c.in_ok-words.ensures
      ∙ form_taken c.args.command (map string_bytes c.args.words.now) c.requires.form;
}

pub read_matches-requires : goal.read_matches-requires
read_matches-requires c = record {
  names = names_matched c.args.command (map string_bytes c.args.words.now) (rows_of (found_of c.in-Some.matches.now)) c.requires.form
      (sym c.in-Some.ensures.rows
      ∙ ap (option_map (λ (p : List ℕ × List Row). p.1)) (c.in-Ok.ensures.ok
      ∙ ap (λ (words : List (Bor (List ℕ))). subcommand_of parser_app (map (λ word. word.now) words)) c.as_slice.ensures.value
      ∙ ap (subcommand_of parser_app) c.in_ok-words.ensures));
}

pub unreachable-requires : goal.unreachable-requires
unreachable-requires c =
    let entered = c.in-Ok.ensures.ok
    ∙ ap (λ (words : List (Bor (List ℕ))). subcommand_of parser_app (map (λ word. word.now) words)) c.as_slice.ensures.value
    ∙ ap (subcommand_of parser_app) c.in_ok-words.ensures in
    let some = c.subcommand_matches.ensures.found.1 (command_matched c.args.command (map string_bytes c.args.words.now) c.in-Ok.matches entered ∙ sym (ap Some c.name.ensures)) in
    false≢true (sym (ap is_some c.in-None.is) ∙ some)
