use Rattle.std.proofs.Common.{◌∙◌, ap, map}
use Rattle.std.proofs.lemmas.Result.{IfErr-weaker, IfOk-weaker}
use Rattle.clap.specs.Words.{App, is_simple, subcommand_of, takes}
use Rattle.command_words.proofs.MatchingRules.{parser_is_simple}
use Rattle.command_words.proofs.matching.parsed.Goals as goal

pub returns : goal.returns
returns c =
    let app_is = c.in_ok-parser.ensures in
    let parse = c.try_get_matches_from in
    record {
      ok = IfOk-weaker parse.result _ _ (λ matches h. (h (ap is_simple app_is ∙ parser_is_simple)).1 ∙ ap (λ (app : App). subcommand_of app (map (λ word. word.now) c.args.words.now)) app_is) parse.ensures.matches;
      err = IfErr-weaker parse.result _ _ (λ error h. h (ap (λ (app : App). takes app (map (λ word. word.now) c.args.words.now)) app_is ∙ c.requires.taken)) parse.ensures.passes;
    }
