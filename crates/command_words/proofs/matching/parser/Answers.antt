use Rattle.std.proofs.Common.{◌∙◌, ap, true}
use Rattle.std.proofs.lemmas.Result.{IfOk-weaker}
use Rattle.clap.specs.Simple.{App, app_of_fields}
use Rattle.command_words.specs.declared.matching.Command.TheVariants.{Synth, Check, Run, Gen}
use Rattle.command_words.specs.Inner.Parser.{shape_for}
use Rattle.command_words.proofs.MatchingParsers.{more_subcommands}
use Rattle.command_words.proofs.matching.parser.Goals as goal

pub returns : goal.returns
returns c =
    let all = ap app_of_fields c.no_binary_name.ensures ∙ ap (λ (app : App). record app { top = record app.top { no_binary_name = true } }) c.new.ensures.app in
    let synth = more_subcommands _ _ _ _ (shape_for Synth) c.in_ok-subcommand.ensures all c.in_ok-synth.ensures.shape c.in_ok-synth.ensures.local in
    let check = more_subcommands _ _ _ _ (shape_for Check) c.in_ok-subcommand-2.ensures synth c.in_ok-check.ensures.shape c.in_ok-check.ensures.local in
    let run = more_subcommands _ _ _ _ (shape_for Run) c.in_ok-subcommand-3.ensures check c.in_ok-run.ensures.shape c.in_ok-run.ensures.local in
    IfOk-weaker c.subcommand-4.result _ _ (λ parser adds. more_subcommands _ _ parser _ (shape_for Gen) adds run c.in_ok-generate.ensures.shape c.in_ok-generate.ensures.local) c.subcommand-4.ensures
