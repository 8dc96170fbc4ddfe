use Rattle.std.proofs.Common.{ap, codes, false, true}
use Rattle.std.proofs.lemmas.Result.{IfOk-weaker}
use Rattle.clap.specs.Words.{App, new_app}
use Rattle.command_words.specs.Inner.Parser.{names_rule, option_rule}
use Rattle.command_words.proofs.MatchingParsers.{more_rules}
use Rattle.command_words.proofs.matching.synth_parser.Goals as goal

pub returns : goal.returns
returns c =
    let pointers = more_rules _ _ _ (new_app (codes "synth")) (option_rule (codes "pointers") true) c.in_ok-arg.ensures (c.new.ensures.app, c.new.ensures.local) c.required_option.ensures.rule c.required_option.ensures.local in
    let lines = more_rules _ _ _ _ (option_rule (codes "lines") true) c.in_ok-arg-2.ensures pointers c.required_option-2.ensures.rule c.required_option-2.ensures.local in
    let budget = more_rules _ _ _ _ (option_rule (codes "budget") false) c.in_ok-arg-3.ensures lines c.option.ensures.rule c.option.ensures.local in
    let run = more_rules _ _ _ _ (option_rule (codes "run") false) c.in_ok-arg-4.ensures budget c.option-2.ensures.rule c.option-2.ensures.local in
    let order = more_rules _ _ _ _ (option_rule (codes "order") false) c.in_ok-arg-5.ensures run c.option-3.ensures.rule c.option-3.ensures.local in
    record {
      shape = IfOk-weaker c.arg-6.result _ _ (λ parser adds. ap (λ (app : App). app.top) (more_rules _ parser _ _ names_rule adds order c.names.ensures.rule c.names.ensures.local).0) c.arg-6.ensures;
      local = IfOk-weaker c.arg-6.result _ _ (λ parser adds. (more_rules _ parser _ _ names_rule adds order c.names.ensures.rule c.names.ensures.local).1) c.arg-6.ensures;
    }
