use Rattle.std.proofs.Common.{◌∙◌, ap, sym, ℕ, List, Some, option_map, Bor}
use Rattle.clap.specs.Words.{found_of}
use Rattle.clap.proofs.WalkLemmas.{first_value-rows}
use Rattle.command_words.proofs.matching.option_in.Goals as goal

pub returns-in_ok-of-in-Some : goal.returns-in_ok-of-in-Some
returns-in_ok-of-in-Some c =
    ap Some c.in_ok-of-in-Some.ensures
    ∙ ap Some c.as_bytes.ensures.value
    ∙ sym (ap (option_map (λ (s : Bor (List ℕ)). s.now)) c.in-Some.is)
    ∙ c.get_str.ensures
    ∙ first_value-rows (found_of c.args.matches.now) c.args.name.now

pub returns-in-None : goal.returns-in-None
returns-in-None c =
    sym (ap (option_map (λ (s : Bor (List ℕ)). s.now)) c.in-None.is) ∙ c.get_str.ensures ∙ first_value-rows (found_of c.args.matches.now) c.args.name.now
