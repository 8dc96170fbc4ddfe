use Rattle.std.proofs.Common.{◌∙◌, ap, sym, ℕ, List, map, Some, option_map, is_some, codes, Bor}
use Rattle.std.proofs.lemmas.Bool.{false≢true}
use Rattle.std.proofs.lemmas.Result.{IfOk-weaker}
use Rattle.clap.specs.Words.{found_of}
use Rattle.clap.proofs.WalkLemmas.{raw_values-rows}
use Rattle.command_words.proofs.matching.names_in.Goals as goal

pub returns : goal.returns
returns c =
    IfOk-weaker c.texts_of.result _ _ (λ texts are.
    sym (raw_values-rows (found_of c.args.matches.now) (codes "names"))
    ∙ sym c.get_strs.ensures
    ∙ ap (option_map (λ (s : Bor (List (Bor (List ℕ)))). map (λ (v : Bor (List ℕ)). v.now) s.now)) c.in-Some.is
    ∙ ap Some (sym are)) c.texts_of.ensures

pub unreachable-requires : goal.unreachable-requires
unreachable-requires c =
    let none = sym (raw_values-rows (found_of c.args.matches.now) (codes "names"))
    ∙ sym c.get_strs.ensures
    ∙ ap (option_map (λ (s : Bor (List (Bor (List ℕ)))). map (λ (v : Bor (List ℕ)). v.now) s.now)) c.in-None.is in
    false≢true (sym (ap is_some none) ∙ c.requires)
