-- How many trees an answer has.
use Rattle.std.proofs.Common.{◌≡◌, ℕ, ◌≤◌, length, sym, ◌∙◌, ap, arith}
use Rattle.std.proofs.lemmas.List.{length-map}
use Rattle.std.proofs.lemmas.List.FromFn.{length-range_with_len}
use Rattle.program_model.specs.declared.alphabet.TheConstants.{MAX_LINES}
use Rattle.refutation_tree.specs.declared.evidence.Tree.{Tree}
use Rattle.refutation_tree.specs.declared.evidence.Answer.{Answer}
use Rattle.refutation_tree.specs.Grammar.{IsGrammatical, last_size}

-- as many as there are sizes
pub few_trees : (ops : ℕ) (answer : Answer) → IsGrammatical ops answer → length answer.trees ≤ MAX_LINES
few_trees ops answer is =
    let count : length answer.trees ≡ last_size answer.lines answer.outcome =
    sym (length-map answer.trees (λ (tree : Tree). tree.size)) ∙ ap length is.sizes ∙ length-range_with_len 1 (last_size answer.lines answer.outcome) in
    omega (arith, count, is.size.1, is.lines.1)
