use Rattle.std.proofs.Common.{ℕ, ◌^◌, rules, arith}
use Rattle.std.specs.Prelude.{count_by}
use Rattle.std.proofs.lemmas.Iterator.{YieldsList-from_slice, YieldsList-from_map}
use Rattle.std.proofs.lemmas.Iterator.Adapters.{fits_from_length, at_most_from_yields_List}
use Rattle.std.proofs.lemmas.Iterator.Consumers.{sum_by_from_yields_List}
use Rattle.program_model.specs.declared.alphabet.TheConstants.{MAX_LINES}
use Rattle.refutation_tree.specs.declared.evidence.Tree.{Tree}
use Rattle.refutation_tree.specs.Splits.{is_split}
use Rattle.summary_writer.proofs.splits.splits_of.Goals as goal

abbrev splits_in : Tree → ℕ
splits_in tree = count_by is_split tree.marks

-- at most `MAX_LINES` trees, each with fewer splits than a `usize` counts
pub sum-requires-clause-fits : goal.sum-requires-clause-fits
sum-requires-clause-fits c =
    fits_from_length _ _ MAX_LINES (2 ^ 128) (at_most_from_yields_List (YieldsList-from_slice c.args.trees.now cc) c.requires) c.map.ensures.closure (omega arith) (λ x r q k. search rules)

pub returns : goal.returns
returns c =
    sum_by_from_yields_List splits_in c.args.trees.now c.map.result c.sum.result c.sum.ensures.ran
    (YieldsList-from_map _ splits_in (YieldsList-from_slice c.args.trees.now cc) c.map.ensures.closure (λ x r q k. search rules))
