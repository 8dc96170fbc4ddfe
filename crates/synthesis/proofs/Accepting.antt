-- The answer of a search is accepted.
use Rattle.std.proofs.Common.{◌≡◌, ℕ, ◌+◌, ◌<◌, ◌≤◌, List, [], ◌∷◌, ◌++◌, Option, None, sym, subst, arith}
use Rattle.std.specs.Prelude.{All, IfSome}
use Rattle.std.proofs.lemmas.List.Elements.{All-nil, All-cons, All-append, All-weaker}
use Rattle.program_model.specs.declared.alphabet.TheConstants.{MAX_LINES}
use Rattle.program_model.specs.declared.machine.TheConstants.{MAX_INSTANCES, MAX_POINTERS}
use Rattle.program_model.specs.Program.{Program, empty}
use Rattle.refutation_tree.specs.declared.ranges.TheConstants.{MAX_SPLITS, MAX_STEPS}
use Rattle.refutation_tree.specs.declared.evidence.Tree.{Tree}
use Rattle.refutation_tree.specs.declared.evidence.Outcome.{Outcome}
use Rattle.refutation_tree.specs.declared.evidence.Outcome.TheVariants as outcomes
use Rattle.refutation_tree.specs.declared.evidence.Answer.{Answer}
use Rattle.refutation_tree.specs.Covers.{IsCovered}
use Rattle.refutation_tree.specs.Grammar.{IsFromOneTo}
use Rattle.refutation_tree.specs.Accepted.{SaysRefuted, CoversRefuted, AreEndsFrom, IsAccepted}
use Rattle.synthesis.specs.Search.{Setting, Node, Close, found, run_spent, budget_spent, refuted}
use Rattle.synthesis.specs.Answers.{tree_of, RefutesSizes, none, next, Concludes, Searches, closed, nothing, IsAnswer}
use Rattle.synthesis.proofs.Marking.{refuted_covers}
use Rattle.synthesis.proofs.Grammatical.{searched_grammatical}

module _ {C : Type 0} (s : Setting C) (budget : ℕ) where
  -- the tree covers the empty program of its size
  abbrev IsCovering : Tree → Type 0
  IsCovering tree = IsCovered s.machine s.skips (empty tree.size) tree.marks

  -- the trees of sizes that were refuted cover
  refuted_sizes_cover : (size to : ℕ) (trees : List Tree) → RefutesSizes s budget size to trees → All IsCovering trees
  refuted_sizes_cover size to trees none = All-nil IsCovering
  refuted_sizes_cover size to trees (next before from after earlier nodes refutes search) =
      let last = tree_of (before + 1) nodes in
      All-append IsCovering earlier (last ∷ []) (refuted_sizes_cover before from earlier refutes)
      (All-cons IsCovering last [] (refuted_covers s budget (before + 1) from after nodes search) (All-nil IsCovering))

  abbrev Refutes : Outcome → Tree → Type 0
  Refutes outcome tree = CoversRefuted s.machine s.skips outcome tree

  -- the trees of a search that was closed at a size, whose outcome says that no lesser size is refuted than those below it
  trees_cover : (outcome : Outcome) (size to : ℕ) (trees : List Tree) (last : Tree) → RefutesSizes s budget size to trees → (SaysRefuted outcome last.size → ⊥) → All (Refutes outcome) (trees ++ last ∷ [])
  trees_cover outcome size to trees last refutes not_last =
      All-append (Refutes outcome) trees (last ∷ [])
      (All-weaker IsCovering (Refutes outcome) (λ tree covers says. covers) trees (refuted_sizes_cover size to trees refutes))
      (All-cons (Refutes outcome) last [] (λ says. absurd (not_last says)) (All-nil (Refutes outcome)))

  covers_by : (a : Answer) (outcome : Outcome) (trees : List Tree) → a.outcome ≡ outcome → a.trees ≡ trees → All (Refutes outcome) trees → All (Refutes a.outcome) a.trees
  covers_by a outcome trees is are covered = subst (λ (o : Outcome). All (Refutes o) a.trees) (sym is) (subst (All (Refutes outcome)) (sym are) covered)

  closed_covers : (size from to : ℕ) (trees : List Tree) (nodes : List Node) (close : Close) (a : Answer) → RefutesSizes s budget size from trees → Concludes s (size + 1) close a → a.trees ≡ trees ++ tree_of (size + 1) nodes ∷ [] → All (Refutes a.outcome) a.trees
  closed_covers size from to trees nodes (found q) a refutes concludes is =
      covers_by a (outcomes.Program (size + 1)) _ concludes.0 is (trees_cover (outcomes.Program (size + 1)) size from trees (tree_of (size + 1) nodes) refutes (λ says. omega arith))
  closed_covers size from to trees nodes (run_spent t) a refutes concludes is =
      covers_by a (outcomes.SpentRun (size + 1) t) _ concludes.0 is (trees_cover (outcomes.SpentRun (size + 1) t) size from trees (tree_of (size + 1) nodes) refutes (λ says. omega arith))
  closed_covers size from to trees nodes budget_spent a refutes concludes is =
      covers_by a (outcomes.SpentExpansions (size + 1)) _ concludes.0 is (trees_cover (outcomes.SpentExpansions (size + 1)) size from trees (tree_of (size + 1) nodes) refutes (λ says. omega arith))
  closed_covers size from to trees nodes refuted a refutes concludes is = absurd concludes

  searched_covers : (lines : ℕ) (a : Answer) → Searches s budget lines a → All (Refutes a.outcome) a.trees
  searched_covers lines a (closed size from to trees nodes close refutes within search concludes is) = closed_covers size from to trees nodes close a refutes concludes is
  searched_covers lines a (nothing stamps refutes is program ends) =
      let covered = All-weaker IsCovering (Refutes outcomes.Nothing) (λ tree covers says. covers) a.trees (refuted_sizes_cover lines stamps a.trees refutes) in
      subst (λ (o : Outcome). All (Refutes o) a.trees) (sym is) covered

  -- ---- the ends of its program

  abbrev HasEnds : Answer → Option Program → Type 0
  HasEnds a program = IfSome program (λ p. AreEndsFrom s.machine p 0 a.ends)

  none_ends : (a : Answer) → a.program ≡ None → HasEnds a a.program
  none_ends a is = subst (HasEnds a) (sym is) tt

  closed_ends : (size : ℕ) (close : Close) (a : Answer) → Concludes s size close a → HasEnds a a.program
  closed_ends size (found q) a concludes = let it = concludes.1 in subst (HasEnds a) (sym it.1) it.3
  closed_ends size (run_spent t) a concludes = none_ends a concludes.1
  closed_ends size budget_spent a concludes = none_ends a concludes.1
  closed_ends size refuted a concludes = absurd concludes

  searched_ends : (lines : ℕ) (a : Answer) → Searches s budget lines a → HasEnds a a.program
  searched_ends lines a (closed size from to trees nodes close refutes within search concludes is) = closed_ends (size + 1) close a concludes
  searched_ends lines a (nothing stamps refutes is program ends) = none_ends a program

  pub searched_accepted : budget ≤ MAX_SPLITS → s.limit ≤ MAX_STEPS → (lines : ℕ) (a : Answer) → 0 < s.machine.ops → IsFromOneTo MAX_POINTERS s.machine.pointers → IsFromOneTo MAX_INSTANCES s.machine.instances → IsFromOneTo MAX_LINES lines → IsAnswer s budget lines a →
      IsAccepted s.machine s.skips lines a
  searched_accepted splits steps lines a some pointers instances asked h = record {
    grammatical = searched_grammatical s budget splits steps lines a some pointers instances asked h;
    pointers = h.pointers;
    asked = h.asked;
    instances = h.instances;
    covered = searched_covers lines a h.searches;
    ends = searched_ends lines a h.searches;
  }
