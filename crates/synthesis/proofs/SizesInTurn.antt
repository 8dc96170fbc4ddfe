-- Sizes that are searched one after another, the answers that they come to, and the work.
use Rattle.std.proofs.Common.{◌≡◌, ℕ, ◌+◌, ◌<◌, List, [], ◌∷◌, ◌++◌, Option, Some, None, sym, ◌∙◌, ap, subst}
use Rattle.std.specs.Prelude.{Result, Ok, Err, IfOk}
use Rattle.program_model.specs.Program.{Program}
use Rattle.interpreter.specs.Counts.{RaisedAtMost}
use Rattle.refutation_tree.specs.declared.evidence.Tree.{Tree}
use Rattle.refutation_tree.specs.declared.evidence.Outcome.TheVariants as outcomes
use Rattle.refutation_tree.specs.declared.evidence.Answer.{Answer}
use Rattle.refutation_tree.specs.Accepted.{AreEndsFrom}
use Rattle.synthesis.specs.declared.newest.Ending.{Ending}
use Rattle.synthesis.specs.declared.newest.Found.{Found}
use Rattle.synthesis.specs.declared.newest.Ending.TheVariants as endings
use Rattle.synthesis.specs.Search.{Setting, Node, found, SearchesSize}
use Rattle.synthesis.specs.Answers.{tree_of, RefutesSizes, none, next, Fills, Concludes, closed, nothing, IsAnswer}
use Rattle.synthesis.specs.FreshWork.{AreStandingSteps, fresh_operations, fresh_copies}
use Rattle.synthesis.specs.Inner.Nodes.{close_of, IsEndingOn}
use Rattle.synthesis.specs.Inner.Working.{Counts, HasWorkedFor}
use Rattle.synthesis.proofs.Ends.{ends_extend}
use Rattle.synthesis.proofs.FreshWork.{worked_trees, no_trees}

module _ {C : Type 0} (s : Setting C) (budget : ℕ) where
  pub nothing_refuted : (trees : List Tree) → trees ≡ [] → RefutesSizes s budget 0 0 trees
  nothing_refuted trees e = rw e none

  pub one_more_refuted : (size from to : ℕ) (trees after : List Tree) (nodes : List Node) (tree : Tree) (ending : Option Ending) → RefutesSizes s budget size from trees → SearchesSize s budget (size + 1) from to nodes (close_of ending) → ending ≡ None → tree ≡ tree_of (size + 1) nodes → after ≡ trees ++ tree ∷ [] → RefutesSizes s budget (size + 1) to after
  one_more_refuted size from to trees after nodes tree ending refuted searches without made pushed =
      let closes = subst (λ one. SearchesSize s budget (size + 1) from to nodes (close_of one)) without searches in
      subst (RefutesSizes s budget (size + 1) to) (sym (pushed ∙ ap (λ one. trees ++ one ∷ []) made)) (next size from to trees nodes refuted closes)

  pub found_concludes : (size : ℕ) (ending : Ending) (one : Found) (whole : Program) (ends : List ℕ) (a made : Answer) → a ≡ made → ending ≡ endings.Solved one → IsEndingOn s ending → made.outcome ≡ outcomes.Program size → made.program ≡ Some whole → made.ends ≡ ends → ends ≡ one.ends.items → Fills s.machine.ops one.program whole → Concludes s size (close_of (Some ending)) a
  found_concludes size ending one whole ends a made same is sound outcome given ending_at copied fills =
      let solved = (subst (IsEndingOn s) is sound).2 in
      subst (λ it. Concludes s size (close_of (Some it)) a) (sym is)
      (subst (λ it. Concludes s size (found one.program) it) (sym same)
      (outcome, (whole, given, fills, subst (AreEndsFrom s.machine whole 0) (sym (ending_at ∙ copied)) (ends_extend s.machine whole one.program 0 one.ends.items solved fills.extends))))

  -- what is known where a size is closed by an ending
  pub record IsEnded (lines size from to : ℕ) (trees after : List Tree) (nodes : List Node) (ending : Ending) : Type 0 where
    pub refuted : RefutesSizes s budget size from trees
    pub below : size < lines
    pub searches : SearchesSize s budget (size + 1) from to nodes (close_of (Some ending))
    pub pushed : after ≡ trees ++ tree_of (size + 1) nodes ∷ []

  pub ended_answer : {E : Type 0} (lines size from to : ℕ) (trees after : List Tree) (nodes : List Node) (ending : Ending) (result : Result Answer E) → IsEnded lines size from to trees after nodes ending → IfOk result (λ a. a.pointers ≡ s.machine.pointers) → IfOk result (λ a. a.lines ≡ lines) → IfOk result (λ a. a.instances ≡ s.machine.instances) → IfOk result (λ a. a.trees ≡ after) → IfOk result (λ a. Concludes s (size + 1) (close_of (Some ending)) a) → IfOk result (λ a. IsAnswer s budget lines a)
  ended_answer lines size from to trees after nodes ending (Err e) is pointers asked instances kept concludes = tt
  ended_answer lines size from to trees after nodes ending (Ok a) is pointers asked instances kept concludes = record {
    pointers = pointers;
    asked = asked;
    instances = instances;
    searches = closed size from to trees nodes (close_of (Some ending)) is.refuted is.below is.searches concludes (kept ∙ is.pushed);
  }

  pub nothing_answer : (lines stamps : ℕ) (a made : Answer) → a ≡ made → RefutesSizes s budget lines stamps made.trees → made.pointers ≡ s.machine.pointers → made.lines ≡ lines → made.instances ≡ s.machine.instances → made.outcome ≡ outcomes.Nothing → made.program ≡ None → made.ends ≡ [] → IsAnswer s budget lines a
  nothing_answer lines stamps a made same refuted pointers asked instances outcome program ends =
      subst (IsAnswer s budget lines) (sym same)
      (record {
        pointers = pointers;
        asked = asked;
        instances = instances;
        searches = nothing stamps refuted outcome program ends;
      })

  -- ---- the work

  pub nothing_worked : (trees : List Tree) → trees ≡ [] → (here : Counts) → HasWorkedFor s trees here here
  nothing_worked trees e here = subst (λ ts. HasWorkedFor s ts here here) (sym e) (no_trees s here)

  pub one_more_worked : (trees after : List Tree) (tree : Tree) (start mid now : Counts) → HasWorkedFor s trees start mid → HasWorkedFor s (tree ∷ []) mid now → after ≡ trees ++ tree ∷ [] → HasWorkedFor s after start now
  one_more_worked trees after tree start mid now worked more pushed = subst (λ ts. HasWorkedFor s ts start now) (sym pushed) (worked_trees s trees tree start mid now worked more)

  pub answer_worked : {E : Type 0} (trees : List Tree) (start now : Counts) (result : Result Answer E) → IfOk result (λ a. a.trees ≡ trees) → HasWorkedFor s trees start now → IfOk result (λ a. HasWorkedFor s a.trees start now)
  answer_worked trees start now (Err e) kept worked = tt
  answer_worked trees start now (Ok a) kept worked = subst (λ ts. HasWorkedFor s ts start now) (sym kept) worked

  pub acts_raised : {E : Type 0} (start now : Counts) (result : Result Answer E) → IfOk result (λ a. HasWorkedFor s a.trees start now) →
      IfOk result (λ a. (reached : Program → ℕ → ℕ) → AreStandingSteps s.machine s.limit reached → RaisedAtMost (fresh_operations s reached a.trees) start.acts now.acts)
  acts_raised start now (Err e) worked = tt
  acts_raised start now (Ok a) worked = λ reached steps. (worked reached steps).0

  pub copies_raised : {E : Type 0} (start now : Counts) (result : Result Answer E) → IfOk result (λ a. HasWorkedFor s a.trees start now) →
      IfOk result (λ a. (reached : Program → ℕ → ℕ) → AreStandingSteps s.machine s.limit reached → RaisedAtMost (fresh_copies s reached a.trees) start.copies now.copies)
  copies_raised start now (Err e) worked = tt
  copies_raised start now (Ok a) worked = λ reached steps. (worked reached steps).1
