-- The start of a size, and how it is closed.
use Rattle.std.proofs.Common.{◌≡◌, ◌≢◌, ◌⊎◌, ℕ, zero, suc, ◌+◌, ◌^◌, ◌<◌, ◌≤◌, List, [], ◌∷◌, ◌++◌, length, Option, Some, None, Bool, true, false, refl, sym, ◌∙◌, ap, subst, inl, inr, arith}
use Rattle.std.specs.Prelude.{All, Contains, slice_get, slice_index_or, IfOk, Result, Ok, Err}
use Rattle.std.specs.List.{list_any}
use Rattle.std.proofs.lemmas.Option.{none-some, same_Some, slice_get_within, get_or_from_slice_get}
use Rattle.std.proofs.lemmas.List.Folds.{list_any_none, list_any_at}
use Rattle.std.proofs.lemmas.List.Elements.{Contains-get_or}
use Rattle.program_model.specs.Program.{Program, empty, IsPartial}
use Rattle.program_model.specs.declared.verdict.Verdict.TheVariants as verdicts
use Rattle.program_model.specs.Verdict.{IsVerdict}
use Rattle.program_model.proofs.Places.{at_contains}
use Rattle.refutation_tree.specs.Covers.{Child}
use Rattle.search_bounds.specs.declared.bounds.TheConstants.{MAX_BUDGET}
use Rattle.synthesis.specs.declared.nodes.Held.{Held}
use Rattle.synthesis.specs.declared.nodes.Held.TheVariants as holdings
use Rattle.synthesis.specs.declared.nodes.Nodes.{Nodes}
use Rattle.synthesis.specs.declared.newest.Newest.{Newest}
use Rattle.synthesis.specs.declared.newest.Ending.{Ending}
use Rattle.synthesis.specs.declared.newest.Ending.TheVariants as endings
use Rattle.synthesis.specs.declared.searcher.Searched.{Searched}
use Rattle.synthesis.specs.Search.{Setting, State, judged, split, twin, Node, is_waiting, or_else, solved_program, limited_at, first_solved, first_limited, Closes, Leads, here, next, SearchesSize}
use Rattle.synthesis.specs.Answers.{tree_of}
use Rattle.synthesis.specs.Inner.Keeping.{AreKept}
use Rattle.synthesis.specs.Inner.Nodes.{state_of, AreInPreorder, pair_of, IsWaitingPair, AreHeld, program_in, AreEndsIn, HasGrown, CanGrow, IsEndingOf, close_of, IsEndingOn, IsSoundEnd, IsSearched}
use Rattle.synthesis.specs.Inner.Splitting.{AreNumbers, IsHeldWaiting, AddsNewest}
use Rattle.synthesis.specs.Inner.Working.{Counts, HasWorked, HasWorkedFor}
use Rattle.synthesis.proofs.Growing.{followers, HasState, AreGrown, empty_alone}
use Rattle.synthesis.proofs.FilledPrograms.{first_solved_sized}
use Rattle.synthesis.proofs.FreshWork.{closed_worked}
use Rattle.synthesis.proofs.Closing.{or_else_none}
use Rattle.synthesis.proofs.Preorder.{IsUnsplit, unsplit_alone}
use Rattle.synthesis.proofs.WaitingPairs.{contains_first, contains_cases, contains_none}
use Rattle.synthesis.proofs.Splits.{held_at, is_held_waiting, come_grown, come_sized}

module _ {C : Type 0} (s : Setting C) (budget size from : ℕ) (some : 0 < size) where
  -- the root alone, after no split
  pub root_grown_alone : (belongs : ℕ → C → Type 0) (only : Nodes C) (before now : Counts) (none newest : Newest) → none.solved ≡ None → none.limited ≡ None →
      (one : AddsNewest s (empty size) [] only.held.items [] only.frontier.pairs none newest) → AreKept s.machine belongs s.limit (one.adds.node ∷ []) only.held.items only.programs.kept → HasWorked s (one.adds.node ∷ []) before now →
      HasGrown s belongs budget size from from only before now newest
  root_grown_alone belongs only before now none newest unsolved unlimited one kept worked =
      let adds = one.adds in
      let root = adds.node in
      let holds = only.held.items in
      let unsplit : IsUnsplit (state_of adds.puts.held) = subst IsUnsplit (sym adds.is_judged.state ∙ adds.puts.is_held) tt in
      record {
        nodes = root ∷ [];
        all = record {
          are_held = record {
            some = some;
            come = record { root = root; is_root = record { number = adds.numbered; program = adds.program_is; is_judged = adds.is_judged }; leads = here };
            preorder = (adds.numbered, (adds.puts.held, ap (λ (hs : List Held). slice_get hs 0) adds.puts.pushed, adds.puts.is_held, subst (λ (ks : List ℕ). AreInPreorder s.machine.ops size holds (ks ++ []) []) (sym (unsplit_alone s.machine.ops size adds.puts.held unsplit)) tt));
            count = ap length adds.puts.pushed;
            links = λ number line stamp first e. absurd (no_split unsplit number line stamp first (sym (ap (λ (hs : List Held). slice_get hs number) adds.puts.pushed) ∙ e));
            few = let count = ap length adds.puts.pushed in omega arith;
            waiting = record {
              told = λ pair h. by_source pair (adds.puts.told pair h);
              each = λ node h w. elim (contains_cases root [] node h) [
                | inl same ↦ subst (λ (x : Node). Contains only.frontier.pairs (pair_of x)) same (adds.puts.waits (ap is_waiting same ∙ w))
                | inr k ↦ absurd (contains_none node k)
              ];
            };
          };
          are_kept = kept;
          worked = worked;
        };
        tells = record {
          solved = one.sees.solved ∙ ap (λ o. or_else (program_in o) (solved_program root.state root.program)) unsolved ∙ sym (or_else_none (solved_program root.state root.program));
          ends = one.sees.ends (subst (AreEndsIn s.machine) (sym unsolved) tt);
          limited = one.sees.limited ∙ ap (λ o. or_else o (limited_at root.state)) unlimited ∙ sym (or_else_none (limited_at root.state));
        };
      }
    where
      no_split : IsUnsplit (state_of one.adds.puts.held) → (number line stamp first : ℕ) → slice_get (one.adds.puts.held ∷ []) number ≡ Some (holdings.Split line stamp first) → ⊥
      no_split unsplit zero line stamp first e = subst IsUnsplit (ap state_of (same_Some one.adds.puts.held (holdings.Split line stamp first) e)) unsplit
      no_split unsplit (suc number) line stamp first e = absurd (none-some (holdings.Split line stamp first) e)

      by_source : (pair : List ℕ × ℕ) → Contains [] pair ⊎ ((is_waiting one.adds.node ≡ true) × (pair ≡ pair_of one.adds.node)) → IsWaitingPair (one.adds.node ∷ []) pair
      by_source pair (inl h) = absurd (contains_none pair h)
      by_source pair (inr h) = record { node = one.adds.node; here = contains_first one.adds.node []; waits = h.0; is = h.1 }

  -- no more splits are made than the budget allows
  leads_within : (start : List Node) (stamp : ℕ) (nodes : List Node) → Leads s budget from start stamp nodes → stamp ≤ from + budget
  leads_within start stamp nodes here = omega arith
  leads_within start stamp nodes (next before old after leads stays splits) = let below = stays.3 in omega arith

  module _ (stamp : ℕ) (holds : List Held) (pairs : List (List ℕ × ℕ)) (nodes : List Node) (are : AreHeld s budget size from stamp holds pairs nodes) where
    -- they are so few that 32 bits number them
    few_held : budget ≤ MAX_BUDGET → length holds < 2 ^ 32
    few_held splits =
        let within = leads_within (are.come.root ∷ []) stamp nodes are.come.leads in
        let few = are.few in
        omega arith

    -- where no pair waits, no node does
    pub none_waits : pairs ≡ [] → list_any is_waiting nodes ≡ false
    none_waits none = list_any_none is_waiting nodes (λ k d l. by_test (is_waiting (slice_index_or nodes k d)) (slice_index_or nodes k d) (Contains-get_or nodes k d l) refl)
      where
        by_test : (b : Bool) (node : Node) → Contains nodes node → is_waiting node ≡ b → is_waiting node ≡ false
        by_test false node h is = is
        by_test true node h is = absurd (contains_none (pair_of node) (subst (λ (ps : List (List ℕ × ℕ)). Contains ps (pair_of node)) none (are.waiting.each node h is)))

    -- where a pair waits, a node does
    one_waits : (pair : List ℕ × ℕ) → Contains pairs pair → list_any is_waiting nodes ≡ true
    one_waits pair h =
        let is = are.waiting.told pair h in
        let at = at_contains nodes is.node is.here in
        list_any_at is_waiting nodes at.0 is.node (slice_get_within nodes at.0 is.node at.1)
        (ap is_waiting (get_or_from_slice_get nodes at.0 is.node is.node at.1) ∙ is.waits)

    -- the numbers of pairs are those of nodes, and what is held of these is that they wait
    pub pairs_numbered : AreNumbers holds pairs
    pairs_numbered k d l =
        let is = are.waiting.told (slice_index_or pairs k d) (Contains-get_or pairs k d l) in
        let at = at_contains nodes is.node is.here in
        let held = held_at s.machine.ops size holds (0 ∷ []) nodes are.preorder at.0 is.node at.1 in
        subst (λ (p : List ℕ × ℕ). p.1 < length holds) (sym is.is) (slice_get_within holds is.node.number held.0 held.1)

    pub pairs_waiting : All (λ (pair : List ℕ × ℕ). IsHeldWaiting holds pair.1) pairs
    pairs_waiting k d l =
        let is = are.waiting.told (slice_index_or pairs k d) (Contains-get_or pairs k d l) in
        let at = at_contains nodes is.node is.here in
        let held = held_at s.machine.ops size holds (0 ∷ []) nodes are.preorder at.0 is.node at.1 in
        let best = is_held_waiting is.node held.0 held.2 is.waits in
        subst (λ (p : List ℕ × ℕ). IsHeldWaiting holds p.1) (sym is.is) (record { best = best.0; here = held.1 ∙ ap Some best.1 })

    -- a program that is found is a partial program, and the verdict on it is solved
    found_sound : (q : Program) → first_solved nodes ≡ Some q → IsPartial s.machine.ops q × IsVerdict s.machine q s.limit verdicts.Solved
    found_sound q e = (
      (first_solved_sized s size nodes q (come_sized s budget size from stamp some nodes are.come) e).1,
      solved_of nodes (empty_alone s size) (come_grown s budget size from stamp some nodes are.come) q e,
    )
      where
        one_of : (c : Child) (state : State) (q p : Program) (later : Option Program) → p ≡ c.program → HasState s c state → or_else (solved_program state p) later ≡ Some q → (later ≡ Some q → IsVerdict s.machine q s.limit verdicts.Solved) → IsVerdict s.machine q s.limit verdicts.Solved
        one_of c (judged (verdicts.Refused t cause)) q p later is h e k = k e
        one_of c (judged (verdicts.AtLimit t)) q p later is h e k = k e
        one_of c (judged (verdicts.Waiting line)) q p later is h e k = k e
        one_of c (judged verdicts.Solved) q p later is h e k = subst (λ x. IsVerdict s.machine x s.limit verdicts.Solved) (sym is ∙ same_Some p q e) h
        one_of c (split line stamp) q p later is h e k = k e
        one_of c twin q p later is h e k = k e

        solved_of : (ns : List Node) (cs : List Child) → AreGrown s cs ns → (q : Program) → first_solved ns ≡ Some q → IsVerdict s.machine q s.limit verdicts.Solved
        solved_of [] cs h q e = absurd (none-some q e)
        solved_of (x ∷ ns) [] h q e = absurd h
        solved_of (x ∷ ns) (c ∷ cs) h q e = one_of c x.state q x.program (first_solved ns) h.0 h.1 e (solved_of ns (followers s c.program x.state ++ cs) h.2 q)

module _ {C : Type 0} {s : Setting C} {belongs : ℕ → C → Type 0} {budget size from stamp : ℕ} {all : Nodes C} {before now : Counts} {newest : Newest} (grown : HasGrown s belongs budget size from stamp all before now newest) where
  abbrev are : AreHeld s budget size from stamp all.held.items all.frontier.pairs grown.nodes
  are = grown.all.are_held

  -- so few nodes are held that 32 bits number them
  pub few_grown : budget ≤ MAX_BUDGET → length all.held.items < 2 ^ 32
  few_grown splits = few_held s budget size from are.some stamp all.held.items all.frontier.pairs grown.nodes are splits

  -- the newest nodes end the search
  pub closes_by_newest : (ending : Ending) → IsEndingOf newest (Some ending) → Closes budget stamp grown.nodes (close_of (Some ending))
  closes_by_newest (endings.Solved one) is = sym grown.tells.solved ∙ ap program_in is
  closes_by_newest (endings.RunSpent t) is = (sym grown.tells.solved ∙ ap program_in is.0, sym grown.tells.limited ∙ is.1)
  closes_by_newest endings.BudgetSpent is = absurd is

  -- what is said where a program is found is so
  pub sound_by_newest : (ending : Ending) → IsEndingOf newest (Some ending) → IsEndingOn s ending
  sound_by_newest (endings.Solved one) is =
      let sound = found_sound s budget size from are.some stamp all.held.items all.frontier.pairs grown.nodes are one.program (closes_by_newest (endings.Solved one) is) in
      (sound.0, sound.1, subst (AreEndsIn s.machine) is grown.tells.ends)
  sound_by_newest (endings.RunSpent t) is = tt
  sound_by_newest endings.BudgetSpent is = absurd is

  -- the newest nodes do not end the search
  module _ (goes_on : IsEndingOf newest None) where
    none_solved : first_solved grown.nodes ≡ None
    none_solved = sym grown.tells.solved ∙ ap program_in goes_on.0

    none_limited : first_limited grown.nodes ≡ None
    none_limited = sym grown.tells.limited ∙ goes_on.1

    pub closes_refuted : all.frontier.pairs ≡ [] → Closes budget stamp grown.nodes (close_of None)
    closes_refuted none = (none_solved, none_limited, none_waits s budget size from are.some stamp all.held.items all.frontier.pairs grown.nodes are none)

    pub closes_spent : (pair : List ℕ × ℕ) → Contains all.frontier.pairs pair → budget ≤ stamp → Closes budget stamp grown.nodes (close_of (Some endings.BudgetSpent))
    closes_spent pair h spent = (none_solved, none_limited, one_waits s budget size from are.some stamp all.held.items all.frontier.pairs grown.nodes are pair h, spent)

    pub grows_further : (pair : List ℕ × ℕ) → Contains all.frontier.pairs pair → stamp < budget → CanGrow s belongs budget size from stamp all before now
    grows_further pair h left = record {
      nodes = grown.nodes;
      all = grown.all;
      stays = (none_solved, none_limited, one_waits s budget size from are.some stamp all.held.items all.frontier.pairs grown.nodes are pair h, left);
    }

  -- what a size that is closed is given back as: with its tree
  abbrev pub IsGivenBack : Option Ending → Searched → Type 0
  IsGivenBack ending searched = (searched.stamp ≡ stamp) × (searched.ending ≡ ending) × ((standing : List Node) → AreInPreorder s.machine.ops size all.held.items (0 ∷ []) standing → searched.tree ≡ tree_of size standing)

  -- the size is searched, with its tree and its work
  is_searched : (searched : Searched) → IsGivenBack searched.ending searched → Closes budget stamp grown.nodes (close_of searched.ending) → IsSearched s budget size from before now searched
  is_searched searched given closes =
      let searches : SearchesSize s budget size from searched.stamp grown.nodes (close_of searched.ending) = record {
        root = are.come.root;
        is_root = are.come.is_root;
        leads = subst (λ n. Leads s budget from (are.come.root ∷ []) n grown.nodes) (sym given.0) are.come.leads;
        closes = subst (λ n. Closes budget n grown.nodes (close_of searched.ending)) (sym given.0) closes;
      } in
      let tree = given.2 grown.nodes are.preorder in
      record {
        nodes = grown.nodes;
        searches = searches;
        tree = tree;
        worked = subst (λ one. HasWorkedFor s (one ∷ []) before now) (sym tree) (closed_worked s budget size from searched.stamp grown.nodes (close_of searched.ending) before now searches grown.all.worked);
      }

  pub searched_closed : {E : Type 0} (ending : Option Ending) (result : Result Searched E) → IfOk result (IsGivenBack ending) → Closes budget stamp grown.nodes (close_of ending) → IfOk result (IsSearched s budget size from before now)
  searched_closed ending (Ok searched) given closes =
      is_searched searched (given.0, refl, given.2) (subst (λ e. Closes budget stamp grown.nodes (close_of e)) (sym given.1) closes)
  searched_closed ending (Err e) given closes = tt

  pub sound_closed : {E : Type 0} (ending : Option Ending) (result : Result Searched E) → IfOk result (IsGivenBack ending) → IsSoundEnd s ending → IfOk result (λ searched. IsSoundEnd s searched.ending)
  sound_closed ending (Ok searched) given sound = subst (IsSoundEnd s) (sym given.1) sound
  sound_closed ending (Err e) given sound = tt

-- a list that is not empty has an element, and one that is not so is empty
pub some_pair : (pairs : List (List ℕ × ℕ)) → pairs ≢ [] → (pair : List ℕ × ℕ) × Contains pairs pair
some_pair [] some = absurd (some refl)
some_pair (pair ∷ pairs) some = (pair, contains_first pair pairs)

pub no_pair : (pairs : List (List ℕ × ℕ)) → (pairs ≢ [] → ⊥) → pairs ≡ []
no_pair [] none = refl
no_pair (pair ∷ pairs) none = absurd (none (λ e. cc))
