-- How the nodes of a size are held by their numbers, while the definition has them in preorder.
use Rattle.std.specs.Prelude.{◌≡◌, ℕ, ◌+◌, ◌*◌, ◌-◌, ◌<◌, ◌≤◌, true, List, [], ◌∷◌, ◌++◌, length, slice_get, Contains, Option, Some, None, option_map, IfSome}
use Rattle.std.specs.List.{range_with_len}
use Rattle.program_model.specs.declared.alphabet.TheConstants.{MAX_LINES, MAX_OPS}
use Rattle.program_model.specs.Alphabet.{alphabet}
use Rattle.program_model.specs.declared.verdict.Verdict.TheVariants as verdicts
use Rattle.program_model.specs.Semantics.{Semantics}
use Rattle.program_model.specs.Program.{Program, IsPartial}
use Rattle.program_model.specs.Verdict.{IsVerdict}
use Rattle.refutation_tree.specs.Accepted.{AreEndsFrom}
use Rattle.synthesis.specs.declared.nodes.Held.{Held}
use Rattle.synthesis.specs.declared.nodes.Held.TheVariants as holdings
use Rattle.synthesis.specs.declared.nodes.Nodes.{Nodes}
use Rattle.synthesis.specs.declared.newest.Found.{Found}
use Rattle.synthesis.specs.declared.newest.Newest.{Newest}
use Rattle.synthesis.specs.declared.newest.Ending.{Ending}
use Rattle.synthesis.specs.declared.newest.Ending.TheVariants as endings
use Rattle.synthesis.specs.declared.searcher.Searched.{Searched}
use Rattle.synthesis.specs.Answers.{tree_of}
use Rattle.synthesis.specs.Search.{SearchesSize, Setting, State, judged, split, twin, Node, is_waiting, Close, found, run_spent, budget_spent, refuted, first_solved, first_limited, IsRoot, StaysOpen, Leads}
use Rattle.synthesis.specs.Inner.Keeping.{AreKept}
use Rattle.synthesis.specs.Inner.Working.{Counts, HasWorked, HasWorkedFor}

-- the state that is held of a node
abbrev pub state_of : Held → State
state_of (holdings.Refused t cause) = judged (verdicts.Refused t cause)
state_of (holdings.AtLimit t) = judged (verdicts.AtLimit t)
state_of holdings.Solved = judged verdicts.Solved
state_of (holdings.Waiting line id) = judged (verdicts.Waiting line)
state_of (holdings.Split line stamp first) = split line stamp
state_of holdings.Twin = twin

-- this is held of a node
abbrev pub IsHeldOf : Node → Held → Type 0
IsHeldOf node held = node.state ≡ state_of held

-- a node is held that does not wait, and was not split
abbrev pub IsDecided : Held → Type 0
IsDecided (holdings.Refused t cause) = Unit {0}
IsDecided (holdings.AtLimit t) = Unit {0}
IsDecided holdings.Solved = Unit {0}
IsDecided (holdings.Waiting line id) = ⊥
IsDecided (holdings.Split line stamp first) = ⊥
IsDecided holdings.Twin = Unit {0}

module _ (ops size : ℕ) where
  -- the numbers of a node's children, which stand in a row
  abbrev pub children_of : Held → List ℕ
  children_of (holdings.Refused t cause) = []
  children_of (holdings.AtLimit t) = []
  children_of holdings.Solved = []
  children_of (holdings.Waiting line id) = []
  children_of (holdings.Split line stamp first) = range_with_len first (length (alphabet ops size line))
  children_of holdings.Twin = []

  -- the nodes are those of some numbers, one after another, each followed by its children
  abbrev pub AreInPreorder : List Held → List ℕ → List Node → Type 0
  AreInPreorder holds [] [] = Unit {0}
  AreInPreorder holds (number ∷ numbers) (node ∷ nodes) = (node.number ≡ number) × ((held : Held) × (slice_get holds number ≡ Some held) × IsHeldOf node held × AreInPreorder holds (children_of held ++ numbers) nodes)
  AreInPreorder holds _ _ = ⊥

  -- a split node was split at one of its lines, and its children have greater numbers, and are there
  abbrev pub LinksOn : List Held → Type 0
  LinksOn holds = (number line stamp first : ℕ) → slice_get holds number ≡ Some (holdings.Split line stamp first) → (line < size) × (number < first) × (first + length (alphabet ops size line) ≤ length holds)

-- a node's key and number
abbrev pub pair_of : Node → List ℕ × ℕ
pair_of node = (node.key, node.number)

-- the pair is that of a node that waits
pub record IsWaitingPair (nodes : List Node) (pair : List ℕ × ℕ) : Type 0 where
  pub node : Node
  pub here : Contains nodes node
  pub waits : is_waiting node ≡ true
  pub is : pair ≡ pair_of node

-- the pairs are those of the nodes that wait
pub record AreWaitingPairs (nodes : List Node) (pairs : List (List ℕ × ℕ)) : Type 0 where
  pub told : (pair : List ℕ × ℕ) → Contains pairs pair → IsWaitingPair nodes pair
  pub each : (node : Node) → Contains nodes node → is_waiting node ≡ true → Contains pairs (pair_of node)

-- splits from the root of a size have led to these nodes
pub record HasCome {C : Type 0} (s : Setting C) (budget size from stamp : ℕ) (nodes : List Node) : Type 0 where
  pub root : Node
  pub is_root : IsRoot s size root
  pub leads : Leads s budget from (root ∷ []) stamp nodes

-- the greatest number of instructions of a line's alphabet: all operations, and four jumps to each line but itself and the next
abbrev pub MOST_CHILDREN : ℕ
MOST_CHILDREN = MAX_OPS + 4 * (MAX_LINES - 2)

-- these nodes have come, and are held by their numbers, with the pairs of those that wait
pub record AreHeld {C : Type 0} (s : Setting C) (budget size from stamp : ℕ) (holds : List Held) (pairs : List (List ℕ × ℕ)) (nodes : List Node) : Type 0 where
  pub some : 0 < size
  pub come : HasCome s budget size from stamp nodes
  pub preorder : AreInPreorder s.machine.ops size holds (0 ∷ []) nodes
  pub count : length holds ≡ length nodes
  pub links : LinksOn s.machine.ops size holds
  pub few : length holds + from * MOST_CHILDREN ≤ 1 + stamp * MOST_CHILDREN
  pub waiting : AreWaitingPairs nodes pairs

-- the program that was found, if one was
abbrev pub program_in : Option Found → Option Program
program_in first = option_map (λ (one : Found). one.program) first

-- the runs of the program that was found end so
abbrev pub AreEndsIn : {C : Type 0} → Semantics C → Option Found → Type 0
AreEndsIn m first = IfSome first (λ (one : Found). AreEndsFrom m one.program 0 one.ends.items)

-- the newest nodes tell the first of all that is solved, with the ends of its runs, and the first at its limit
pub record TellsNewest {C : Type 0} (m : Semantics C) (nodes : List Node) (newest : Newest) : Type 0 where
  pub solved : program_in newest.solved ≡ first_solved nodes
  pub ends : AreEndsIn m newest.solved
  pub limited : newest.limited ≡ first_limited nodes

module _ {C : Type 0} (s : Setting C) (belongs : ℕ → C → Type 0) (budget size from stamp : ℕ) (here : Nodes C) where
  -- nodes have come and are held, the programs of those that wait are kept, and the counts rose by no more than their fresh work
  pub record AreAllHeld (before now : Counts) (nodes : List Node) : Type 0 where
    pub are_held : AreHeld s budget size from stamp here.held.items here.frontier.pairs nodes
    pub are_kept : AreKept s.machine belongs s.limit nodes here.held.items here.programs.kept
    pub worked : HasWorked s nodes before now

  -- some nodes are all held, and the newest tell so much
  pub record HasGrown (before now : Counts) (newest : Newest) : Type 0 where
    pub nodes : List Node
    pub all : AreAllHeld before now nodes
    pub tells : TellsNewest s.machine nodes newest

  -- some nodes are all held, one of them waits, and the size is not closed
  pub record CanGrow (before now : Counts) : Type 0 where
    pub nodes : List Node
    pub all : AreAllHeld before now nodes
    pub stays : StaysOpen budget stamp nodes

-- some nodes end the search so, if they do
abbrev pub IsEndingOf : Newest → Option Ending → Type 0
IsEndingOf newest None = (newest.solved ≡ None) × (newest.limited ≡ None)
IsEndingOf newest (Some (endings.Solved one)) = newest.solved ≡ Some one
IsEndingOf newest (Some (endings.RunSpent t)) = (newest.solved ≡ None) × (newest.limited ≡ Some t)
IsEndingOf newest (Some endings.BudgetSpent) = ⊥

-- how a size was closed; where nothing ended it, it is refuted
abbrev pub close_of : Option Ending → Close
close_of None = refuted
close_of (Some (endings.Solved one)) = found one.program
close_of (Some (endings.RunSpent t)) = run_spent t
close_of (Some endings.BudgetSpent) = budget_spent

-- a size was searched up to its close, and this is its tree; the counts rose by no more than its fresh work
pub record IsSearched {C : Type 0} (s : Setting C) (budget size from : ℕ) (before after : Counts) (searched : Searched) : Type 0 where
  pub nodes : List Node
  pub searches : SearchesSize s budget size from searched.stamp nodes (close_of searched.ending)
  pub tree : searched.tree ≡ tree_of size nodes
  pub worked : HasWorkedFor s (searched.tree ∷ []) before after

-- where a program is found, it is a partial program, the verdict on it is solved, and its runs end so
abbrev pub IsEndingOn : {C : Type 0} → Setting C → Ending → Type 0
IsEndingOn s (endings.Solved one) = IsPartial s.machine.ops one.program × IsVerdict s.machine one.program s.limit verdicts.Solved × AreEndsFrom s.machine one.program 0 one.ends.items
IsEndingOn s (endings.RunSpent t) = Unit {0}
IsEndingOn s endings.BudgetSpent = Unit {0}

-- where a size ends the search, this is so
abbrev pub IsSoundEnd : {C : Type 0} → Setting C → Option Ending → Type 0
IsSoundEnd s None = Unit {0}
IsSoundEnd s (Some ending) = IsEndingOn s ending
