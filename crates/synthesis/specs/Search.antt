-- The search at one size: its nodes are partial programs; a split puts the children of the best waiting node behind it.
-- All runs are those from the first configuration.
use Rattle.std.specs.Prelude.{◌≡◌, ℕ, ◌+◌, ◌<◌, ◌≤◌, Bool, true, false, MatchBool, List, [], ◌∷◌, ◌++◌, length, take, drop, slice_get, All, Option, Some, None, is_some}
use Rattle.std.specs.List.{list_any}
use Rattle.program_model.specs.declared.instr.Instr.{Instr}
use Rattle.program_model.specs.Alphabet.{alphabet}
use Rattle.program_model.specs.Semantics.{Semantics}
use Rattle.program_model.specs.Program.{Program, empty, with_line}
use Rattle.program_model.specs.declared.outcome.RunOutcome.{RunOutcome}
use Rattle.program_model.specs.declared.verdict.Cause.TheVariants as causes
use Rattle.program_model.specs.declared.verdict.Verdict.{Verdict}
use Rattle.program_model.specs.declared.verdict.Verdict.TheVariants as verdicts
use Rattle.program_model.specs.Outcome.{AreOutcomes}
use Rattle.program_model.specs.Verdict.{IsVerdict}
use Rattle.refutation_tree.specs.declared.evidence.Mark.{Mark}
use Rattle.refutation_tree.specs.declared.evidence.Mark.TheVariants as marks
use Rattle.refutation_tree.specs.Covers.{Skips}
use Rattle.evaluations.specs.Keys.{comes_before}

-- what a search is over: a machine, the limit of steps of a run, the key of a waiting node by its program and the outcomes of
-- its runs, and which children are passed over
pub record Setting (C : Type 0) : Type 0 where
  pub machine : Semantics C
  pub limit : ℕ
  pub key_of : Program → List RunOutcome → List ℕ
  pub skips : Skips

-- what became of a node: judged by its runs; split at a line, as the split of a stamp; or passed over as a twin
pub data State : Type 0 where
  judged : Verdict → State
  split : ℕ → ℕ → State
  twin : State

-- a node: its number, its partial program, its state, and its key
pub record Node : Type 0 where
  pub number : ℕ
  pub program : Program
  pub state : State
  pub key : List ℕ

-- a node that waits has the key of its program and its runs, and no other node has one
abbrev pub HasKey : {C : Type 0} → Setting C → Program → List ℕ → Verdict → Type 0
HasKey s q key (verdicts.Refused t cause) = key ≡ []
HasKey s q key (verdicts.AtLimit t) = key ≡ []
HasKey s q key (verdicts.Waiting line) = (runs : List RunOutcome) × AreOutcomes s.machine q s.limit runs × (key ≡ s.key_of q runs)
HasKey s q key verdicts.Solved = key ≡ []

-- the node is judged by the verdict on its program
pub record IsJudged {C : Type 0} (s : Setting C) (node : Node) : Type 0 where
  pub verdict : Verdict
  pub is_verdict : IsVerdict s.machine node.program s.limit verdict
  pub state : node.state ≡ judged verdict
  pub key : HasKey s node.program node.key verdict

-- the root of a size: the empty program of so many lines, as node 0
pub record IsRoot {C : Type 0} (s : Setting C) (size : ℕ) (node : Node) : Type 0 where
  pub number : node.number ≡ 0
  pub program : node.program ≡ empty size
  pub is_judged : IsJudged s node

-- a child: its parent's program with an instruction on the line that is split; it is passed over, or judged
pub record IsChild {C : Type 0} (s : Setting C) (parent : Program) (line number : ℕ) (instr : Instr) (node : Node) : Type 0 where
  pub numbered : node.number ≡ number
  pub program : node.program ≡ with_line parent line instr
  pub state : MatchBool (s.skips parent instr) ((node.state ≡ twin) × (node.key ≡ [])) (IsJudged s node)

-- the children of a split: one for each instruction, in order, with the numbers from one on
abbrev pub AreChildren : {C : Type 0} → Setting C → Program → ℕ → ℕ → List Instr → List Node → Type 0
AreChildren s parent line number [] [] = Unit {0}
AreChildren s parent line number (instr ∷ instrs) (node ∷ nodes) = IsChild s parent line number instr node × AreChildren s parent line (number + 1) instrs nodes
AreChildren s parent line number _ _ = ⊥

-- the line at which a node waits to be split, if it does
abbrev pub waits_at : State → Option ℕ
waits_at (judged (verdicts.Refused t cause)) = None
waits_at (judged (verdicts.AtLimit t)) = None
waits_at (judged (verdicts.Waiting line)) = Some line
waits_at (judged verdicts.Solved) = None
waits_at (split line stamp) = None
waits_at twin = None

abbrev pub is_waiting : Node → Bool
is_waiting node = is_some (waits_at node.state)

-- one split: of the nodes that wait, the one with the least key and number is split at its line, and its children, with
-- the next numbers, stand behind it
pub record Splits {C : Type 0} (s : Setting C) (stamp : ℕ) (old new : List Node) : Type 0 where
  pub place : ℕ
  pub node : Node
  pub line : ℕ
  pub made : List Node
  pub here : slice_get old place ≡ Some node
  pub waits : node.state ≡ judged (verdicts.Waiting line)
  pub least : All (λ (other : Node). is_waiting other ≡ true → comes_before other.key other.number node.key node.number ≡ false) old
  pub children : AreChildren s node.program line (length old) (alphabet s.machine.ops (length node.program) line) made
  pub after : new ≡ take place old ++ (record node { state = split line stamp } ∷ made) ++ drop (place + 1) old

-- how a size is closed: a program is found, a run is at the limit on an instance, the budget of splits is spent, or every
-- node that waits was split
pub data Close : Type 0 where
  found : Program → Close
  run_spent : ℕ → Close
  budget_spent : Close
  refuted : Close

-- the program of a node that is solved
abbrev pub solved_program : State → Program → Option Program
solved_program (judged (verdicts.Refused t cause)) q = None
solved_program (judged (verdicts.AtLimit t)) q = None
solved_program (judged (verdicts.Waiting line)) q = None
solved_program (judged verdicts.Solved) q = Some q
solved_program (split line stamp) q = None
solved_program twin q = None

-- the instance on which a node is at the limit
abbrev pub limited_at : State → Option ℕ
limited_at (judged (verdicts.Refused t cause)) = None
limited_at (judged (verdicts.AtLimit t)) = Some t
limited_at (judged (verdicts.Waiting line)) = None
limited_at (judged verdicts.Solved) = None
limited_at (split line stamp) = None
limited_at twin = None

-- a value, or another where there is none
abbrev pub or_else : {A : Type 0} → Option A → Option A → Option A
or_else (Some a) other = Some a
or_else None other = other

-- the program of the first node that is solved
abbrev pub first_solved : List Node → Option Program
first_solved [] = None
first_solved (node ∷ nodes) = or_else (solved_program node.state node.program) (first_solved nodes)

-- the instance of the first node that is at the limit
abbrev pub first_limited : List Node → Option ℕ
first_limited [] = None
first_limited (node ∷ nodes) = or_else (limited_at node.state) (first_limited nodes)

-- after so many splits the size is closed so; a budget bounds the splits of all sizes together
abbrev pub Closes : ℕ → ℕ → List Node → Close → Type 0
Closes budget stamp nodes (found q) = first_solved nodes ≡ Some q
Closes budget stamp nodes (run_spent t) = (first_solved nodes ≡ None) × (first_limited nodes ≡ Some t)
Closes budget stamp nodes budget_spent = (first_solved nodes ≡ None) × (first_limited nodes ≡ None) × (list_any is_waiting nodes ≡ true) × (budget ≤ stamp)
Closes budget stamp nodes refuted = (first_solved nodes ≡ None) × (first_limited nodes ≡ None) × (list_any is_waiting nodes ≡ false)

-- after so many splits the size is not closed: no node is solved or at its limit, one waits, and the budget is not spent
abbrev pub StaysOpen : ℕ → ℕ → List Node → Type 0
StaysOpen budget stamp nodes = (first_solved nodes ≡ None) × (first_limited nodes ≡ None) × (list_any is_waiting nodes ≡ true) × (stamp < budget)

-- splits lead from one list of nodes to another, with their stamps in a row, and the size is not closed before any of them
pub data Leads {C : Type 0} (s : Setting C) (budget from : ℕ) (start : List Node) : ℕ → List Node → Type 0 where
  here : Leads s budget from start from start
  next : (stamp : ℕ) (nodes after : List Node) → Leads s budget from start stamp nodes → StaysOpen budget stamp nodes → Splits s stamp nodes after → Leads s budget from start (stamp + 1) after

-- the nodes that the last split made, or those at the start, where none was made
abbrev pub newest : {C : Type 0} (s : Setting C) (budget from : ℕ) (start : List Node) (stamp : ℕ) (nodes : List Node) → Leads s budget from start stamp nodes → List Node
newest s budget from start stamp nodes here = start
newest s budget from start stamp nodes (next before old after leads stays splits) = splits.made

-- the search of a size, from its root to the first nodes at which it is closed; the stamps run on from one number to another
pub record SearchesSize {C : Type 0} (s : Setting C) (budget size from to : ℕ) (nodes : List Node) (close : Close) : Type 0 where
  pub root : Node
  pub is_root : IsRoot s size root
  pub leads : Leads s budget from (root ∷ []) to nodes
  pub closes : Closes budget to nodes close

-- how a node is marked in the tree of its size
abbrev pub mark_of : State → Mark
mark_of (judged (verdicts.Refused t (causes.Unmet steps))) = marks.Unmet t steps
mark_of (judged (verdicts.Refused t (causes.Loops from to))) = marks.Loops t from to
mark_of (judged (verdicts.AtLimit t)) = marks.AtLimit t
mark_of (judged (verdicts.Waiting line)) = marks.Waiting
mark_of (judged verdicts.Solved) = marks.Solved
mark_of (split line stamp) = marks.Split line stamp
mark_of twin = marks.Twin
