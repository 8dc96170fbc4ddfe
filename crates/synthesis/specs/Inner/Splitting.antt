-- A split as the code makes it: the best node is taken out, and its children are added one after another.
use Rattle.std.specs.Prelude.{◌≡◌, ◌⊎◌, ℕ, ◌+◌, ◌<◌, true, List, [], ◌∷◌, ◌++◌, length, slice_get, slice_set, All, Contains, IsPermutation, MatchBool, is_some, Some}
use Rattle.program_model.specs.declared.instr.Instr.{Instr}
use Rattle.program_model.specs.Semantics.{Semantics}
use Rattle.program_model.specs.Program.{Program}
use Rattle.evaluations.specs.Keys.{comes_before}
use Rattle.synthesis.specs.declared.nodes.Held.{Held}
use Rattle.synthesis.specs.declared.nodes.Held.TheVariants as holdings
use Rattle.synthesis.specs.declared.nodes.Best.{Best}
use Rattle.judgement.specs.declared.judging.Judgement.{Judgement}
use Rattle.synthesis.specs.declared.newest.Newest.{Newest}
use Rattle.synthesis.specs.Search.{Setting, Node, judged, waits_at, is_waiting, or_else, solved_program, limited_at, first_solved, first_limited, IsJudged, IsChild, AreChildren}
use Rattle.synthesis.specs.Inner.Judged.{verdict_of, key_in}
use Rattle.synthesis.specs.Inner.Nodes.{state_of, IsHeldOf, pair_of, IsWaitingPair, program_in, AreEndsIn}

-- the numbers of pairs are those of nodes that are held
abbrev pub AreNumbers : List Held → List (List ℕ × ℕ) → Type 0
AreNumbers holds pairs = All (λ (pair : List ℕ × ℕ). pair.1 < length holds) pairs

-- the node of a number is held as one that waits
pub record IsHeldWaiting (holds : List Held) (number : ℕ) : Type 0 where
  pub best : Best
  pub here : slice_get holds number ≡ Some (holdings.Waiting best.line best.id)

-- the best of the nodes that wait is taken out and split: its children are to have the next numbers
pub record TakesBest (stamp : ℕ) (holds after : List Held) (pairs left : List (List ℕ × ℕ)) (best : Best) : Type 0 where
  pub pair : List ℕ × ℕ
  pub taken : IsPermutation (pair ∷ left) pairs
  pub least : All (λ (other : List ℕ × ℕ). comes_before pair.0 pair.1 other.0 other.1 ≡ true) left
  pub waited : slice_get holds pair.1 ≡ Some (holdings.Waiting best.line best.id)
  pub split : after ≡ slice_set holds pair.1 (holdings.Split best.line stamp (length holds))

-- a node is added that is judged so: it is held with the next number, among those that wait if it does
pub record AddsJudged (judgement : Judgement) (holds after : List Held) (pairs now : List (List ℕ × ℕ)) : Type 0 where
  pub held : Held
  pub state : state_of held ≡ judged (verdict_of judgement)
  pub pushed : after ≡ holds ++ held ∷ []
  pub pairs_now : MatchBool (is_some (waits_at (judged (verdict_of judgement)))) (IsPermutation ((key_in judgement, length holds) ∷ pairs) now) (now ≡ pairs)

-- a node is held behind others, among those that wait if it does
pub record PutsNode (node : Node) (holds after : List Held) (pairs now : List (List ℕ × ℕ)) : Type 0 where
  pub held : Held
  pub is_held : IsHeldOf node held
  pub pushed : after ≡ holds ++ held ∷ []
  pub told : (pair : List ℕ × ℕ) → Contains now pair → Contains pairs pair ⊎ ((is_waiting node ≡ true) × (pair ≡ pair_of node))
  pub kept : (pair : List ℕ × ℕ) → Contains pairs pair → Contains now pair
  pub waits : is_waiting node ≡ true → Contains now (pair_of node)

-- the node of a program is judged and held with the next number
pub record AddsNode {C : Type 0} (s : Setting C) (program : Program) (holds after : List Held) (pairs now : List (List ℕ × ℕ)) : Type 0 where
  pub node : Node
  pub numbered : node.number ≡ length holds
  pub program_is : node.program ≡ program
  pub is_judged : IsJudged s node
  pub puts : PutsNode node holds after pairs now

-- the newest tell of one node more, with the ends of its runs
pub record SeesNode {C : Type 0} (m : Semantics C) (node : Node) (before after : Newest) : Type 0 where
  pub solved : program_in after.solved ≡ or_else (program_in before.solved) (solved_program node.state node.program)
  pub ends : AreEndsIn m before.solved → AreEndsIn m after.solved
  pub limited : after.limited ≡ or_else before.limited (limited_at node.state)

-- a node of a program is added, and seen among the newest
pub record AddsNewest {C : Type 0} (s : Setting C) (program : Program) (holds after : List Held) (pairs now : List (List ℕ × ℕ)) (before newest : Newest) : Type 0 where
  pub adds : AddsNode s program holds after pairs now
  pub sees : SeesNode s.machine adds.node before newest

-- the child of a program for an instruction is passed over or judged, held with the next number, and seen among the newest
pub record AddsChild {C : Type 0} (s : Setting C) (parent : Program) (line : ℕ) (instr : Instr) (holds after : List Held) (pairs now : List (List ℕ × ℕ)) (before newest : Newest) : Type 0 where
  pub node : Node
  pub is_child : IsChild s parent line (length holds) instr node
  pub puts : PutsNode node holds after pairs now
  pub sees : SeesNode s.machine node before newest

-- the children for some instructions are added, with the numbers from one on, and seen among the newest
pub record AddsChildren {C : Type 0} (s : Setting C) (parent : Program) (line : ℕ) (instrs : List Instr) (holds after : List Held) (pairs now : List (List ℕ × ℕ)) (newest : Newest) : Type 0 where
  pub made : List Node
  pub children : AreChildren s parent line (length holds) instrs made
  pub count : length after ≡ length holds + length made
  pub stay : (number : ℕ) (held : Held) → slice_get holds number ≡ Some held → slice_get after number ≡ Some held
  pub put : (number : ℕ) (node : Node) → slice_get made number ≡ Some node → (held : Held) × (slice_get after (length holds + number) ≡ Some held) × IsHeldOf node held
  pub told : (pair : List ℕ × ℕ) → Contains now pair → Contains pairs pair ⊎ IsWaitingPair made pair
  pub kept : (pair : List ℕ × ℕ) → Contains pairs pair → Contains now pair
  pub waits : (node : Node) → Contains made node → is_waiting node ≡ true → Contains now (pair_of node)
  pub solved : program_in newest.solved ≡ first_solved made
  pub ends : AreEndsIn s.machine newest.solved
  pub limited : newest.limited ≡ first_limited made
