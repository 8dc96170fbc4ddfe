-- How the programs of the nodes that wait are kept, with their runs.
use Rattle.std.specs.Prelude.{◌≡◌, ◌⊎◌, ℕ, ◌+◌, ◌≤◌, ◌==◌, List, [], ◌∷◌, ◌++◌, length, map, filter, All, Contains, slice_get, Option, Some, None, IsSome, IfSome, IsSomeAnd}
use Rattle.std.specs.List.{range_with_len}
use Rattle.program_model.specs.declared.instr.Instr.{Instr}
use Rattle.program_model.specs.Semantics.{Semantics}
use Rattle.program_model.specs.Program.{Program, IsPartial, IsOpen, with_line}
use Rattle.interpreter.specs.declared.run.Run.{Run}
use Rattle.interpreter.specs.Runs.{IsRunOf}
use Rattle.run_turns.specs.Settling.{instances_of, HasSettled}
use Rattle.judgement.specs.Judging.{run_standing}
use Rattle.waiting_programs.specs.Programs.{Waiting, kept_at, kept_count, Becomes}
use Rattle.pointer_symmetry.specs.Used.{AreUsed}
use Rattle.synthesis.specs.declared.nodes.Held.{Held}
use Rattle.synthesis.specs.declared.nodes.Held.TheVariants as holdings
use Rattle.synthesis.specs.declared.splitting.Parent.{Parent}
use Rattle.synthesis.specs.declared.splitting.Draft.{Draft}
use Rattle.synthesis.specs.Search.{Node}

-- the runs that wait at a line
abbrev pub runs_waiting_at : {C : Type 0} → ℕ → List (Run C) → List (Run C)
runs_waiting_at line runs = filter (λ run. run.here.line == line) runs

-- this is a draft of the children of a node that is split: with an instruction on the line it has the child's program; and it has no
-- runs, or one on each instance where the node's run waits at the line, in order, each one of whatever program
pub record IsDraft {C : Type 0} (m : Semantics C) (belongs : ℕ → C → Type 0) (kept : List (Option (Waiting C))) (parent : Parent) (draft : Draft C) : Type 0 where
  pub program : (instr : Instr) → with_line draft.program parent.line instr ≡ with_line parent.program parent.line instr
  pub instances : (draft.runs.items ≡ []) ⊎ IfSome (kept_at kept parent.id) (λ waiting. instances_of draft.runs.items ≡ instances_of (runs_waiting_at parent.line waiting.runs))
  pub runs : All (λ run. (q : Program) × IsRunOf m belongs q run) draft.runs.items

module _ {C : Type 0} (m : Semantics C) (belongs : ℕ → C → Type 0) (limit : ℕ) where
  -- a program is kept with its runs: one on each instance, in order, each of which ended with the goal met, or waits
  pub record IsKeptFor (q : Program) (waiting : Waiting C) : Type 0 where
    pub program : waiting.program ≡ q
    pub on_each : instances_of waiting.runs ≡ range_with_len 0 m.instances
    pub are : All (IsRunOf m belongs q) waiting.runs
    pub settled : All (HasSettled m q limit) waiting.runs

  -- the programs of the nodes that wait are kept, each under a number of its own, and no others
  pub record AreKept (nodes : List Node) (holds : List Held) (kept : List (Option (Waiting C))) : Type 0 where
    pub each : (node : Node) (line id : ℕ) → Contains nodes node → slice_get holds node.number ≡ Some (holdings.Waiting line id) → IsSomeAnd (kept_at kept id) (IsKeptFor node.program)
    pub own : (number other line second id : ℕ) → slice_get holds number ≡ Some (holdings.Waiting line id) → slice_get holds other ≡ Some (holdings.Waiting second id) → number ≡ other
    pub only : (id : ℕ) → IsSome (kept_at kept id) → (number : ℕ) × (line : ℕ) × (slice_get holds number ≡ Some (holdings.Waiting line id))
    pub few : kept_count kept ≤ length holds

  -- this is a partial program that is kept, an undefined line of it, where it is split, the pointers that it uses, and where its runs stand
  pub record IsParent (kept : List (Option (Waiting C))) (parent : Parent) : Type 0 where
    pub partial : IsPartial m.ops parent.program
    pub is_open : IsOpen parent.program parent.line
    pub used : AreUsed m parent.program parent.used
    pub waiting : Waiting C
    pub here : kept_at kept parent.id ≡ Some waiting
    pub is_kept : IsKeptFor parent.program waiting
    pub standings : parent.standings.items ≡ map (run_standing m (length parent.program)) waiting.runs

  -- what was kept is kept still
  abbrev pub AllStay : List (Option (Waiting C)) → List (Option (Waiting C)) → Type 0
  AllStay kept now = (id : ℕ) → IsSome (kept_at kept id) → kept_at now id ≡ kept_at kept id

  -- a node is held so: where it waits its program is kept, under a number that was free; no other number was given
  pub record KeepsNode (q : Program) (held : Held) (kept now : List (Option (Waiting C))) : Type 0 where
    pub stay : AllStay kept now
    pub made : (line id : ℕ) → held ≡ holdings.Waiting line id → (kept_at kept id ≡ None) × IsSomeAnd (kept_at now id) (IsKeptFor q)
    pub only : (id : ℕ) → IsSome (kept_at now id) → IsSome (kept_at kept id) ⊎ ((line : ℕ) × (held ≡ holdings.Waiting line id))
    pub few : kept_count now ≤ kept_count kept + 1

  -- so it is for the child of a program for an instruction, which is added to the nodes that are held
  pub record KeepsChild (parent : Program) (line : ℕ) (instr : Instr) (holds after : List Held) (kept now : List (Option (Waiting C))) : Type 0 where
    pub held : Held
    pub pushed : after ≡ holds ++ held ∷ []
    pub keeps : KeepsNode (with_line parent line instr) held kept now

  -- so it is for the children for some instructions, which are added in a row
  pub record KeepsChildren (parent : Program) (line : ℕ) (instrs : List Instr) (holds after : List Held) (kept now : List (Option (Waiting C))) : Type 0 where
    pub count : length after ≡ length holds + length instrs
    pub stay : AllStay kept now
    pub made : (place at id : ℕ) (instr : Instr) → slice_get instrs place ≡ Some instr → slice_get after (length holds + place) ≡ Some (holdings.Waiting at id) → (kept_at kept id ≡ None) × IsSomeAnd (kept_at now id) (IsKeptFor (with_line parent line instr))
    pub own : (number other at second id : ℕ) → length holds ≤ number → length holds ≤ other → slice_get after number ≡ Some (holdings.Waiting at id) → slice_get after other ≡ Some (holdings.Waiting second id) → number ≡ other
    pub only : (id : ℕ) → IsSome (kept_at now id) → IsSome (kept_at kept id) ⊎ ((number : ℕ) × (at : ℕ) × (length holds ≤ number) × (slice_get after number ≡ Some (holdings.Waiting at id)))
    pub few : kept_count now + length holds ≤ kept_count kept + length after

module _ {C : Type 0} where
  -- the root is held so, under this number; where it does not wait, nothing is kept there
  abbrev pub KeepsRootAs : ℕ → Held → List (Option (Waiting C)) → List (Option (Waiting C)) → Type 0
  KeepsRootAs id (holdings.Refused t cause) kept now = Becomes kept now id None
  KeepsRootAs id (holdings.AtLimit t) kept now = Becomes kept now id None
  KeepsRootAs id holdings.Solved kept now = Becomes kept now id None
  KeepsRootAs id (holdings.Waiting line its_id) kept now = (its_id ≡ id) × (now ≡ kept)
  KeepsRootAs id (holdings.Split line stamp first) kept now = ⊥
  KeepsRootAs id holdings.Twin kept now = ⊥

  -- the root is all that is held
  pub record KeepsRoot (id : ℕ) (after : List Held) (kept now : List (Option (Waiting C))) : Type 0 where
    pub held : Held
    pub alone : after ≡ held ∷ []
    pub keeps : KeepsRootAs id held kept now
