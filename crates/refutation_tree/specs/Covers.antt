-- When a tree of marks covers a partial program: it shows that no completion solves every instance.
use Rattle.std.specs.Prelude.{◌≡◌, ℕ, ◌<◌, Bool, true, false, List, [], ◌∷◌, ◌++◌, map, length}
use Rattle.program_model.specs.declared.instr.Instr.{Instr}
use Rattle.program_model.specs.Alphabet.{alphabet}
use Rattle.program_model.specs.Semantics.{Semantics}
use Rattle.program_model.specs.Program.{Program, with_line, IsOpen, IsPartial, IsInstr, Completes}
use Rattle.program_model.specs.Run.{Unmet, Loops, SolvesAll}
use Rattle.refutation_tree.specs.declared.evidence.Mark.{Mark}
use Rattle.refutation_tree.specs.declared.evidence.Mark.TheVariants as marks

-- which children of a partial program are passed over, by the instruction that they add
abbrev pub Skips : Type 0
Skips = Program → Instr → Bool

-- no child is passed over
abbrev pub nobody : Skips
nobody q instr = false

-- a partial program that is to be covered, and whether it is passed over
pub record Child : Type 0 where
  pub program : Program
  pub skipped : Bool

-- the children of a partial program at a line: one for each instruction of the line's alphabet, in order
abbrev pub children : Skips → ℕ → Program → ℕ → List Child
children skips ops q line = map (λ instr. record { program = with_line q line instr; skipped = skips q instr }) (alphabet ops (length q) line)

-- the marks, read in preorder, cover these partial programs one after another: each is refuted by the run of an instance
-- that ends with its goal unmet or that loops; or is split at an undefined line, and all its children are covered; or is
-- passed over
abbrev pub Covers : {C : Type 0} → Semantics C → Skips → List Child → List Mark → Type 0
Covers m skips [] [] = Unit {0}
Covers m skips (c ∷ cs) (marks.Unmet t j ∷ ms) = (t < m.instances) × Unmet m c.program t j × Covers m skips cs ms
Covers m skips (c ∷ cs) (marks.Loops t i j ∷ ms) = (t < m.instances) × Loops m c.program t i j × Covers m skips cs ms
Covers m skips (c ∷ cs) (marks.Split line stamp ∷ ms) = IsOpen c.program line × Covers m skips (children skips m.ops c.program line ++ cs) ms
Covers m skips (c ∷ cs) (marks.Twin ∷ ms) = (c.skipped ≡ true) × Covers m skips cs ms
Covers m skips _ _ = ⊥

-- the marks cover the partial program
abbrev pub IsCovered : {C : Type 0} → Semantics C → Skips → Program → List Mark → Type 0
IsCovered m skips q ms = Covers m skips (record { program = q; skipped = false } ∷ []) ms

-- a completion that solves every instance, whose instruction on a line is not passed over
pub record Counterpart {C : Type 0} (m : Semantics C) (skips : Skips) (q : Program) (line : ℕ) : Type 0 where
  pub program : Program
  pub instr : Instr
  pub fits : IsInstr m.ops (length q) line instr
  pub kept : skips q instr ≡ false
  pub completes : Completes m.ops program (with_line q line instr)
  pub solves : SolvesAll m program

-- passing over loses no solution: where a completion solves every instance, so does one that is not passed over
abbrev pub IsFair : {C : Type 0} → Semantics C → Skips → Type 0
IsFair m skips = (q : Program) (line : ℕ) (p : Program) → IsPartial m.ops q → IsOpen q line → Completes m.ops p q → SolvesAll m p → Counterpart m skips q line
