-- That a machine treats all of its pointers alike.
use Rattle.std.specs.Prelude.{◌≡◌, ℕ, ◌<◌, List, map, All}
use Rattle.program_model.specs.Semantics.{Semantics}
use Rattle.program_model.specs.Renaming.{image, IsRenamingOf, composed}

-- operations and values may be renamed, and renaming changes nothing but the numbers of pointers; of values those are meant that
-- belong to an instance
pub record IsSymmetric {C : Type 0} (m : Semantics C) (belongs : ℕ → C → Type 0) : Type 0 where
  -- the pointers of an operation are pointers of the machine
  pub pointers : (op : ℕ) → op < m.ops → All (λ pointer. pointer < m.pointers) (m.pointers_of op)
  -- a renamed operation is an operation over the renamed pointers
  pub is_operation : (by : List ℕ) (op : ℕ) → IsRenamingOf m.pointers by → op < m.ops → m.rename by op < m.ops
  pub renames : (by : List ℕ) (op : ℕ) → IsRenamingOf m.pointers by → op < m.ops → m.pointers_of (m.rename by op) ≡ map (image by) (m.pointers_of op)
  -- it is the same where all of its pointers keep their numbers
  pub keeps : (by : List ℕ) (op : ℕ) → IsRenamingOf m.pointers by → op < m.ops → All (λ pointer. image by pointer ≡ pointer) (m.pointers_of op) → m.rename by op ≡ op
  -- renaming by one renaming and then by another is renaming by both in turn
  pub composes : (first second : List ℕ) (op : ℕ) → IsRenamingOf m.pointers first → IsRenamingOf m.pointers second → op < m.ops → m.rename second (m.rename first op) ≡ m.rename (composed first second) op
  -- the start of an instance belongs to it, and so do a value after an operation and a renamed value
  pub start_belongs : (t : ℕ) → t < m.instances → belongs t (m.start t)
  pub act_belongs : (t op : ℕ) (value : C) → t < m.instances → op < m.ops → belongs t value → belongs t (m.act t op value)
  pub renamed_belongs : (by : List ℕ) (t : ℕ) (value : C) → IsRenamingOf m.pointers by → t < m.instances → belongs t value → belongs t (m.renamed by value)
  -- renaming keeps the start
  pub start : (by : List ℕ) (t : ℕ) → IsRenamingOf m.pointers by → t < m.instances → m.renamed by (m.start t) ≡ m.start t
  -- the renamed operation on the renamed value gives the renamed result
  pub acts : (by : List ℕ) (t op : ℕ) (value : C) → IsRenamingOf m.pointers by → t < m.instances → op < m.ops → belongs t value → m.act t (m.rename by op) (m.renamed by value) ≡ m.renamed by (m.act t op value)
  -- renaming keeps the sign, how many goal atoms are missing, and whether two values are the same
  pub sign : (by : List ℕ) (t : ℕ) (value : C) → IsRenamingOf m.pointers by → t < m.instances → belongs t value → m.sign (m.renamed by value) ≡ m.sign value
  pub missing : (by : List ℕ) (t : ℕ) (value : C) → IsRenamingOf m.pointers by → t < m.instances → belongs t value → m.missing t (m.renamed by value) ≡ m.missing t value
  pub same : (by : List ℕ) (t : ℕ) (value other : C) → IsRenamingOf m.pointers by → t < m.instances → belongs t value → belongs t other → m.renamed by value ≡ m.renamed by other → value ≡ other
