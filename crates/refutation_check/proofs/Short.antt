-- No partial program that is pending has more lines than a program may have.
use Rattle.std.proofs.Common.{◌≡◌, ℕ, ◌-◌, ◌<◌, ◌≤◌, false, List, [], ◌∷◌, ◌++◌, map, length, drop, get_or, Some, sym, ◌∙◌, subst, arith}
use Rattle.std.specs.Prelude.{All, flat_map, reverse, Option, None, option_to_list}
use Rattle.std.proofs.lemmas.List.{get_or-reverse, length-reverse, length-set}
use Rattle.std.proofs.lemmas.List.Elements.{All-nil, All-cons, All-append, All-head, All-tail, All-drop}
use Rattle.program_model.specs.declared.alphabet.TheConstants.{MAX_LINES}
use Rattle.program_model.specs.declared.instr.Instr.{Instr}
use Rattle.program_model.specs.Alphabet.{alphabet}
use Rattle.program_model.specs.Semantics.{Semantics}
use Rattle.program_model.specs.Program.{Program, with_line}
use Rattle.refutation_tree.specs.Covers.{Child, children}
use Rattle.pointer_symmetry.specs.Twins.{twins}
use Rattle.refutation_check.specs.declared.family.Family.{Family}
use Rattle.refutation_check.specs.declared.walk.Walk.{Walk}
use Rattle.refutation_check.specs.Walking.{IsOpenFamily, IsRoot, IsWalk, path, pending, rooted, waiting, waiting_in}

abbrev IsShort : Child → Type 0
IsShort c = length c.program ≤ MAX_LINES

all_reversed : {X : Type 0} (P : X → Type 0) (xs : List X) → All P xs → All P (reverse xs)
all_reversed P xs each = λ k d less.
    let count = length-reverse xs in
    subst P (sym (get_or-reverse xs k d (omega (arith, less, count)))) (each (length xs - 1 - k) d (omega (arith, less, count)))

all_mapped : {X Y : Type 0} (P : Y → Type 0) (f : X → Y) (xs : List X) → ((x : X) → P (f x)) → All P (map f xs)
all_mapped P f [] each = All-nil P
all_mapped P f (x ∷ xs) each = All-cons P (f x) (map f xs) (each x) (all_mapped P f xs each)

module _ {C : Type 0} (m : Semantics C) (belongs : ℕ → C → Type 0) where
  waiting_short : (family : Family C) → IsOpenFamily m belongs family → All IsShort (waiting m family)
  waiting_short family h =
      let q = family.parent in
      All-drop IsShort family.rank (children (twins m) m.ops q family.line)
      (all_mapped IsShort (λ (instr : Instr). record { program = with_line q family.line instr; skipped = twins m q instr }) (alphabet m.ops (length q) family.line)
      (λ instr. subst (λ (n : ℕ). n ≤ MAX_LINES) (sym (length-set q family.line (Some instr))) h.short))

  all_waiting_short : (families : List (Family C)) → All (IsOpenFamily m belongs) families → All IsShort (flat_map (waiting m) families)
  all_waiting_short [] each = All-nil IsShort
  all_waiting_short (family ∷ families) each =
      All-append IsShort (waiting m family) (flat_map (waiting m) families) (waiting_short family (All-head (IsOpenFamily m belongs) family families each)) (all_waiting_short families (All-tail (IsOpenFamily m belongs) family families each))

  root_short : (root : Option Program) → All (IsRoot m.ops) (option_to_list root) → All IsShort (rooted root)
  root_short None each = All-nil IsShort
  root_short (Some q) each = All-cons IsShort (record { program = q; skipped = false }) [] (All-head (IsRoot m.ops) q [] each).short (All-nil IsShort)

  pub pending_short : (walk : Walk C) → IsWalk m belongs walk → All IsShort (pending m walk)
  pending_short walk h =
      All-append IsShort (waiting_in m (path walk)) (rooted walk.root) (all_waiting_short (reverse (path walk)) (all_reversed (IsOpenFamily m belongs) (path walk) h.families)) (root_short walk.root h.root)

  -- the next one, where there is one
  pub next_short : (walk : Walk C) (c : Child) (cs : List Child) → IsWalk m belongs walk → pending m walk ≡ c ∷ cs → length c.program ≤ MAX_LINES
  next_short walk c cs h is = All-head IsShort c cs (subst (All IsShort) is (pending_short walk h))
