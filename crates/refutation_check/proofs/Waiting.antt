-- Programs that wait for a mark: those of the family that was split last come first.
use Rattle.std.proofs.Common.{◌≡◌, ℕ, ◌+◌, ◌-◌, ◌<◌, ◌≤◌, Bool, false, List, [], ◌∷◌, ◌++◌, length, take, drop, set, get_or, refl, sym, ◌∙◌, ap, arith, append_assoc, subst}
use Rattle.std.specs.Prelude.{All, Option, Some, None, slice_get, option_map}
use Rattle.std.proofs.lemmas.List.{drop_all, length-map}
use Rattle.std.proofs.lemmas.Option.{slice_get-map, slice_get-get_or, slice_get_within, get_or_from_slice_get, none-some, same_Some}
use Rattle.program_model.specs.declared.instr.Instr.{Instr}
use Rattle.program_model.specs.Alphabet.{alphabet}
use Rattle.program_model.specs.declared.alphabet.TheConstants.{MAX_LINES}
use Rattle.program_model.specs.Semantics.{Semantics}
use Rattle.program_model.specs.declared.instr.Instr.TheVariants.{Op, End}
use Rattle.program_model.specs.Program.{Program, with_line, IsOpen, IsPartial, IsInstr, Extends}
use Rattle.program_model.proofs.Alphabets.{contains_op}
use Rattle.program_model.proofs.Places.{contains_at}
use Rattle.program_model.proofs.Programs.{extends_with_line, open_is_not_last, partial_with_line}
use Rattle.refutation_check.specs.Inner.Runs.{AllStandAt}
use Rattle.refutation_check.specs.declared.family.Family.{Family}
use Rattle.refutation_tree.specs.Covers.{Skips, Child, children}
use Rattle.refutation_tree.specs.Grammar.{child_programs}
use Rattle.refutation_tree.proofs.Children.{count_children, child_at, some_children, left_from, one_more, without_first, with_same, without_empty}
use Rattle.pointer_symmetry.specs.Used.{AreUsed}
use Rattle.pointer_symmetry.specs.Twins.{twins}
use Rattle.refutation_check.specs.Walking.{waiting, waiting_in, IsOpenFamily, rooted}
use Rattle.refutation_check.specs.Inner.Walking.{skips_first}

-- ---- children, and whether they are passed over

module _ (skips : Skips) (ops : ℕ) (q : Program) (line : ℕ) where
  abbrev child_of : Instr → Child
  child_of instr = record { program = with_line q line instr; skipped = skips q instr }

  -- there are as many as programs
  pub as_many : length (children skips ops q line) ≡ length (child_programs ops q line)
  as_many = length-map (alphabet ops (length q) line) child_of ∙ sym (count_children ops q line)

  -- the one of a rank adds the instruction of the rank
  pub child_adds : (rank : ℕ) (instr : Instr) → slice_get (alphabet ops (length q) line) rank ≡ Some instr → slice_get (children skips ops q line) rank ≡ Some (child_of instr)
  child_adds rank instr ranked = slice_get-map child_of (alphabet ops (length q) line) rank ∙ ap (option_map child_of) ranked

  -- the one of a rank, of which the program is known
  pub child_with : (rank : ℕ) (program : Program) → slice_get (child_programs ops q line) rank ≡ Some program → (skipped : Bool) × (slice_get (children skips ops q line) rank ≡ Some (record { program = program; skipped = skipped }))
  child_with rank program here =
      let instrs = alphabet ops (length q) line in
      let left = slice_get_within (child_programs ops q line) rank program here in
      let instr = get_or instrs rank End in
      let ranked = slice_get-get_or instrs rank End (omega (arith, left, count_children ops q line)) in
      let same : with_line q line instr ≡ program = same_Some _ _ (sym (child_at ops (length q) q line rank instr refl ranked) ∙ here) in
      (skips q instr, child_adds rank instr ranked ∙ ap (λ (p : Program). Some (record { program = p; skipped = skips q instr })) same)

-- ---- families

-- the last family, once its next child is taken
pub record IsAfter {C : Type 0} (m : Semantics C) (family after : Family C) (child : Child) : Type 0 where
  pub here : slice_get (children (twins m) m.ops family.parent family.line) family.rank ≡ Some child
  pub parent : after.parent ≡ family.parent
  pub line : after.line ≡ family.line
  pub rank : after.rank ≡ family.rank + 1

waiting_next : {C : Type 0} (m : Semantics C) (family after : Family C) (child : Child) → IsAfter m family after child → waiting m family ≡ child ∷ waiting m after
waiting_next {C} m family after child next =
    left_from (children (twins m) m.ops family.parent family.line) family.rank child next.here
    ∙ ap (λ (n : ℕ). child ∷ drop n (children (twins m) m.ops family.parent family.line)) (sym next.rank)
    ∙ ap (λ (q : Program). child ∷ drop after.rank (children (twins m) m.ops q family.line)) (sym next.parent)
    ∙ ap (λ (n : ℕ). child ∷ drop after.rank (children (twins m) m.ops after.parent n)) (sym next.line)

taken : {C : Type 0} (m : Semantics C) (last : ℕ) (families : List (Family C)) (family after : Family C) (child : Child) → length families ≡ last + 1 → get_or families last family ≡ family → IsAfter m family after child
    → waiting_in m families ≡ child ∷ waiting_in m (set families last after)
taken m last families family after child size here next = without_first (waiting m) last families family after child size here (waiting_next m family after child next)

-- ---- the child of a family's rank

module _ {C : Type 0} (m : Semantics C) (belongs : ℕ → C → Type 0) (family : Family C) (h : IsOpenFamily m belongs family) (ops lines : ℕ) (same_ops : ops ≡ m.ops) (count : lines ≡ length family.parent) where
  -- the line and the rank are there
  pub line_within : family.line < lines
  line_within = let within = h.here.within in omega (arith, count, within)

  pub rank_within : family.rank < length (alphabet ops lines family.line)
  rank_within = let left = h.left in rw (same_ops, count) (omega (arith, left, count_children m.ops family.parent family.line))

  -- the instruction of the rank
  pub instr_of_rank : (instr : Instr) → slice_get (alphabet ops lines family.line) family.rank ≡ Some instr → slice_get (alphabet m.ops (length family.parent) family.line) family.rank ≡ Some instr
  instr_of_rank instr ranked = rw (← same_ops, ← count) ranked

module _ {C : Type 0} (m : Semantics C) (belongs : ℕ → C → Type 0) (family : Family C) (h : IsOpenFamily m belongs family) (instr : Instr) (ranked : slice_get (alphabet m.ops (length family.parent) family.line) family.rank ≡ Some instr) where
  fits : IsInstr m.ops (length family.parent) family.line instr
  fits = contains_at (alphabet m.ops (length family.parent) family.line) family.rank instr ranked

  -- if the instruction of the rank is an operation, it is one of the machine's
  pub op_of_rank : (op : ℕ) → instr ≡ Op op → op < m.ops
  op_of_rank op is = (contains_op m.ops (length family.parent) family.line op (open_is_not_last m.ops family.parent family.line h.partial h.here)).0 (subst (IsInstr m.ops (length family.parent) family.line) is fits)

  module _ (copied child : Program) (copy : copied ≡ family.parent) (defined : child ≡ with_line copied family.line instr) where
    is_child : with_line family.parent family.line instr ≡ child
    is_child = ap (λ (q : Program). with_line q family.line instr) (sym copy) ∙ sym defined

    -- with the instruction of the rank the parent is the child
    pub child_of_rank : slice_get (child_programs m.ops family.parent family.line) family.rank ≡ Some child
    child_of_rank = child_at m.ops (length family.parent) family.parent family.line family.rank instr refl ranked ∙ ap Some is_child

    pub child_is_partial : IsPartial m.ops child
    child_is_partial = subst (IsPartial m.ops) is_child (partial_with_line m.ops family.parent family.line instr h.partial h.here fits)

  -- the child of the rank is passed over where its instruction is a twin
  pub skips_of_rank : (twin : Bool) → twin ≡ twins m family.parent instr → twin ≡ skips_first (waiting m family)
  skips_of_rank twin is =
      let all = left_from (children (twins m) m.ops family.parent family.line) family.rank _ (child_adds (twins m) m.ops family.parent family.line family.rank instr ranked) in
      is ∙ ap skips_first (sym all)

-- ---- the pending programs, before others

same_head : (c d : Child) (cs ds : List Child) → c ∷ cs ≡ d ∷ ds → c.program ≡ d.program
same_head c d cs ds e = let same : c ≡ d = cc e in ap (λ (c : Child). c.program) same

headed : (cs rest : List Child) (program : Program) (skipped : Bool) → cs ≡ record { program = program; skipped = skipped } ∷ rest → cs ≡ record { program = program; skipped = skips_first cs } ∷ drop 1 cs
headed cs rest program skipped e =
    e
    ∙ ap (λ (l : List Child). record { program = program; skipped = skipped } ∷ drop 1 l) (sym e)
    ∙ ap (λ (b : Bool). record { program = program; skipped = b } ∷ drop 1 cs) (sym (ap skips_first e))

-- the next one is the child of the last family's rank
pub next_is_child : {C : Type 0} (m : Semantics C) (families : List (Family C)) (others : List Child) (family : Family C) (child : Program) → slice_get families (length families - 1) ≡ Some family → slice_get (child_programs m.ops family.parent family.line) family.rank ≡ Some child
    → waiting_in m families ++ others ≡ record { program = child; skipped = skips_first (waiting_in m families ++ others) } ∷ drop 1 (waiting_in m families ++ others)
next_is_child {C} m families others family child last here =
    let within = slice_get_within families (length families - 1) family last in
    let size : length families ≡ (length families - 1) + 1 = omega arith in
    let after : Family C = record { parent = family.parent; line = family.line; rank = family.rank + 1; children = family.children; used = family.used; runs = family.runs } in
    let with = child_with (twins m) m.ops family.parent family.line family.rank child here in
    let next : IsAfter m family after (record { program = child; skipped = with.0 }) = record { here = with.1; parent = refl; line = refl; rank = refl } in
    let all = taken m (length families - 1) families family after _ size (get_or_from_slice_get families (length families - 1) family family last) next in
    headed _ (waiting_in m (set families (length families - 1) after) ++ others) child with.0 (ap (λ (l : List Child). l ++ others) all)

-- it is passed over where the last family's next child is
pub skips_as_last : {C : Type 0} (m : Semantics C) (belongs : ℕ → C → Type 0) (families : List (Family C)) (others : List Child) (family : Family C) → slice_get families (length families - 1) ≡ Some family → All (IsOpenFamily m belongs) families
    → skips_first (waiting m family) ≡ skips_first (waiting_in m families ++ others)
skips_as_last {C} m belongs families others family last each =
    let within = slice_get_within families (length families - 1) family last in
    let there = get_or_from_slice_get families (length families - 1) family family last in
    let h : IsOpenFamily m belongs family = subst (IsOpenFamily m belongs) there (each (length families - 1) family within) in
    let size : length families ≡ (length families - 1) + 1 = omega arith in
    let kids = children (twins m) m.ops family.parent family.line in
    let after : Family C = record { parent = family.parent; line = family.line; rank = family.rank + 1; children = family.children; used = family.used; runs = family.runs } in
    let left = h.left in
    let child = get_or kids family.rank (record { program = family.parent; skipped = false }) in
    let here = slice_get-get_or kids family.rank (record { program = family.parent; skipped = false }) (omega (arith, left, as_many (twins m) m.ops family.parent family.line)) in
    let next : IsAfter m family after child = record { here = here; parent = refl; line = refl; rank = refl } in
    let all = taken m (length families - 1) families family after child size there next in
    ap skips_first (waiting_next m family after child next) ∙ sym (ap (λ (l : List Child). skips_first (l ++ others)) all)

-- the others are those after it
pub next_is_past : {C : Type 0} (m : Semantics C) (last : ℕ) (families : List (Family C)) (others : List Child) (family after : Family C) → length families ≡ last + 1 → get_or families last family ≡ family → family.rank < length (child_programs m.ops family.parent family.line)
    → after.parent ≡ family.parent → after.line ≡ family.line → after.rank ≡ family.rank + 1 → waiting_in m (set families last after) ++ others ≡ drop 1 (waiting_in m families ++ others)
next_is_past {C} m last families others family after size here left parent line rank =
    let programs = child_programs m.ops family.parent family.line in
    let with = child_with (twins m) m.ops family.parent family.line family.rank _ (slice_get-get_or programs family.rank family.parent left) in
    let next : IsAfter m family after _ = record { here = with.1; parent = parent; line = line; rank = rank } in
    ap (λ (l : List Child). drop 1 (l ++ others)) (sym (taken m last families family after _ size here next))

-- which is so where the last family has no child left, too, and is no longer there
pub next_was_last : {C : Type 0} (m : Semantics C) (last : ℕ) (families rest : List (Family C)) (others : List Child) (family after : Family C) → length families ≡ last + 1 → get_or families last family ≡ family → family.rank < length (child_programs m.ops family.parent family.line)
    → after.parent ≡ family.parent → after.line ≡ family.line → after.rank ≡ family.rank + 1 → (after.rank < length (child_programs m.ops family.parent family.line) → ⊥) → take last (set families last after) ≡ rest
    → waiting_in m rest ++ others ≡ drop 1 (waiting_in m families ++ others)
next_was_last {C} m last families rest others family after size here left parent line rank done is_rest =
    let no_program : length (child_programs m.ops after.parent after.line) ≤ after.rank = rw (parent, line) (omega (arith, done)) in
    let none : length (children (twins m) m.ops after.parent after.line) ≤ after.rank = omega (arith, no_program, as_many (twins m) m.ops after.parent after.line) in
    ap (λ (l : List (Family C)). waiting_in m l ++ others) (sym is_rest)
    ∙ ap (λ (l : List Child). l ++ others) (sym (without_empty (waiting m) last families after size (drop_all after.rank (children (twins m) m.ops after.parent after.line) none)))
    ∙ next_is_past m last families others family after size here left parent line rank

-- there is none
pub no_family : {C : Type 0} (families : List (Family C)) → None ≡ slice_get families (length families - 1) → families ≡ []
no_family [] none = refl
no_family (first ∷ families) none =
    let last = length (first ∷ families) - 1 in
    absurd (none-some (get_or (first ∷ families) last first) (none ∙ slice_get-get_or (first ∷ families) last first (omega arith)))

-- where there is none, the root is
pub next_is_root : {C : Type 0} (m : Semantics C) (families : List (Family C)) (root : Option Program) (q : Program) → None ≡ slice_get families (length families - 1) → root ≡ Some q
    → waiting_in m families ++ rooted root ≡ record { program = q; skipped = skips_first (waiting_in m families ++ rooted root) } ∷ drop 1 (waiting_in m families ++ rooted root)
next_is_root m families root q none is = rw (no_family families none, is) refl

-- which is not passed over
pub skips_no_root : {C : Type 0} (m : Semantics C) (families : List (Family C)) (root : Option Program) → None ≡ slice_get families (length families - 1) → false ≡ skips_first (waiting_in m families ++ rooted root)
skips_no_root m families None none = rw (no_family families none) refl
skips_no_root m families (Some q) none = rw (no_family families none) refl

-- a family that goes on to a child that is left
pub still_open : {C : Type 0} (m : Semantics C) (belongs : ℕ → C → Type 0) (family after : Family C) → IsOpenFamily m belongs family → after.parent ≡ family.parent → after.line ≡ family.line → after.children ≡ family.children → after.used ≡ family.used → after.runs ≡ family.runs
    → after.rank < length (child_programs m.ops family.parent family.line) → IsOpenFamily m belongs after
still_open m belongs family after h parent line count used runs left = record {
  partial = rw parent h.partial;
  short = rw parent h.short;
  here = rw (parent, line) h.here;
  left = rw (parent, line) left;
  count = rw (parent, line, count) h.count;
  used = rw (parent, used) h.used;
  runs = rw (parent, runs) h.runs;
}

-- a family that no child was taken of
pub newly_open : {C : Type 0} (m : Semantics C) (belongs : ℕ → C → Type 0) (family : Family C) (ops lines : ℕ) → ops ≡ m.ops → 0 < ops → lines ≡ length family.parent → length family.parent ≤ MAX_LINES → IsPartial m.ops family.parent → IsOpen family.parent family.line → family.rank ≡ 0
    → family.children ≡ length (alphabet ops lines family.line) → AreUsed m family.parent family.used → AllStandAt m belongs family.parent family.runs.items → IsOpenFamily m belongs family
newly_open m belongs family ops lines same_ops some count short partial here first children used runs = record {
  partial = partial;
  short = short;
  here = here;
  count = children ∙ ap (λ (n : ℕ). length (alphabet n lines family.line)) same_ops ∙ ap (λ (n : ℕ). length (alphabet m.ops n family.line)) count ∙ sym (count_children m.ops family.parent family.line);
  left = rw first (some_children m.ops family.parent family.line (omega arith) (open_is_not_last m.ops family.parent family.line partial here));
  used = used;
  runs = runs;
}

-- with it its parent's children are pending, before the others
pub split_pending : {C : Type 0} (m : Semantics C) (families now : List (Family C)) (others : List Child) (family : Family C) (parent : Program) (line : ℕ) → family.parent ≡ parent → family.line ≡ line → family.rank ≡ 0 → now ≡ families ++ family ∷ []
    → waiting_in m now ++ others ≡ children (twins m) m.ops parent line ++ (waiting_in m families ++ others)
split_pending {C} m families now others family parent line parent_is line_is first pushed =
    ap (λ (l : List (Family C)). waiting_in m l ++ others) pushed
    ∙ ap (λ (l : List Child). l ++ others) (one_more (waiting m) families family ∙ ap (λ (rank : ℕ). drop rank (children (twins m) m.ops family.parent family.line) ++ waiting_in m families) first)
    ∙ append_assoc (children (twins m) m.ops family.parent family.line) (waiting_in m families) others
    ∙ ap (λ (q : Program). children (twins m) m.ops q family.line ++ (waiting_in m families ++ others)) parent_is
    ∙ ap (λ (n : ℕ). children (twins m) m.ops parent n ++ (waiting_in m families ++ others)) line_is

-- the next one extends the last family's parent
pub next_extends : {C : Type 0} (m : Semantics C) (belongs : ℕ → C → Type 0) (last : ℕ) (families : List (Family C)) (others : List Child) (family : Family C) (q : Program) → length families ≡ last + 1 → get_or families last family ≡ family
    → IsOpenFamily m belongs family → waiting_in m families ++ others ≡ record { program = q; skipped = skips_first (waiting_in m families ++ others) } ∷ drop 1 (waiting_in m families ++ others) → Extends q family.parent
next_extends m belongs last families others family q size here h next =
    let instrs = alphabet m.ops (length family.parent) family.line in
    let instr = get_or instrs family.rank End in
    let left = h.left in
    let within : family.rank < length instrs = omega (arith, left, count_children m.ops family.parent family.line) in
    let child = child_at m.ops (length family.parent) family.parent family.line family.rank instr refl (slice_get-get_or instrs family.rank End within) in
    let place : length families - 1 ≡ last = omega arith in
    let there : slice_get families (length families - 1) ≡ Some family = ap (slice_get families) place ∙ slice_get-get_or families last family (omega arith) ∙ ap Some here in
    let other = next_is_child m families others family (with_line family.parent family.line instr) there child in
    let same : with_line family.parent family.line instr ≡ q = same_head _ _ _ _ (sym other ∙ next) in
    subst (λ (p : Program). Extends p family.parent) same (extends_with_line family.parent family.line instr h.here)

-- where the last family is only replaced by one at the same place, the same ones are pending
pub same_pending : {C : Type 0} (m : Semantics C) (last : ℕ) (families : List (Family C)) (others : List Child) (family after : Family C) → length families ≡ last + 1 → get_or families last family ≡ family
    → after.parent ≡ family.parent → after.line ≡ family.line → after.rank ≡ family.rank → waiting_in m (set families last after) ++ others ≡ waiting_in m families ++ others
same_pending {C} m last families others family after size here parent line rank =
    let same : waiting m after ≡ waiting m family =
    ap (λ (n : ℕ). drop n (children (twins m) m.ops after.parent after.line)) rank
    ∙ ap (λ (q : Program). drop family.rank (children (twins m) m.ops q after.line)) parent
    ∙ ap (λ (n : ℕ). drop family.rank (children (twins m) m.ops family.parent n)) line in
    ap (λ (l : List Child). l ++ others) (with_same (waiting m) last families family after size here same)
