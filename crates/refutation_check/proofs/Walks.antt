-- A walk of which one family changed, or was put to use.
use Rattle.std.proofs.Common.{◌≡◌, ℕ, ◌+◌, ◌-◌, ◌<◌, List, [], ◌∷◌, ◌++◌, length, take, drop, set, get_or, Option, Some, None, sym, ◌∙◌, ap, subst, arith, length-set}
use Rattle.std.specs.Prelude.{All, option_to_list, slice_get}
use Rattle.std.proofs.lemmas.Option.{get_or_from_slice_get, slice_get_within}
use Rattle.std.proofs.lemmas.List.{take-set, take-take}
use Rattle.std.proofs.lemmas.List.Elements.{All-head, All-push, All-same, All-set, All-take}
use Rattle.program_model.specs.declared.alphabet.TheConstants.{MAX_LINES}
use Rattle.program_model.specs.Semantics.{Semantics}
use Rattle.program_model.specs.Program.{Program, IsOpen}
use Rattle.refutation_tree.specs.Covers.{children}
use Rattle.refutation_tree.specs.Grammar.{child_programs}
use Rattle.pointer_symmetry.specs.Twins.{twins}
use Rattle.refutation_check.specs.declared.family.Family.{Family}
use Rattle.refutation_check.specs.declared.walk.TheConstants.{LONGEST_PATH}
use Rattle.refutation_check.specs.declared.walk.Walk.{Walk}
use Rattle.refutation_check.specs.Inner.Runs.{AreRuns, AreTrials}
use Rattle.refutation_check.specs.Walking.{IsOpenFamily, IsRoot, IsWalk, NarrowDown, open_lines, path, pending, rooted, waiting_in}
use Rattle.refutation_check.proofs.Places.{front_at, front_pop, front_push, front_set, front_size}
use Rattle.refutation_check.proofs.Narrowing.{child_narrow, next_narrow, root_narrow, narrow_push, narrow_set, narrow_take, split_narrow}
use Rattle.refutation_check.proofs.Waiting.{next_is_past, no_family, next_was_last, same_pending, split_pending}

abbrev HasRuns : {C : Type 0} → Semantics C → (ℕ → C → Type 0) → Family C → Type 0
HasRuns m belongs family = AreRuns belongs m.instances family.runs.items

module _ {C : Type 0} (m : Semantics C) (belongs : ℕ → C → Type 0) (walk : Walk C) (h : IsWalk m belongs walk) where
  pub path_size : length (path walk) ≡ walk.depth
  path_size = front_size walk.families.items walk.depth h.within

  pub root_same : (root : Option Program) → root ≡ walk.root → All (IsRoot m.ops) (option_to_list root)
  root_same root same = subst (λ (o : Option Program). All (IsRoot m.ops) (option_to_list o)) (sym same) h.root

  -- ---- the next one has fewer undefined lines the longer the path is
  pub next_child_narrow : (family : Family C) (child : Program) → slice_get (path walk) (length (path walk) - 1) ≡ Some family → slice_get (child_programs m.ops family.parent family.line) family.rank ≡ Some child → open_lines child + walk.depth < MAX_LINES
  next_child_narrow family child there value =
      let last = length (path walk) - 1 in
      let within = slice_get_within (path walk) last family there in
      let size : length (path walk) ≡ last + 1 = omega arith in
      let here = get_or_from_slice_get (path walk) last family family there in
      let is_open : IsOpenFamily m belongs family = subst (IsOpenFamily m belongs) here (h.families last family within) in
      let less = next_narrow (path walk) h.narrow last family child size here (child_narrow m.ops family.parent family.line family.rank child is_open.here value) in
      omega (arith, less, path_size)

  pub next_root_narrow : (q : Program) → None ≡ slice_get (path walk) (length (path walk) - 1) → walk.root ≡ Some q → open_lines q + walk.depth < MAX_LINES
  next_root_narrow q none is =
      let empty : length (path walk) ≡ 0 = ap length (no_family (path walk) none) in
      let root : IsRoot m.ops q = All-head (IsRoot m.ops) q [] (subst (λ (o : Option Program). All (IsRoot m.ops) (option_to_list o)) is h.root) in
      omega (arith, empty, path_size, root_narrow m.ops q root)

  -- ---- the last family, and another one in its place
  module _ (last : ℕ) (family : Family C) (size : last + 1 ≡ walk.depth) (here : get_or walk.families.items last family ≡ family) where
    pub last_at : get_or (path walk) last family ≡ family
    last_at = front_at walk.families.items walk.depth last family (omega arith) ∙ here

    pub last_size : length (path walk) ≡ last + 1
    last_size = path_size ∙ sym size

    pub last_open : IsOpenFamily m belongs family
    last_open = subst (IsOpenFamily m belongs) last_at (h.families last family (omega (arith, last_size)))

    pub last_runs : AreRuns belongs m.instances family.runs.items
    last_runs = let within = h.within in subst (HasRuns m belongs) here (h.runs last family (omega (arith, within)))

    module _ (after : Family C) (new : Walk C) (items : new.families.items ≡ set walk.families.items last after) where
      room : length new.families.items ≡ LONGEST_PATH
      room = ap length items ∙ length-set walk.families.items last after ∙ h.room

      runs : AreRuns belongs m.instances after.runs.items → All (HasRuns m belongs) new.families.items
      runs each = All-same (HasRuns m belongs) new.families.items (set walk.families.items last after) items (All-set (HasRuns m belongs) walk.families.items last after each h.runs)

      path_still : new.depth ≡ walk.depth → path new ≡ set (path walk) last after
      path_still depth = ap (λ (n : ℕ). take n new.families.items) depth ∙ ap (take walk.depth) items ∙ front_set walk.families.items walk.depth last after (omega arith)

      path_shorter : new.depth ≡ last → path new ≡ take last (set walk.families.items last after)
      path_shorter depth = ap (λ (n : ℕ). take n new.families.items) depth ∙ ap (take last) items

      -- it is there still
      pub still_walk : new.depth ≡ walk.depth → new.root ≡ walk.root → AreTrials belongs m.instances new.trials.items → IsOpenFamily m belongs after → AreRuns belongs m.instances after.runs.items → after.parent ≡ family.parent → IsWalk m belongs new
      still_walk depth root trials is_open each parent =
          let count = room in
          let within = h.within in
          let whole = h.room in
          record {
            room = count;
            within = omega (arith, count, within, whole, depth);
            runs = runs each;
            trials = trials;
            families = All-same (IsOpenFamily m belongs) (path new) (set (path walk) last after) (path_still depth) (All-set (IsOpenFamily m belongs) (path walk) last after is_open h.families);
            narrow = subst NarrowDown (sym (path_still depth)) (narrow_set (path walk) h.narrow last family after (omega (arith, last_size)) last_at parent);
            root = root_same new.root root;
          }

      pub still_pending : new.depth ≡ walk.depth → new.root ≡ walk.root → after.parent ≡ family.parent → after.line ≡ family.line → after.rank ≡ family.rank → pending m new ≡ pending m walk
      still_pending depth root parent line rank =
          ap (λ (l : List (Family C)). waiting_in m l ++ rooted new.root) (path_still depth)
          ∙ ap (λ (o : Option Program). waiting_in m (set (path walk) last after) ++ rooted o) root
          ∙ same_pending m last (path walk) (rooted walk.root) family after last_size last_at parent line rank

      pub past_pending : new.depth ≡ walk.depth → new.root ≡ walk.root → after.parent ≡ family.parent → after.line ≡ family.line → after.rank ≡ family.rank + 1 → pending m new ≡ drop 1 (pending m walk)
      past_pending depth root parent line rank =
          ap (λ (l : List (Family C)). waiting_in m l ++ rooted new.root) (path_still depth)
          ∙ ap (λ (o : Option Program). waiting_in m (set (path walk) last after) ++ rooted o) root
          ∙ next_is_past m last (path walk) (rooted walk.root) family after last_size last_at last_open.left parent line rank

      -- it is no longer there
      pub shorter_walk : new.depth ≡ last → new.root ≡ walk.root → new.trials ≡ walk.trials → AreRuns belongs m.instances after.runs.items → IsWalk m belongs new
      shorter_walk depth root trials each =
          let count = room in
          let within = h.within in
          let whole = h.room in
          let is : path new ≡ take last (path walk) = path_shorter depth ∙ take-set walk.families.items last after ∙ sym (take-take last walk.depth walk.families.items (omega arith)) in
          record {
            room = count;
            within = omega (arith, count, within, whole, depth);
            runs = runs each;
            trials = subst (λ trials. AreTrials belongs m.instances trials.items) (sym trials) h.trials;
            families = All-same (IsOpenFamily m belongs) (path new) (take last (path walk)) is (All-take (IsOpenFamily m belongs) last (path walk) h.families);
            narrow = subst NarrowDown (sym is) (narrow_take (path walk) h.narrow last);
            root = root_same new.root root;
          }

      pub shorter_pending : new.depth ≡ last → new.root ≡ walk.root → after.parent ≡ family.parent → after.line ≡ family.line → after.rank ≡ family.rank + 1 → (after.rank < length (child_programs m.ops family.parent family.line) → ⊥) → pending m new ≡ drop 1 (pending m walk)
      shorter_pending depth root parent line rank done =
          ap (λ (o : Option Program). waiting_in m (path new) ++ rooted o) root
          ∙ next_was_last m last (path walk) (path new) (rooted walk.root) family after last_size last_at last_open.left parent line rank done
          (front_pop walk.families.items walk.depth last after size ∙ sym (path_shorter depth))

  -- ---- one more family
  pub room_for : (q : Program) (line : ℕ) → IsOpen q line → open_lines q + walk.depth < MAX_LINES → walk.depth < length walk.families.items
  room_for q line here narrow = let some = split_narrow q line here in let whole = h.room in omega (arith, some, whole)

  module _ (family : Family C) (new : Walk C) (items : new.families.items ≡ set walk.families.items walk.depth family) (depth : new.depth ≡ walk.depth + 1) (narrow : open_lines family.parent + walk.depth < MAX_LINES) (here : IsOpen family.parent family.line) where
    there : walk.depth < length walk.families.items
    there = room_for family.parent family.line here narrow

    longer : path new ≡ path walk ++ family ∷ []
    longer = ap (λ (n : ℕ). take n new.families.items) depth ∙ ap (take (walk.depth + 1)) items ∙ front_push walk.families.items walk.depth family there

    pub longer_walk : new.root ≡ walk.root → new.trials ≡ walk.trials → IsOpenFamily m belongs family → AreRuns belongs m.instances family.runs.items → IsWalk m belongs new
    longer_walk root trials is_open each =
        let count : length new.families.items ≡ length walk.families.items = ap length items ∙ length-set walk.families.items walk.depth family in
        let less = there in
        record {
          room = count ∙ h.room;
          within = omega (arith, count, less, depth);
          runs = All-same (HasRuns m belongs) new.families.items (set walk.families.items walk.depth family) items (All-set (HasRuns m belongs) walk.families.items walk.depth family each h.runs);
          trials = subst (λ trials. AreTrials belongs m.instances trials.items) (sym trials) h.trials;
          families = All-same (IsOpenFamily m belongs) (path new) (path walk ++ family ∷ []) longer (All-push (IsOpenFamily m belongs) (path walk) family h.families is_open);
          narrow = subst NarrowDown (sym longer) (narrow_push (path walk) h.narrow family (omega (arith, path_size, narrow)));
          root = root_same new.root root;
        }

    pub longer_pending : (parent : Program) (line : ℕ) → new.root ≡ walk.root → family.parent ≡ parent → family.line ≡ line → family.rank ≡ 0 → pending m new ≡ children (twins m) m.ops parent line ++ pending m walk
    longer_pending parent line root parent_is line_is first =
        ap (λ (o : Option Program). waiting_in m (path new) ++ rooted o) root
        ∙ split_pending m (path walk) (path new) (rooted walk.root) family parent line parent_is line_is first longer
