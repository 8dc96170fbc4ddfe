-- A split as the code makes it, with the programs of its nodes: that of the node that is split, and those of its children.
use Rattle.std.proofs.Common.{◌≡◌, ◌⊎◌, ℕ, ◌+◌, ◌-◌, ◌<◌, ◌≤◌, List, [], ◌∷◌, ◌++◌, length, map, take, drop, Option, Some, None, refl, sym, ◌∙◌, ap, subst, inl, inr, arith}
use Rattle.std.specs.Prelude.{Contains, slice_get, IfSome, IsSome, IsSomeAnd}
use Rattle.std.proofs.lemmas.Bool.{cases_lt}
use Rattle.std.proofs.lemmas.List.Elements.{Contains-append_left, Contains-append_right, Contains-append_cases}
use Rattle.program_model.specs.declared.instr.Instr.{Instr}
use Rattle.program_model.specs.declared.verdict.Verdict.TheVariants as verdicts
use Rattle.program_model.specs.Alphabet.{alphabet}
use Rattle.program_model.specs.Program.{Program, IsPartial, with_line}
use Rattle.program_model.proofs.Places.{at_contains, contains_at}
use Rattle.interpreter.specs.Counts.{RaisedAtMost}
use Rattle.judgement.specs.Judging.{run_standing}
use Rattle.waiting_programs.specs.Programs.{Waiting, kept_at, kept_count, Becomes}
use Rattle.refutation_tree.proofs.Lists.{each_at}
use Rattle.pointer_symmetry.specs.Used.{AreUsed}
use Rattle.synthesis.specs.declared.nodes.Held.{Held}
use Rattle.synthesis.specs.declared.nodes.Best.{Best}
use Rattle.synthesis.specs.declared.nodes.Nodes.{Nodes}
use Rattle.synthesis.specs.declared.newest.Newest.{Newest}
use Rattle.synthesis.specs.declared.splitting.Parent.{Parent}
use Rattle.synthesis.specs.Search.{Setting, Node, split, Splits, Leads, here, next}
use Rattle.synthesis.specs.FreshWork.{AreStandingSteps, operations_of_split, copies_of_split}
use Rattle.synthesis.specs.Inner.Keeping.{IsKeptFor, IsParent, AllStay, KeepsChildren}
use Rattle.synthesis.specs.Inner.Working.{Counts}
use Rattle.synthesis.specs.Inner.Nodes.{HasCome, MOST_CHILDREN, HasGrown, CanGrow}
use Rattle.synthesis.specs.Inner.Splitting.{TakesBest, AddsChildren}
use Rattle.synthesis.proofs.Lists.{read_at, split_at}
use Rattle.synthesis.proofs.Numbered.{splits_count}
use Rattle.synthesis.proofs.WaitingPairs.{contains_first, contains_later, contains_cases}
use Rattle.synthesis.proofs.FreshWork.{worked_split}
use Rattle.synthesis.proofs.Keeping.{parent_is, kept_after_split}
use Rattle.synthesis.proofs.Splits.{child_at, child_program, come_numbered, node, place, here_is, number_is, taken_waits, node_waits, node_sized, node_open, grown, grown_held, tells}

-- ---- the nodes of a split

module _ (before : List Node) (old put : Node) (made rest : List Node) where
  abbrev after : List Node
  after = before ++ (put ∷ made) ++ rest

  put_here : Contains after put
  put_here = Contains-append_left (before ++ put ∷ made) rest put (Contains-append_right before (put ∷ made) put (contains_first put made))

  made_here : (x : Node) → Contains made x → Contains after x
  made_here x h = Contains-append_left (before ++ put ∷ made) rest x (Contains-append_right before (put ∷ made) x (contains_later put made x h))

  -- a node stands there still, or is the one that is split
  old_here : (x : Node) → Contains (before ++ old ∷ rest) x → Contains after x ⊎ (old ≡ x)
  old_here x h = elim (Contains-append_cases before (old ∷ rest) x h) [
    | inl first ↦ inl (Contains-append_left (before ++ put ∷ made) rest x (Contains-append_left before (put ∷ made) x first))
    | inr later ↦ elim (contains_cases old rest x later) [
      | inl same ↦ inr same
      | inr last ↦ inl (Contains-append_right (before ++ put ∷ made) rest x last)
    ]
  ]

  -- a node stood there before, or is the one that is split, or a child
  after_from : (x : Node) → Contains after x → (Contains (before ++ old ∷ rest) x ⊎ (put ≡ x)) ⊎ Contains made x
  after_from x h = elim (Contains-append_cases (before ++ put ∷ made) rest x h) [
    | inl front ↦ elim (Contains-append_cases before (put ∷ made) x front) [
      | inl first ↦ inl (inl (Contains-append_left before (old ∷ rest) x first))
      | inr later ↦ elim (contains_cases put made x later) [
        | inl same ↦ inl (inr same)
        | inr child ↦ inr child
      ]
    ]
    | inr last ↦ inl (inl (Contains-append_right before (old ∷ rest) x (contains_later old rest x last)))
  ]

-- ---- each number is that of a node

abbrev AreListed : List Node → Type 0
AreListed nodes = (number : ℕ) → number < length nodes → (node : Node) × Contains nodes node × (node.number ≡ number)

module _ {C : Type 0} (s : Setting C) where
  module _ (stamp : ℕ) (old new : List Node) (h : Splits s stamp old new) (number : ℕ) where
    abbrev put : Node
    put = record h.node { state = split h.line stamp }

    new_here : (x : Node) → Contains (take h.place old ++ (put ∷ h.made) ++ drop (h.place + 1) old) x → Contains new x
    new_here x = subst (λ (ns : List Node). Contains ns x) (sym h.after)

    old_listed : (x : Node) → Contains old x → x.number ≡ number → (y : Node) × Contains new y × (y.number ≡ number)
    old_listed x among is = elim (old_here (take h.place old) h.node put h.made (drop (h.place + 1) old) x (subst (λ (ns : List Node). Contains ns x) (split_at old h.place h.node h.here) among)) [
      | inl still ↦ (x, new_here x still, is)
      | inr same ↦ (put, new_here put (put_here (take h.place old) h.node put h.made (drop (h.place + 1) old)), ap (λ (y : Node). y.number) same ∙ is)
    ]

    made_listed : length old ≤ number → number < length new → (y : Node) × Contains new y × (y.number ≡ number)
    made_listed from within =
        let child = read_at h.made (number - length old) (omega (arith, splits_count s stamp old new h)) in
        let numbered = (child_at s h.node.program h.line (length old) _ h.made h.children (number - length old) child.0 child.1).0 in
        (child.0, new_here child.0 (made_here (take h.place old) h.node put h.made (drop (h.place + 1) old) child.0 (contains_at h.made (number - length old) child.0 child.1)), omega (arith, numbered))

  splits_listed : (stamp : ℕ) (old new : List Node) → Splits s stamp old new → AreListed old → AreListed new
  splits_listed stamp old new h listed number within = elim (cases_lt number (length old)) [
    | inl below ↦ let x = listed number below in old_listed stamp old new h number x.0 x.1 x.2
    | inr from ↦ made_listed stamp old new h number from within
  ]

  leads_listed : (budget from : ℕ) (start : List Node) → AreListed start → (stamp : ℕ) (nodes : List Node) → Leads s budget from start stamp nodes → AreListed nodes
  leads_listed budget from start listed stamp nodes here = listed
  leads_listed budget from start listed stamp nodes (next before old new leads stays splits) = splits_listed before old nodes splits (leads_listed budget from start listed before old leads)

  come_listed : (budget size from stamp : ℕ) (nodes : List Node) → HasCome s budget size from stamp nodes → AreListed nodes
  come_listed budget size from stamp nodes come =
      leads_listed budget from (come.root ∷ []) (λ number within. (come.root, contains_first come.root [], let first = come.is_root.number in omega arith)) stamp nodes come.leads

-- ---- a node that is split, with its program

-- what is there is something
found_at : {A : Type 0} (P : A → Type 0) (o : Option A) → IsSomeAnd o P → (a : A) × (o ≡ Some a) × P a
found_at P None h = absurd h
found_at P (Some a) h = (a, refl, h)

module _ {C : Type 0} {s : Setting C} {belongs : ℕ → C → Type 0} {budget size from stamp : ℕ} {old : Nodes C} {mid : List Held} {left : List (List ℕ × ℕ)} {best : Best} {before so_far : Counts}
    (can : CanGrow s belongs budget size from stamp old before so_far) (takes : TakesBest stamp old.held.items mid old.frontier.pairs left best) where
  abbrev parted : Node
  parted = node can.all.are_held takes

  kept_so : (waiting : Waiting C) × (kept_at old.programs.kept best.id ≡ Some waiting) × IsKeptFor s.machine belongs s.limit parted.program waiting
  kept_so = found_at (IsKeptFor s.machine belongs s.limit parted.program) (kept_at old.programs.kept best.id) (parent_is s.machine belongs s.limit can.nodes old.held.items mid old.frontier.pairs left old.programs.kept stamp best parted can.all.are_kept takes (taken_waits can.all.are_held takes).here (number_is can.all.are_held takes))

  -- its program is kept
  pub best_kept : IsSomeAnd (kept_at old.programs.kept best.id) (λ waiting. IsKeptFor s.machine belongs s.limit waiting.program waiting)
  best_kept =
      let waiting = kept_so.0 in
      let is_kept = kept_so.2 in
      rw (kept_so.1) (subst (λ q. IsKeptFor s.machine belongs s.limit q waiting) (sym is_kept.program) is_kept)

  -- it is a partial program
  pub best_partial : IfSome (kept_at old.programs.kept best.id) (λ waiting. IsPartial s.machine.ops waiting.program)
  best_partial = rw (kept_so.1) (subst (IsPartial s.machine.ops) (sym kept_so.2.program) (node_sized can.all.are_held takes).1)

  -- so it is still where what was kept is kept
  pub still_kept : (now : List (Option (Waiting C))) → AllStay s.machine belongs s.limit old.programs.kept now → IsSome (kept_at now best.id)
  still_kept now stay =
      let some : IsSome (kept_at old.programs.kept best.id) = rw (kept_so.1) refl in
      rw (stay best.id some) some

  module _ (parent : Parent) (program : IfSome (kept_at old.programs.kept best.id) (λ waiting. parent.program ≡ waiting.program)) where
    pub parent_program : parent.program ≡ parted.program
    parent_program = (rw (kept_so.1) at program) ∙ kept_so.2.program

    pub is_parent : parent.id ≡ best.id → parent.line ≡ best.line → AreUsed s.machine parent.program parent.used → IfSome (kept_at old.programs.kept best.id) (λ waiting. parent.standings.items ≡ map (run_standing s.machine (length waiting.program)) waiting.runs) → IsParent s.machine belongs s.limit old.programs.kept parent
    is_parent id line used standings =
        let same = parent_program in
        let standings_at = rw (kept_so.1) at standings in
        record {
          partial = subst (IsPartial s.machine.ops) (sym same) (node_sized can.all.are_held takes).1;
          is_open = rw (same, line) (node_open can.all.are_held takes);
          used = used;
          waiting = kept_so.0;
          here = ap (kept_at old.programs.kept) id ∙ kept_so.1;
          is_kept = subst (λ q. IsKeptFor s.machine belongs s.limit q kept_so.0) (sym same) kept_so.2;
          standings = rw (same, sym kept_so.2.program) standings_at;
        }

  -- where its children are added, their programs are kept, and no more is done than fresh work, the nodes have grown
  module _ (all : Nodes C) {newest : Newest} (few : length all.held.items ≤ length mid + MOST_CHILDREN)
      (adds : AddsChildren s parted.program best.line (alphabet s.machine.ops (length parted.program) best.line) mid all.held.items left all.frontier.pairs newest) where
    abbrev grown_now : List Node
    grown_now = grown can.all.are_held takes can.stays adds few

    now_from : (x : Node) → Contains grown_now x → (Contains can.nodes x ⊎ (x.number ≡ takes.pair.1)) ⊎ Contains adds.made x
    now_from x h =
        let at = place can.all.are_held takes in
        elim (after_from (take at can.nodes) parted (record parted { state = split best.line stamp }) adds.made (drop (at + 1) can.nodes) x h) [
          | inl old_one ↦ elim old_one [
            | inl stood ↦ inl (inl (subst (λ (ns : List Node). Contains ns x) (sym (split_at can.nodes at parted (here_is can.all.are_held takes))) stood))
            | inr same ↦ inl (inr (ap (λ (y : Node). y.number) (sym same) ∙ sym (number_is can.all.are_held takes)))
          ]
          | inr child ↦ inr child
        ]

    child_is : (x : Node) → Contains adds.made x → (at : ℕ) × (instr : Instr) × (slice_get (alphabet s.machine.ops (length parted.program) best.line) at ≡ Some instr) × (x.number ≡ length mid + at) × (x.program ≡ with_line parted.program best.line instr)
    child_is x h =
        let at = at_contains adds.made x h in
        let its = child_program s parted.program best.line (length mid) _ adds.made adds.children at.0 x at.1 in
        (at.0, its.0, its.1, (child_at s parted.program best.line (length mid) _ adds.made adds.children at.0 x at.1).0, its.2)

    numbered : (x : Node) → Contains can.nodes x → x.number < length old.held.items
    numbered x h =
        let at = at_contains can.nodes x h in
        let below : x.number < length can.nodes = each_at _ can.nodes at.0 x at.1 (come_numbered s budget size from stamp can.nodes can.all.are_held.come).1 in
        omega (arith, below, can.all.are_held.count)

    listed : (number : ℕ) → number < length old.held.items → (x : Node) × Contains can.nodes x × (x.number ≡ number)
    listed number within = come_listed s budget size from stamp can.nodes can.all.are_held.come number (omega (arith, can.all.are_held.count))

    pub split_grows : (kept : List (Option (Waiting C))) (after : Counts) →
        KeepsChildren s.machine belongs s.limit parted.program best.line (alphabet s.machine.ops (length parted.program) best.line) mid all.held.items old.programs.kept kept → Becomes kept all.programs.kept best.id None → kept_count all.programs.kept + 1 ≡ kept_count kept →
        ((reached : Program → ℕ → ℕ) → AreStandingSteps s.machine s.limit reached → RaisedAtMost (operations_of_split s reached (parted.program, best.line)) so_far.acts after.acts) →
        ((reached : Program → ℕ → ℕ) → AreStandingSteps s.machine s.limit reached → RaisedAtMost (copies_of_split s reached (parted.program, best.line)) so_far.copies after.copies) →
        HasGrown s belongs budget size from (stamp + 1) all before after newest
    split_grows kept after keeps gone one_less acts copies = record {
      nodes = grown_now;
      all = record {
        are_held = grown_held can.all.are_held takes can.stays adds few;
        are_kept = kept_after_split s.machine belongs s.limit stamp old.held.items mid all.held.items old.frontier.pairs left best takes can.nodes adds.made grown_now old.programs.kept kept all.programs.kept can.all.are_kept parted.program _ keeps
            numbered listed adds.stay child_is now_from gone one_less;
        worked = worked_split s can.nodes grown_now adds.made (place can.all.are_held takes) best.line stamp (length mid) parted (verdicts.Waiting best.line) parted.program (alphabet s.machine.ops (length parted.program) best.line)
            (here_is can.all.are_held takes) (node_waits can.all.are_held takes) adds.children refl before so_far after can.all.worked acts copies;
      };
      tells = tells can.all.are_held takes can.stays adds few;
    }
