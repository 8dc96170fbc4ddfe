-- A split as the code makes it is a split of the definition, and its nodes are held as they were to be.
use Rattle.std.proofs.Common.{◌≡◌, ◌≢◌, ◌⊎◌, ℕ, zero, suc, ◌+◌, ◌*◌, ◌-◌, ◌<◌, ◌≤◌, List, [], ◌∷◌, ◌++◌, length, take, drop, set, Some, true, refl, sym, ◌∙◌, ap, subst, inl, inr, arith, length-append, length-set}
use Rattle.std.specs.Prelude.{All, Contains, IsPermutation, slice_get, slice_index_or, is_some}
use Rattle.std.specs.List.{AllByRecursion as Each}
use Rattle.std.proofs.lemmas.Bool.{cases_lt, cases_eq, cases_Bool, true≢false, MatchBool-at_true, MatchBool-at_false}
use Rattle.std.proofs.lemmas.List.Elements.{Contains-get_or}
use Rattle.std.proofs.lemmas.Option.{none-some, same_Some, slice_get_within}
use Rattle.std.proofs.lemmas.List.Sorted.{Contains-permutation}
use Rattle.program_model.specs.declared.instr.Instr.{Instr}
use Rattle.program_model.specs.Alphabet.{alphabet}
use Rattle.program_model.specs.Program.{Program, IsOpen, with_line}
use Rattle.program_model.specs.declared.verdict.Verdict.{Verdict}
use Rattle.program_model.specs.declared.verdict.Verdict.TheVariants as verdicts
use Rattle.program_model.specs.Verdict.{IsVerdict}
use Rattle.program_model.proofs.Places.{at_contains, get-set_same, get-set_other}
use Rattle.refutation_tree.specs.Covers.{Child}
use Rattle.refutation_tree.proofs.Lists.{each_at}
use Rattle.evaluations.specs.Keys.{comes_before}
use Rattle.synthesis.specs.declared.nodes.Held.{Held}
use Rattle.synthesis.specs.declared.nodes.Held.TheVariants as holdings
use Rattle.synthesis.specs.declared.nodes.Best.{Best}
use Rattle.synthesis.specs.declared.newest.Newest.{Newest}
use Rattle.synthesis.specs.Search.{Setting, judged, split, Node, is_waiting, waits_at, IsChild, AreChildren, Splits, StaysOpen, Leads, here, next}
use Rattle.synthesis.specs.Inner.Nodes.{state_of, IsHeldOf, children_of, AreInPreorder, LinksOn, pair_of, IsWaitingPair, AreWaitingPairs, HasCome, MOST_CHILDREN, AreHeld, TellsNewest}
use Rattle.synthesis.specs.Inner.Splitting.{TakesBest, AddsChildren}
use Rattle.synthesis.proofs.Lists.{read_at, split_at}
use Rattle.synthesis.proofs.Judging.{waiting_is_open}
use Rattle.synthesis.proofs.Growing.{followers, HasState, AreGrown, empty_alone, leads_grown, root_grown}
use Rattle.synthesis.proofs.FilledPrograms.{IsSized, nodes_sized, empty_sized}
use Rattle.synthesis.proofs.Numbered.{Distinct, AreNumbered, root_numbered, splits_numbered}
use Rattle.synthesis.proofs.Closing.{closes_at_newest}
use Rattle.synthesis.proofs.Preorder.{IsUnsplit, split_stands}
use Rattle.synthesis.proofs.WaitingPairs.{waiting_after, none_before, contains_first}

-- the line, and the number of the first child, that are held of a split node
abbrev line_of : Held → ℕ
line_of (holdings.Split line stamp first) = line
line_of _ = 0

abbrev first_of : Held → ℕ
first_of (holdings.Split line stamp first) = first
first_of _ = 0

-- ---- what is known of nodes that have come

module _ {C : Type 0} (s : Setting C) where
  -- the verdict on a node that is judged
  judged_at : (nodes : List Node) (cs : List Child) → AreGrown s cs nodes → (i : ℕ) (node : Node) (verdict : Verdict) → slice_get nodes i ≡ Some node → node.state ≡ judged verdict → IsVerdict s.machine node.program s.limit verdict
  judged_at [] cs h i node verdict e is = absurd (none-some node e)
  judged_at (x ∷ nodes) [] h i node verdict e is = absurd h
  judged_at (x ∷ nodes) (c ∷ cs) h zero node verdict e is =
      let same : x ≡ node = same_Some x node e in
      let state : x.state ≡ judged verdict = ap (λ (y : Node). y.state) same ∙ is in
      let program : node.program ≡ c.program = ap (λ (y : Node). y.program) (sym same) ∙ h.0 in
      subst (λ q. IsVerdict s.machine q s.limit verdict) (sym program) (subst (HasState s c) state h.1)
  judged_at (x ∷ nodes) (c ∷ cs) h (suc i) node verdict e is = judged_at nodes (followers s c.program x.state ++ cs) h.2 i node verdict e is

  module _ (budget size from stamp : ℕ) (some : 0 < size) (nodes : List Node) (come : HasCome s budget size from stamp nodes) where
    pub come_grown : AreGrown s (empty_alone s size) nodes
    come_grown = leads_grown s budget from (come.root ∷ []) (empty_alone s size) stamp nodes come.leads (root_grown s size come.root come.is_root)

    pub come_sized : Each (λ (node : Node). IsSized s size node.program) nodes
    come_sized = nodes_sized s size nodes (empty_alone s size) come_grown (empty_sized s size some, tt)

    pub come_judged : (i : ℕ) (node : Node) (verdict : Verdict) → slice_get nodes i ≡ Some node → node.state ≡ judged verdict → IsVerdict s.machine node.program s.limit verdict
    come_judged = judged_at nodes (empty_alone s size) come_grown

  leads_numbered : (budget from : ℕ) (start : List Node) → AreNumbered start → (stamp : ℕ) (nodes : List Node) → Leads s budget from start stamp nodes → AreNumbered nodes
  leads_numbered budget from start numbered stamp nodes here = numbered
  leads_numbered budget from start numbered stamp nodes (next before old after leads stays splits) = splits_numbered s before old nodes splits (leads_numbered budget from start numbered before old leads)

  pub come_numbered : (budget size from stamp : ℕ) (nodes : List Node) → HasCome s budget size from stamp nodes → AreNumbered nodes
  come_numbered budget size from stamp nodes come = leads_numbered budget from (come.root ∷ []) (root_numbered s size come.root come.is_root) stamp nodes come.leads

-- ---- children

module _ {C : Type 0} (s : Setting C) (parent : Program) (line : ℕ) where
  child_unsplit : (number : ℕ) (instr : Instr) (node : Node) → IsChild s parent line number instr node → IsUnsplit node.state
  child_unsplit number instr node h = elim (cases_Bool (s.skips parent instr)) [
    | inl passed ↦ subst IsUnsplit (sym (MatchBool-at_true _ _ passed h.state).0) tt
    | inr kept ↦ subst IsUnsplit (sym (MatchBool-at_false _ _ kept h.state).state) tt
  ]

  pub child_at : (number : ℕ) (instrs : List Instr) (made : List Node) → AreChildren s parent line number instrs made → (place : ℕ) (child : Node) → slice_get made place ≡ Some child → (child.number ≡ number + place) × IsUnsplit child.state
  child_at number [] [] h place child e = absurd (none-some child e)
  child_at number [] (node ∷ made) h place child e = absurd h
  child_at number (instr ∷ instrs) [] h place child e = absurd h
  child_at number (instr ∷ instrs) (node ∷ made) h zero child e =
      let same : node ≡ child = same_Some node child e in
      let numbered : node.number ≡ number = h.0.numbered in
      (ap (λ (x : Node). x.number) (sym same) ∙ numbered ∙ plain number, subst (λ (x : Node). IsUnsplit x.state) same (child_unsplit number instr node h.0))
    where
      plain : (n : ℕ) → n ≡ n + 0
      plain n = omega arith
  child_at number (instr ∷ instrs) (node ∷ made) h (suc place) child e =
      let later = child_at (number + 1) instrs made h.1 place child e in
      (later.0 ∙ next number place, later.1)
    where
      next : (n k : ℕ) → n + 1 + k ≡ n + suc k
      next n k = omega arith

  pub child_program : (number : ℕ) (instrs : List Instr) (made : List Node) → AreChildren s parent line number instrs made → (place : ℕ) (child : Node) → slice_get made place ≡ Some child → (instr : Instr) × (slice_get instrs place ≡ Some instr) × (child.program ≡ with_line parent line instr)
  child_program number [] [] h place child e = absurd (none-some child e)
  child_program number [] (node ∷ made) h place child e = absurd h
  child_program number (instr ∷ instrs) [] h place child e = absurd h
  child_program number (instr ∷ instrs) (node ∷ made) h zero child e = (instr, refl, ap (λ (x : Node). x.program) (sym (same_Some node child e)) ∙ h.0.program)
  child_program number (instr ∷ instrs) (node ∷ made) h (suc place) child e = child_program (number + 1) instrs made h.1 place child e

  pub made_count : (number : ℕ) (instrs : List Instr) (made : List Node) → AreChildren s parent line number instrs made → length made ≡ length instrs
  made_count number [] [] h = refl
  made_count number [] (node ∷ made) h = absurd h
  made_count number (instr ∷ instrs) [] h = absurd h
  made_count number (instr ∷ instrs) (node ∷ made) h = ap suc (made_count (number + 1) instrs made h.1)

-- ---- what is held of a node

-- what is held of a node among those in preorder
pub held_at : (ops size : ℕ) (holds : List Held) (numbers : List ℕ) (nodes : List Node) → AreInPreorder ops size holds numbers nodes → (place : ℕ) (node : Node) → slice_get nodes place ≡ Some node → (held : Held) × (slice_get holds node.number ≡ Some held) × IsHeldOf node held
held_at ops size holds [] [] h place node e = absurd (none-some node e)
held_at ops size holds [] (x ∷ nodes) h place node e = absurd h
held_at ops size holds (number ∷ numbers) [] h place node e = absurd h
held_at ops size holds (number ∷ numbers) (x ∷ nodes) h zero node e =
    let same : x ≡ node = same_Some x node e in
    let held = h.1.0 in
    (held, ap (slice_get holds) (ap (λ (y : Node). y.number) (sym same) ∙ h.0) ∙ h.1.1, subst (λ (y : Node). IsHeldOf y held) same h.1.2)
held_at ops size holds (number ∷ numbers) (x ∷ nodes) h (suc place) node e = held_at ops size holds (children_of ops size h.1.0 ++ numbers) nodes h.1.3 place node e

-- a node of which it is held that it waits
waits_so : (node : Node) (held : Held) (best : Best) → IsHeldOf node held → held ≡ holdings.Waiting best.line best.id → node.state ≡ judged (verdicts.Waiting best.line)
waits_so node held best h e = subst (IsHeldOf node) e h

-- of a node that waits it is held that it does
pub is_held_waiting : (node : Node) (held : Held) → IsHeldOf node held → is_waiting node ≡ true → (best : Best) × (held ≡ holdings.Waiting best.line best.id)
is_held_waiting node held h w = by_held held (ap is_some (ap waits_at (sym h)) ∙ w)
  where
    by_held : (x : Held) → is_some (waits_at (state_of x)) ≡ true → (best : Best) × (x ≡ holdings.Waiting best.line best.id)
    by_held (holdings.Refused t cause) e = absurd (true≢false (sym e))
    by_held (holdings.AtLimit t) e = absurd (true≢false (sym e))
    by_held holdings.Solved e = absurd (true≢false (sym e))
    by_held (holdings.Waiting line id) e = (record { line = line; id = id }, refl)
    by_held (holdings.Split line stamp first) e = absurd (true≢false (sym e))
    by_held holdings.Twin e = absurd (true≢false (sym e))

-- ---- the split

module _ {C : Type 0} {s : Setting C} {budget size from stamp : ℕ} {holds mid : List Held} {pairs left : List (List ℕ × ℕ)} {nodes : List Node} {best : Best}
    (are : AreHeld s budget size from stamp holds pairs nodes) (takes : TakesBest stamp holds mid pairs left best) where
  abbrev pub taken_waits : IsWaitingPair nodes takes.pair
  taken_waits = are.waiting.told takes.pair (Contains-permutation (takes.pair ∷ left) pairs takes.pair takes.taken (contains_first takes.pair left))

  abbrev pub node : Node
  node = taken_waits.node

  abbrev pub place : ℕ
  place = (at_contains nodes node taken_waits.here).0

  pub here_is : slice_get nodes place ≡ Some node
  here_is = (at_contains nodes node taken_waits.here).1

  pub number_is : takes.pair.1 ≡ node.number
  number_is = ap (λ (p : List ℕ × ℕ). p.1) taken_waits.is

  held_waiting : slice_get holds node.number ≡ Some (holdings.Waiting best.line best.id)
  held_waiting = ap (slice_get holds) (sym number_is) ∙ takes.waited

  pub node_waits : node.state ≡ judged (verdicts.Waiting best.line)
  node_waits =
      let held = held_at s.machine.ops size holds (0 ∷ []) nodes are.preorder place node here_is in
      waits_so node held.0 best held.2 (same_Some held.0 (holdings.Waiting best.line best.id) (sym held.1 ∙ held_waiting))

  pub node_sized : IsSized s size node.program
  node_sized = each_at _ nodes place node here_is (come_sized s budget size from stamp are.some nodes are.come)

  pub node_open : IsOpen node.program best.line
  node_open = waiting_is_open s.machine node.program s.limit best.line (come_judged s budget size from stamp are.some nodes are.come place node (verdicts.Waiting best.line) here_is node_waits)

  pub same_length : length mid ≡ length holds
  same_length = ap length takes.split ∙ length-set holds takes.pair.1 _

  module _ {after : List Held} {now : List (List ℕ × ℕ)} {newest : Newest} (stays : StaysOpen budget stamp nodes) (adds : AddsChildren s node.program best.line (alphabet s.machine.ops (length node.program) best.line) mid after left now newest) (few_made : length after ≤ length mid + MOST_CHILDREN) where
    abbrev before : List Node
    before = take place nodes

    abbrev rest : List Node
    rest = drop (place + 1) nodes

    abbrev put : Node
    put = record node { state = split best.line stamp }

    abbrev pub grown : List Node
    grown = before ++ (put ∷ adds.made) ++ rest

    is : nodes ≡ before ++ node ∷ rest
    is = split_at nodes place node here_is

    distinct : Distinct (before ++ node ∷ rest)
    distinct = subst Distinct is (come_numbered s budget size from stamp nodes are.come).0

    waiting : AreWaitingPairs (before ++ node ∷ rest) pairs
    waiting = subst (λ (ns : List Node). AreWaitingPairs ns pairs) is are.waiting

    taken : IsPermutation (pair_of node ∷ left) pairs
    taken = subst (λ (p : List ℕ × ℕ). IsPermutation (p ∷ left) pairs) taken_waits.is takes.taken

    least : All (λ (other : List ℕ × ℕ). comes_before node.key node.number other.0 other.1 ≡ true) left
    least = subst (λ (p : List ℕ × ℕ). All (λ (other : List ℕ × ℕ). comes_before p.0 p.1 other.0 other.1 ≡ true) left) taken_waits.is takes.least

    children : AreChildren s node.program best.line (length nodes) (alphabet s.machine.ops (length node.program) best.line) adds.made
    children = subst (λ n. AreChildren s node.program best.line n (alphabet s.machine.ops (length node.program) best.line) adds.made) (same_length ∙ are.count) adds.children

    splits : Splits s stamp nodes grown
    splits = record {
      place = place;
      node = node;
      line = best.line;
      made = adds.made;
      here = here_is;
      waits = node_waits;
      least = λ k d l w. none_before before node rest best.line stamp adds.made pairs left now distinct taken least waiting (slice_index_or nodes k d) (subst (λ (ns : List Node). Contains ns (slice_index_or nodes k d)) is (Contains-get_or nodes k d l)) w;
      children = children;
      after = refl;
    }

    come : HasCome s budget size from (stamp + 1) grown
    come = record { root = are.come.root; is_root = are.come.is_root; leads = next stamp nodes grown are.come.leads stays splits }

    count_made : length adds.made ≡ length (alphabet s.machine.ops size best.line)
    count_made = made_count s node.program best.line (length nodes) _ adds.made children ∙ ap (λ n. length (alphabet s.machine.ops n best.line)) node_sized.0

    -- what was held of another node is held still
    others : (at : ℕ) (held : Held) → at ≢ node.number → slice_get holds at ≡ Some held → slice_get after at ≡ Some held
    others at held differs e =
        adds.stay at held (ap (λ (hs : List Held). slice_get hs at) takes.split ∙ get-set_other holds takes.pair.1 at _ (λ same. differs (same ∙ number_is)) ∙ e)

    number_within : node.number < length holds
    number_within = subst (λ n. n < length holds) number_is (slice_get_within holds takes.pair.1 _ takes.waited)

    now_split : slice_get after node.number ≡ Some (holdings.Split best.line stamp (length holds))
    now_split =
        adds.stay node.number (holdings.Split best.line stamp (length holds))
        (ap (λ (hs : List Held). slice_get hs node.number) takes.split ∙ ap (slice_get (set holds takes.pair.1 (holdings.Split best.line stamp (length holds)))) (sym number_is) ∙ get-set_same holds takes.pair.1 _ (slice_get_within holds takes.pair.1 _ takes.waited))

    children_held : (at : ℕ) (child : Node) → slice_get adds.made at ≡ Some child → (child.number ≡ length holds + at) × ((held : Held) × (slice_get after (length holds + at) ≡ Some held) × IsHeldOf child held) × IsUnsplit child.state
    children_held at child e =
        let it = child_at s node.program best.line (length mid) _ adds.made adds.children at child e in
        let held = adds.put at child e in
        (it.0 ∙ ap (λ n. n + at) same_length, (held.0, ap (λ n. slice_get after (n + at)) (sym same_length) ∙ held.1, held.2), it.1)

    preorder : AreInPreorder s.machine.ops size after (0 ∷ []) grown
    preorder =
        split_stands s.machine.ops size holds after node.number best.line stamp node adds.made rest refl (subst IsUnsplit (sym node_waits) tt) others now_split count_made children_held before (0 ∷ []) distinct
        (subst (AreInPreorder s.machine.ops size holds (0 ∷ [])) is are.preorder)

    after_count : length after ≡ length holds + length adds.made
    after_count = adds.count ∙ ap (λ n. n + length adds.made) same_length

    grown_count : length grown ≡ length nodes + length adds.made
    grown_count = omega (arith, ap length is, length-append before (node ∷ rest), length-append (before ++ put ∷ adds.made) rest, length-append before (put ∷ adds.made))

    links : LinksOn s.machine.ops size after
    links at line at_stamp first e = elim (cases_lt at (length holds)) [
      | inl old ↦ old_link old (cases_eq at node.number)
      | inr new ↦ absurd (new_link new)
    ]
      where
        old_link : at < length holds → (at ≡ node.number) ⊎ (at ≡ node.number → ⊥) → (line < size) × (at < first) × (first + length (alphabet s.machine.ops size line) ≤ length after)
        old_link old (inl same) =
            let now_is = same_Some (holdings.Split line at_stamp first) (holdings.Split best.line stamp (length holds)) (sym e ∙ ap (slice_get after) same ∙ now_split) in
            let lines : line ≡ best.line = ap line_of now_is in
            let firsts : first ≡ length holds = ap first_of now_is in
            let open_within = node_open.within in
            let sized = node_sized.0 in
            let alphabets : length (alphabet s.machine.ops size line) ≡ length adds.made = ap (λ n. length (alphabet s.machine.ops size n)) lines ∙ sym count_made in
            let whole = after_count in
            let within = number_within in
            (omega arith, omega arith, omega arith)
        old_link old (inr differs) =
            let was = read_at holds at old in
            let is_old = same_Some was.0 (holdings.Split line at_stamp first) (sym (others at was.0 differs was.1) ∙ e) in
            let link = are.links at line at_stamp first (was.1 ∙ ap Some is_old) in
            let whole = after_count in
            let below = link.2 in
            (link.0, link.1, omega arith)

        new_link : length holds ≤ at → ⊥
        new_link new =
            let within = slice_get_within after at _ e in
            let whole = after_count in
            let below : at - length holds < length adds.made = omega arith in
            let child = read_at adds.made (at - length holds) below in
            let held = children_held (at - length holds) child.0 child.1 in
            let where_is : length holds + (at - length holds) ≡ at = omega arith in
            let same = same_Some held.1.0 (holdings.Split line at_stamp first) (sym held.1.1 ∙ ap (slice_get after) where_is ∙ e) in
            subst IsUnsplit (held.1.2 ∙ ap state_of same) held.2

    few : length after + from * MOST_CHILDREN ≤ 1 + (stamp + 1) * MOST_CHILDREN
    few =
        let same = same_length in
        let was = are.few in
        omega arith

    pub grown_held : AreHeld s budget size from (stamp + 1) after now grown
    grown_held = record {
      some = are.some;
      come = come;
      preorder = preorder;
      count = after_count ∙ ap (λ n. n + length adds.made) are.count ∙ sym grown_count;
      links = links;
      few = few;
      waiting = waiting_after before node rest best.line stamp adds.made pairs left now distinct taken least waiting adds.told adds.kept adds.waits;
    }

    pub tells : TellsNewest s.machine grown newest
    unfolding splits
    tells =
        let closes = closes_at_newest s budget from (are.come.root ∷ []) (stamp + 1) grown (next stamp nodes grown are.come.leads stays splits) in
        record { solved = adds.solved ∙ sym closes.0; ends = adds.ends; limited = adds.limited ∙ sym closes.1 }
