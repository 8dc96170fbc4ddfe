-- A size is searched in one way: each split takes one node, and the search of a size ends at one list of nodes.
use Rattle.std.proofs.Common.{◌≡◌, ℕ, ◌+◌, ◌<◌, ◌≤◌, List, [], ◌∷◌, ◌++◌, length, take, drop, true, false, refl, sym, ◌∙◌, ap, subst, inl, inr, arith}
use Rattle.std.specs.Prelude.{slice_get}
use Rattle.std.specs.List.{AllByRecursion as Each}
use Rattle.std.proofs.lemmas.Bool.{cases_eq, cases_order, cond-true, cond-false, eq-eqb, ne_eqb, ltb-false, true≢false}
use Rattle.std.proofs.lemmas.List.Elements.{All-contains}
use Rattle.std.proofs.lemmas.Option.{none-some, same_Some}
use Rattle.program_model.specs.Alphabet.{alphabet}
use Rattle.program_model.specs.declared.verdict.Verdict.TheVariants as verdicts
use Rattle.program_model.proofs.Places.{contains_at}
use Rattle.synthesis.specs.Search.{Setting, judged, split, Node, is_waiting, IsRoot, AreChildren, Splits, Close, found, run_spent, budget_spent, refuted, Closes, StaysOpen, Leads, here, next, SearchesSize}
use Rattle.evaluations.specs.Keys.{comes_before}
use Rattle.refutation_tree.proofs.Lists.{each_left, each_right}
use Rattle.synthesis.proofs.Lists.{each_more}
use Rattle.synthesis.proofs.Growing.{empty_alone, root_grown, leads_grown}
use Rattle.synthesis.proofs.FilledPrograms.{IsSized, nodes_sized, empty_sized}
use Rattle.synthesis.proofs.SameNodes.{HasPartial, same_root, same_children}
use Rattle.synthesis.proofs.Numbered.{Distinct, AreNumbered, same_place, root_numbered, splits_numbered}

-- of two keys with numbers one comes before the other, or the numbers are equal
before_or_same : (k l : List ℕ) (a b : ℕ) → comes_before k a l b ≡ false → comes_before l b k a ≡ false → a ≡ b
before_or_same [] [] a b h g = let x = ltb-false a b h in let y = ltb-false b a g in omega arith
before_or_same [] (y ∷ ys) a b h g = absurd (true≢false h)
before_or_same (x ∷ xs) [] a b h g = absurd (true≢false g)
before_or_same (x ∷ xs) (y ∷ ys) a b h g = elim (cases_eq x y) [
  | inl e ↦ before_or_same xs ys a b (sym (cond-true _ _ _ (eq-eqb x y e)) ∙ h) (sym (cond-true _ _ _ (eq-eqb y x (sym e))) ∙ g)
  | inr apart ↦
      let below = ltb-false x y (sym (cond-false _ _ _ (ne_eqb x y apart)) ∙ h) in
      let above = ltb-false y x (sym (cond-false _ _ _ (ne_eqb y x (λ e. apart (sym e)))) ∙ g) in
      absurd (apart (omega arith))
]

module _ {C : Type 0} (s : Setting C) where
  -- a node that is judged to wait at a line waits
  waits_here : (node : Node) (line : ℕ) → node.state ≡ judged (verdicts.Waiting line) → is_waiting node ≡ true
  waits_here node line e = rw e refl

  -- no node that another split takes comes before the one that is split
  none_before : (stamp : ℕ) (old new other : List Node) (h : Splits s stamp old new) (k : Splits s stamp old other) → comes_before k.node.key k.node.number h.node.key h.node.number ≡ false
  none_before stamp old new other h k =
      All-contains (λ (x : Node). is_waiting x ≡ true → comes_before x.key x.number h.node.key h.node.number ≡ false) old k.node h.least (contains_at old k.place k.node k.here) (waits_here k.node k.line k.waits)

  pub same_split : (stamp : ℕ) (old new other : List Node) → Distinct old → Each (HasPartial s) new → Splits s stamp old new → Splits s stamp old other → new ≡ other
  same_split stamp old new other distinct partial h k =
      let number : h.node.number ≡ k.node.number = before_or_same h.node.key k.node.key h.node.number k.node.number (none_before stamp old other new k h) (none_before stamp old new other h k) in
      let place : h.place ≡ k.place = same_place old h.place k.place h.node k.node distinct h.here k.here number in
      let node : h.node ≡ k.node = same_Some h.node k.node (sym h.here ∙ ap (slice_get old) place ∙ k.here) in
      let line : h.line ≡ k.line = cc (h.waits, k.waits, node) in
      let children : AreChildren s h.node.program h.line (length old) (alphabet s.machine.ops (length h.node.program) h.line) k.made = rw (node, line) k.children in
      let news : List Node = record h.node { state = split h.line stamp } ∷ h.made in
      let all : Each (HasPartial s) (take h.place old ++ news ++ drop (h.place + 1) old) = subst (Each (HasPartial s)) h.after partial in
      let of_made = (each_right (HasPartial s) (take h.place old) news (each_left (HasPartial s) (take h.place old ++ news) (drop (h.place + 1) old) all)).1 in
      let made : h.made ≡ k.made = same_children s h.node.program h.line (length old) (alphabet s.machine.ops (length h.node.program) h.line) h.made k.made of_made h.children children in
      h.after ∙ rw (place, node, line, made) refl ∙ sym k.after

module _ {C : Type 0} (s : Setting C) (budget size from : ℕ) (some : 0 < size) (root : Node) (is_root : IsRoot s size root) where
  all_partial : (stamp : ℕ) (nodes : List Node) → Leads s budget from (root ∷ []) stamp nodes → Each (HasPartial s) nodes
  all_partial stamp nodes h =
      each_more (λ (node : Node). IsSized s size node.program) (HasPartial s) nodes (λ node sized. sized.1)
      (nodes_sized s size nodes (empty_alone s size) (leads_grown s budget from (root ∷ []) (empty_alone s size) stamp nodes h (root_grown s size root is_root)) (empty_sized s size some, tt))

  all_numbered : (stamp : ℕ) (nodes : List Node) → Leads s budget from (root ∷ []) stamp nodes → AreNumbered nodes
  all_numbered stamp nodes here = root_numbered s size root is_root
  all_numbered stamp nodes (next before old after leads stays splits) = splits_numbered s before old nodes splits (all_numbered before old leads)

  leads_on : (stamp : ℕ) (nodes : List Node) → Leads s budget from (root ∷ []) stamp nodes → from ≤ stamp
  leads_on stamp nodes here = omega arith
  leads_on stamp nodes (next before old after leads stays splits) = let le = leads_on before old leads in omega arith

  same_nodes : (stamp : ℕ) (nodes : List Node) (other : ℕ) (others : List Node) → Leads s budget from (root ∷ []) stamp nodes → Leads s budget from (root ∷ []) other others → stamp ≡ other → nodes ≡ others
  same_nodes stamp nodes other others here here e = refl
  same_nodes stamp nodes other others here (next b o a leads stays splits) e = let le = leads_on b o leads in absurd (omega arith)
  same_nodes stamp nodes other others (next b o a leads stays splits) here e = let le = leads_on b o leads in absurd (omega arith)
  same_nodes stamp nodes other others (next b o a leads stays splits) (next d p c leads' stays' splits') e =
      let stamps : b ≡ d = omega arith in
      let olds : o ≡ p = same_nodes b o d p leads leads' stamps in
      same_split s b o nodes others (all_numbered b o leads).0 (all_partial stamp nodes (next b o nodes leads stays splits)) splits (rw (stamps, olds) splits')

  -- before the last list of nodes there is one at each stamp, and the size is open there
  Passes : ℕ → Type 0
  Passes k = (nodes : List Node) × Leads s budget from (root ∷ []) k nodes × StaysOpen budget k nodes

  passes : (stamp : ℕ) (nodes : List Node) (k : ℕ) → Leads s budget from (root ∷ []) stamp nodes → from ≤ k → k < stamp → Passes k
  unfolding Passes
  passes stamp nodes k here le l = absurd (omega arith)
  passes stamp nodes k (next b o a leads stays splits) le l = elim (cases_eq k b) [
    | inl e ↦ rw e (o, leads, stays)
    | inr apart ↦ passes b o k leads le (omega arith)
  ]

  open_or_closed : (k : ℕ) (nodes : List Node) (close : Close) → StaysOpen budget k nodes → Closes budget k nodes close → ⊥
  open_or_closed k nodes (found q) h c = none-some q (sym h.0 ∙ c)
  open_or_closed k nodes (run_spent t) h c = none-some t (sym h.1 ∙ c.1)
  open_or_closed k nodes budget_spent h c = let l = h.3 in let le = c.3 in omega arith
  open_or_closed k nodes refuted h c = true≢false (sym h.2 ∙ c.2)

  not_before : (stamp : ℕ) (nodes : List Node) (close : Close) (other : ℕ) (others : List Node) → Leads s budget from (root ∷ []) stamp nodes → Closes budget stamp nodes close → Leads s budget from (root ∷ []) other others → stamp < other → ⊥
  unfolding Passes
  not_before stamp nodes close other others leads closes further l =
      let it = passes other others stamp further (leads_on stamp nodes leads) l in
      open_or_closed stamp nodes close (subst (StaysOpen budget stamp) (same_nodes stamp it.0 stamp nodes it.1 leads refl) it.2) closes

  same_end : (stamp : ℕ) (nodes : List Node) (close : Close) (other : ℕ) (others : List Node) (other_close : Close) → Leads s budget from (root ∷ []) stamp nodes → Closes budget stamp nodes close →
      Leads s budget from (root ∷ []) other others → Closes budget other others other_close → stamp ≡ other
  same_end stamp nodes close other others other_close leads closes leads' closes' = elim (cases_order stamp other) [
    | inl e ↦ e
    | inr o ↦ elim o [
      | inl l ↦ absurd (not_before stamp nodes close other others leads closes leads' l)
      | inr l ↦ absurd (not_before other others other_close stamp nodes leads' closes' leads l)
    ]
  ]

-- a list of nodes is closed in one way
pub same_close : (budget stamp : ℕ) (nodes : List Node) (x y : Close) → Closes budget stamp nodes x → Closes budget stamp nodes y → x ≡ y
same_close budget stamp nodes (found q) (found r) h k = ap found (same_Some q r (sym h ∙ k))
same_close budget stamp nodes (found q) (run_spent t) h k = absurd (none-some q (sym k.0 ∙ h))
same_close budget stamp nodes (found q) budget_spent h k = absurd (none-some q (sym k.0 ∙ h))
same_close budget stamp nodes (found q) refuted h k = absurd (none-some q (sym k.0 ∙ h))
same_close budget stamp nodes (run_spent t) (found r) h k = absurd (none-some r (sym h.0 ∙ k))
same_close budget stamp nodes (run_spent t) (run_spent u) h k = ap run_spent (same_Some t u (sym h.1 ∙ k.1))
same_close budget stamp nodes (run_spent t) budget_spent h k = absurd (none-some t (sym k.1 ∙ h.1))
same_close budget stamp nodes (run_spent t) refuted h k = absurd (none-some t (sym k.1 ∙ h.1))
same_close budget stamp nodes budget_spent (found r) h k = absurd (none-some r (sym h.0 ∙ k))
same_close budget stamp nodes budget_spent (run_spent u) h k = absurd (none-some u (sym h.1 ∙ k.1))
same_close budget stamp nodes budget_spent budget_spent h k = refl
same_close budget stamp nodes budget_spent refuted h k = absurd (true≢false (sym h.2 ∙ k.2))
same_close budget stamp nodes refuted (found r) h k = absurd (none-some r (sym h.0 ∙ k))
same_close budget stamp nodes refuted (run_spent u) h k = absurd (none-some u (sym h.1 ∙ k.1))
same_close budget stamp nodes refuted budget_spent h k = absurd (true≢false (sym k.2 ∙ h.2))
same_close budget stamp nodes refuted refuted h k = refl

pub record SameSize (to : ℕ) (nodes : List Node) (close : Close) (other : ℕ) (others : List Node) (other_close : Close) : Type 0 where
  pub stamps : to ≡ other
  pub lists : nodes ≡ others
  pub closes : close ≡ other_close

pub same_size : {C : Type 0} (s : Setting C) (budget size from to : ℕ) (nodes : List Node) (close : Close) (other : ℕ) (others : List Node) (other_close : Close) → 0 < size → SearchesSize s budget size from to nodes close →
    SearchesSize s budget size from other others other_close → SameSize to nodes close other others other_close
same_size s budget size from to nodes close other others other_close some h k =
    let partial = (all_partial s budget size from some h.root h.is_root from (h.root ∷ []) here).0 in
    let root : h.root ≡ k.root = same_root s size h.root k.root partial h.is_root k.is_root in
    let leads : Leads s budget from (h.root ∷ []) other others = rw root k.leads in
    let stamps = same_end s budget size from some h.root h.is_root to nodes close other others other_close h.leads h.closes leads k.closes in
    let lists = same_nodes s budget size from some h.root h.is_root to nodes other others h.leads leads stamps in
    let closes : Closes budget to nodes other_close = rw (stamps, lists) k.closes in
    record { stamps = stamps; lists = lists; closes = same_close budget to nodes close other_close h.closes closes }
