-- A search has one answer.
use Rattle.std.proofs.Common.{◌≡◌, ℕ, ◌+◌, ◌<◌, List, [], ◌∷◌, Some, refl, sym, ◌∙◌, ap, subst, inl, inr, arith}
use Rattle.std.proofs.lemmas.Bool.{cases_eq, cases_order}
use Rattle.program_model.specs.Semantics.{Semantics}
use Rattle.program_model.specs.Program.{Program, IsPartial}
use Rattle.program_model.proofs.Runs.{same_end}
use Rattle.refutation_tree.specs.declared.evidence.Tree.{Tree}
use Rattle.refutation_tree.specs.declared.evidence.Answer.{Answer}
use Rattle.refutation_tree.specs.Accepted.{AreEndsFrom}
use Rattle.synthesis.specs.Search.{Setting, Node, Close, found, run_spent, budget_spent, refuted, SearchesSize}
use Rattle.synthesis.specs.Answers.{RefutesSizes, none, next, Concludes, Searches, closed, nothing, IsAnswer}
use Rattle.synthesis.proofs.FilledPrograms.{found_sized, filled_is_partial, same_fill}
use Rattle.synthesis.proofs.SameSizes.{same_size}

same_ends : {C : Type 0} (m : Semantics C) (ops : ℕ) (p : Program) (js ks : List ℕ) (t : ℕ) → IsPartial ops p → AreEndsFrom m p t js → AreEndsFrom m p t ks → js ≡ ks
same_ends m ops p [] [] t partial h k = refl
same_ends m ops p [] (b ∷ ks) t partial h k = let within = k.0 in absurd (omega arith)
same_ends m ops p (a ∷ js) [] t partial h k = let within = h.0 in absurd (omega arith)
same_ends m ops p (a ∷ js) (b ∷ ks) t partial h k = rw (same_end m ops p t a b 0 0 partial h.1 k.1, same_ends m ops p js ks (t + 1) partial h.2 k.2) refl

-- two answers conclude alike: on the outcome, the program and its ends
record ConcludeAlike (a b : Answer) : Type 0 where
  outcomes : a.outcome ≡ b.outcome
  programs : a.program ≡ b.program
  ends : a.ends ≡ b.ends

answer_by : (a b : Answer) → a.pointers ≡ b.pointers → a.lines ≡ b.lines → a.instances ≡ b.instances → a.trees ≡ b.trees → ConcludeAlike a b → a ≡ b
answer_by a b pointers lines instances trees alike =
    let same : ◌≡◌ {A = Answer} (record { pointers = a.pointers; lines = a.lines; instances = a.instances; outcome = a.outcome; trees = a.trees; program = a.program; ends = a.ends }) b =
    rw (pointers, lines, instances, alike.outcomes, trees, alike.programs, alike.ends) refl in
    same

module _ {C : Type 0} (s : Setting C) (budget : ℕ) where
  same_refuted : (size to : ℕ) (trees : List Tree) (other other_to : ℕ) (others : List Tree) → RefutesSizes s budget size to trees → RefutesSizes s budget other other_to others → size ≡ other → (to ≡ other_to) × (trees ≡ others)
  same_refuted size to trees other other_to others none none e = (refl, refl)
  same_refuted size to trees other other_to others none (next d from' after' us others' refutes' search') e = absurd (omega arith)
  same_refuted size to trees other other_to others (next b from after ts nodes refutes search) none e = absurd (omega arith)
  same_refuted size to trees other other_to others (next b from after ts nodes refutes search) (next d from' after' us nodes' refutes' search') e =
      let sizes : b ≡ d = omega arith in
      let below = same_refuted b from ts d from' us refutes refutes' sizes in
      let same = same_size s budget (b + 1) from after nodes refuted after' nodes' refuted (omega arith) search (rw (sizes, below.0) search') in
      (same.stamps, rw (below.1, same.lists, sizes) refl)

  -- a size was refuted, after those below it
  record RefutedAt (size : ℕ) : Type 0 where
    from : ℕ
    to : ℕ
    trees : List Tree
    nodes : List Node
    below : RefutesSizes s budget size from trees
    search : SearchesSize s budget (size + 1) from to nodes refuted

  refuted_at : (size to : ℕ) (trees : List Tree) (k : ℕ) → RefutesSizes s budget size to trees → k < size → RefutedAt k
  refuted_at size to trees k none l = absurd (omega arith)
  refuted_at size to trees k (next b from after ts nodes refutes search) l = elim (cases_eq k b) [
    | inl e ↦ rw e (record { from = from; to = after; trees = ts; nodes = nodes; below = refutes; search = search })
    | inr apart ↦ refuted_at b from ts k refutes (omega arith)
  ]

  -- a size on which an answer concludes was not refuted
  not_refuted : (size from to : ℕ) (trees : List Tree) (nodes : List Node) (close : Close) (a : Answer) → RefutesSizes s budget size from trees → SearchesSize s budget (size + 1) from to nodes close → Concludes s (size + 1) close a → RefutedAt size → ⊥
  not_refuted size from to trees nodes close a refutes search concludes h =
      let stamps = (same_refuted size from trees size h.from h.trees refutes h.below refl).0 in
      let same = same_size s budget (size + 1) from to nodes close h.to h.nodes refuted (omega arith) search (rw stamps h.search) in
      subst (λ c. Concludes s (size + 1) c a) same.closes concludes

  conclude_alike : (size from to : ℕ) (nodes : List Node) (close : Close) (a b : Answer) → 0 < size → SearchesSize s budget size from to nodes close → Concludes s size close a → Concludes s size close b → ConcludeAlike a b
  conclude_alike size from to nodes (found q) a b some search h k =
      let p = h.1 in
      let r = k.1 in
      let partial = filled_is_partial s.machine.ops q p.0 (found_sized s size budget from to nodes q some search).1 p.2 in
      let same = same_fill s.machine.ops q p.0 r.0 p.2 r.2 in
      record {
        outcomes = h.0 ∙ sym k.0;
        programs = p.1 ∙ ap Some same ∙ sym r.1;
        ends = same_ends s.machine s.machine.ops p.0 a.ends b.ends 0 partial p.3 (subst (λ x. AreEndsFrom s.machine x 0 b.ends) (sym same) r.3);
      }
  conclude_alike size from to nodes (run_spent t) a b some search h k = record { outcomes = h.0 ∙ sym k.0; programs = h.1 ∙ sym k.1; ends = h.2 ∙ sym k.2 }
  conclude_alike size from to nodes budget_spent a b some search h k = record { outcomes = h.0 ∙ sym k.0; programs = h.1 ∙ sym k.1; ends = h.2 ∙ sym k.2 }
  conclude_alike size from to nodes refuted a b some search h k = absurd h

  SearchAlike : Answer → Answer → Type 0
  SearchAlike a b = (a.trees ≡ b.trees) × ConcludeAlike a b

  search_alike : (lines : ℕ) (a b : Answer) → Searches s budget lines a → Searches s budget lines b → SearchAlike a b
  unfolding SearchAlike
  search_alike lines a b (closed size from to trees nodes close refutes within search concludes is) (closed other from' to' trees' nodes' close' refutes' within' search' concludes' is') =
      let sizes : size ≡ other = elim (cases_order size other) [
        | inl e ↦ e
        | inr o ↦ elim o [
          | inl l ↦ absurd (not_refuted size from to trees nodes close a refutes search concludes (refuted_at other from' trees' size refutes' l))
          | inr l ↦ absurd (not_refuted other from' to' trees' nodes' close' b refutes' search' concludes' (refuted_at size from trees other refutes l))
        ]
      ] in
      let below = same_refuted size from trees other from' trees' refutes refutes' sizes in
      let same = same_size s budget (size + 1) from to nodes close to' nodes' close' (omega arith) search (rw (sizes, below.0) search') in (
        is ∙ rw (below.1, same.lists, sizes) refl ∙ sym is',
        conclude_alike (size + 1) from to nodes close a b (omega arith) search concludes (rw (sizes, same.closes) concludes'),
      )
  search_alike lines a b (closed size from to trees nodes close refutes within search concludes is) (nothing stamps all outcome program ends) =
      absurd (not_refuted size from to trees nodes close a refutes search concludes (refuted_at lines stamps b.trees size all within))
  search_alike lines a b (nothing stamps all outcome program ends) (closed size from to trees nodes close refutes within search concludes is) =
      absurd (not_refuted size from to trees nodes close b refutes search concludes (refuted_at lines stamps a.trees size all within))
  search_alike lines a b (nothing stamps all outcome program ends) (nothing stamps' all' outcome' program' ends') = (
    (same_refuted lines stamps a.trees lines stamps' b.trees all all' refl).1,
    record { outcomes = outcome ∙ sym outcome'; programs = program ∙ sym program'; ends = ends ∙ sym ends' },
  )

  pub same_answer : (lines : ℕ) (a b : Answer) → IsAnswer s budget lines a → IsAnswer s budget lines b → a ≡ b
  unfolding SearchAlike
  same_answer lines a b h k =
      let alike = search_alike lines a b h.searches k.searches in
      answer_by a b (h.pointers ∙ sym k.pointers) (h.asked ∙ sym k.asked) (h.instances ∙ sym k.instances) alike.0 alike.1
