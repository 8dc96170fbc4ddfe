-- Where no node waits, is solved or is at its limit, the marks of the nodes cover what the nodes stand for.
use Rattle.std.proofs.Common.{◌≡◌, ℕ, ◌<◌, List, [], ◌∷◌, ◌++◌, map, false, Option, Some, None, refl, sym, subst}
use Rattle.std.specs.Prelude.{is_some}
use Rattle.std.specs.List.{list_any}
use Rattle.std.proofs.lemmas.Bool.{or_parts, true≢false}
use Rattle.std.proofs.lemmas.Option.{none-some, same_Some}
use Rattle.program_model.specs.Program.{empty}
use Rattle.program_model.specs.declared.verdict.Cause.TheVariants as causes
use Rattle.program_model.specs.declared.verdict.Verdict.TheVariants as verdicts
use Rattle.refutation_tree.specs.declared.evidence.Mark.{Mark}
use Rattle.refutation_tree.specs.Covers.{Child, Covers, IsCovered}
use Rattle.synthesis.specs.Search.{Setting, State, judged, split, twin, Node, waits_at, is_waiting, solved_program, limited_at, or_else, first_solved, first_limited, mark_of, SearchesSize, refuted}
use Rattle.synthesis.proofs.Judging.{refused_shown}
use Rattle.synthesis.proofs.Growing.{followers, HasState, AreGrown, empty_alone, size_grown}

none_of : {A : Type 0} (a b : Option A) → or_else a b ≡ None → (a ≡ None) × (b ≡ None)
none_of None b e = (refl, e)
none_of (Some a) b e = absurd (none-some a (sym e))

not_some : {A : Type 0} (o : Option A) → is_some o ≡ false → o ≡ None
not_some None e = refl
not_some (Some a) e = absurd (true≢false e)

module _ {C : Type 0} (s : Setting C) where
  mark_covers : (c : Child) (cs : List Child) (ms : List Mark) (state : State) → HasState s c state → solved_program state c.program ≡ None → limited_at state ≡ None → waits_at state ≡ None →
      Covers s.machine s.skips (followers s c.program state ++ cs) ms → Covers s.machine s.skips (c ∷ cs) (mark_of state ∷ ms)
  mark_covers c cs ms (judged (verdicts.Refused t (causes.Unmet steps))) h not_solved not_limited not_waiting k = (h.0, (refused_shown s.machine c.program s.limit t (causes.Unmet steps) h).1, k)
  mark_covers c cs ms (judged (verdicts.Refused t (causes.Loops from to))) h not_solved not_limited not_waiting k = (h.0, (refused_shown s.machine c.program s.limit t (causes.Loops from to) h).1, k)
  mark_covers c cs ms (judged (verdicts.AtLimit t)) h not_solved not_limited not_waiting k = absurd (none-some t (sym not_limited))
  mark_covers c cs ms (judged (verdicts.Waiting line)) h not_solved not_limited not_waiting k = absurd (none-some line (sym not_waiting))
  mark_covers c cs ms (judged verdicts.Solved) h not_solved not_limited not_waiting k = absurd (none-some c.program (sym not_solved))
  mark_covers c cs ms (split line stamp) h not_solved not_limited not_waiting k = (h, k)
  mark_covers c cs ms twin h not_solved not_limited not_waiting k = (h, k)

  marks_cover : (nodes : List Node) (cs : List Child) → AreGrown s cs nodes → first_solved nodes ≡ None → first_limited nodes ≡ None → list_any is_waiting nodes ≡ false →
      Covers s.machine s.skips cs (map (λ (node : Node). mark_of node.state) nodes)
  marks_cover [] [] h not_solved not_limited not_waiting = tt
  marks_cover [] (c ∷ cs) h not_solved not_limited not_waiting = absurd h
  marks_cover (node ∷ nodes) [] h not_solved not_limited not_waiting = absurd h
  marks_cover (node ∷ nodes) (c ∷ cs) h not_solved not_limited not_waiting =
      let solves = none_of (solved_program node.state node.program) (first_solved nodes) not_solved in
      let limits = none_of (limited_at node.state) (first_limited nodes) not_limited in
      let waitings = or_parts (is_waiting node) (list_any is_waiting nodes) not_waiting in
      mark_covers c cs _ node.state h.1 (subst (λ q. solved_program node.state q ≡ None) h.0 solves.0) limits.0 (not_some (waits_at node.state) waitings.0)
      (marks_cover nodes (followers s c.program node.state ++ cs) h.2 solves.1 limits.1 waitings.1)

  -- a size that was refuted is covered by its marks
  pub refuted_covers : (budget size from to : ℕ) (nodes : List Node) → SearchesSize s budget size from to nodes refuted → IsCovered s.machine s.skips (empty size) (map (λ (node : Node). mark_of node.state) nodes)
  refuted_covers budget size from to nodes h =
      marks_cover nodes (empty_alone s size) (size_grown s budget size from to nodes refuted h) h.closes.0 h.closes.1 h.closes.2

  -- a node at its limit is so on an instance
  limit_within : (c : Child) (state : State) (t : ℕ) → HasState s c state → limited_at state ≡ Some t → t < s.machine.instances
  limit_within c (judged (verdicts.Refused at cause)) t h e = absurd (none-some t e)
  limit_within c (judged (verdicts.AtLimit other)) t h e = subst (λ i. i < s.machine.instances) (same_Some other t e) h.0
  limit_within c (judged (verdicts.Waiting line)) t h e = absurd (none-some t e)
  limit_within c (judged verdicts.Solved) t h e = absurd (none-some t e)
  limit_within c (split line stamp) t h e = absurd (none-some t e)
  limit_within c twin t h e = absurd (none-some t e)

  first_of_two : (c : Child) (state : State) (later : Option ℕ) (t : ℕ) → HasState s c state → (later ≡ Some t → t < s.machine.instances) → (o : Option ℕ) → limited_at state ≡ o → or_else o later ≡ Some t → t < s.machine.instances
  first_of_two c state later t h k None is e = k e
  first_of_two c state later t h k (Some i) is e = limit_within c state t h (rw is e)

  pub first_limited_within : (nodes : List Node) (cs : List Child) (t : ℕ) → AreGrown s cs nodes → first_limited nodes ≡ Some t → t < s.machine.instances
  first_limited_within [] cs t h e = absurd (none-some t e)
  first_limited_within (node ∷ nodes) [] t h e = absurd h
  first_limited_within (node ∷ nodes) (c ∷ cs) t h e =
      first_of_two c node.state (first_limited nodes) t h.1 (first_limited_within nodes (followers s c.program node.state ++ cs) t h.2) (limited_at node.state) refl e
