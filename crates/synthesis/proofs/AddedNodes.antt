-- Nodes that are added one after another: the root of a size, and the children of a split.
use Rattle.std.proofs.Common.{◌≡◌, ◌⊎◌, ℕ, ◌+◌, ◌<◌, ◌≤◌, List, [], ◌∷◌, ◌++◌, length, Option, Some, None, Bool, true, false, refl, sym, ◌∙◌, ap, subst, inl, inr, arith, length-append}
use Rattle.std.specs.Prelude.{Contains, slice_get, MatchBool, Result, Ok, Err, OnOk}
use Rattle.std.proofs.lemmas.Result.{on_ok_weaker}
use Rattle.std.proofs.lemmas.Bool.{cases_lt, true≢false, MatchBool-at_true, MatchBool-at_false}
use Rattle.std.proofs.lemmas.Option.{none-some, same_Some, slice_get_within}
use Rattle.std.proofs.lemmas.List.Elements.{All-contains, Contains-append_left, Contains-append_right, Contains-append_cases}
use Rattle.std.proofs.lemmas.List.Sorted.{Contains-permutation, IsPermutation-sym}
use Rattle.program_model.specs.declared.instr.Instr.{Instr}
use Rattle.program_model.specs.Semantics.{Semantics}
use Rattle.program_model.specs.Program.{Program, empty, with_line}
use Rattle.program_model.specs.Verdict.{IsVerdict}
use Rattle.program_model.proofs.Places.{get-append_left, get-append_right, at_contains}
use Rattle.synthesis.specs.declared.nodes.Held.{Held}
use Rattle.synthesis.specs.declared.nodes.Held.TheVariants as holdings
use Rattle.judgement.specs.declared.judging.Judgement.{Judgement}
use Rattle.judgement.specs.declared.judging.Judgement.TheVariants as judgements
use Rattle.judgement.specs.Judging.{IsJudgement}
use Rattle.search_bounds.specs.declared.bounds.Bounds.{Bounds}
use Rattle.synthesis.specs.declared.newest.Found.{Found}
use Rattle.synthesis.specs.declared.newest.Newest.{Newest}
use Rattle.synthesis.specs.Search.{Setting, judged, twin, Node, HasKey, is_waiting, IsJudged, IsChild, AreChildren, or_else, solved_program, limited_at, first_solved, first_limited}
use Rattle.synthesis.specs.BestFirst.{best_first}
use Rattle.synthesis.specs.Inner.Judged.{verdict_of, key_in, found_in}
use Rattle.synthesis.specs.Inner.Nodes.{IsHeldOf, pair_of, IsWaitingPair, program_in, AreEndsIn}
use Rattle.synthesis.specs.Inner.Splitting.{AreNumbers, AddsJudged, AddsNode, AddsNewest, AddsChild, AddsChildren}
use Rattle.synthesis.proofs.Closing.{or_else_none}
use Rattle.synthesis.proofs.Splits.{child_at, made_count}
use Rattle.synthesis.proofs.WaitingPairs.{All-from-contains, contains_first, contains_later, contains_cases, contains_none}

-- ---- what a judgement tells

module _ {C : Type 0} (m : Semantics C) (bounds : Bounds) (q : Program) where
  verdict_told : (judgement : Judgement) → IsJudgement m bounds.order q bounds.run judgement → IsVerdict m q bounds.run (verdict_of judgement)
  verdict_told (judgements.Refused t cause) h = h
  verdict_told (judgements.AtLimit t) h = h
  verdict_told (judgements.Waiting line key) h = h.0
  verdict_told (judgements.Solved ends) h = h.0

  key_told : (judgement : Judgement) → IsJudgement m bounds.order q bounds.run judgement → HasKey (best_first m bounds) q (key_in judgement) (verdict_of judgement)
  key_told (judgements.Refused t cause) h = refl
  key_told (judgements.AtLimit t) h = refl
  key_told (judgements.Waiting line key) h = h.1
  key_told (judgements.Solved ends) h = refl

  ends_told : (judgement : Judgement) → IsJudgement m bounds.order q bounds.run judgement → AreEndsIn m (found_in q judgement)
  ends_told (judgements.Refused t cause) h = tt
  ends_told (judgements.AtLimit t) h = tt
  ends_told (judgements.Waiting line key) h = tt
  ends_told (judgements.Solved ends) h = h.1

found_told : (q : Program) (judgement : Judgement) → program_in (found_in q judgement) ≡ solved_program (judged (verdict_of judgement)) q
found_told q (judgements.Refused t cause) = refl
found_told q (judgements.AtLimit t) = refl
found_told q (judgements.Waiting line key) = refl
found_told q (judgements.Solved ends) = refl

program_in_or_else : (a b : Option Found) → program_in (or_else a b) ≡ or_else (program_in a) (program_in b)
program_in_or_else None b = refl
program_in_or_else (Some a) b = refl

ends_in_or_else : {C : Type 0} (m : Semantics C) (a b : Option Found) → AreEndsIn m b → AreEndsIn m a → AreEndsIn m (or_else a b)
ends_in_or_else m None b h k = h
ends_in_or_else m (Some a) b h k = k

-- ---- one node

module _ {C : Type 0} (m : Semantics C) (bounds : Bounds) (program : Program) (judgement : Judgement) (is_judgement : IsJudgement m bounds.order program bounds.run judgement) where
  module _ (holds after : List Held) (pairs now : List (List ℕ × ℕ)) (adds : AddsJudged judgement holds after pairs now) where
    abbrev added : Node
    added = record { number = length holds; program = program; state = judged (verdict_of judgement); key = key_in judgement }

    adds_node : AddsNode (best_first m bounds) program holds after pairs now
    adds_node = record {
      node = added;
      numbered = refl;
      program_is = refl;
      is_judged = record { verdict = verdict_of judgement; is_verdict = verdict_told m bounds program judgement is_judgement; state = refl; key = key_told m bounds program judgement is_judgement };
      puts = record {
        held = adds.held;
        is_held = sym adds.state;
        pushed = adds.pushed;
        told = told (is_waiting added) refl;
        kept = kept (is_waiting added) refl;
        waits = λ w. Contains-permutation (pair_of added ∷ pairs) now (pair_of added) (MatchBool-at_true _ _ w adds.pairs_now) (contains_first (pair_of added) pairs);
      };
    }
      where
        told : (b : Bool) → is_waiting added ≡ b → (pair : List ℕ × ℕ) → Contains now pair → Contains pairs pair ⊎ ((is_waiting added ≡ true) × (pair ≡ pair_of added))
        told true w pair h = elim (contains_cases (pair_of added) pairs pair (Contains-permutation now (pair_of added ∷ pairs) pair (IsPermutation-sym (pair_of added ∷ pairs) now (MatchBool-at_true _ _ w adds.pairs_now)) h)) [
          | inl same ↦ inr (w, sym same)
          | inr old ↦ inl old
        ]
        told false w pair h = inl (subst (λ (ps : List (List ℕ × ℕ)). Contains ps pair) (MatchBool-at_false _ _ w adds.pairs_now) h)

        kept : (b : Bool) → is_waiting added ≡ b → (pair : List ℕ × ℕ) → Contains pairs pair → Contains now pair
        kept true w pair h = Contains-permutation (pair_of added ∷ pairs) now pair (MatchBool-at_true _ _ w adds.pairs_now) (contains_later (pair_of added) pairs pair h)
        kept false w pair h = subst (λ (ps : List (List ℕ × ℕ)). Contains ps pair) (sym (MatchBool-at_false _ _ w adds.pairs_now)) h

    pub adds_newest : (before newest : Newest) → newest.solved ≡ or_else before.solved (found_in program judgement) → newest.limited ≡ or_else before.limited (limited_at (judged (verdict_of judgement))) → AddsNewest (best_first m bounds) program holds after pairs now before newest
    unfolding adds_node
    adds_newest before newest solved limited = record {
      adds = adds_node;
      sees = record {
        solved = ap program_in solved ∙ program_in_or_else before.solved (found_in program judgement) ∙ ap (or_else (program_in before.solved)) (found_told program judgement);
        ends = λ ends. subst (AreEndsIn m) (sym solved) (ends_in_or_else m before.solved (found_in program judgement) (ends_told m bounds program judgement is_judgement) ends);
        limited = limited;
      };
    }

-- so is the root, where it is added as it is judged
pub root_added : {C : Type 0} (m : Semantics C) (bounds : Bounds) (size : ℕ) (judgement : Judgement) → IsJudgement m bounds.order (empty size) bounds.run judgement → (holds : List Held) (pairs : List (List ℕ × ℕ)) → AddsJudged judgement [] holds [] pairs →
    (none newest : Newest) → newest.solved ≡ or_else none.solved (found_in (empty size) judgement) → newest.limited ≡ or_else none.limited (limited_at (judged (verdict_of judgement))) → AddsNewest (best_first m bounds) (empty size) [] holds [] pairs none newest
root_added m bounds size judgement is_judgement holds pairs adds none newest = adds_newest m bounds (empty size) judgement is_judgement [] holds [] pairs adds none newest

pub both_on_ok : {A E P Q R : Type 0} (result : Result A E) → (P → Q → R) → OnOk result P → OnOk result Q → OnOk result R
both_on_ok (Ok a) f p q = f p q
both_on_ok (Err e) f p q = tt

-- where a node is added as it is judged, it is added, and seen among the newest
pub child_added : {C A E : Type 0} (m : Semantics C) (bounds : Bounds) {q program : Program} {judgement told : Judgement} (holds after : List Held) (pairs now : List (List ℕ × ℕ)) (before newest : Newest) → program ≡ q → judgement ≡ told →
    IsJudgement m bounds.order program bounds.run judgement → newest.solved ≡ or_else before.solved (found_in program judgement) → newest.limited ≡ or_else before.limited (limited_at (judged (verdict_of judgement))) →
    (result : Result A E) → OnOk result (AddsJudged told holds after pairs now) → OnOk result (AddsNewest (best_first m bounds) q holds after pairs now before newest)
child_added m bounds {q} {program} {judgement} {told} holds after pairs now before newest same is is_judgement solved limited result =
    on_ok_weaker result (λ adds. subst (λ p. AddsNewest (best_first m bounds) p holds after pairs now before newest) same
    (adds_newest m bounds program judgement is_judgement holds after pairs now (subst (λ j. AddsJudged j holds after pairs now) (sym is) adds) before newest solved limited))

-- ---- the first that tells something

or_else_assoc : {A : Type 0} (a b c : Option A) → or_else (or_else a b) c ≡ or_else a (or_else b c)
or_else_assoc None b c = refl
or_else_assoc (Some x) b c = refl

first_solved_push : (made : List Node) (node : Node) → first_solved (made ++ node ∷ []) ≡ or_else (first_solved made) (solved_program node.state node.program)
first_solved_push [] node = or_else_none (solved_program node.state node.program)
first_solved_push (x ∷ made) node = ap (or_else (solved_program x.state x.program)) (first_solved_push made node) ∙ sym (or_else_assoc (solved_program x.state x.program) (first_solved made) (solved_program node.state node.program))

first_limited_push : (made : List Node) (node : Node) → first_limited (made ++ node ∷ []) ≡ or_else (first_limited made) (limited_at node.state)
first_limited_push [] node = or_else_none (limited_at node.state)
first_limited_push (x ∷ made) node = ap (or_else (limited_at x.state)) (first_limited_push made node) ∙ sym (or_else_assoc (limited_at x.state) (first_limited made) (limited_at node.state))

-- ---- children

module _ {C : Type 0} (s : Setting C) (parent : Program) (line : ℕ) where
  pub children_more : (first number : ℕ) (instrs : List Instr) (nodes : List Node) (instr : Instr) (node : Node) → AreChildren s parent line first instrs nodes → number ≡ first + length instrs → IsChild s parent line number instr node → AreChildren s parent line first (instrs ++ instr ∷ []) (nodes ++ node ∷ [])
  children_more first number [] [] instr node h e child = let same : number ≡ first = omega arith in (subst (λ k. IsChild s parent line k instr node) same child, tt)
  children_more first number [] (other ∷ nodes) instr node h e child = absurd h
  children_more first number (one ∷ instrs) [] instr node h e child = absurd h
  children_more first number (one ∷ instrs) (other ∷ nodes) instr node h e child = (h.0, children_more (first + 1) number instrs nodes instr node h.1 (omega arith) child)

  pub no_children : (holds : List Held) (pairs : List (List ℕ × ℕ)) (newest : Newest) → newest.solved ≡ None → newest.limited ≡ None → AddsChildren s parent line [] holds holds pairs pairs newest
  no_children holds pairs newest solved limited = record {
    made = [];
    children = tt;
    count = plain (length holds);
    stay = λ at held e. e;
    put = λ at node e. absurd (none-some node e);
    told = λ pair h. inl h;
    kept = λ pair h. h;
    waits = λ node h w. absurd (contains_none node h);
    solved = ap program_in solved;
    ends = subst (AreEndsIn s.machine) (sym solved) tt;
    limited = limited;
  }
    where
      plain : (n : ℕ) → n ≡ n + 0
      plain n = omega arith

  -- ---- one child

  module _ (instr : Instr) (holds after : List Held) (pairs now : List (List ℕ × ℕ)) (before newest : Newest) where
    -- a child that is judged is one that is not passed over
    pub judged_child : s.skips parent instr ≡ false → AddsNewest s (with_line parent line instr) holds after pairs now before newest → AddsChild s parent line instr holds after pairs now before newest
    judged_child passes one = record {
      node = one.adds.node;
      is_child = record {
        numbered = one.adds.numbered;
        program = one.adds.program_is;
        state = subst (λ b. MatchBool b ((one.adds.node.state ≡ twin) × (one.adds.node.key ≡ [])) (IsJudged s one.adds.node)) (sym passes) one.adds.is_judged;
      };
      puts = one.adds.puts;
      sees = one.sees;
    }

    abbrev twin_child : Node
    twin_child = record { number = length holds; program = with_line parent line instr; state = twin; key = [] }

    -- a child that is passed over tells nothing
    pub passed_child : s.skips parent instr ≡ true → after ≡ holds ++ holdings.Twin ∷ [] → now ≡ pairs → newest ≡ before → AddsChild s parent line instr holds after pairs now before newest
    passed_child passed pushed same told = record {
      node = twin_child;
      is_child = record {
        numbered = refl;
        program = refl;
        state = subst (λ b. MatchBool b ((twin_child.state ≡ twin) × (twin_child.key ≡ [])) (IsJudged s twin_child)) (sym passed) (refl, refl);
      };
      puts = record {
        held = holdings.Twin;
        is_held = refl;
        pushed = pushed;
        told = λ pair h. inl (subst (λ (ps : List (List ℕ × ℕ)). Contains ps pair) same h);
        kept = λ pair h. subst (λ (ps : List (List ℕ × ℕ)). Contains ps pair) (sym same) h;
        waits = λ w. absurd (true≢false (sym w));
      };
      sees = record {
        solved = ap (λ (n : Newest). program_in n.solved) told ∙ sym (or_else_none (program_in before.solved));
        ends = λ ends. subst (λ (n : Newest). AreEndsIn s.machine n.solved) (sym told) ends;
        limited = ap (λ (n : Newest). n.limited) told ∙ sym (or_else_none before.limited);
      };
    }

  -- ---- children in a row

  module _ (instrs : List Instr) (instr : Instr) (holds mid after : List Held) (pairs left now : List (List ℕ × ℕ)) (newest later : Newest)
      (adds : AddsChildren s parent line instrs holds mid pairs left newest) (one : AddsChild s parent line instr mid after left now newest later) where
    abbrev child : Node
    child = one.node

    is_child : IsChild s parent line (length holds + length instrs) instr child
    is_child = record {
      numbered = one.is_child.numbered ∙ adds.count ∙ ap (λ n. length holds + n) (made_count s parent line (length holds) instrs adds.made adds.children);
      program = one.is_child.program;
      state = one.is_child.state;
    }

    after_count : length after ≡ length mid + 1
    after_count = ap length one.puts.pushed ∙ length-append mid (one.puts.held ∷ [])

    stays : (at : ℕ) (held : Held) → slice_get mid at ≡ Some held → slice_get after at ≡ Some held
    stays at held e = ap (λ (hs : List Held). slice_get hs at) one.puts.pushed ∙ get-append_left mid (one.puts.held ∷ []) at (slice_get_within mid at held e) ∙ e

    put_last : slice_get after (length mid) ≡ Some one.puts.held
    put_last = ap (λ (hs : List Held). slice_get hs (length mid)) one.puts.pushed ∙ get-append_right mid (one.puts.held ∷ []) 0 (length mid) (plain (length mid))
      where
        plain : (n : ℕ) → n ≡ n + 0
        plain n = omega arith

    put : (at : ℕ) (node : Node) → slice_get (adds.made ++ child ∷ []) at ≡ Some node → (held : Held) × (slice_get after (length holds + at) ≡ Some held) × IsHeldOf node held
    put at node e = elim (cases_lt at (length adds.made)) [
      | inl old ↦
          let was = adds.put at node (sym (get-append_left adds.made (child ∷ []) at old) ∙ e) in
          (was.0, stays (length holds + at) was.0 was.1, was.2)
      | inr new ↦ last new
    ]
      where
        last : length adds.made ≤ at → (held : Held) × (slice_get after (length holds + at) ≡ Some held) × IsHeldOf node held
        last new =
            let within = slice_get_within (adds.made ++ child ∷ []) at node e in
            let whole = length-append adds.made (child ∷ []) in
            let place : at ≡ length adds.made + 0 = omega arith in
            let same : child ≡ node = same_Some child node (sym (get-append_right adds.made (child ∷ []) 0 at place) ∙ e) in
            let count = adds.count in
            let number : length mid ≡ length holds + at = omega arith in
            (one.puts.held, ap (slice_get after) (sym number) ∙ put_last, subst (λ (x : Node). IsHeldOf x one.puts.held) same one.puts.is_held)

    pub one_more : AddsChildren s parent line (instrs ++ instr ∷ []) holds after pairs now later
    one_more = record {
      made = adds.made ++ child ∷ [];
      children = children_more (length holds) (length holds + length instrs) instrs adds.made instr child adds.children refl is_child;
      count = let was = adds.count in let now_count = after_count in omega (arith, length-append adds.made (child ∷ []));
      stay = λ at held e. stays at held (adds.stay at held e);
      put = put;
      told = λ pair h. by_source pair (one.puts.told pair h);
      kept = λ pair h. one.puts.kept pair (adds.kept pair h);
      waits = λ node h w. by_part node w (Contains-append_cases adds.made (child ∷ []) node h);
      solved = one.sees.solved ∙ ap (λ o. or_else o (solved_program child.state child.program)) adds.solved ∙ sym (first_solved_push adds.made child);
      ends = one.sees.ends adds.ends;
      limited = one.sees.limited ∙ ap (λ o. or_else o (limited_at child.state)) adds.limited ∙ sym (first_limited_push adds.made child);
    }
      where
        before : (pair : List ℕ × ℕ) → Contains pairs pair ⊎ IsWaitingPair adds.made pair → Contains pairs pair ⊎ IsWaitingPair (adds.made ++ child ∷ []) pair
        before pair (inl h) = inl h
        before pair (inr h) = inr (record { node = h.node; here = Contains-append_left adds.made (child ∷ []) h.node h.here; waits = h.waits; is = h.is })

        by_source : (pair : List ℕ × ℕ) → Contains left pair ⊎ ((is_waiting child ≡ true) × (pair ≡ pair_of child)) → Contains pairs pair ⊎ IsWaitingPair (adds.made ++ child ∷ []) pair
        by_source pair (inl h) = before pair (adds.told pair h)
        by_source pair (inr h) = inr (record { node = child; here = Contains-append_right adds.made (child ∷ []) child (contains_first child []); waits = h.0; is = h.1 })

        by_part : (node : Node) → is_waiting node ≡ true → Contains adds.made node ⊎ Contains (child ∷ []) node → Contains now (pair_of node)
        by_part node w (inl h) = one.puts.kept (pair_of node) (adds.waits node h w)
        by_part node w (inr h) = elim (contains_cases child [] node h) [
          | inl same ↦ subst (λ (x : Node). Contains now (pair_of x)) same (one.puts.waits (ap is_waiting same ∙ w))
          | inr none ↦ absurd (contains_none node none)
        ]

  -- the numbers of pairs are those of nodes that are held
  pub still_numbered : (instrs : List Instr) (holds mid : List Held) (pairs left : List (List ℕ × ℕ)) (newest : Newest) → AddsChildren s parent line instrs holds mid pairs left newest → AreNumbers holds pairs → AreNumbers mid left
  still_numbered instrs holds mid pairs left newest adds numbers = All-from-contains (λ (pair : List ℕ × ℕ). pair.1 < length mid) left (λ pair h. by_source pair (adds.told pair h))
    where
      by_source : (pair : List ℕ × ℕ) → Contains pairs pair ⊎ IsWaitingPair adds.made pair → pair.1 < length mid
      by_source pair (inl h) =
          let within : pair.1 < length holds = All-contains (λ (other : List ℕ × ℕ). other.1 < length holds) pairs pair numbers h in
          let count = adds.count in
          omega arith
      by_source pair (inr h) =
          let at = at_contains adds.made h.node h.here in
          let within = slice_get_within adds.made at.0 h.node at.1 in
          let number = (child_at s parent line (length holds) instrs adds.made adds.children at.0 h.node at.1).0 in
          let count = adds.count in
          subst (λ (p : List ℕ × ℕ). p.1 < length mid) (sym h.is) (omega arith)
