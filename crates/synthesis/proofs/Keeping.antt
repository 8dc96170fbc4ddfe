-- How the programs of nodes are kept while a node is split: its children's, one after another; then its own is given up.
use Rattle.std.proofs.Common.{◌≡◌, ◌≢◌, ◌⊎◌, ℕ, suc, ◌+◌, ◌-◌, ◌<◌, ◌≤◌, List, [], ◌∷◌, ◌++◌, length, Option, Some, None, refl, sym, ◌∙◌, ap, subst, inl, inr, arith, length-append, length-set}
use Rattle.std.specs.Prelude.{slice_get, slice_index_or, count_by, is_some, Contains, IsSome, IsSomeAnd}
use Rattle.std.proofs.lemmas.Bool.{cases_lt, cases_eq, false≢true}
use Rattle.std.proofs.lemmas.Option.{none-some, same_Some, slice_get_within}
use Rattle.std.proofs.lemmas.List.Elements.{Contains-push_cases}
use Rattle.program_model.specs.declared.instr.Instr.{Instr}
use Rattle.program_model.specs.Semantics.{Semantics}
use Rattle.program_model.specs.Program.{Program, with_line}
use Rattle.program_model.proofs.Places.{get-append_left, get-append_right, get-set_same, get-set_other}
use Rattle.waiting_programs.specs.Programs.{Waiting, kept_at, kept_count, Becomes}
use Rattle.synthesis.specs.declared.nodes.Held.{Held}
use Rattle.synthesis.specs.declared.nodes.Held.TheVariants as holdings
use Rattle.synthesis.specs.declared.nodes.Best.{Best}
use Rattle.synthesis.specs.Search.{Node}
use Rattle.synthesis.specs.Inner.Keeping.{IsKeptFor, AreKept, KeepsChild, KeepsChildren, KeepsRootAs, KeepsRoot}
use Rattle.synthesis.specs.Inner.Splitting.{TakesBest}
use Rattle.synthesis.proofs.Lists.{read_at}

-- ---- what is kept

module _ {X : Type 0} where
  some_of : (P : X → Type 0) (o : Option X) → IsSomeAnd o P → IsSome o
  some_of P None h = absurd h
  some_of P (Some x) h = refl

  none_or_some : (o : Option X) → (o ≡ None) ⊎ IsSome o
  none_or_some None = inl refl
  none_or_some (Some x) = inr refl

  not_none : (o : Option X) → IsSome o → o ≡ None → ⊥
  not_none None h e = absurd (false≢true h)
  not_none (Some x) h e = none-some x (sym e)

abbrev id_of : Held → ℕ
id_of (holdings.Waiting at its_id) = its_id
id_of _ = 0

abbrev IsSplit : Held → Type 0
IsSplit (holdings.Split its_line its_stamp its_first) = Unit {0}
IsSplit _ = ⊥

same_id : (line other id second : ℕ) → holdings.Waiting line id ≡ holdings.Waiting other second → id ≡ second
same_id line other id second e = ap id_of e

only_one : (root node : Node) → Contains (root ∷ []) node → root ≡ node
only_one root node among = elim (Contains-push_cases [] root node among) [ inl none ↦ absurd (let no = none.1 in omega arith) | inr e ↦ e ]

none_counted : {X : Type 0} (xs : List (Option X)) → ((place : ℕ) → slice_index_or xs place None ≡ None) → count_by is_some xs ≡ 0
none_counted [] none = refl
none_counted (None ∷ xs) none = none_counted xs (λ place. none (suc place))
none_counted (Some x ∷ xs) none = absurd (none-some x (sym (none 0)))

module _ {C : Type 0} where
  -- what was kept is kept still
  abbrev Stays : List (Option (Waiting C)) → List (Option (Waiting C)) → Type 0
  Stays kept now = (id : ℕ) → IsSome (kept_at kept id) → kept_at now id ≡ kept_at kept id

  stay_twice : (kept mid now : List (Option (Waiting C))) → Stays kept mid → Stays mid now → Stays kept now
  stay_twice kept mid now h k id some = k id (subst (λ o. IsSome o) (sym (h id some)) some) ∙ h id some

  -- a number that is free is one that was
  was_free : (kept mid : List (Option (Waiting C))) (id : ℕ) → Stays kept mid → kept_at mid id ≡ None → kept_at kept id ≡ None
  was_free kept mid id h free = elim (none_or_some (kept_at kept id)) [
    | inl none ↦ none
    | inr some ↦ absurd (not_none (kept_at kept id) some (sym (h id some) ∙ free))
  ]

  kept_still : (P : Waiting C → Type 0) (kept now : List (Option (Waiting C))) (id : ℕ) → Stays kept now → IsSomeAnd (kept_at kept id) P → IsSomeAnd (kept_at now id) P
  kept_still P kept now id h there = subst (λ o. IsSomeAnd o P) (sym (h id (some_of P (kept_at kept id) there))) there

module _ {C : Type 0} (m : Semantics C) (belongs : ℕ → C → Type 0) (limit : ℕ) where
  -- ---- one node

  -- the program of a node that waits is kept under a number that was free
  pub waiting_kept : (parent : Program) (line : ℕ) (instr : Instr) (its_line id : ℕ) (waiting : Waiting C) (holds after : List Held) (kept now : List (Option (Waiting C))) →
      IsKeptFor m belongs limit (with_line parent line instr) waiting → after ≡ holds ++ holdings.Waiting its_line id ∷ [] → kept_at kept id ≡ None → Becomes kept now id (Some waiting) → kept_count now ≡ kept_count kept + 1 → KeepsChild m belongs limit parent line instr holds after kept now
  waiting_kept parent line instr its_line id waiting holds after kept now is_kept pushed free becomes count = record {
    held = holdings.Waiting its_line id;
    pushed = pushed;
    keeps = record {
      stay = λ other some. becomes.others other (λ e. not_none (kept_at kept other) some (ap (kept_at kept) e ∙ free));
      made = λ at its_id e.
          let same = same_id its_line at id its_id e in (
            ap (kept_at kept) (sym same) ∙ free,
            subst (λ o. IsSomeAnd o (IsKeptFor m belongs limit (with_line parent line instr))) (sym becomes.here ∙ ap (kept_at now) same) is_kept,
          );
      only = λ other some. elim (cases_eq other id) [
        | inl e ↦ inr (its_line, ap (holdings.Waiting its_line) (sym e))
        | inr differs ↦ inl (subst (λ o. IsSome o) (becomes.others other differs) some)
      ];
      few = omega arith;
    };
  }

  -- ---- children in a row

  pub no_children_kept : (parent : Program) (line : ℕ) (holds : List Held) (kept : List (Option (Waiting C))) → KeepsChildren m belongs limit parent line [] holds holds kept kept
  no_children_kept parent line holds kept = record {
    count = omega arith;
    stay = λ id some. refl;
    made = λ place at id instr e here. absurd (none-some instr e);
    own = λ number other at second id above higher here there. absurd (let within = slice_get_within holds number (holdings.Waiting at id) here in omega arith);
    only = λ id some. inl some;
    few = omega arith;
  }

  module _ (parent : Program) (line : ℕ) (instrs : List Instr) (instr : Instr) (holds mid after : List Held) (kept kept_mid now : List (Option (Waiting C))) (before : KeepsChildren m belongs limit parent line instrs holds mid kept kept_mid) (one : KeepsChild m belongs limit parent line instr mid after kept_mid now) where
    after_length : length after ≡ length mid + 1
    after_length = omega (arith, ap (λ (hs : List Held). length hs) one.pushed, length-append mid (one.held ∷ []))

    old_place : (number : ℕ) → number < length mid → slice_get after number ≡ slice_get mid number
    old_place number lt = ap (λ (hs : List Held). slice_get hs number) one.pushed ∙ get-append_left mid (one.held ∷ []) number lt

    last_place : (number : ℕ) → number ≡ length mid → slice_get after number ≡ Some one.held
    last_place number e = ap (λ (hs : List Held). slice_get hs number) one.pushed ∙ get-append_right mid (one.held ∷ []) 0 number (omega arith)

    -- a place is an earlier one, or the last
    old_or_last : (number : ℕ) (held : Held) → slice_get after number ≡ Some held → ((number < length mid) × (slice_get mid number ≡ Some held)) ⊎ ((number ≡ length mid) × (one.held ≡ held))
    old_or_last number held here = elim (cases_lt number (length mid)) [
      | inl lt ↦ inl (lt, sym (old_place number lt) ∙ here)
      | inr past ↦
          let within = slice_get_within after number held here in
          let last : number ≡ length mid = omega (arith, within, after_length, past) in
          inr (last, same_Some one.held held (sym (last_place number last) ∙ here))
    ]

    last_free : (at id : ℕ) → one.held ≡ holdings.Waiting at id → kept_at kept_mid id ≡ None
    last_free at id e = (one.keeps.made at id e).0

    old_kept : (number at id : ℕ) → length holds ≤ number → number < length mid → slice_get mid number ≡ Some (holdings.Waiting at id) → IsSome (kept_at kept_mid id)
    old_kept number at id above lt here =
        let place = read_at instrs (number - length holds) (let count = before.count in omega arith) in
        let same : number ≡ length holds + (number - length holds) = omega arith in
        some_of _ (kept_at kept_mid id) (before.made (number - length holds) at id place.0 place.1 (subst (λ n. slice_get mid n ≡ Some (holdings.Waiting at id)) same here)).1

    apart : (number at second id : ℕ) → length holds ≤ number → number < length mid → slice_get mid number ≡ Some (holdings.Waiting at id) → one.held ≡ holdings.Waiting second id → ⊥
    apart number at second id above lt here last = not_none (kept_at kept_mid id) (old_kept number at id above lt here) (last_free second id last)

    made_more : (place at id : ℕ) (its : Instr) → slice_get (instrs ++ instr ∷ []) place ≡ Some its → slice_get after (length holds + place) ≡ Some (holdings.Waiting at id) →
        (kept_at kept id ≡ None) × IsSomeAnd (kept_at now id) (IsKeptFor m belongs limit (with_line parent line its))
    made_more place at id its e here = elim (old_or_last (length holds + place) (holdings.Waiting at id) here) [
      | inl old ↦
          let inside : place < length instrs = let count = before.count in let lt = old.0 in omega arith in
          let was = before.made place at id its (sym (get-append_left instrs (instr ∷ []) place inside) ∙ e) old.1 in
          (was.0, kept_still (IsKeptFor m belongs limit (with_line parent line its)) kept_mid now id one.keeps.stay was.1)
      | inr last ↦
          let at_end : place ≡ length instrs + 0 = let count = before.count in let same = last.0 in omega arith in
          let same : instr ≡ its = same_Some instr its (sym (get-append_right instrs (instr ∷ []) 0 place at_end) ∙ e) in
          let is = one.keeps.made at id last.1 in
          (was_free kept kept_mid id before.stay is.0, subst (λ i. IsSomeAnd (kept_at now id) (IsKeptFor m belongs limit (with_line parent line i))) same is.1)
    ]

    own_more : (number other at second id : ℕ) → length holds ≤ number → length holds ≤ other → slice_get after number ≡ Some (holdings.Waiting at id) → slice_get after other ≡ Some (holdings.Waiting second id) → number ≡ other
    own_more number other at second id above higher here there = elim (old_or_last number (holdings.Waiting at id) here) [
      | inl old ↦ elim (old_or_last other (holdings.Waiting second id) there) [
        | inl old_too ↦ before.own number other at second id above higher old.1 old_too.1
        | inr last ↦ absurd (apart number at second id above old.0 old.1 last.1)
      ]
      | inr last ↦ elim (old_or_last other (holdings.Waiting second id) there) [
        | inl old ↦ absurd (apart other second at id higher old.0 old.1 last.1)
        | inr last_too ↦ last.0 ∙ sym last_too.0
      ]
    ]

    only_more : (id : ℕ) → IsSome (kept_at now id) → IsSome (kept_at kept id) ⊎ ((number : ℕ) × (at : ℕ) × (length holds ≤ number) × (slice_get after number ≡ Some (holdings.Waiting at id)))
    only_more id some = elim (one.keeps.only id some) [
      | inl mid_too ↦ elim (before.only id mid_too) [
        | inl was ↦ inl was
        | inr (number, at, above, here) ↦ inr (number, at, above, old_place number (slice_get_within mid number (holdings.Waiting at id) here) ∙ here)
      ]
      | inr (at, is) ↦ inr (length mid, at, let count = before.count in omega arith, last_place (length mid) refl ∙ ap Some is)
    ]

    pub children_kept_more : KeepsChildren m belongs limit parent line (instrs ++ instr ∷ []) holds after kept now
    children_kept_more = record {
      count = omega (arith, after_length, before.count, length-append instrs (instr ∷ []));
      stay = stay_twice kept kept_mid now before.stay one.keeps.stay;
      made = made_more;
      own = own_more;
      only = only_more;
      few = omega (arith, one.keeps.few, before.few, after_length);
    }

  -- ---- the node that is split

  -- the node of a number has its program kept
  pub parent_is : (nodes : List Node) (holds after : List Held) (pairs left : List (List ℕ × ℕ)) (kept : List (Option (Waiting C))) (stamp : ℕ) (best : Best) (node : Node) → AreKept m belongs limit nodes holds kept → (takes : TakesBest stamp holds after pairs left best) → Contains nodes node → takes.pair.1 ≡ node.number →
      IsSomeAnd (kept_at kept best.id) (IsKeptFor m belongs limit node.program)
  parent_is nodes holds after pairs left kept stamp best node are takes here number = are.each node best.line best.id here (ap (slice_get holds) (sym number) ∙ takes.waited)

  module _ (stamp : ℕ) (holds mid after : List Held) (pairs left : List (List ℕ × ℕ)) (best : Best) (takes : TakesBest stamp holds mid pairs left best)
      (nodes made grown : List Node) (kept kept_mid now : List (Option (Waiting C))) (are : AreKept m belongs limit nodes holds kept) (q : Program) (instrs : List Instr)
      (keeps : KeepsChildren m belongs limit q best.line instrs mid after kept kept_mid)
      (numbered : (node : Node) → Contains nodes node → node.number < length holds) (listed : (number : ℕ) → number < length holds → (node : Node) × Contains nodes node × (node.number ≡ number))
      (stays : (number : ℕ) (held : Held) → slice_get mid number ≡ Some held → slice_get after number ≡ Some held)
      (child : (node : Node) → Contains made node → (place : ℕ) × (instr : Instr) × (slice_get instrs place ≡ Some instr) × (node.number ≡ length mid + place) × (node.program ≡ with_line q best.line instr))
      (from : (node : Node) → Contains grown node → (Contains nodes node ⊎ (node.number ≡ takes.pair.1)) ⊎ Contains made node)
      (gone : Becomes kept_mid now best.id None) (one_less : kept_count now + 1 ≡ kept_count kept_mid) where
    same_count : length mid ≡ length holds
    same_count = ap (λ (hs : List Held). length hs) takes.split ∙ length-set holds takes.pair.1 _

    best_within : takes.pair.1 < length holds
    best_within = slice_get_within holds takes.pair.1 _ takes.waited

    now_split : slice_get after takes.pair.1 ≡ Some (holdings.Split best.line stamp (length holds))
    now_split = stays takes.pair.1 _ (ap (λ (hs : List Held). slice_get hs takes.pair.1) takes.split ∙ get-set_same holds takes.pair.1 _ best_within)

    split_or_waiting : (line id : ℕ) → holdings.Split best.line stamp (length holds) ≡ holdings.Waiting line id → ⊥
    split_or_waiting line id e = subst IsSplit e tt

    -- a node that waits now and stood before waited before, and is not the one that was split
    waited_before : (number line id : ℕ) → number < length holds → slice_get after number ≡ Some (holdings.Waiting line id) → (number ≢ takes.pair.1) × (slice_get holds number ≡ Some (holdings.Waiting line id))
    waited_before number line id lt here = elim (cases_eq number takes.pair.1) [
      | inl same ↦ absurd (split_or_waiting line id (same_Some _ _ (sym now_split ∙ ap (slice_get after) (sym same) ∙ here)))
      | inr differs ↦
          let one = read_at mid number (omega (arith, lt, same_count)) in
          let is : one.0 ≡ holdings.Waiting line id = same_Some one.0 (holdings.Waiting line id) (sym (stays number one.0 one.1) ∙ here) in (
            differs,
            sym (ap (λ (hs : List Held). slice_get hs number) takes.split ∙ get-set_other holds takes.pair.1 number _ differs) ∙ one.1 ∙ ap Some is,
          )
    ]

    -- and it waits on
    waits_on : (number line id : ℕ) → number ≢ takes.pair.1 → slice_get holds number ≡ Some (holdings.Waiting line id) → slice_get after number ≡ Some (holdings.Waiting line id)
    waits_on number line id differs here = stays number (holdings.Waiting line id) (ap (λ (hs : List Held). slice_get hs number) takes.split ∙ get-set_other holds takes.pair.1 number _ differs ∙ here)

    kept_of : (number line id : ℕ) → number < length holds → slice_get holds number ≡ Some (holdings.Waiting line id) → IsSome (kept_at kept id)
    kept_of number line id lt here =
        let one = listed number lt in
        some_of _ (kept_at kept id) (are.each one.0 line id one.1 (ap (slice_get holds) one.2 ∙ here))

    best_kept : IsSome (kept_at kept best.id)
    best_kept = kept_of takes.pair.1 best.line best.id best_within takes.waited

    -- what is kept under another number than the parent's stays
    still_kept : (P : Waiting C → Type 0) (id : ℕ) → id ≢ best.id → IsSomeAnd (kept_at kept_mid id) P → IsSomeAnd (kept_at now id) P
    still_kept P id differs there = subst (λ o. IsSomeAnd o P) (sym (gone.others id differs)) there

    old_kept_now : (node : Node) (line id : ℕ) → Contains nodes node → slice_get after node.number ≡ Some (holdings.Waiting line id) → IsSomeAnd (kept_at now id) (IsKeptFor m belongs limit node.program)
    old_kept_now node line id among here =
        let was = waited_before node.number line id (numbered node among) here in
        still_kept (IsKeptFor m belongs limit node.program) id (λ e. was.0 (are.own node.number takes.pair.1 line best.line id was.1 (ap (λ i. slice_get holds takes.pair.1) e ∙ takes.waited ∙ ap (λ i. Some (holdings.Waiting best.line i)) (sym e))))
        (kept_still (IsKeptFor m belongs limit node.program) kept kept_mid id keeps.stay (are.each node line id among was.1))

    child_kept_now : (node : Node) (line id : ℕ) → Contains made node → slice_get after node.number ≡ Some (holdings.Waiting line id) → IsSomeAnd (kept_at now id) (IsKeptFor m belongs limit node.program)
    child_kept_now node line id among here =
        let its = child node among in
        let is = keeps.made its.0 line id its.1 its.2 (ap (slice_get after) (sym its.3) ∙ here) in
        subst (λ p. IsSomeAnd (kept_at now id) (IsKeptFor m belongs limit p)) (sym its.4)
        (still_kept (IsKeptFor m belongs limit (with_line q best.line its.1)) id (λ e. not_none (kept_at kept best.id) best_kept (ap (kept_at kept) (sym e) ∙ is.0)) is.1)

    each_now : (node : Node) (line id : ℕ) → Contains grown node → slice_get after node.number ≡ Some (holdings.Waiting line id) → IsSomeAnd (kept_at now id) (IsKeptFor m belongs limit node.program)
    each_now node line id among here = elim (from node among) [
      | inl old ↦ elim old [
        | inl before ↦ old_kept_now node line id before here
        | inr is_split ↦ absurd (split_or_waiting line id (same_Some _ _ (sym now_split ∙ ap (slice_get after) (sym is_split) ∙ here)))
      ]
      | inr new ↦ child_kept_now node line id new here
    ]

    -- an old node and a new one are kept under different numbers
    old_or_new : (number other line second id : ℕ) → number < length holds → length holds ≤ other → slice_get after number ≡ Some (holdings.Waiting line id) → slice_get after other ≡ Some (holdings.Waiting second id) → ⊥
    old_or_new number other line second id lt above here there =
        let was = waited_before number line id lt here in
        let within = slice_get_within after other (holdings.Waiting second id) there in
        let place = read_at instrs (other - length mid) (omega (arith, within, above, same_count, keeps.count)) in
        let same : other ≡ length mid + (other - length mid) = omega (arith, above, same_count) in
        let is = keeps.made (other - length mid) second id place.0 place.1 (ap (slice_get after) (sym same) ∙ there) in
        not_none (kept_at kept id) (kept_of number line id lt was.1) is.0

    own_now : (number other line second id : ℕ) → slice_get after number ≡ Some (holdings.Waiting line id) → slice_get after other ≡ Some (holdings.Waiting second id) → number ≡ other
    own_now number other line second id here there = elim (cases_lt number (length holds)) [
      | inl lt ↦ elim (cases_lt other (length holds)) [
        | inl less ↦ are.own number other line second id (waited_before number line id lt here).1 (waited_before other second id less there).1
        | inr above ↦ absurd (old_or_new number other line second id lt above here there)
      ]
      | inr above ↦ elim (cases_lt other (length holds)) [
        | inl lt ↦ absurd (old_or_new other number second line id lt above there here)
        | inr higher ↦ keeps.own number other line second id (omega (arith, above, same_count)) (omega (arith, higher, same_count)) here there
      ]
    ]

    only_now : (id : ℕ) → IsSome (kept_at now id) → (number : ℕ) × (line : ℕ) × (slice_get after number ≡ Some (holdings.Waiting line id))
    only_now id some = elim (cases_eq id best.id) [
      | inl same ↦ absurd (not_none (kept_at now id) some (ap (kept_at now) same ∙ gone.here))
      | inr differs ↦ elim (keeps.only id (subst (λ o. IsSome o) (gone.others id differs) some)) [
        | inl was ↦
            let held = are.only id was in
            let apart : held.0 ≢ takes.pair.1 = λ e. differs (same_id held.1 best.line id best.id (same_Some _ _ (sym held.2 ∙ ap (slice_get holds) e ∙ takes.waited))) in
            (held.0, held.1, waits_on held.0 held.1 id apart held.2)
        | inr new ↦ (new.0, new.1, new.3)
      ]
    ]

    pub kept_after_split : AreKept m belongs limit grown after now
    kept_after_split = record {
      each = each_now;
      own = own_now;
      only = only_now;
      few = omega (arith, are.few, keeps.few, one_less, same_count);
    }

  -- ---- the root

  module _ (size id : ℕ) (root : Node) (waiting : Waiting C) (after : List Held) (kept now : List (Option (Waiting C))) (keeps : KeepsRoot id after kept now)
      (here : kept_at kept id ≡ Some waiting) (alone : (other : ℕ) → other ≢ id → kept_at kept other ≡ None) (count : kept_count kept ≡ 1)
      (is_kept : (line its_id : ℕ) → slice_get after 0 ≡ Some (holdings.Waiting line its_id) → IsKeptFor m belongs limit root.program waiting) where
    root_place : (number : ℕ) (held : Held) → slice_get after number ≡ Some held → (number ≡ 0) × (keeps.held ≡ held)
    root_place number held at =
        let within = slice_get_within after number held at in
        let only : number ≡ 0 = omega (arith, within, ap (λ (hs : List Held). length hs) keeps.alone) in
        (only, same_Some keeps.held held (sym (ap (λ (hs : List Held). slice_get hs 0) keeps.alone) ∙ ap (slice_get after) (sym only) ∙ at))

    root_waits : (number line its_id : ℕ) → slice_get after number ≡ Some (holdings.Waiting line its_id) → (its_id ≡ id) × (now ≡ kept)
    root_waits number line its_id at = subst (λ held. KeepsRootAs id held kept now) (root_place number (holdings.Waiting line its_id) at).1 keeps.keeps

    -- where it does not, nothing is
    nothing_now : Becomes kept now id None → (other : ℕ) → kept_at now other ≡ None
    nothing_now becomes other = elim (cases_eq other id) [
      | inl same ↦ ap (kept_at now) same ∙ becomes.here
      | inr differs ↦ becomes.others other differs ∙ alone other differs
    ]

    none_left : Becomes kept now id None → (other : ℕ) → IsSome (kept_at now other) → ⊥
    none_left becomes other some = not_none (kept_at now other) some (nothing_now becomes other)

    -- what is kept is the root's, where it waits
    only_root : (held : Held) → keeps.held ≡ held → KeepsRootAs id held kept now → (other : ℕ) → IsSome (kept_at now other) → (number : ℕ) × (line : ℕ) × (slice_get after number ≡ Some (holdings.Waiting line other))
    only_root (holdings.Refused t cause) is state other some = absurd (none_left state other some)
    only_root (holdings.AtLimit t) is state other some = absurd (none_left state other some)
    only_root holdings.Solved is state other some = absurd (none_left state other some)
    only_root (holdings.Waiting line its_id) is state other some = elim (cases_eq other id) [
      | inl same ↦ (0, line, ap (λ (hs : List Held). slice_get hs 0) keeps.alone ∙ ap Some (is ∙ ap (holdings.Waiting line) (state.0 ∙ sym same)))
      | inr differs ↦ absurd (not_none (kept_at now other) some (ap (λ (ks : List (Option (Waiting C))). kept_at ks other) state.1 ∙ alone other differs))
    ]
    only_root (holdings.Split line stamp first) is state other some = absurd state
    only_root holdings.Twin is state other some = absurd state

    root_is_kept : (node : Node) (line its_id : ℕ) → Contains (root ∷ []) node → slice_get after node.number ≡ Some (holdings.Waiting line its_id) → IsSomeAnd (kept_at now its_id) (IsKeptFor m belongs limit node.program)
    root_is_kept node line its_id among at =
        let place = (root_place node.number (holdings.Waiting line its_id) at).0 in
        let same_now = root_waits node.number line its_id at in
        let there : kept_at now its_id ≡ Some waiting = ap (λ (ks : List (Option (Waiting C))). kept_at ks its_id) same_now.1 ∙ ap (kept_at kept) same_now.0 ∙ here in
        subst (λ (one : Node). IsSomeAnd (kept_at now its_id) (IsKeptFor m belongs limit one.program)) (only_one root node among)
        (subst (λ o. IsSomeAnd o (IsKeptFor m belongs limit root.program)) (sym there) (is_kept line its_id (ap (slice_get after) (sym place) ∙ at)))

    few_now : (held : Held) → KeepsRootAs id held kept now → kept_count now ≤ 1
    few_now (holdings.Refused t cause) state = let none = none_counted now (nothing_now state) in omega arith
    few_now (holdings.AtLimit t) state = let none = none_counted now (nothing_now state) in omega arith
    few_now holdings.Solved state = let none = none_counted now (nothing_now state) in omega arith
    few_now (holdings.Waiting line its_id) state = omega (arith, count, ap (λ (ks : List (Option (Waiting C))). kept_count ks) state.1)
    few_now (holdings.Split line stamp first) state = absurd state
    few_now holdings.Twin state = absurd state

    pub root_kept : AreKept m belongs limit (root ∷ []) after now
    root_kept = record {
      each = root_is_kept;
      own = λ number other line second its_id at there. (root_place number (holdings.Waiting line its_id) at).0 ∙ sym (root_place other (holdings.Waiting second its_id) there).0;
      only = only_root keeps.held refl keeps.keeps;
      few = omega (arith, few_now keeps.held keeps.keeps, ap (λ (hs : List Held). length hs) keeps.alone);
    }
