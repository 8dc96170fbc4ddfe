-- What a pool holds after one call, and after several.
use Rattle.std.proofs.Common.{◌≡◌, ◌≢◌, ℕ, ◌+◌, ◌<◌, ◌≤◌, List, [], ◌∷◌, ◌++◌, length, get_or, set, take, Option, Some, None, IsSome, refl, sym, ap, ◌∙◌, inl, inr, arith}
use Rattle.std.specs.Option.{option_map}
use Rattle.std.proofs.lemmas.Bool.{cases_eq}
use Rattle.std.proofs.lemmas.List.{length-set, get_or-set_other}
use Rattle.state_pool.specs.declared.held.Held.{Held}
use Rattle.state_pool.specs.Pool.{Pool, count_of, held_at, value_at, count_at, IsLive, ChangesOnly}
use Rattle.waiting_programs.specs.Inner.Holds.{times, AreDistinct, values_at, AreHeld, Exchanges}
use Rattle.waiting_programs.proofs.Times.{told, told_is, told_not, told_le, times_push, times_set, times_more, times_there, found_alike, found_set, found_push}

module _ {T : Type 0} where
  has_value : (pool : Pool T) (slot : ℕ) → IsLive pool slot → IsSome (value_at pool slot)
  has_value pool slot live = by (held_at pool slot) live
    where
      by : (held : Option (Held T)) → 0 < count_of held → IsSome (option_map (λ (h : Held T). h.value) held)
      by None some = absurd (omega (arith, some))
      by (Some h) some = refl

  -- what a list names is live, where it is held as often
  pub live_named : (pool : Pool T) (slots : List ℕ) (k slot : ℕ) → AreHeld pool slots → k < length slots → slot ≡ get_or slots k slot → IsLive pool slot
  live_named pool slots k slot held within is =
      omega (arith, times_there slots k slot within, ap (λ (s : ℕ). times s slots) is, held slot)

  live_at : (pool : Pool T) (slots : List ℕ) → AreHeld pool slots → (k : ℕ) → k < length slots → IsLive pool (get_or slots k 0)
  live_at pool slots held k within = omega (arith, times_there slots k 0 within, held (get_or slots k 0))

  pub have_values : (pool : Pool T) (slots : List ℕ) → AreHeld pool slots → (k : ℕ) → k < length slots → IsSome (value_at pool (get_or slots k 0))
  have_values pool slots held k within = has_value pool (get_or slots k 0) (live_at pool slots held k within)

  -- one slot is held once more
  count_more : (old new : Pool T) (slot : ℕ) → count_at new slot ≡ count_at old slot + 1 → ChangesOnly old new slot → (other : ℕ) → count_at new other ≡ count_at old other + told slot other
  count_more old new slot more others other =
      elim (cases_eq other slot) [
        | inl is ↦ omega (arith, more, ap (count_at new) is, ap (count_at old) is, told_is slot other (sym is))
        | inr differs ↦ omega (arith, ap count_of (others other differs), told_not slot other (λ is. differs (sym is)))
      ]

  -- one slot is held once less
  count_less : (old new : Pool T) (slot : ℕ) → count_at new slot + 1 ≡ count_at old slot → ChangesOnly old new slot → (other : ℕ) → count_at new other + told slot other ≡ count_at old other
  count_less old new slot less others other =
      sym (count_more new old slot (sym less) (λ o differs. sym (others o differs)) other)

  value_unchanged : (old new : Pool T) (slot : ℕ) → ChangesOnly old new slot → (other : ℕ) → other ≢ slot → value_at new other ≡ value_at old other
  value_unchanged old new slot others other differs = ap (option_map (λ (h : Held T). h.value)) (others other differs)

  -- what is live after a release has its value
  value_left : (old new : Pool T) (slot : ℕ) → (IsLive new slot → value_at new slot ≡ value_at old slot) → ChangesOnly old new slot → (other : ℕ) → IsLive new other → value_at new other ≡ value_at old other
  value_left old new slot here others other live =
      elim (cases_eq other slot) [
        | inl is ↦ ap (value_at new) is ∙ here (omega (arith, live, ap (count_at new) is)) ∙ ap (value_at old) (sym is)
        | inr differs ↦ value_unchanged old new slot others other differs
      ]

  -- the values of a list of slots stay, where each of them is held besides what was given up
  pub values_stay : (old new : Pool T) (given taken slots : List ℕ) → Exchanges old new given taken → ((slot : ℕ) → times slot given + times slot slots ≤ count_at old slot) → values_at new slots ≡ values_at old slots
  values_stay old new given taken slots exchanged held =
      found_alike (value_at old) (value_at new) slots (λ k within.
      let slot = get_or slots k 0 in
      exchanged.values slot (omega (arith, times_there slots k 0 within, held slot)))

  -- one exchange after another is an exchange
  pub exchange_both : (old mid new : Pool T) (given between taken : List ℕ) → AreHeld old given → Exchanges old mid given between → Exchanges mid new between taken → Exchanges old new given taken
  exchange_both old mid new given between taken held first second = record {
    counts = λ slot. omega (arith, first.counts slot, second.counts slot);
    values = λ slot more. second.values slot (omega (arith, more, first.counts slot)) ∙ first.values slot more;
  }

  -- one slot more of a list is shared
  pub shared_more : (first old new : Pool T) (slots : List ℕ) (i slot : ℕ) → i < length slots → slot ≡ get_or slots i slot → Exchanges first old [] (take i slots) → value_at new slot ≡ value_at old slot → count_at new slot ≡ count_at old slot + 1 → ChangesOnly old new slot → Exchanges first new [] (take (i + 1) slots)
  shared_more first old new slots i slot within is shared value count others = record {
    counts = λ other. omega (arith, shared.counts other, count_more old new slot count others other, times_more other slots i slot within, ap (λ (s : ℕ). told s other) is);
    values = λ other live. value_left old new slot (λ _. value) others other (omega (arith, live, shared.counts other, count_more old new slot count others other)) ∙ shared.values other live;
  }

  -- one slot more of a list is given up
  pub released_more : (first old new : Pool T) (slots : List ℕ) (i slot : ℕ) → i < length slots → slot ≡ get_or slots i slot → AreHeld first slots → Exchanges first old (take i slots) [] → (IsLive new slot → value_at new slot ≡ value_at old slot) → count_at new slot + 1 ≡ count_at old slot → ChangesOnly old new slot → Exchanges first new (take (i + 1) slots) []
  released_more first old new slots i slot within is held released value count others = record {
    counts = λ other. omega (arith, released.counts other, count_less old new slot count others other, times_more other slots i slot within, ap (λ (s : ℕ). told s other) is);
    values = λ other more.
        value_left old new slot value others other (omega (arith, more, released.counts other, count_less old new slot count others other, times_more other slots i slot within, ap (λ (s : ℕ). told s other) is))
        ∙ released.values other (omega (arith, more, times_more other slots i slot within));
  }

  -- a value is kept at a slot that was not live, and the slot that a list names at a place is held once less
  module _ (old mid new : Pool T) (slots : List ℕ) (place own shared : ℕ) (value : T) (within : place < length slots) (is : shared ≡ get_or slots place shared) (held : AreHeld old slots) (fresh : count_at old own ≡ 0) (kept : value_at mid own ≡ Some value) (one : count_at mid own ≡ 1) (only_own : ChangesOnly old mid own) (less : count_at new shared + 1 ≡ count_at mid shared) (left : IsLive new shared → value_at new shared ≡ value_at mid shared) (only_shared : ChangesOnly mid new shared) where
    abbrev put : List ℕ
    put = set slots place own

    taken : (slot : ℕ) → count_at mid slot ≡ count_at old slot + told own slot
    taken slot = count_more old mid own (omega (arith, fresh, one)) only_own slot

    given : (slot : ℕ) → count_at new slot + told shared slot ≡ count_at mid slot
    given slot = count_less mid new shared less only_shared slot

    put_times : (slot : ℕ) → times slot put + told shared slot ≡ times slot slots + told own slot
    put_times slot = omega (arith, times_set slot slots place own shared within, ap (λ (s : ℕ). told s slot) is)

    -- what is held besides the list was held before, at another slot
    stays : (slot : ℕ) → 0 < count_at old slot → IsLive new slot → value_at new slot ≡ value_at old slot
    stays slot was live =
        value_left mid new shared left only_shared slot live
        ∙ value_unchanged old mid own only_own slot (λ same. omega (arith, was, fresh, ap (count_at old) same))

    put_exchanges : Exchanges old new slots put
    put_exchanges = record {
      counts = λ slot. omega (arith, taken slot, given slot, put_times slot);
      values = λ slot more. stays slot (omega (arith, more)) (omega (arith, more, taken slot, given slot, put_times slot));
    }

    put_distinct : AreDistinct slots → AreDistinct put
    put_distinct distinct slot =
        elim (cases_eq slot own) [
          | inl same ↦ omega (arith, put_times slot, held slot, fresh, ap (count_at old) same, told_le own slot)
          | inr differs ↦ omega (arith, put_times slot, distinct slot, told_not own slot (λ same. differs (sym same)))
        ]

    apart : told shared own ≡ 0
    apart = told_not shared own (λ same. omega (arith, live_named old slots place shared held within is, fresh, ap (count_at old) same))

    own_value : value_at new own ≡ Some value
    own_value = value_left mid new shared left only_shared own (omega (arith, given own, one, apart)) ∙ kept

    -- each other slot of the list is still held
    still : (k : ℕ) → k < length slots → k ≢ place → IsLive new (get_or slots k 0)
    still k lt differs =
        let slot = get_or slots k 0 in
        let there = times_there put k 0 (omega (arith, lt, length-set slots place own)) in
        let same : get_or put k 0 ≡ slot = get_or-set_other slots place k own 0 differs in
        omega (arith, there, ap (λ (s : ℕ). times s put) same, put_exchanges.counts slot, held slot)

    put_values : values_at new put ≡ set (values_at old slots) place value
    put_values =
        found_set (value_at old) (value_at new) slots place own value within own_value (have_values old slots held)
        (λ k lt differs. stays (get_or slots k 0) (live_at old slots held k lt) (still k lt differs))

    pub put_all : AreDistinct slots → Exchanges old new slots put × (values_at new put ≡ set (values_at old slots) place value) × AreDistinct put
    put_all distinct = (put_exchanges, put_values, put_distinct distinct)

  -- a value more is kept, at a slot of its own
  module _ (old new : Pool T) (slots : List ℕ) (own : ℕ) (value : T) (counts : (slot : ℕ) → count_at old slot ≡ times slot slots) (fresh : count_at old own ≡ 0) (kept : value_at new own ≡ Some value) (one : count_at new own ≡ 1) (only_own : ChangesOnly old new own) where
    pub counts_push : (slot : ℕ) → count_at new slot ≡ times slot (slots ++ own ∷ [])
    counts_push slot = omega (arith, count_more old new own (omega (arith, fresh, one)) only_own slot, counts slot, times_push slot slots own)

    pub values_push : values_at new (slots ++ own ∷ []) ≡ values_at old slots ++ value ∷ []
    values_push =
        found_push (value_at new) slots own value kept
        ∙ ap (λ (xs : List T). xs ++ value ∷ []) (found_alike (value_at old) (value_at new) slots (λ k within.
        let slot = get_or slots k 0 in
        value_unchanged old new own only_own slot (λ same. omega (arith, times_there slots k 0 within, counts slot, fresh, ap (count_at old) same))))

    pub distinct_push : AreDistinct slots → AreDistinct (slots ++ own ∷ [])
    distinct_push distinct slot =
        elim (cases_eq slot own) [
          | inl same ↦ omega (arith, times_push slot slots own, counts slot, fresh, ap (count_at old) same, told_le own slot)
          | inr differs ↦ omega (arith, times_push slot slots own, distinct slot, told_not own slot (λ same. differs (sym same)))
        ]
