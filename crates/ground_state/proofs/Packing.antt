-- Truth values in words: what a write to one place does, when two rows have the same values, and how many are missing.
use Rattle.std.proofs.Common.{◌≡◌, ◌≢◌, ℕ, zero, suc, ◌+◌, ◌-◌, ◌*◌, ◌/◌, ◌%◌, ◌^◌, ◌<◌, ◌≤◌, min, Bool, true, false, cond, ◌&&◌, not, eqb, List, [], ◌∷◌, map, length, get_or, set, replicate, Some, All, Decides, ◌↔◌, inl, inr, refl, sym, ap, ◌∙◌, subst, arith, le_trans, le_of_eq, lt_of_le_of_lt, zero-add, zero-mul, suc-mul, add-zero, add_assoc, bit_and, count_ones, w64}
use Rattle.std.specs.Int.{bit_at, bit_not, div_ceil}
use Rattle.std.specs.Int.Count.{ones_step}
use Rattle.std.specs.List.{slice_get, range_with_len, count_by, zip}
use Rattle.std.proofs.lemmas.Bool.{cases_eq, cases_lt}
use Rattle.std.proofs.lemmas.List.{length-set, length-replicate, get_or-replicate, get_or_past, get_or-set_same, get_or-set_other, ext_get_or}
use Rattle.std.proofs.lemmas.List.Elements.{All-set, All-replicate, All-tail}
use Rattle.std.proofs.lemmas.List.FromFn.{length-map-range_with_len, get_or-map-range_with_len, length-range_with_len, fill_by_all}
use Rattle.std.proofs.lemmas.List.Sums.{sum_by-cons, count_by-le-length}
use Rattle.std.proofs.lemmas.Nat.{and_le_l, ones-le}
use Rattle.std.proofs.lemmas.Nat.Bits.{bit_at-zero, bit_at-lt, bit_at-suc, bit_at_lowest, bit_at_and, bit_at_not, same_from_bits_below}
use Rattle.std.proofs.lemmas.Option.{slice_get-get_or}
use Rattle.ground_state.specs.State.{missing}
use Rattle.ground_state.proofs.LawLemmas.{missing-cons}
use Rattle.ground_state.specs.Inner.Packing.{is_set, is_set_in, values_of, IsPacked, IsChangedAt, missing_in_word, missing_in_words}

-- ---- values at places
pub length-values_of : (count : ℕ) (words : List ℕ) → length (values_of count words) ≡ count
length-values_of count words = length-map-range_with_len (is_set_in words) 0 count

value_there : (count : ℕ) (words : List ℕ) (place : ℕ) → place < count → get_or (values_of count words) place false ≡ is_set_in words place
value_there count words place within = get_or-map-range_with_len (is_set_in words) 0 count place place false within (omega arith)

pub value_at : (count : ℕ) (words : List ℕ) (place : ℕ) → place < count → slice_get (values_of count words) place ≡ Some (is_set_in words place)
value_at count words place within =
    let long = length-values_of count words in
    let inside : place < length (values_of count words) = omega (arith, long) in
    slice_get-get_or (values_of count words) place false inside ∙ ap (λ value. Some value) (value_there count words place within)

-- a place among the values stands before the count of them
pub place_within : (count : ℕ) (words : List ℕ) (values : List Bool) (place : ℕ) → values_of count words ≡ values → place < length values → place < count
place_within count words values place same within =
    let long = ap (λ (list : List Bool). length list) same in
    omega (arith, long, length-values_of count words)

-- a place among the values stands in one of the words
pub word_within : (count : ℕ) (words : List ℕ) (place : ℕ) → IsPacked count words → place < count → place / 64 < length words
word_within count words place packed within = omega (arith, packed.enough)

-- ---- no value is true
nothing_there : (long place : ℕ) → ◌≡◌ {A = ℕ} (get_or (replicate long 0) place 0) 0
nothing_there long place =
    elim (cases_lt place long) [
      | inl within ↦ get_or-replicate {A = ℕ} long place 0 0 within
      | inr past ↦ get_or_past (replicate long 0) place 0 (let same = length-replicate {A = ℕ} long 0 in omega (arith, same))
    ]

nothing_set : (long place : ℕ) → is_set_in (replicate long 0) place ≡ false
nothing_set long place =
    ap (λ word. is_set word (place % 64)) (nothing_there long (place / 64)) ∙ ap (λ bit. eqb bit 1) (bit_at-zero (place % 64))

pub none_true : (count long : ℕ) → values_of count (replicate long 0) ≡ replicate count false
none_true count long =
    sym (fill_by_all (is_set_in (replicate long 0)) (replicate count false) count false (length-replicate count false) (λ place within. get_or-replicate count place false false within ∙ sym (nothing_set long place)))

pub none_packed : (count : ℕ) → count < 2 ^ 32 → IsPacked count (replicate (div_ceil count 64) 0)
none_packed count few = record {
  few = few;
  enough = length-replicate {A = ℕ} (div_ceil count 64) 0;
  small = All-replicate (λ (word : ℕ). word < 2 ^ 64) (div_ceil count 64) 0 (omega arith);
  unused = λ place behind. nothing_set (div_ceil count 64) place;
}

-- ---- a write to one place
set_here : (words : List ℕ) (place word : ℕ) (value : Bool) → place / 64 < length words → is_set word (place % 64) ≡ value → is_set_in (set words (place / 64) word) place ≡ value
set_here words place word value within here = ap (λ w. is_set w (place % 64)) (get_or-set_same words (place / 64) word 0 within) ∙ here

other_place : (place other : ℕ) → other ≢ place → other / 64 ≡ place / 64 → other % 64 ≢ place % 64
other_place place other apart same = λ equal. apart (omega arith)

other_in_word : (words : List ℕ) (at word bit : ℕ) → at < length words → is_set word bit ≡ is_set (get_or words at 0) bit → is_set (get_or (set words at word) at 0) bit ≡ is_set (get_or words at 0) bit
other_in_word words at word bit within same = ap (λ w. is_set w bit) (get_or-set_same words at word 0 within) ∙ same

set_elsewhere : (words : List ℕ) (place word : ℕ) (value : Bool) → place / 64 < length words → IsChangedAt (place % 64) value (get_or words (place / 64) 0) word → (other : ℕ) → other ≢ place → is_set_in (set words (place / 64) word) other ≡ is_set_in words other
set_elsewhere words place word value within changed other apart =
    elim (cases_eq (other / 64) (place / 64)) [
      | inl same ↦ (
          let bits = changed.others (other % 64) (omega arith) (other_place place other apart same) in
          ap (λ at. is_set (get_or (set words (place / 64) word) at 0) (other % 64)) same
          ∙ other_in_word words (place / 64) word (other % 64) within bits
          ∙ ap (λ at. is_set (get_or words at 0) (other % 64)) (sym same))
      | inr elsewhere ↦ ap (λ w. is_set w (other % 64)) (get_or-set_other words (place / 64) (other / 64) word 0 elsewhere)
    ]

value_after : (count : ℕ) (words : List ℕ) (place word : ℕ) (value : Bool) → place < count → place / 64 < length words → IsChangedAt (place % 64) value (get_or words (place / 64) 0) word → (other : ℕ) → other < count → get_or (set (values_of count words) place value) other false ≡ is_set_in (set words (place / 64) word) other
value_after count words place word value here within changed other inside =
    elim (cases_eq other place) [
      | inl same ↦ (
          let long = length-values_of count words in
          let there : place < length (values_of count words) = omega (arith, long) in
          ap (λ k. get_or (set (values_of count words) place value) k false) same
          ∙ get_or-set_same (values_of count words) place value false there
          ∙ sym (set_here words place word value within changed.here)
          ∙ ap (is_set_in (set words (place / 64) word)) (sym same))
      | inr apart ↦ get_or-set_other (values_of count words) place other value false apart ∙ value_there count words other inside ∙ sym (set_elsewhere words place word value within changed other apart)
    ]

pub one_written : (count : ℕ) (words : List ℕ) (place word : ℕ) (value : Bool) → IsPacked count words → place < count → IsChangedAt (place % 64) value (get_or words (place / 64) 0) word → values_of count (set words (place / 64) word) ≡ set (values_of count words) place value
one_written count words place word value packed here changed =
    let within = word_within count words place packed here in
    sym (fill_by_all (is_set_in (set words (place / 64) word)) (set (values_of count words) place value) count false (length-set (values_of count words) place value ∙ length-values_of count words) (value_after count words place word value here within changed))

pub written_packed : (count : ℕ) (words : List ℕ) (place word : ℕ) (value : Bool) → IsPacked count words → place < count → IsChangedAt (place % 64) value (get_or words (place / 64) 0) word → IsPacked count (set words (place / 64) word)
written_packed count words place word value packed here changed =
    let within = word_within count words place packed here in
    record {
      few = packed.few;
      enough = length-set words (place / 64) word ∙ packed.enough;
      small = All-set (λ (w : ℕ). w < 2 ^ 64) words (place / 64) word changed.small packed.small;
      unused = λ other behind. set_elsewhere words place word value within changed other (omega arith) ∙ packed.unused other behind;
    }

-- ---- rows with the same values
same_bit : (a b : ℕ) → a < 2 → b < 2 → eqb a 1 ≡ eqb b 1 → a ≡ b
same_bit zero zero low high same = refl
same_bit zero (suc zero) low high same = absurd (cc)
same_bit zero (suc (suc b)) low high same = absurd (omega arith)
same_bit (suc zero) zero low high same = absurd (cc)
same_bit (suc zero) (suc zero) low high same = refl
same_bit (suc zero) (suc (suc b)) low high same = absurd (omega arith)
same_bit (suc (suc a)) b low high same = absurd (omega arith)

place_in_word : (words : List ℕ) (at bit : ℕ) → bit < 64 → is_set_in words (at * 64 + bit) ≡ is_set (get_or words at 0) bit
place_in_word words at bit low =
    let word : (at * 64 + bit) / 64 ≡ at = omega arith in
    let place : (at * 64 + bit) % 64 ≡ bit = omega arith in
    ap (λ k. is_set (get_or words k 0) ((at * 64 + bit) % 64)) word ∙ ap (is_set (get_or words at 0)) place

same_in_words : (one other : List ℕ) (at : ℕ) → at < length one → length one ≡ length other → All (λ word. word < 2 ^ 64) one → All (λ word. word < 2 ^ 64) other → ((place : ℕ) → is_set_in one place ≡ is_set_in other place) → get_or one at 0 ≡ get_or other at 0
same_in_words one other at within long small_one small_other same =
    same_from_bits_below 64 (get_or one at 0) (get_or other at 0) (small_one at 0 within) (small_other at 0 (omega arith))
    (λ bit low. same_bit _ _ (bit_at-lt (get_or one at 0) bit) (bit_at-lt (get_or other at 0) bit) (sym (place_in_word one at bit low) ∙ same (at * 64 + bit) ∙ place_in_word other at bit low))

same_places : (count : ℕ) (one other : List ℕ) → IsPacked count one → IsPacked count other → values_of count one ≡ values_of count other → (place : ℕ) → is_set_in one place ≡ is_set_in other place
same_places count one other packed_one packed_other same place =
    elim (cases_lt place count) [
      | inl within ↦ sym (value_there count one place within) ∙ ap (λ values. get_or values place false) same ∙ value_there count other place within
      | inr behind ↦ packed_one.unused place behind ∙ sym (packed_other.unused place behind)
    ]

pub same_count : (count others : ℕ) (one other : List ℕ) → values_of count one ≡ values_of others other → count ≡ others
same_count count others one other same = sym (length-values_of count one) ∙ ap (λ values. length values) same ∙ length-values_of others other

pub same_words : (count : ℕ) (one other : List ℕ) → IsPacked count one → IsPacked count other → values_of count one ≡ values_of count other → one ≡ other
same_words count one other packed_one packed_other same =
    let long = packed_one.enough ∙ sym packed_other.enough in
    ext_get_or 0 one other long (λ at within. same_in_words one other at within long packed_one.small packed_other.small (same_places count one other packed_one packed_other same))

-- two rows of as many values are equal exactly where their words are
pub equal_rows : (count others : ℕ) (one other : List ℕ) (result : Bool) → IsPacked count one → IsPacked others other → count ≡ others → Decides result (one ≡ other) → (result ≡ true) ↔ (values_of count one ≡ values_of others other)
equal_rows count others one other result packed_one packed_other same decides = (
  (λ yes. ap (λ words. values_of count words) (decides.0 yes) ∙ ap (λ n. values_of n other) same),
  (λ equal. decides.1 (same_words count one other packed_one (subst (λ (n : ℕ). IsPacked n other) (sym same) packed_other) (equal ∙ ap (λ n. values_of n other) (sym same)))),
)

-- rows of one length have as many values
pub same_length : (count others : ℕ) (one other : List ℕ) (values more : List Bool) → values_of count one ≡ values → values_of others other ≡ more → length values ≡ length more → count ≡ others
same_length count others one other values more here there same =
    sym (length-values_of count one) ∙ ap (λ (list : List Bool). length list) here ∙ same ∙ sym (ap (λ (list : List Bool). length list) there) ∙ length-values_of others other

-- ---- counts
-- what a value adds to a count
abbrev worth : Bool → ℕ
worth value = cond value 1 0

count-cons : (p : ℕ → Bool) (x : ℕ) (xs : List ℕ) → count_by p (x ∷ xs) ≡ worth (p x) + count_by p xs
count-cons p x xs = sum_by-cons (λ y. worth (p y)) x xs

-- two tests that agree in step along two ranges pass equally often
count_in_step : (p q : ℕ → Bool) (a b long : ℕ) → ((i : ℕ) → i < long → p (a + i) ≡ q (b + i)) → count_by p (range_with_len a long) ≡ count_by q (range_with_len b long)
count_in_step p q a b zero agree = refl
count_in_step p q a b (suc long) agree =
    let from_a : a ≡ a + 0 = omega arith in
    let from_b : b + 0 ≡ b = omega arith in
    let head : p a ≡ q b = ap p from_a ∙ agree 0 (omega arith) ∙ ap q from_b in
    let rest = count_in_step p q (a + 1) (b + 1) long (λ i below.
    let on_a : (a + 1) + i ≡ a + suc i = omega arith in
    let on_b : b + suc i ≡ (b + 1) + i = omega arith in
    ap p on_a ∙ agree (suc i) (omega arith) ∙ ap q on_b) in
    count-cons p a (range_with_len (a + 1) long)
    ∙ ap (λ n. worth (p a) + n) rest
    ∙ ap (λ passes. worth passes + count_by q (range_with_len (b + 1) long)) head
    ∙ sym (count-cons q b (range_with_len (b + 1) long))

count_joined : (p : ℕ → Bool) (a one other : ℕ) → count_by p (range_with_len a (one + other)) ≡ count_by p (range_with_len a one) + count_by p (range_with_len (a + one) other)
count_joined p a zero other =
    let start : a ≡ a + zero = omega arith in
    ap (λ n. count_by p (range_with_len a n)) (zero-add other) ∙ sym (zero-add (count_by p (range_with_len a other))) ∙ ap (λ k. 0 + count_by p (range_with_len k other)) start
count_joined p a (suc one) other =
    let more : suc one + other ≡ suc (one + other) = omega arith in
    let start : (a + 1) + one ≡ a + suc one = omega arith in
    ap (λ n. count_by p (range_with_len a n)) more
    ∙ count-cons p a (range_with_len (a + 1) (one + other))
    ∙ ap (λ n. worth (p a) + n) (count_joined p (a + 1) one other)
    ∙ ap (λ k. worth (p a) + (count_by p (range_with_len (a + 1) one) + count_by p (range_with_len k other))) start
    ∙ sym (add_assoc (worth (p a)) (count_by p (range_with_len (a + 1) one)) (count_by p (range_with_len (a + suc one) other)))
    ∙ ap (λ n. n + count_by p (range_with_len (a + suc one) other)) (sym (count-cons p a (range_with_len (a + 1) one)))

count_none : (p : ℕ → Bool) (a long : ℕ) → ((i : ℕ) → a ≤ i → p i ≡ false) → count_by p (range_with_len a long) ≡ 0
count_none p a zero fails = refl
count_none p a (suc long) fails =
    count-cons p a (range_with_len (a + 1) long)
    ∙ ap (λ n. worth (p a) + n) (count_none p (a + 1) long (λ i behind. fails i (omega arith)))
    ∙ ap (λ passes. worth passes + 0) (fails a (omega arith))

-- ---- the ones of a word
bit_worth : (bit same : ℕ) → bit < 2 → same ≡ bit → bit ≡ worth (eqb same 1)
bit_worth zero same low equal = sym (ap (λ b. worth (eqb b 1)) equal)
bit_worth (suc zero) same low equal = sym (ap (λ b. worth (eqb b 1)) equal)
bit_worth (suc (suc bit)) same low equal = absurd (omega arith)

low_bit : (word : ℕ) → word % 2 ≡ worth (is_set word 0)
low_bit word = bit_worth (word % 2) (bit_at word 0) (omega arith) (bit_at_lowest word)

ones_counted : (width word : ℕ) → word < 2 ^ width → count_ones word ≡ count_by (is_set word) (range_with_len 0 width)
ones_counted zero word small = omega (arith, ones-le zero word small)
ones_counted (suc width) word small =
    let half : word / 2 < 2 ^ width = omega arith in
    let rest = count_in_step (is_set (word / 2)) (is_set word) 0 1 width (λ i below.
    let next : suc i ≡ 1 + i = omega arith in
    ap (is_set (word / 2)) (zero-add i) ∙ sym (ap (λ bit. eqb bit 1) (bit_at-suc word i)) ∙ ap (is_set word) next) in
    ones_step word
    ∙ ap (λ n. n + count_ones (word / 2)) (low_bit word)
    ∙ ap (λ n. worth (is_set word 0) + n) (ones_counted width (word / 2) half ∙ rest)
    ∙ sym (count-cons (is_set word) 0 (range_with_len 1 width))

-- ---- what is missing
missing_bit : (a b : ℕ) → a < 2 → b < 2 → eqb (min a (1 - b)) 1 ≡ (eqb a 1 && not (eqb b 1))
missing_bit zero zero low high = refl
missing_bit zero (suc zero) low high = refl
missing_bit zero (suc (suc b)) low high = absurd (omega arith)
missing_bit (suc zero) zero low high = refl
missing_bit (suc zero) (suc zero) low high = refl
missing_bit (suc zero) (suc (suc b)) low high = absurd (omega arith)
missing_bit (suc (suc a)) b low high = absurd (omega arith)

missing_at : (here there place : ℕ) → there < 2 ^ 64 → place < 64 → is_set (bit_and here (bit_not w64 there)) place ≡ (is_set here place && not (is_set there place))
missing_at here there place small low =
    ap (λ bit. eqb bit 1) (bit_at_and here (bit_not w64 there) place)
    ∙ ap (λ bit. eqb (min (bit_at here place) bit) 1) (bit_at_not w64 there place small low)
    ∙ missing_bit (bit_at here place) (bit_at there place) (bit_at-lt here place) (bit_at-lt there place)

-- whether a place is true in the first words and false in the second
abbrev is_missing : List ℕ → List ℕ → ℕ → Bool
is_missing here there place = is_set_in here place && not (is_set_in there place)

first_word : (word : ℕ) (words : List ℕ) (place : ℕ) → place < 64 → is_set word place ≡ is_set_in (word ∷ words) (0 + place)
first_word word words place low =
    let at : 0 * 64 + place ≡ 0 + place = omega arith in
    sym (place_in_word (word ∷ words) 0 place low) ∙ ap (is_set_in (word ∷ words)) at

next_word : (word : ℕ) (words : List ℕ) (width place : ℕ) → width ≡ 64 → is_set_in words (0 + place) ≡ is_set_in (word ∷ words) (width + place)
next_word word words width place wide =
    let at : (width + place) / 64 ≡ suc (place / 64) = omega arith in
    let bit : (width + place) % 64 ≡ place % 64 = omega arith in
    ap (is_set_in words) (zero-add place)
    ∙ ap (λ k. is_set (get_or words (place / 64) 0) k) (sym bit)
    ∙ ap (λ k. is_set (get_or (word ∷ words) k 0) ((width + place) % 64)) (sym at)

word_counted : (here there : ℕ) (others more : List ℕ) (width : ℕ) → width ≡ 64 → here < 2 ^ 64 → there < 2 ^ 64 → missing_in_word here there ≡ count_by (is_missing (here ∷ others) (there ∷ more)) (range_with_len 0 width)
word_counted here there others more width wide small_here small_there =
    let low : bit_and here (bit_not w64 there) < 2 ^ 64 = omega (arith, and_le_l here (bit_not w64 there)) in
    ones_counted width (bit_and here (bit_not w64 there)) (subst (λ (w : ℕ). bit_and here (bit_not w64 there) < 2 ^ w) (sym wide) low)
    ∙ count_in_step (is_set (bit_and here (bit_not w64 there))) (is_missing (here ∷ others) (there ∷ more)) 0 0 width (λ place below.
    let within : place < 64 = omega arith in
    ap (is_set (bit_and here (bit_not w64 there))) (zero-add place)
    ∙ missing_at here there place small_there within
    ∙ ap (λ value. value && not (is_set there place)) (first_word here others place within)
    ∙ ap (λ value. is_set_in (here ∷ others) (0 + place) && not value) (first_word there more place within))

words_counted : (here there : List ℕ) (width : ℕ) → width ≡ 64 → length here ≡ length there → All (λ (word : ℕ). word < 2 ^ 64) here → All (λ (word : ℕ). word < 2 ^ 64) there → missing_in_words here there ≡ count_by (is_missing here there) (range_with_len 0 (length here * width))
words_counted [] [] width wide long small_here small_there = ap (λ n. count_by (is_missing [] []) (range_with_len 0 n)) (sym (zero-mul width))
words_counted [] (t ∷ there) width wide long small_here small_there = absurd (cc)
words_counted (h ∷ here) [] width wide long small_here small_there = absurd (cc)
words_counted (h ∷ here) (t ∷ there) width wide long small_here small_there =
    let rest = words_counted here there width wide (cc) (All-tail (λ (word : ℕ). word < 2 ^ 64) h here small_here) (All-tail (λ (word : ℕ). word < 2 ^ 64) t there small_there) in
    let first = word_counted h t here there width wide (small_here 0 0 (omega arith)) (small_there 0 0 (omega arith)) in
    let shifted = count_in_step (is_missing here there) (is_missing (h ∷ here) (t ∷ there)) 0 (0 + width) (length here * width) (λ place below.
    let from : width + place ≡ (0 + width) + place = omega arith in
    ap (λ value. value && not (is_set_in there (0 + place))) (next_word h here width place wide)
    ∙ ap (λ value. is_set_in (h ∷ here) (width + place) && not value) (next_word t there width place wide)
    ∙ ap (is_missing (h ∷ here) (t ∷ there)) from) in
    let whole : width + length here * width ≡ length (h ∷ here) * width = omega (arith, suc-mul (length here) width) in
    sum_by-cons (λ (pair : ℕ × ℕ). missing_in_word pair.0 pair.1) (h, t) (zip here there)
    ∙ ap (λ n. n + missing_in_words here there) first
    ∙ ap (λ n. count_by (is_missing (h ∷ here) (t ∷ there)) (range_with_len 0 width) + n) (rest ∙ shifted)
    ∙ sym (count_joined (is_missing (h ∷ here) (t ∷ there)) 0 width (length here * width))
    ∙ ap (λ n. count_by (is_missing (h ∷ here) (t ∷ there)) (range_with_len 0 n)) whole

zip_counted : (f g : ℕ → Bool) (places : List ℕ) → missing (map f places) (map g places) ≡ count_by (λ place. f place && not (g place)) places
zip_counted f g [] = refl
zip_counted f g (place ∷ places) =
    missing-cons (f place) (g place) (map f places) (map g places)
    ∙ ap (λ n. worth (f place && not (g place)) + n) (zip_counted f g places)
    ∙ sym (count-cons (λ k. f k && not (g k)) place places)

missing_by_width : (count : ℕ) (here there : List ℕ) (width : ℕ) → width ≡ 64 → IsPacked count here → IsPacked count there → missing_in_words here there ≡ missing (values_of count here) (values_of count there)
missing_by_width count here there width wide packed_here packed_there =
    let spare = length here * 64 - count in
    let enough : length here * 64 ≡ count + spare = omega (arith, packed_here.enough) in
    let whole : length here * width ≡ count + spare = ap (λ w. length here * w) wide ∙ enough in
    let behind = count_none (is_missing here there) (0 + count) spare (λ place past. ap (λ value. value && not (is_set_in there place)) (packed_here.unused place (omega arith))) in
    words_counted here there width wide (packed_here.enough ∙ sym packed_there.enough) packed_here.small packed_there.small
    ∙ ap (λ n. count_by (is_missing here there) (range_with_len 0 n)) whole
    ∙ count_joined (is_missing here there) 0 count spare
    ∙ ap (λ n. count_by (is_missing here there) (range_with_len 0 count) + n) behind
    ∙ add-zero (count_by (is_missing here there) (range_with_len 0 count))
    ∙ sym (zip_counted (is_set_in here) (is_set_in there) (range_with_len 0 count))

-- the ones of the words are the values that are missing
pub missing_counted : (count : ℕ) (here there : List ℕ) → IsPacked count here → IsPacked count there → missing_in_words here there ≡ missing (values_of count here) (values_of count there)
missing_counted count here there packed_here packed_there = missing_by_width count here there 64 refl packed_here packed_there

missing_below : (count : ℕ) (here there : List ℕ) → missing (values_of count here) (values_of count there) ≤ count
missing_below count here there =
    omega (arith, zip_counted (is_set_in here) (is_set_in there) (range_with_len 0 count), count_by-le-length (is_missing here there) (range_with_len 0 count), length-range_with_len 0 count)

-- the same, where the two rows have as many values
pub missing_told : (count others : ℕ) (here there : List ℕ) → count ≡ others → IsPacked count here → IsPacked others there → missing_in_words here there ≡ missing (values_of count here) (values_of others there)
missing_told count others here there same packed_here packed_there =
    missing_counted count here there packed_here (subst (λ (n : ℕ). IsPacked n there) (sym same) packed_there) ∙ ap (λ n. missing (values_of count here) (values_of n there)) same

-- no more values are missing than there are
pub missing_within : (count others : ℕ) (here there : List ℕ) → count ≡ others → IsPacked count here → IsPacked others there → missing_in_words here there < 2 ^ 32
missing_within count others here there same packed_here packed_there =
    lt_of_le_of_lt
    (le_trans (le_of_eq (missing_counted count here there packed_here (subst (λ (n : ℕ). IsPacked n there) (sym same) packed_there))) (missing_below count here there))
    packed_here.few
