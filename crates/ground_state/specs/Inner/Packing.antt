-- How truth values are packed into words: a word has 64 places, and the first is its lowest bit.
use Rattle.std.specs.Prelude.{ℕ, ◌≡◌, ◌≢◌, ◌≤◌, ◌<◌, ◌/◌, ◌%◌, ◌^◌, ◌==◌, Bool, false, List, map, zip, length, slice_index, sum_by, All, bit_and, count_ones}
use Rattle.std.specs.Int.{w64, bit_at, bit_not, div_ceil}
use Rattle.std.specs.List.{range_with_len}

-- whether the value at a place of a word is true
abbrev pub is_set : ℕ → ℕ → Bool
is_set word place = bit_at word place == 1

-- whether the value at a place of a row of words is true
abbrev pub is_set_in : List ℕ → ℕ → Bool
is_set_in words place = is_set (slice_index words (place / 64)) (place % 64)

-- so many truth values, from the first place of the words on
abbrev pub values_of : ℕ → List ℕ → List Bool
values_of count words = map (is_set_in words) (range_with_len 0 count)

-- the words are just enough for so many values, and no place behind those is true
pub record IsPacked (count : ℕ) (words : List ℕ) : Type 0 where
  pub few : count < 2 ^ 32
  pub enough : length words ≡ div_ceil count 64
  pub small : All (λ word. word < 2 ^ 64) words
  pub unused : (place : ℕ) → count ≤ place → is_set_in words place ≡ false

-- a word in which one place has this value, and each other place the value that it has in an earlier word
pub record IsChangedAt (place : ℕ) (value : Bool) (earlier word : ℕ) : Type 0 where
  pub here : is_set word place ≡ value
  pub others : (other : ℕ) → other < 64 → other ≢ place → is_set word other ≡ is_set earlier other
  pub small : word < 2 ^ 64

-- at how many places a word is true and another is false
abbrev pub missing_in_word : ℕ → ℕ → ℕ
missing_in_word here there = count_ones (bit_and here (bit_not w64 there))

-- at how many places a row of words is true and another is false
abbrev pub missing_in_words : List ℕ → List ℕ → ℕ
missing_in_words here there = sum_by (λ pair. missing_in_word pair.0 pair.1) (zip here there)
