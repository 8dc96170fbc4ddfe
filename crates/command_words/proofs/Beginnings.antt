-- The use of an option that words begin with, and where they begin with none.
use Rattle.std.proofs.Common.{◌≡◌, ◌≢◌, ℕ, ◌<◌, List, [], ◌∷◌, ◌++◌, length, map, codes, sym, ◌∙◌, ap, subst, inl, inr, arith}
use Rattle.std.specs.Prelude.{All}
use Rattle.std.specs.Str.Pattern.{FindsTextPrefix, StripsPrefix}
use Rattle.std.proofs.lemmas.List.{length-map, map-append}
use Rattle.std.proofs.lemmas.List.Elements.{All-push}
use Rattle.command_words.specs.declared.scanning.OptionUse.{OptionUse}
use Rattle.command_words.specs.Words.{Use, AreUsesThen, AreWordsOf, apart, joined}
use Rattle.command_words.specs.Inner.Scanning.{use_of, HasNoEquals, BeginsWith, BeginsWithNoUse}
use Rattle.command_words.proofs.Cuts.{begun, joined_is, more_uses, no_equals_within}

-- no words begin with no use
pub no_words : {X : Type 0} (f : X → List ℕ) (xs : List X) → length xs < 1 → BeginsWithNoUse (map f xs)
no_words f xs few used others is =
    elim (begun used others (map f xs) is) [
      | inl words ↦ let long = ap length words in absurd (omega (arith, few, long, length-map xs f))
      | inr words ↦ let long = ap length words in absurd (omega (arith, few, long, length-map xs f))
    ]

-- nor do those whose first word does not begin with two dashes
pub no_dashes : (word : List ℕ) (rest words : List (List ℕ)) → words ≡ word ∷ rest → ((option : List ℕ) → word ≢ 45 ∷ 45 ∷ option) → BeginsWithNoUse words
no_dashes word rest words words_are none used others is =
    elim (begun used others words is) [
      | inl begins ↦ let both = sym words_are ∙ begins in let first : word ≡ 45 ∷ 45 ∷ used.name = cc in none used.name first
      | inr begins ↦ let both = sym words_are ∙ begins in let first : word ≡ 45 ∷ 45 ∷ (used.name ++ (61 ∷ used.value)) = cc in none (used.name ++ (61 ∷ used.value)) first
    ]

-- nor does a last word without a `=`
pub no_value : {X : Type 0} (f : X → List ℕ) (word option : List ℕ) (rest : List X) (words : List (List ℕ)) → words ≡ word ∷ map f rest → word ≡ 45 ∷ 45 ∷ option → HasNoEquals option → length rest < 1 → BeginsWithNoUse words
no_value f word option rest words words_are word_is none few used others is =
    elim (begun used others words is) [
      | inl begins ↦ let long = ap length (sym words_are ∙ begins) in absurd (omega (arith, few, long, length-map rest f))
      | inr begins ↦
          let both = sym words_are ∙ begins in
          let first : word ≡ 45 ∷ 45 ∷ (used.name ++ (61 ∷ used.value)) = cc in
          let again = sym word_is ∙ first in
          let same : option ≡ used.name ++ (61 ∷ used.value) = cc in
          no_equals_within used.name used.value (subst HasNoEquals same none)
    ]

-- a word with a `=`, and two words
pub in_one_word : (word option name value : List ℕ) (others words : List (List ℕ)) → words ≡ word ∷ others → word ≡ 45 ∷ 45 ∷ option → option ≡ name ++ (61 ∷ value) → HasNoEquals name → BeginsWith (record { name = name; value = value }) others words
in_one_word word option name value others words words_are word_is option_is none =
    record {
      front = (45 ∷ 45 ∷ (name ++ (61 ∷ value))) ∷ [];
      are_words = subst (AreWordsOf (record { name = name; value = value })) (joined_is (record { name = name; value = value })) joined;
      begins = words_are ∙ ap (λ (w : List ℕ). w ∷ others) (word_is ∙ ap (λ (o : List ℕ). 45 ∷ 45 ∷ o) option_is);
      first_equals = none;
    }

pub in_two_words : (word name value : List ℕ) (others words : List (List ℕ)) → words ≡ word ∷ value ∷ others → word ≡ 45 ∷ 45 ∷ name → HasNoEquals name → BeginsWith (record { name = name; value = value }) others words
in_two_words word name value others words words_are word_is none =
    record {
      front = (45 ∷ 45 ∷ name) ∷ value ∷ [];
      are_words = apart;
      begins = words_are ∙ ap (λ (w : List ℕ). w ∷ value ∷ others) word_is;
      first_equals = none;
    }

-- what `strip_prefix` leaves of an option
pub stripped : (word option : List ℕ) → StripsPrefix (FindsTextPrefix (codes "--")) word option → word ≡ 45 ∷ 45 ∷ option
stripped word option is = is.1.1 ∙ ap (λ (o : List ℕ). 45 ∷ 45 ∷ o) (sym is.2)

-- behind the uses so far stands one more
pub cut_more : (uses uses_too : List OptionUse) (first : OptionUse) (others names words : List (List ℕ)) → uses_too ≡ uses ++ first ∷ [] → AreUsesThen (map use_of uses) names words → BeginsWith (use_of first) others names → AreUsesThen (map use_of uses_too) others words
cut_more uses uses_too first others names words more are begins =
    subst (λ (l : List Use). AreUsesThen l others words) (sym (ap (map use_of) more ∙ map-append use_of uses (first ∷ []))) (more_uses (map use_of uses) (use_of first) others names words are begins)

pub equals_more : (uses uses_too : List OptionUse) (first : OptionUse) → uses_too ≡ uses ++ first ∷ [] → All (λ used. HasNoEquals used.name) (map use_of uses) → HasNoEquals (use_of first).name → All (λ used. HasNoEquals used.name) (map use_of uses_too)
equals_more uses uses_too first more all here =
    subst (λ (l : List Use). All (λ used. HasNoEquals used.name) l) (sym (ap (map use_of) more ∙ map-append use_of uses (first ∷ []))) (All-push (λ used. HasNoEquals used.name) (map use_of uses) (use_of first) all here)
