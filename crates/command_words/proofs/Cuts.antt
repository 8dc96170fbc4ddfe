-- Words are cut in one way.
use Rattle.std.proofs.Common.{◌≡◌, ℕ, zero, suc, List, [], ◌∷◌, ◌++◌, codes, refl, sym, ◌∙◌, ap, subst, inl, inr, arith}
use Rattle.std.specs.Prelude.{◌⊎◌, All, IsTrue}
use mathlib.Core.List.{append_assoc}
use Rattle.std.proofs.lemmas.Bool.{false≢true}
use Rattle.std.proofs.lemmas.List.Elements.{All-head, All-tail}
use Rattle.command_words.specs.Words.{Use, AreWordsOf, apart, joined, AreUsesThen, is_file_name}
use Rattle.command_words.specs.Inner.Scanning.{HasNoEquals, BeginsWith, BeginsWithNoUse, AreCutInto}

-- a name ends at the first `=`
pub no_equals_within : (front back : List ℕ) → HasNoEquals (front ++ (61 ∷ back)) → ⊥
no_equals_within [] back none = none zero (omega arith) refl
no_equals_within (byte ∷ front) back none = no_equals_within front back (λ i within. none (suc i) (omega (arith, within)))

pub split_same : (one other value value_too : List ℕ) → HasNoEquals one → HasNoEquals other → one ++ (61 ∷ value) ≡ other ++ (61 ∷ value_too) → (one ≡ other) × (value ≡ value_too)
split_same [] [] value value_too none none_too same =
    let later : value ≡ value_too = cc in
    (refl, later)
split_same [] (byte ∷ other) value value_too none none_too same =
    let first : 61 ≡ byte = cc in
    absurd (none_too zero (omega arith) (sym first))
split_same (byte ∷ one) [] value value_too none none_too same =
    let first : byte ≡ 61 = cc in
    absurd (none zero (omega arith) first)
split_same (byte ∷ one) (byte_too ∷ other) value value_too none none_too same =
    let first : byte ≡ byte_too = cc in
    let later : one ++ (61 ∷ value) ≡ other ++ (61 ∷ value_too) = cc in
    let parts = split_same one other value value_too (λ i within. none (suc i) (omega (arith, within))) (λ i within. none_too (suc i) (omega (arith, within))) later in
    (λ i. first i ∷ parts.0 i, parts.1)

-- the words of an option
pub joined_is : (used : Use) → (codes "--" ++ used.name ++ codes "=" ++ used.value) ∷ [] ≡ (45 ∷ 45 ∷ (used.name ++ (61 ∷ used.value))) ∷ []
joined_is used = ap (λ (word : List ℕ). word ∷ []) (append_assoc (codes "--" ++ used.name) (codes "=") used.value)

words_of : (used : Use) {front : List (List ℕ)} → AreWordsOf used front → (front ≡ (45 ∷ 45 ∷ used.name) ∷ used.value ∷ []) ⊎ (front ≡ (45 ∷ 45 ∷ (used.name ++ (61 ∷ used.value))) ∷ [])
words_of used apart = inl refl
words_of used joined = inr (joined_is used)

pub begun : (used : Use) (others words : List (List ℕ)) → BeginsWith used others words → (words ≡ (45 ∷ 45 ∷ used.name) ∷ used.value ∷ others) ⊎ (words ≡ (45 ∷ 45 ∷ (used.name ++ (61 ∷ used.value))) ∷ others)
begun used others words is =
    elim (words_of used is.are_words) [
      | inl front ↦ inl (is.begins ∙ ap (λ (f : List (List ℕ)). f ++ others) front)
      | inr front ↦ inr (is.begins ∙ ap (λ (f : List (List ℕ)). f ++ others) front)
    ]

apart_twice : (used used_too : Use) (others others_too words : List (List ℕ)) → words ≡ (45 ∷ 45 ∷ used.name) ∷ used.value ∷ others → words ≡ (45 ∷ 45 ∷ used_too.name) ∷ used_too.value ∷ others_too → (used ≡ used_too) × (others ≡ others_too)
apart_twice used used_too others others_too words p q =
    let both = sym p ∙ q in
    let name : used.name ≡ used_too.name = cc in
    let value : used.value ≡ used_too.value = cc in
    let later : others ≡ others_too = cc in
    (λ i. record { name = name i; value = value i }, later)

joined_twice : (used used_too : Use) (others others_too words : List (List ℕ)) → HasNoEquals used.name → HasNoEquals used_too.name → words ≡ (45 ∷ 45 ∷ (used.name ++ (61 ∷ used.value))) ∷ others → words ≡ (45 ∷ 45 ∷ (used_too.name ++ (61 ∷ used_too.value))) ∷ others_too → (used ≡ used_too) × (others ≡ others_too)
joined_twice used used_too others others_too words none none_too p q =
    let both = sym p ∙ q in
    let word : used.name ++ (61 ∷ used.value) ≡ used_too.name ++ (61 ∷ used_too.value) = cc in
    let later : others ≡ others_too = cc in
    let parts = split_same used.name used_too.name used.value used_too.value none none_too word in
    (λ i. record { name = parts.0 i; value = parts.1 i }, later)

apart_or_joined : (used used_too : Use) (others others_too words : List (List ℕ)) → HasNoEquals used.name → words ≡ (45 ∷ 45 ∷ used.name) ∷ used.value ∷ others → words ≡ (45 ∷ 45 ∷ (used_too.name ++ (61 ∷ used_too.value))) ∷ others_too → ⊥
apart_or_joined used used_too others others_too words none p q =
    let both = sym p ∙ q in
    let word : used.name ≡ used_too.name ++ (61 ∷ used_too.value) = cc in
    no_equals_within used_too.name used_too.value (subst HasNoEquals word none)

-- words begin with one use at most
pub one_beginning : (used used_too : Use) (others others_too words : List (List ℕ)) → BeginsWith used others words → BeginsWith used_too others_too words → (used ≡ used_too) × (others ≡ others_too)
one_beginning used used_too others others_too words is is_too =
    by_words (begun used others words is) (begun used_too others_too words is_too)
  where
    by_words : (words ≡ (45 ∷ 45 ∷ used.name) ∷ used.value ∷ others) ⊎ (words ≡ (45 ∷ 45 ∷ (used.name ++ (61 ∷ used.value))) ∷ others) → (words ≡ (45 ∷ 45 ∷ used_too.name) ∷ used_too.value ∷ others_too) ⊎ (words ≡ (45 ∷ 45 ∷ (used_too.name ++ (61 ∷ used_too.value))) ∷ others_too) → (used ≡ used_too) × (others ≡ others_too)
    by_words (inl p) (inl q) = apart_twice used used_too others others_too words p q
    by_words (inl p) (inr q) = absurd (apart_or_joined used used_too others others_too words is.first_equals p q)
    by_words (inr p) (inl q) = absurd (apart_or_joined used_too used others_too others words is_too.first_equals q p)
    by_words (inr p) (inr q) = joined_twice used used_too others others_too words is.first_equals is_too.first_equals p q

-- names of files begin with no option
dash_first : (word : List ℕ) (others names : List (List ℕ)) → All (λ name. IsTrue (is_file_name name)) names → names ≡ (45 ∷ word) ∷ others → ⊥
dash_first word others names all is =
    false≢true (All-head (λ name. IsTrue (is_file_name name)) (45 ∷ word) others (subst (λ (l : List (List ℕ)). All (λ name. IsTrue (is_file_name name)) l) is all))

pub no_use : (names : List (List ℕ)) → All (λ name. IsTrue (is_file_name name)) names → BeginsWithNoUse names
no_use names all used others is =
    elim (begun used others names is) [
      | inl words ↦ dash_first (45 ∷ used.name) (used.value ∷ others) names all words
      | inr words ↦ dash_first (45 ∷ (used.name ++ (61 ∷ used.value))) others names all words
    ]

-- behind some uses stands one more
pub more_uses : (uses : List Use) (used : Use) (others words all : List (List ℕ)) → AreUsesThen uses words all → BeginsWith used others words → AreUsesThen (uses ++ used ∷ []) others all
more_uses [] used others words all are begins = (begins.front, others, begins.are_words, are ∙ begins.begins, refl)
more_uses (first ∷ uses) used others words all are begins = (are.0, are.1, are.2, are.3, more_uses uses used others words are.1 are.4 begins)

first_of_uses : (used : Use) (uses : List Use) (names words : List (List ℕ)) (are : AreUsesThen (used ∷ uses) names words) → All (λ u. HasNoEquals u.name) (used ∷ uses) → BeginsWith used are.1 words
first_of_uses used uses names words are none =
    record { front = are.0; are_words = are.2; begins = are.3; first_equals = All-head (λ u. HasNoEquals u.name) used uses none }

one_cut_by_parts : (uses uses_too : List Use) (names names_too words : List (List ℕ)) → AreUsesThen uses names words → AreUsesThen uses_too names_too words → All (λ u. HasNoEquals u.name) uses → All (λ u. HasNoEquals u.name) uses_too → BeginsWithNoUse names → BeginsWithNoUse names_too → (uses ≡ uses_too) × (names ≡ names_too)
one_cut_by_parts [] [] names names_too words p q none none_too end end_too = (refl, sym p ∙ q)
one_cut_by_parts [] (used ∷ uses) names names_too words p q none none_too end end_too =
    absurd (end used q.1 (subst (λ (l : List (List ℕ)). BeginsWith used q.1 l) p (first_of_uses used uses names_too words q none_too)))
one_cut_by_parts (used ∷ uses) [] names names_too words p q none none_too end end_too =
    absurd (end_too used p.1 (subst (λ (l : List (List ℕ)). BeginsWith used p.1 l) q (first_of_uses used uses names words p none)))
one_cut_by_parts (used ∷ uses) (used_too ∷ uses_too) names names_too words p q none none_too end end_too =
    let first = one_beginning used used_too p.1 q.1 words (first_of_uses used uses names words p none) (first_of_uses used_too uses_too names_too words q none_too) in
    let later = one_cut_by_parts uses uses_too names names_too p.1 p.4 (subst (λ (l : List (List ℕ)). AreUsesThen uses_too names_too l) (sym first.1) q.4) (All-tail (λ u. HasNoEquals u.name) used uses none) (All-tail (λ u. HasNoEquals u.name) used_too uses_too none_too) end end_too in
    (λ i. first.0 i ∷ later.0 i, later.1)

pub one_cut : (uses uses_too : List Use) (names names_too words : List (List ℕ)) → AreCutInto uses names words → AreCutInto uses_too names_too words → (uses ≡ uses_too) × (names ≡ names_too)
one_cut uses uses_too names names_too words p q =
    one_cut_by_parts uses uses_too names names_too words p.spelled q.spelled p.first_equals q.first_equals p.no_more q.no_more
