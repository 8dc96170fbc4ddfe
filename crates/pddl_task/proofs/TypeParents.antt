-- The names of types begin with `object`, and hold every word of `:types` and its parent.
use Rattle.std.proofs.Common.{◌≡◌, ℕ, zero, suc, ◌<◌, ◌+◌, Bool, true, false, not, ◌||◌, cond, List, [], ◌∷◌, ◌++◌, length, map, get_or, slice_index, flat_map, Some, option_map, unwrap_or, if◌then◌else◌, find, bytes_eq, refl, sym, ap, subst, ◌∙◌, inl, inr, true≢false, ◌⊎◌, arith}
use Rattle.std.specs.Prelude.{All}
use Rattle.std.proofs.lemmas.List.{length-map, get_or-map}
use Rattle.std.proofs.lemmas.Slice.Eq.{bytes_eq-Decides}
use Rattle.ground_state.specs.declared.parts.TypeEntry.{TypeEntry}
use Rattle.pddl_forms.specs.declared.texts.Typed.{Typed}
use Rattle.pddl_task.specs.Names.{with_names, number_of, is_among}
use Rattle.pddl_task.specs.Types.{root, mentioned, type_of, type_names, given_parent, parent_of, entry_of, types_of}
use Rattle.pddl_task.proofs.Among.{among_all}
use Rattle.pddl_task.proofs.Ancestors.{parents}

-- a name that is there has a number in range
pub number_there : (names : List (List ℕ)) (name : List ℕ) → is_among name names ≡ true → number_of names name < length names
number_there [] name there = absurd (true≢false (sym there))
number_there (other ∷ rest) name there = by (number_there rest name) (bytes_eq name other) there
  where
    by : (is_among name rest ≡ true → number_of rest name < length rest) → (b : Bool) → (b || is_among name rest) ≡ true → cond (not b) (1 + number_of rest name) 0 < suc (length rest)
    by low true there = omega arith
    by low false there = let less = low there in omega (arith, less)

-- names that begin with one still do so with others after them
pub begins : (name : List ℕ) (rest others : List (List ℕ)) → (more : List (List ℕ)) × (with_names (name ∷ rest) others ≡ name ∷ more)
begins name rest [] = (rest, refl)
begins name rest (other ∷ others) = by (λ start. begins name start others) (is_among other (name ∷ rest))
  where
    by : ((start : List (List ℕ)) → (more : List (List ℕ)) × (with_names (name ∷ start) others ≡ name ∷ more)) → (b : Bool) → (more : List (List ℕ)) × (with_names (if b then name ∷ rest else name ∷ (rest ++ other ∷ [])) others ≡ name ∷ more)
    by first true = first rest
    by first false = first (rest ++ other ∷ [])

itself : (name : List ℕ) → bytes_eq name name ≡ true
itself name = (bytes_eq-Decides name name).1 refl

or_true : (b : Bool) → (b || true) ≡ true
or_true true = refl
or_true false = refl

pub root_there : (types : List Typed) → is_among root (type_names types) ≡ true
root_there types = among_all root (root ∷ []) (flat_map mentioned types)

later : (a b c : Bool) → c ≡ true → (a || (b || c)) ≡ true
later a b c is = ap (λ d. a || (b || d)) is ∙ ap (λ d. a || d) (or_true b) ∙ or_true a

here : (a b c : Bool) → b ≡ true → (a || (b || c)) ≡ true
here a b c is = ap (λ d. a || (d || c)) is ∙ or_true a

-- what `:types` mentions is the name of a type
pub mentioned_there : (types : List Typed) (name : List ℕ) → is_among name (flat_map mentioned types) ≡ true → is_among name (type_names types) ≡ true
mentioned_there types name is = among_all name (root ∷ []) (flat_map mentioned types) ∙ ap (λ b. bytes_eq name root || b) is ∙ or_true (bytes_eq name root)

-- a word of `:types` is the name of a type
pub word_there : (types : List Typed) (k : ℕ) (typed : Typed) → k < length types → typed ≡ get_or types k typed → is_among typed.word.text (type_names types) ≡ true
word_there types k typed within is = mentioned_there types typed.word.text (from types k within is)
  where
    from : (rest : List Typed) (i : ℕ) → i < length rest → typed ≡ get_or rest i typed → is_among typed.word.text (flat_map mentioned rest) ≡ true
    from [] i less same = absurd (omega (arith, less))
    from (t ∷ rest) zero less same =
        ap (λ b. b || (bytes_eq typed.word.text (type_of t) || is_among typed.word.text (flat_map mentioned rest))) (ap (λ (w : Typed). bytes_eq typed.word.text w.word.text) (sym same) ∙ itself typed.word.text)
    from (t ∷ rest) (suc i) less same = later (bytes_eq typed.word.text t.word.text) (bytes_eq typed.word.text (type_of t)) (is_among typed.word.text (flat_map mentioned rest)) (from rest i (omega (arith, less)) same)

-- so is the parent of a word
pub type_there : (types : List Typed) (k : ℕ) (typed : Typed) → k < length types → typed ≡ get_or types k typed → is_among (type_of typed) (type_names types) ≡ true
type_there types k typed within is = mentioned_there types (type_of typed) (from types k within is)
  where
    from : (rest : List Typed) (i : ℕ) → i < length rest → typed ≡ get_or rest i typed → is_among (type_of typed) (flat_map mentioned rest) ≡ true
    from [] i less same = absurd (omega (arith, less))
    from (t ∷ rest) zero less same =
        here (bytes_eq (type_of typed) t.word.text) (bytes_eq (type_of typed) (type_of t)) (is_among (type_of typed) (flat_map mentioned rest)) (ap (λ (w : Typed). bytes_eq (type_of typed) (type_of w)) (sym same) ∙ itself (type_of typed))
    from (t ∷ rest) (suc i) less same = later (bytes_eq (type_of typed) t.word.text) (bytes_eq (type_of typed) (type_of t)) (is_among (type_of typed) (flat_map mentioned rest)) (from rest i (omega (arith, less)) same)

-- a parent of `:types` is the name of a type
pub given_there : (types : List Typed) (name : List ℕ) → is_among (given_parent types name) (type_names types) ≡ true
given_there types name = elim (from types) [
  | inl is ↦ ap (λ n. is_among n (type_names types)) is ∙ root_there types
  | inr is ↦ mentioned_there types (given_parent types name) is
]
  where
    from : (rest : List Typed) → (given_parent rest name ≡ root) ⊎ (is_among (given_parent rest name) (flat_map mentioned rest) ≡ true)
    from [] = inl refl
    from (t ∷ rest) = by (bytes_eq name t.word.text) (from rest)
      where
        by : (b : Bool) → (given_parent rest name ≡ root) ⊎ (is_among (given_parent rest name) (flat_map mentioned rest) ≡ true)
            → (unwrap_or (option_map type_of (cond b (Some t) (find (λ (typed : Typed). bytes_eq name typed.word.text) rest))) root ≡ root)
            ⊎ (is_among (unwrap_or (option_map type_of (cond b (Some t) (find (λ (typed : Typed). bytes_eq name typed.word.text) rest))) root) (flat_map mentioned (t ∷ rest)) ≡ true)
        by true one = inr (here (bytes_eq (type_of t) t.word.text) (bytes_eq (type_of t) (type_of t)) (is_among (type_of t) (flat_map mentioned rest)) (itself (type_of t)))
        by false one = elim one [
          | inl is ↦ inl is
          | inr is ↦ inr (later (bytes_eq (given_parent rest name) t.word.text) (bytes_eq (given_parent rest name) (type_of t)) (is_among (given_parent rest name) (flat_map mentioned rest)) is)
        ]

-- the parent of each type is a type
parent_there : (types : List Typed) (name : List ℕ) → is_among (parent_of types name) (type_names types) ≡ true
parent_there types name = by (bytes_eq name root)
  where
    by : (b : Bool) → is_among (if b then root else given_parent types name) (type_names types) ≡ true
    by true = root_there types
    by false = given_there types name

pub parent_at : (types : List Typed) (names : List (List ℕ)) (k : ℕ) → k < length names → slice_index (parents (map (entry_of types) names)) k ≡ number_of (type_names types) (parent_of types (get_or names k []))
parent_at types [] k within = absurd (omega (arith, within))
parent_at types (name ∷ names) zero within = refl
parent_at types (name ∷ names) (suc k) within = parent_at types names k (omega (arith, within))

pub parents_low : (types : List Typed) (k : ℕ) → k < length (types_of types) → slice_index (parents (types_of types)) k < length (types_of types)
parents_low types k within =
    let long : length (types_of types) ≡ length (type_names types) = length-map (type_names types) (entry_of types) in
    let is = parent_at types (type_names types) k (omega (arith, within, long)) in
    let low = number_there (type_names types) (parent_of types (get_or (type_names types) k [])) (parent_there types (get_or (type_names types) k [])) in
    omega (arith, is, low, long)

-- type 0 is its own parent
pub root_parent_zero : (types : List Typed) → slice_index (parents (types_of types)) 0 ≡ 0
root_parent_zero types =
    let begin = begins root [] (flat_map mentioned types) in
    let some : 0 < length (type_names types) = subst (λ names. 0 < length names) (sym begin.1) (omega arith) in
    parent_at types (type_names types) 0 some
    ∙ ap (λ name. number_of (type_names types) (parent_of types name)) (ap (λ names. get_or names 0 []) begin.1)
    ∙ ap (λ names. number_of names root) begin.1

pub parents_are_types : (types : List Typed) → All (λ (entry : TypeEntry). entry.parent < length (types_of types)) (types_of types)
parents_are_types types = λ k d within.
    let is = get_or-map (λ (entry : TypeEntry). entry.parent) (types_of types) k d 0 within in
    omega (arith, is, parents_low types k within)
