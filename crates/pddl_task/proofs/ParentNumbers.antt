-- The numbers of the parents of types, as they are written from the last word of `:types` to the first.
use Rattle.std.proofs.Common.{◌≡◌, ℕ, zero, suc, Bool, true, false, cond, find, Some, option_map, unwrap_or, ◌∷◌, ◌<◌, ◌≤◌, ◌+◌, ◌-◌, List, [], length, map, set, drop, get_or, replicate, flat_map, if◌then◌else◌, bytes_eq, refl, sym, ap, subst, ◌∙◌, arith}
use Rattle.std.proofs.lemmas.List.{drop_all, length-map}
use Rattle.std.proofs.lemmas.Simd.{splat_is_map}
use Rattle.pddl_forms.specs.declared.texts.Typed.{Typed}
use Rattle.pddl_task.specs.Names.{number_of, is_among}
use Rattle.pddl_task.specs.Types.{root, mentioned, type_of, type_names, type_number, given_parent, parent_of}
use Rattle.pddl_task.specs.Inner.Names.{AreApart}
use Rattle.pddl_task.proofs.StillApart.{types_apart}
use Rattle.pddl_task.proofs.TypeParents.{begins, number_there, word_there}
use Rattle.pddl_task.proofs.Written.{turned, but_one, written}

-- for each name the number of the parent that some words give it
abbrev pub given_numbers : List (List ℕ) → List Typed → List ℕ
given_numbers names types = map (λ (name : List ℕ). number_of names (given_parent types name)) names

-- for each name the number of its parent
abbrev pub numbers_of_parents : List (List ℕ) → List Typed → List ℕ
numbers_of_parents names types = map (λ (name : List ℕ). number_of names (parent_of types name)) names

pub some_types : (types : List Typed) → 0 < length (type_names types)
some_types types = subst (λ (names : List (List ℕ)). 0 < length names) (sym (begins root [] (flat_map mentioned types)).1) (omega arith)

pub root_first : (types : List Typed) → number_of (type_names types) root ≡ 0
root_first types = ap (λ names. number_of names root) (begins root [] (flat_map mentioned types)).1

-- no words give each name the root
pub given_by_none : (types words : List Typed) (names : List (List ℕ)) (n i : ℕ) → names ≡ type_names types → n ≡ length names → length words ≤ i → replicate n 0 ≡ given_numbers names (drop i words)
given_by_none types words names n i are count long =
    splat_is_map names n 0 (sym count)
    ∙ ap (λ zero_number. map (λ (name : List ℕ). zero_number) names) (sym (ap (λ l. number_of l root) are ∙ root_first types))
    ∙ ap (given_numbers names) (sym (drop_all i words long))

-- the parent of a name, from a place on, by the word at that place
parent_from : (types : List Typed) (name : List ℕ) (k : ℕ) (typed : Typed) → k < length types → typed ≡ get_or types k typed
    → given_parent (drop k types) name ≡ unwrap_or (option_map type_of (cond (bytes_eq name typed.word.text) (Some typed) (find (λ (other : Typed). bytes_eq name other.word.text) (drop (suc k) types)))) root
parent_from [] name k typed within is = absurd (omega (arith, within))
parent_from (t ∷ rest) name zero typed within is = ap (λ (w : Typed). unwrap_or (option_map type_of (cond (bytes_eq name w.word.text) (Some w) (find (λ (other : Typed). bytes_eq name other.word.text) rest))) root) (sym is)
parent_from (t ∷ rest) name (suc k) typed within is = parent_from rest name k typed (omega (arith, within)) is

parent_here : (types : List Typed) (name : List ℕ) (k : ℕ) (typed : Typed) → k < length types → typed ≡ get_or types k typed → bytes_eq typed.word.text name ≡ true → given_parent (drop k types) name ≡ type_of typed
parent_here types name k typed within is same =
    parent_from types name k typed within is
    ∙ ap (λ b. unwrap_or (option_map type_of (cond b (Some typed) (find (λ (other : Typed). bytes_eq name other.word.text) (drop (suc k) types)))) root) (turned typed.word.text name true same)

parent_later : (types : List Typed) (name : List ℕ) (k : ℕ) (typed : Typed) → k < length types → typed ≡ get_or types k typed → bytes_eq typed.word.text name ≡ false → given_parent (drop k types) name ≡ given_parent (drop (k + 1) types) name
parent_later types name k typed within is other =
    let next : suc k ≡ k + 1 = omega arith in
    parent_from types name k typed within is
    ∙ ap (λ b. unwrap_or (option_map type_of (cond b (Some typed) (find (λ (other : Typed). bytes_eq name other.word.text) (drop (suc k) types)))) root) (turned typed.word.text name false other)
    ∙ ap (λ j. given_parent (drop j types) name) next

-- one more word before those that were gone through
pub given_more : (types : List Typed) (names : List (List ℕ)) (words : List Typed) (i : ℕ) (typed : Typed) → names ≡ type_names types → i < length words → typed ≡ get_or words i typed
    → set (given_numbers names (drop (i + 1) words)) (number_of names typed.word.text) (type_number names typed) ≡ given_numbers names (drop i words)
given_more types names words i typed are within is =
    written (λ (name : List ℕ). number_of names (given_parent (drop (i + 1) words) name)) typed.word.text (type_number names typed) names (subst AreApart (sym are) (types_apart types))
    ∙ ap (λ f. map f names) (λ k name. same name k)
  where
    same : (name : List ℕ) → but_one (λ (other : List ℕ). number_of names (given_parent (drop (i + 1) words) other)) typed.word.text (type_number names typed) name ≡ number_of names (given_parent (drop i words) name)
    same name = by (bytes_eq name typed.word.text) refl
      where
        by : (b : Bool) → bytes_eq name typed.word.text ≡ b → (if b then type_number names typed else number_of names (given_parent (drop (i + 1) words) name)) ≡ number_of names (given_parent (drop i words) name)
        by true here = ap (number_of names) (sym (parent_here words name i typed within is (turned name typed.word.text true here)))
        by false other = ap (number_of names) (sym (parent_later words name i typed within is (turned name typed.word.text false other)))

-- the word before a place is written at the number of its name
module _ (types : List Typed) (names : List (List ℕ)) (before : List ℕ) (place n v : ℕ) (text : List ℕ) (typed : Typed)
    (are : names ≡ type_names types) (some : 0 < place) (within : place ≤ length types) (is : typed ≡ get_or types (place - 1) typed) (is_text : text ≡ typed.word.text)
    (is_n : n ≡ number_of names text) (is_before : before ≡ given_numbers names (drop place types)) where
  number_is : n ≡ number_of names typed.word.text
  number_is = is_n ∙ ap (number_of names) is_text

  pub number_low : n < length before
  number_low =
      let there : is_among typed.word.text names ≡ true = ap (is_among typed.word.text) are ∙ word_there types (place - 1) typed (omega (arith, some, within)) is in
      let low = number_there names typed.word.text there in
      let long : length before ≡ length names = ap length is_before ∙ length-map names (λ (name : List ℕ). number_of names (given_parent (drop place types) name)) in
      omega (arith, low, long, number_is)

  pub given_before : v ≡ type_number names typed → set before n v ≡ given_numbers names (drop (place - 1) types)
  given_before is_v =
      let next : place ≡ (place - 1) + 1 = omega (arith, some) in
      ap (λ l. set l n v) (is_before ∙ ap (λ k. given_numbers names (drop k types)) next)
      ∙ ap (λ k. set (given_numbers names (drop ((place - 1) + 1) types)) k v) number_is
      ∙ ap (set (given_numbers names (drop ((place - 1) + 1) types)) (number_of names typed.word.text)) is_v
      ∙ given_more types names types (place - 1) typed are (omega (arith, some, within)) is

-- the root is given itself
pub root_written : (types : List Typed) (names : List (List ℕ)) → names ≡ type_names types → set (given_numbers names types) 0 0 ≡ numbers_of_parents names types
root_written types names are =
    ap (λ n. set (given_numbers names types) n 0) (sym zero_number)
    ∙ written (λ (name : List ℕ). number_of names (given_parent types name)) root 0 names (subst AreApart (sym are) (types_apart types))
    ∙ ap (λ f. map f names) (λ k name. same name (bytes_eq name root) k)
  where
    zero_number : number_of names root ≡ 0
    zero_number = ap (λ l. number_of l root) are ∙ root_first types

    same : (name : List ℕ) (b : Bool) → (if b then 0 else number_of names (given_parent types name)) ≡ number_of names (if b then root else given_parent types name)
    same name true = sym zero_number
    same name false = refl
