-- What is the same of words that have one type: its name, its number, and its fault.
use Rattle.std.proofs.Common.{◌≡◌, ℕ, zero, suc, ◌<◌, ◌≤◌, ◌+◌, ◌-◌, List, [], ◌∷◌, ◌++◌, map, flat_map, take, length, get_or, true, ◌||◌, Option, unwrap_or, option_map, if◌then◌else◌, bytes_eq, refl, sym, ap, subst, ◌∙◌, inl, inr, ◌⊎◌, arith}
use Rattle.std.specs.Prelude.{Any}
use Rattle.std.proofs.lemmas.List.{map_more, get_or-map, get_or-take, get_or_default, length-take-le, length-map}
use Rattle.std.proofs.lemmas.List.Folds.{list_any-append}
use Rattle.pddl_forms.specs.declared.texts.Typed.{Typed}
use Rattle.pddl_forms.specs.SharedTypes.{IsLikeLast}
use Rattle.ground_state.specs.declared.parts.ObjectEntry.{ObjectEntry}
use Rattle.pddl_task.specs.declared.fault.Fault.{Fault}
use Rattle.pddl_task.specs.Names.{with_name, with_names, is_among, number_of}
use Rattle.pddl_task.specs.Types.{root, text_of, mentioned, type_of, type_names, type_number}
use Rattle.pddl_task.specs.Faults.{IsFirst, IsUnknownType}
use Rattle.pddl_task.specs.Parts.{object_of}
use Rattle.pddl_task.proofs.Anys.{any_left, any_split, any_one}
use Rattle.pddl_task.proofs.Among.{among_all}
use Rattle.pddl_task.proofs.First.{first_same}
use Rattle.pddl_task.proofs.NamesOf.{one_more}
use Rattle.pddl_task.proofs.TypeNames.{mentioned_more}
use Rattle.pddl_task.proofs.TypeParents.{type_there}

-- the type of two words that are given one
same_type : (one other : Typed) → one.of ≡ other.of → type_of one ≡ type_of other
same_type one other same = ap (λ of. unwrap_or (option_map text_of of) root) same

-- a name that is there is not added, and one that is there stays there
already : (name : List ℕ) (names : List (List ℕ)) → is_among name names ≡ true → with_name names name ≡ names
already name names there = ap (λ b. if b then names else names ++ name ∷ []) there

still_there : (name other : List ℕ) (names : List (List ℕ)) → is_among name names ≡ true → is_among name (with_name names other) ≡ true
still_there name other names there = among_all name names (other ∷ []) ∙ list_any-append (bytes_eq name) names (other ∷ []) ∙ ap (λ b. b || is_among name (other ∷ [])) there

-- the word before one that has its type
module _ (list : List Typed) (place : ℕ) (here : Typed) (within : place < length list) (is : here ≡ get_or list place here) (like : IsLikeLast list place) where
  abbrev last : Typed
  last = get_or list (place - 1) here

  last_of : last.of ≡ here.of
  last_of = sym (like.1 here) ∙ ap (λ (t : Typed). t.of) (sym is)

  last_at : (other : Typed) → last ≡ get_or (take place list) (place - 1) other
  last_at other =
      let some = like.0 in
      get_or_default list (place - 1) here other (omega (arith, within)) ∙ sym (get_or-take place list (place - 1) other (omega (arith, some)))

  last_within : place - 1 < length (take place list)
  last_within = let some = like.0 in omega (arith, some, length-take-le place list (omega (arith, within)))

  -- the number of its type is that of the type of the last
  pub number_again : (names : List (List ℕ)) (before : List ℕ) → before ≡ map (type_number names) (take place list) → get_or before (place - 1) 0 ≡ type_number names here
  number_again names before are =
      ap (λ l. get_or l (place - 1) 0) are
      ∙ get_or-map (type_number names) (take place list) (place - 1) here 0 last_within
      ∙ ap (type_number names) (sym (last_at here))
      ∙ ap (number_of names) (same_type last here last_of)

  pub last_low : (names : List (List ℕ)) (before : List ℕ) → before ≡ map (type_number names) (take place list) → place - 1 < length before
  last_low names before are = let long = ap length are ∙ length-map (take place list) (type_number names) in omega (arith, long, last_within)

  -- its type is among those that are mentioned before it
  pub mentioned_again : with_names (root ∷ []) (flat_map mentioned (take (place + 1) list)) ≡ with_name (with_names (root ∷ []) (flat_map mentioned (take place list))) here.word.text
  mentioned_again =
      let known = ap (λ name. is_among name (type_names (take place list))) (sym (same_type last here last_of)) ∙ type_there (take place list) (place - 1) last last_within (last_at last) in
      mentioned_more list place here within is ∙ already (type_of here) (with_name (type_names (take place list)) here.word.text) (still_there (type_of here) here.word.text (type_names (take place list)) known)

  -- its fault is that of the last
  pub fault_again : (types : List (List ℕ)) (first : Option Fault) → IsFirst (λ fault. Any (IsUnknownType types fault) (take place list)) first → IsFirst (λ fault. Any (IsUnknownType types fault) (take (place + 1) list)) first
  fault_again types first is_first =
      subst (λ (l : List Typed). IsFirst (λ fault. Any (IsUnknownType types fault) l) first) (sym (one_more list place here within is))
      (first_same (λ fault. Any (IsUnknownType types fault) (take place list)) (λ fault. Any (IsUnknownType types fault) (take place list ++ here ∷ [])) first
      (λ fault some. any_left (IsUnknownType types fault) (take place list) (here ∷ []) some)
      (λ fault some. elim (any_split (IsUnknownType types fault) (take place list) (here ∷ []) some) [
        | inl before ↦ before
        | inr last_one ↦ (let has = any_one (IsUnknownType types fault) here last_one in (place - 1, last, last_within, sym (last_at last), (has.0, last_of ∙ has.1, has.2, has.3)))
      ])
      is_first)

-- the numbers of the words before one, and its own
pub number_next : (names : List (List ℕ)) (list : List Typed) (place : ℕ) (here : Typed) (before : List ℕ) (number : ℕ) → place < length list → here ≡ get_or list place here
    → before ≡ map (type_number names) (take place list) → number ≡ type_number names here → before ++ number ∷ [] ≡ map (type_number names) (take (place + 1) list)
number_next names list place here before number within is are is_number =
    ap (λ l. l ++ number ∷ []) are
    ∙ ap (λ n. map (type_number names) (take place list) ++ n ∷ []) (is_number ∙ ap (type_number names) is)
    ∙ sym (map_more (type_number names) list place here within)

-- there are as many numbers as words
pub numbers_long : (names : List (List ℕ)) (list : List Typed) (numbers : List ℕ) → numbers ≡ map (type_number names) list → length numbers ≡ length list
numbers_long names list numbers are = ap length are ∙ length-map list (type_number names)

-- the number at a place
pub number_at : (names : List (List ℕ)) (list : List Typed) (place : ℕ) (here : Typed) (numbers : List ℕ) → place < length list → here ≡ get_or list place here
    → numbers ≡ map (type_number names) list → get_or numbers place 0 ≡ type_number names here
number_at names list place here numbers within is are =
    ap (λ l. get_or l place 0) are ∙ get_or-map (type_number names) list place here 0 within ∙ ap (type_number names) (sym is)

-- the first fault of some words is that of the same words
pub unknown_in : (types : List (List ℕ)) (list items : List Typed) (first : Option Fault) → items ≡ list → IsFirst (λ fault. Any (IsUnknownType types fault) list) first → IsFirst (λ fault. Any (IsUnknownType types fault) items) first
unknown_in types list items first same is = subst (λ (l : List Typed). IsFirst (λ fault. Any (IsUnknownType types fault) l) first) (sym same) is

-- the word at a place of the same words
pub at_same : (list items : List Typed) (place : ℕ) (here : Typed) → here ≡ get_or items place here → items ≡ list → here ≡ get_or list place here
at_same list items place here is same = is ∙ ap (λ (l : List Typed). get_or l place here) same

-- an object of this name whose type has this number
abbrev numbered : List ℕ → ℕ → ObjectEntry
numbered name number = record { name = name; of = number }

pub object_made : (types : List (List ℕ)) (here : Typed) (name : List ℕ) (number : ℕ) → name ≡ here.word.text → number ≡ type_number types here → numbered name number ≡ object_of types here
object_made types here name number is_name is_number = ap (λ n. numbered n number) is_name ∙ ap (numbered here.word.text) is_number
