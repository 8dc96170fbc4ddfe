-- The types of a domain that was read and has no fault fit together.
use Rattle.std.proofs.Common.{◌≡◌, ℕ, Bool, true, false, ◌<◌, List, [], ◌∷◌, length, map, get_or, slice_get, flat_map, Option, Some, None, option_map, unwrap_or, if◌then◌else◌, find, bytes_eq, refl, sym, ap, subst, ◌∙◌}
use Rattle.std.specs.Prelude.{All, IfSome}
use Rattle.std.proofs.lemmas.List.{length-map}
use Rattle.std.proofs.lemmas.List.Elements.{All-nil, All-cons, All-head, All-tail}
use Rattle.std.proofs.lemmas.Slice.Eq.{bytes_eq-Decides}
use Rattle.flag_rules.specs.Name.{IsName}
use Rattle.pddl_forms.specs.declared.texts.Word.{Word}
use Rattle.pddl_forms.specs.declared.texts.Typed.{Typed}
use Rattle.pddl_parser.specs.declared.texts.DomainText.{DomainText}
use Rattle.pddl_parser.specs.Replies.{IsDomainText}
use Rattle.pddl_parser.specs.Spelled.{IsTypedSpelled}
use Rattle.pddl_parser.proofs.Readable.{domain-spelled}
use Rattle.ground_state.specs.declared.parts.TypeEntry.{TypeEntry}
use Rattle.ground_state.specs.Task.{AreTypes, Reaches}
use Rattle.ground_state.proofs.Typing.{Reaches-from_steps}
use Rattle.pddl_task.specs.Names.{number_of}
use Rattle.pddl_task.specs.Types.{root, text_of, mentioned, type_of, type_names, given_parent, parent_of, entry_of, types_of}
use Rattle.pddl_task.proofs.Bounds.{types_few}
use Rattle.pddl_task.proofs.Faultless.{IsUnder, IsSoundDomain}
use Rattle.pddl_task.proofs.Found.{found_passes, found_has}
use Rattle.pddl_task.proofs.MoreNames.{each_with, number_at}
use Rattle.pddl_task.proofs.StillApart.{types_apart}
use Rattle.pddl_task.proofs.TypeParents.{begins, parent_at, parents_are_types}

-- the type that is given to a word is a name
given_name : (typed : Typed) → IsTypedSpelled IsName typed → IsName (type_of typed)
given_name typed spelled = by typed.of spelled.of
  where
    by : (of : Option Word) → IfSome of (λ (word : Word). IsName word.text) → IsName (unwrap_or (option_map text_of of) root)
    by None given = refl
    by (Some word) given = given

mentioned_names : (types : List Typed) → All (IsTypedSpelled IsName) types → All IsName (flat_map mentioned types)
mentioned_names [] spelled = All-nil IsName
mentioned_names (typed ∷ rest) spelled =
    let here = All-head (IsTypedSpelled IsName) typed rest spelled in
    All-cons IsName typed.word.text (type_of typed ∷ flat_map mentioned rest) here.own
    (All-cons IsName (type_of typed) (flat_map mentioned rest) (given_name typed here)
    (mentioned_names rest (All-tail (IsTypedSpelled IsName) typed rest spelled)))

names_same : (types : List Typed) (names : List (List ℕ)) → map (λ (entry : TypeEntry). entry.name) (map (entry_of types) names) ≡ names
names_same types [] = refl
names_same types (name ∷ names) = ap (λ rest. name ∷ rest) (names_same types names)

-- there are as many types as names of types
pub types_long : (types : List Typed) → length (types_of types) ≡ length (type_names types)
types_long types = length-map (type_names types) (entry_of types)

root_alone : (types : List Typed) (name : List ℕ) → given_parent types name ≡ root → parent_of types name ≡ root
root_alone types name given = by (bytes_eq name root)
  where
    by : (b : Bool) → (if b then root else given_parent types name) ≡ root
    by true = refl
    by false = given

module _ (types : List Typed) (number : ℕ) (within : number < length (types_of types)) where
  abbrev name : List ℕ
  name = get_or (type_names types) number []

  abbrev is_named : Typed → Bool
  is_named typed = bytes_eq name typed.word.text

  -- a type whose name is no word of `:types` stands under `object`
  under_root : find is_named types ≡ None → Reaches (types_of types) number 0
  under_root absent =
      let given : given_parent types name ≡ root = ap (λ o. unwrap_or (option_map type_of o) root) absent in
      Reaches-from_steps (types_of types) 1 number 0 (parents_are_types types) within
      (parent_at types (type_names types) number (subst (λ n. number < n) (types_long types) within)
      ∙ ap (number_of (type_names types)) (root_alone types name given)
      ∙ ap (λ names. number_of names root) (begins root [] (flat_map mentioned types)).1)

  -- every type does, where the words of `:types` do
  reaches_root : All (IsUnder types) types → Reaches (types_of types) number 0
  reaches_root under = by (find is_named types) refl
    where
      by : (first : Option Typed) → find is_named types ≡ first → Reaches (types_of types) number 0
      by None absent = under_root absent
      by (Some typed) found =
          let same : name ≡ typed.word.text = (bytes_eq-Decides name typed.word.text).0 (found_passes is_named types typed found) in
          let at : number_of (type_names types) name ≡ number = number_at (type_names types) number (types_apart types) (subst (λ n. number < n) (types_long types) within) in
          subst (λ n. Reaches (types_of types) n 0) (ap (number_of (type_names types)) (sym same) ∙ at) (found_has is_named (IsUnder types) types typed found under)

pub types_fit : (domain : DomainText) → IsDomainText domain → IsSoundDomain domain → AreTypes (types_of domain.types)
types_fit domain read sound =
    let begin = begins root [] (flat_map mentioned domain.types) in
    record {
      few = rw (types_long domain.types) (types_few domain read);
      names = rw (names_same domain.types (type_names domain.types)) (record {
        each = each_with IsName (root ∷ []) (flat_map mentioned domain.types) (All-cons IsName root [] refl (All-nil IsName)) (mentioned_names domain.types (domain-spelled domain read).types);
        differ = types_apart domain.types;
      });
      root = (entry_of domain.types root, ap (λ names. slice_get (map (entry_of domain.types) names) 0) begin.1, refl, ap (λ names. number_of names root) begin.1);
      parents = parents_are_types domain.types;
      rooted = λ number within. reaches_root domain.types number within sound.under;
    }
