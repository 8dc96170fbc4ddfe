-- A name among names, by the test and by a place.
use Rattle.std.proofs.Common.{◌≡◌, ℕ, Bool, true, false, ◌||◌, List, [], ◌∷◌, ◌++◌, refl, sym, ap, ◌∙◌, bytes_eq, true≢false}
use Rattle.std.specs.Prelude.{Contains}
use Rattle.std.proofs.lemmas.Cmp.{nat_list_eq_equiv}
use Rattle.std.proofs.lemmas.List.Folds.{list_any-append}
use Rattle.std.proofs.lemmas.Map.Views.{list_any-from_Contains}
use Rattle.std.proofs.lemmas.Slice.Eq.{bytes_eq-Decides}
use Rattle.indexmap.proofs.CallerLemmas.{Contains-list_any}
use Rattle.pddl_task.specs.Names.{with_name, with_names, is_among}

pub is_there : (name : List ℕ) (names : List (List ℕ)) → is_among name names ≡ true → Contains names name
is_there name names among = Contains-list_any bytes_eq (λ x y same. (bytes_eq-Decides x y).0 same) names name among

pub is_found : (name : List ℕ) (names : List (List ℕ)) → Contains names name → is_among name names ≡ true
is_found name names there = list_any-from_Contains nat_list_eq_equiv name names there

pub is_absent : (name : List ℕ) (names : List (List ℕ)) → is_among name names ≡ false → Contains names name → ⊥
is_absent name names absent there = true≢false (sym (is_found name names there) ∙ absent)

or_nothing : (b c : Bool) → (c ≡ true → b ≡ true) → b ≡ (b || (c || false))
or_nothing true c there = refl
or_nothing false true there = there refl
or_nothing false false there = refl

or_false : (b : Bool) → b ≡ (b || false)
or_false true = refl
or_false false = refl

regrouped : (a x c : Bool) → ((a || (x || false)) || c) ≡ (a || (x || c))
regrouped true x c = refl
regrouped false true c = refl
regrouped false false c = refl

-- a name that is added is there, and no other
among_one : (name other : List ℕ) (names : List (List ℕ)) → is_among name (with_name names other) ≡ (is_among name names || is_among name (other ∷ []))
among_one name other names = by (is_among other names) refl
  where
    by : (b : Bool) → is_among other names ≡ b → is_among name (with_name names other) ≡ (is_among name names || is_among name (other ∷ []))
    by true there = rw there (or_nothing (is_among name names) (bytes_eq name other) (λ same. ap (λ l. is_among l names) ((bytes_eq-Decides name other).0 same) ∙ there))
    by false absent = rw absent (list_any-append (bytes_eq name) names (other ∷ []))

pub among_all : (name : List ℕ) (names others : List (List ℕ)) → is_among name (with_names names others) ≡ is_among name (names ++ others)
among_all name names others = from names others ∙ sym (list_any-append (bytes_eq name) names others)
  where
    from : (start rest : List (List ℕ)) → is_among name (with_names start rest) ≡ (is_among name start || is_among name rest)
    from start [] = or_false (is_among name start)
    from start (other ∷ rest) =
        from (with_name start other) rest
        ∙ ap (λ b. b || is_among name rest) (among_one name other start)
        ∙ regrouped (is_among name start) (bytes_eq name other) (is_among name rest)
