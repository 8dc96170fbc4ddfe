-- Lines of words, as they grow.
use Rattle.std.proofs.Common.{◌≡◌, ℕ, ◌+◌, ◌<◌, ◌≤◌, List, [], ◌∷◌, ◌++◌, length, get_or, drop, Result, Ok, Err, refl, sym, ap, ◌∙◌, append_assoc}
use Rattle.std.proofs.lemmas.List.{append-nil, drop_more, drop_all}
use Rattle.std.specs.List.{flat_map}
use Rattle.std.specs.Result.{OnOk}
use Rattle.pddl_printer.specs.Printing.{spaced}

pub spaced-append : (us vs : List (List ℕ)) → spaced (us ++ vs) ≡ spaced us ++ spaced vs
spaced-append [] vs = refl
spaced-append (u ∷ us) vs = ap (λ bytes. 32 ∷ (u ++ bytes)) (spaced-append us vs) ∙ ap (λ bytes. 32 ∷ bytes) (sym (append_assoc u (spaced us) (spaced vs)))

-- words and more words
pub adds_more : (a b c : List ℕ) (us vs : List (List ℕ)) → b ≡ a ++ spaced us → c ≡ b ++ spaced vs → c ≡ a ++ spaced (us ++ vs)
adds_more a b c us vs first then = then ∙ ap (λ l. l ++ spaced vs) first ∙ append_assoc a (spaced us) (spaced vs) ∙ ap (λ l. a ++ l) (sym (spaced-append us vs))

-- where a line has been printed up to some words, it has been printed up to those after their first ones
pub goes_on : (all now next : List ℕ) (words first rest : List (List ℕ)) → now ++ spaced words ≡ all → words ≡ first ++ rest → next ≡ now ++ spaced first → next ++ spaced rest ≡ all
goes_on all now next words first rest before split adds =
    ap (λ l. l ++ spaced rest) adds ∙ append_assoc now (spaced first) (spaced rest) ∙ ap (λ l. now ++ l) (sym (spaced-append first rest)) ∙ ap (λ ws. now ++ spaced ws) (sym split) ∙ before

-- a list from a place on is the item there and the list after it
pub drop-here : {X : Type 0} (xs : List X) (i : ℕ) (x : X) → i < length xs → x ≡ get_or xs i x → drop i xs ≡ x ∷ drop (i + 1) xs
drop-here xs i x less is = drop_more xs i x less ∙ ap (λ y. y ∷ drop (i + 1) xs) (sym is)

pub ruleset spacing = (spaced-append, append_assoc)

-- a loop over some items, of which each is printed as some words: before an item, and at the end
module _ {X : Type 0} (f : X → List (List ℕ)) (all : List ℕ) (xs : List X) where
  pub next_item : (now next : List ℕ) (i : ℕ) (x : X) → i < length xs → x ≡ get_or xs i x → now ++ spaced (flat_map f (drop i xs)) ≡ all → next ≡ now ++ spaced (f x) → next ++ spaced (flat_map f (drop (i + 1) xs)) ≡ all
  next_item now next i x less is before adds = goes_on all now next (flat_map f (drop i xs)) (f x) (flat_map f (drop (i + 1) xs)) before (ap (flat_map f) (drop-here xs i x less is)) adds

  pub last_item : (now : List ℕ) (i : ℕ) → length xs ≤ i → now ++ spaced (flat_map f (drop i xs)) ≡ all → now ≡ all
  last_item now i past before = sym (append-nil now) ∙ ap (λ ys. now ++ spaced (flat_map f ys)) (sym (drop_all i xs past)) ∙ before

-- words, and what a last step adds where it succeeds
pub ends_with : {E : Type 0} (r : Result (Unit {0}) E) (a b c : List ℕ) (us vs : List (List ℕ)) → b ≡ a ++ spaced us → OnOk r (c ≡ b ++ spaced vs) → OnOk r (c ≡ a ++ spaced (us ++ vs))
ends_with (Ok done) a b c us vs first then = adds_more a b c us vs first then
ends_with (Err e) a b c us vs first then = tt
