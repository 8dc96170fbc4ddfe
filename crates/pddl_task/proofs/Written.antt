-- A list of what names have, where something is written at the place of one name.
use Rattle.std.proofs.Common.{◌≡◌, ℕ, zero, suc, Bool, true, false, cond, not, ◌||◌, ◌+◌, List, [], ◌∷◌, map, set, if◌then◌else◌, bytes_eq, true≢false, refl, sym, ap, ◌∙◌, arith}
use Rattle.std.proofs.lemmas.Slice.Eq.{bytes_eq-Decides}
use Rattle.pddl_task.specs.Names.{number_of, is_among}
use Rattle.pddl_task.specs.Inner.Names.{AreApart}
use Rattle.pddl_task.proofs.Among.{is_there}

-- a test for the same name gives the same answer from the other side
pub turned : (a b : List ℕ) (t : Bool) → bytes_eq a b ≡ t → bytes_eq b a ≡ t
turned a b true is = (bytes_eq-Decides b a).1 (sym ((bytes_eq-Decides a b).0 is))
turned a b false is = by (bytes_eq b a) refl
  where
    by : (t : Bool) → bytes_eq b a ≡ t → bytes_eq b a ≡ false
    by true same = absurd (true≢false (sym ((bytes_eq-Decides a b).1 (sym ((bytes_eq-Decides b a).0 same))) ∙ is))
    by false other = other

-- the first of names that differ stands once
first_once : (name : List ℕ) (rest : List (List ℕ)) → AreApart (name ∷ rest) → is_among name rest ≡ false
first_once name rest apart = by (is_among name rest) refl
  where
    by : (b : Bool) → is_among name rest ≡ b → b ≡ false
    by false absent = refl
    by true there =
        let at = is_there name rest there in
        absurd (apart zero (suc at.0) name (omega arith) (omega (arith, at.1)) (sym at.2))

rest_apart : (name : List ℕ) (rest : List (List ℕ)) → AreApart (name ∷ rest) → AreApart rest
rest_apart name rest apart = λ i j d less within. apart (suc i) (suc j) d (omega (arith, less)) (omega (arith, within))

module _ {X : Type 0} (f : List ℕ → X) (word : List ℕ) (v : X) where
  -- what the names have, with another thing for one of them
  abbrev pub but_one : List ℕ → X
  but_one name = if bytes_eq name word then v else f name

  -- names among which the one is not have what they had
  untouched : (names : List (List ℕ)) → is_among word names ≡ false → map f names ≡ map but_one names
  untouched [] absent = refl
  untouched (name ∷ rest) absent = by (untouched rest) (bytes_eq word name) refl absent
    where
      by : (is_among word rest ≡ false → map f rest ≡ map but_one rest) → (b : Bool) → bytes_eq word name ≡ b → (b || is_among word rest) ≡ false → map f (name ∷ rest) ≡ map but_one (name ∷ rest)
      by later true same none = absurd (true≢false none)
      by later false other none =
          ap (λ b. (if b then v else f name) ∷ map f rest) (sym (turned word name false other)) ∙ ap (λ l. but_one name ∷ l) (later none)

  pub written : (names : List (List ℕ)) → AreApart names → set (map f names) (number_of names word) v ≡ map but_one names
  written [] apart = refl
  written (name ∷ rest) apart = by (written rest (rest_apart name rest apart)) (bytes_eq word name) refl
    where
      by : set (map f rest) (number_of rest word) v ≡ map but_one rest → (b : Bool) → bytes_eq word name ≡ b → set (map f (name ∷ rest)) (cond (not b) (1 + number_of rest word) 0) v ≡ map but_one (name ∷ rest)
      by later true same =
          let is : word ≡ name = (bytes_eq-Decides word name).0 same in
          let absent : is_among word rest ≡ false = ap (λ n. is_among n rest) is ∙ first_once name rest apart in
          ap (λ b. (if b then v else f name) ∷ map f rest) (sym (turned word name true same)) ∙ ap (λ l. but_one name ∷ l) (untouched rest absent)
      by later false other =
          let next : 1 + number_of rest word ≡ suc (number_of rest word) = omega arith in
          ap (λ n. set (map f (name ∷ rest)) n v) next
          ∙ ap (λ b. (if b then v else f name) ∷ set (map f rest) (number_of rest word) v) (sym (turned word name false other))
          ∙ ap (λ l. but_one name ∷ l) later
