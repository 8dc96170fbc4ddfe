-- Names that were asked for, call by call.
use Rattle.std.proofs.Common.{◌≡◌, ℕ, ◌+◌, ◌<◌, List, [], ◌∷◌, ◌++◌, take, drop, length, get_or, Option, Some, None, refl, sym, ◌∙◌, ap, subst}
use Rattle.std.proofs.lemmas.List.{append-nil, take-append-drop, take_more}
use Rattle.bfgp_outside.specs.Shelf.{Asks}
use Rattle.command_words.specs.declared.job.Inputs.{Inputs}
use Rattle.command_words.specs.Words.{names_of}
use Rattle.input_reading.specs.Asked.{AsksInTurn}

-- no read asks for nothing
asks_none : (asked : Option (List (List ℕ))) (name : List ℕ) → Asks asked asked name
asks_none None name = (0, tt)
asks_none (Some names) name = (0, sym (append-nil names))

pub asks_nothing : (asked : Option (List (List ℕ))) (names : List (List ℕ)) → AsksInTurn asked asked names
asks_nothing asked [] = refl
asks_nothing asked (name ∷ names) = (asked, asks_none asked name, asks_nothing asked names)

pub asks_both : (before later now : Option (List (List ℕ))) (one other : List (List ℕ)) → AsksInTurn before later one → AsksInTurn later now other → AsksInTurn before now (one ++ other)
asks_both before later now [] other here after = subst (λ (asked : Option (List (List ℕ))). AsksInTurn asked now other) here after
asks_both before later now (name ∷ one) other here after = (here.0, here.1, asks_both here.0 later now one other here.2 after)

pub asks_front : (before now : Option (List (List ℕ))) (one other : List (List ℕ)) → AsksInTurn before now one → AsksInTurn before now (one ++ other)
asks_front before now one other here = asks_both before now now one other here (asks_nothing now other)

pub asks_one : (before now : Option (List (List ℕ))) (name : List ℕ) → Asks before now name → AsksInTurn before now (name ∷ [])
asks_one before now name here = (now, here, refl)

module _ (before later : Option (List (List ℕ))) (names : List (List ℕ)) (i : ℕ) where
  -- some of the names, and then no more
  pub asks_part : AsksInTurn before later (take i names) → AsksInTurn before later names
  asks_part here = subst (AsksInTurn before later) (take-append-drop i names) (asks_front before later (take i names) (drop i names) here)

  -- and then one more
  pub asks_more : (now : Option (List (List ℕ))) (name slice : List ℕ) → i < length names → name ≡ get_or names i name → slice ≡ name → AsksInTurn before later (take i names) → Asks later now slice → AsksInTurn before now (take (i + 1) names)
  asks_more now name slice within is same here next =
      subst (AsksInTurn before now) (sym (take_more names i name within ∙ ap (λ (n : List ℕ). take i names ++ n ∷ []) (sym is)))
      (asks_both before later now (take i names) (name ∷ []) here (asks_one later now name (subst (λ (n : List ℕ). Asks later now n) same next)))

-- the domain file of some inputs, by a slice of its name
pub asks_domain : (before now : Option (List (List ℕ))) (inputs : Inputs) (name : List ℕ) → name ≡ inputs.domain → Asks before now name → AsksInTurn before now (names_of inputs)
asks_domain before now inputs name same here = (now, subst (λ (n : List ℕ). Asks before now n) same here, asks_nothing now inputs.instances)

-- and then the instance files
pub asks_inputs : (before later now : Option (List (List ℕ))) (inputs : Inputs) (name : List ℕ) (names : List (List ℕ)) → name ≡ inputs.domain → names ≡ inputs.instances → Asks before later name → AsksInTurn later now names → AsksInTurn before now (names_of inputs)
asks_inputs before later now inputs name names same same_names here after =
    (later, subst (λ (n : List ℕ). Asks before later n) same here, subst (AsksInTurn later now) same_names after)

-- and then a further file, by a slice of its name
pub asks_further : (before later now : Option (List (List ℕ))) (names : List (List ℕ)) (file slice : List ℕ) → slice ≡ file → AsksInTurn before later names → Asks later now slice → AsksInTurn before now (names ++ file ∷ [])
asks_further before later now names file slice same here next =
    asks_both before later now names (file ∷ []) here (asks_one later now file (subst (λ (n : List ℕ). Asks later now n) same next))
