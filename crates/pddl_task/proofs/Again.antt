-- Words that stand again.
use Rattle.std.proofs.Common.{◌≡◌, ℕ, zero, suc, nat_lt, length-append, Bool, true, false, ◌<◌, ◌≤◌, ◌+◌, List, [], ◌∷◌, ◌++◌, map, length, take, get_or, slice_get, Option, Some, None, if◌then◌else◌, refl, sym, ap, subst, ◌∙◌, inl, inr, ◌⊎◌, arith}
use Rattle.std.specs.Prelude.{Contains}
use Rattle.std.proofs.lemmas.Bool.Decides.{nat_tests}
use Rattle.std.proofs.lemmas.List.{take_all}
use Rattle.std.proofs.lemmas.Option.{slice_get_within}
use Rattle.pddl_forms.specs.declared.texts.Word.{Word}
use Rattle.pddl_task.specs.declared.fault.Fault.{Fault}
use Rattle.pddl_task.specs.declared.fault.FaultKind.TheVariants.{Twice}
use Rattle.pddl_task.specs.Names.{with_names, is_among}
use Rattle.pddl_task.specs.Types.{text_of}
use Rattle.pddl_task.specs.Faults.{IsFirst, IsTwice, fault_at}
use Rattle.pddl_task.specs.Inner.Faults.{earlier_of}
use Rattle.pddl_task.proofs.Among.{among_all, is_there, is_absent}
use Rattle.pddl_task.proofs.First.{first_both, first_same, first_one}
use Rattle.pddl_task.proofs.Mapped.{map-append}
use Rattle.pddl_task.proofs.NamesOf.{one_more}

-- a word that is one of some names
abbrev pub IsAgain : List (List ℕ) → Word → Fault → Type 0
IsAgain names word fault = Contains names word.text × (fault ≡ fault_at Twice word)

get_left : {X : Type 0} (xs ys : List X) (k : ℕ) → k < length xs → slice_get (xs ++ ys) k ≡ slice_get xs k
get_left [] ys k within = absurd (omega (arith, within))
get_left (x ∷ xs) ys zero within = refl
get_left (x ∷ xs) ys (suc k) within = get_left xs ys k (omega (arith, within))

get_last : {X : Type 0} (xs : List X) (y : X) → slice_get (xs ++ y ∷ []) (length xs) ≡ Some y
get_last [] y = refl
get_last (x ∷ xs) y = get_last xs y

take_left : {X : Type 0} (xs ys : List X) (k : ℕ) → k < length xs → take k (xs ++ ys) ≡ take k xs
take_left [] ys k within = absurd (omega (arith, within))
take_left (x ∷ xs) ys zero within = refl
take_left (x ∷ xs) ys (suc k) within = ap (λ l. x ∷ l) (take_left xs ys k (omega (arith, within)))

take_whole : {X : Type 0} (xs ys : List X) → take (length xs) (xs ++ ys) ≡ xs
take_whole [] ys = refl
take_whole (x ∷ xs) ys = ap (λ l. x ∷ l) (take_whole xs ys)

module _ (names : List (List ℕ)) (ws : List Word) (w : Word) (f : Fault) where
  -- a word that stands again among some words stands again where one more follows, and so does that one
  twice_left : IsTwice names ws f → IsTwice names (ws ++ w ∷ []) f
  twice_left (k, word, at, there, is) =
      let within = slice_get_within ws k word at in
      (k, word, get_left ws (w ∷ []) k within ∙ at, subst (λ l. Contains (names ++ map text_of l) word.text) (sym (take_left ws (w ∷ []) k within)) there, is)

  twice_last : IsAgain (names ++ map text_of ws) w f → IsTwice names (ws ++ w ∷ []) f
  twice_last (there, is) = (length ws, w, get_last ws w, subst (λ l. Contains (names ++ map text_of l) w.text) (sym (take_whole ws (w ∷ []))) there, is)

  twice_cases : IsTwice names (ws ++ w ∷ []) f → IsTwice names ws f ⊎ IsAgain (names ++ map text_of ws) w f
  twice_cases (k, word, at, there, is) = by (nat_lt k (length ws)) refl
    where
      by : (b : Bool) → nat_lt k (length ws) ≡ b → IsTwice names ws f ⊎ IsAgain (names ++ map text_of ws) w f
      by true less =
          let within : k < length ws = grind (arith, nat_tests) in
          inl (k, word, sym (get_left ws (w ∷ []) k within) ∙ at, subst (λ l. Contains (names ++ map text_of l) word.text) (take_left ws (w ∷ []) k within) there, is)
      by false less =
          let long : k < length (ws ++ w ∷ []) = slice_get_within (ws ++ w ∷ []) k word at in
          let whole : length (ws ++ w ∷ []) ≡ length ws + 1 = length-append ws (w ∷ []) in
          let last : k ≡ length ws = grind (arith, nat_tests) in
          let found : slice_get (ws ++ w ∷ []) (length ws) ≡ Some word = subst (λ n. slice_get (ws ++ w ∷ []) n ≡ Some word) last at in
          let same : word ≡ w = cc (get_last ws w) in
          let front : take k (ws ++ w ∷ []) ≡ ws = ap (λ n. take n (ws ++ w ∷ [])) last ∙ take_whole ws (w ∷ []) in
          inr (subst (λ v. Contains (names ++ map text_of ws) v.text) same (subst (λ l. Contains (names ++ map text_of l) word.text) front there), is ∙ ap (fault_at Twice) same)

-- the fault of a word, where it is one of some names
again_first : (names : List (List ℕ)) (w : Word) (b : Bool) → is_among w.text names ≡ b → IsFirst (IsAgain names w) (if b then Some (fault_at Twice w) else None)
again_first names w true among = first_one (IsAgain names w) (fault_at Twice w) (is_there w.text names among, refl) (λ g has. has.1)
again_first names w false among = λ f has. is_absent w.text names among has.0

-- what is told of a word among names, where the word is an item's and the names are those before it
pub told_again : (o : Option Fault) (w v : Word) (seen names : List (List ℕ)) → o ≡ (if is_among v.text seen then Some (fault_at Twice v) else None) → v ≡ w → seen ≡ names
    → o ≡ (if is_among w.text names then Some (fault_at Twice w) else None)
told_again o w v seen names told same before = rw (same, before) at told

-- the first of some words that stands again, where one more follows
pub first_again : (names : List (List ℕ)) (ws : List Word) (w : Word) (a : Option Fault) → IsFirst (IsTwice names ws) a
    → IsFirst (IsTwice names (ws ++ w ∷ [])) (earlier_of a (if is_among w.text (with_names names (map text_of ws)) then Some (fault_at Twice w) else None))
first_again names ws w a so_far =
    first_same (λ f. IsTwice names ws f ⊎ IsAgain (names ++ map text_of ws) w f) (IsTwice names (ws ++ w ∷ [])) _
    (λ f has. elim has [ inl old ↦ twice_left names ws w f old | inr last ↦ twice_last names ws w f last ])
    (λ f has. twice_cases names ws w f has)
    (first_both (IsTwice names ws) (IsAgain (names ++ map text_of ws) w) a _ so_far
    (rw (among_all w.text names (map text_of ws)) (again_first (names ++ map text_of ws) w (is_among w.text (names ++ map text_of ws)) refl)))

-- the same, where the words are those of items up to a place
pub first_again_more : {X : Type 0} (g : X → Word) (names : List (List ℕ)) (xs : List X) (i : ℕ) (x : X) (a : Option Fault) → i < length xs → x ≡ get_or xs i x → IsFirst (IsTwice names (map g (take i xs))) a
    → IsFirst (IsTwice names (map g (take (i + 1) xs))) (earlier_of a (if is_among (g x).text (with_names names (map text_of (map g (take i xs)))) then Some (fault_at Twice (g x)) else None))
first_again_more g names xs i x a within is so_far =
    let words : map g (take (i + 1) xs) ≡ map g (take i xs) ++ g x ∷ [] = ap (map g) (one_more xs i x within is) ∙ map-append g (take i xs) (x ∷ []) in
    rw words (first_again names (map g (take i xs)) (g x) a so_far)

-- of no words there is none
pub first_of_no_words : (names : List (List ℕ)) → IsFirst (IsTwice names []) None
first_of_no_words names = λ f (k, word, at, there, is). let within = slice_get_within [] k word at in absurd (omega (arith, within))

-- the first of all words, once the last is seen
pub words_at_end : {X : Type 0} (g : X → Word) (names : List (List ℕ)) (xs : List X) (i : ℕ) (a : Option Fault) → length xs ≤ i → IsFirst (IsTwice names (map g (take i xs))) a → IsFirst (IsTwice names (map g xs)) a
words_at_end {X} g names xs i a long is = subst (λ (l : List X). IsFirst (IsTwice names (map g l)) a) (take_all i xs long) is
