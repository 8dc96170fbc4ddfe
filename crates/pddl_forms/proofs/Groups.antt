-- The words of a group have one type.
use Rattle.std.proofs.Common.{◌≡◌, ℕ, zero, suc, ◌<◌, ◌+◌, ◌-◌, Bool, true, false, List, [], ◌∷◌, ◌++◌, map, length, get_or, slice_get, Option, Some, refl, sym, ap, subst, ◌∙◌, inl, inr, ◌⊎◌, arith, append_assoc, length-append}
use Rattle.std.proofs.lemmas.List.{get_or_append_left, get_or-append-add, map-append}
use Rattle.std.proofs.lemmas.Option.{slice_get_within}
use Rattle.pddl_forms.specs.declared.texts.Word.{Word}
use Rattle.pddl_forms.specs.declared.texts.Typed.{Typed}
use Rattle.pddl_forms.specs.Forms.{typed}
use Rattle.pddl_forms.specs.SharedTypes.{IsLikeLast}
use Rattle.pddl_forms.specs.Inner.Alike.{AreAlike}

-- there is a last word, and it has this type
abbrev pub EndsWith : Option Word → List Typed → Type 0
EndsWith of list = (0 < length list) × ((other : Typed) → (get_or list (length list - 1) other).of ≡ of)

at_end : (list : List Typed) (last other : Typed) → get_or (list ++ last ∷ []) (length list) other ≡ last
at_end list last other =
    let here : length list + 0 ≡ length list = omega arith in
    ap (λ k. get_or (list ++ last ∷ []) k other) (sym here) ∙ get_or-append-add list (last ∷ []) 0 other

pub ends_with : (of : Option Word) (list : List Typed) (w : Word) → EndsWith of (list ++ typed of w ∷ [])
ends_with of list w =
    let long : length (list ++ typed of w ∷ []) ≡ length list + 1 = length-append list (typed of w ∷ []) in
    let place : length (list ++ typed of w ∷ []) - 1 ≡ length list = omega (arith, long) in
    (omega (arith, long), λ other. ap (λ k. (get_or (list ++ typed of w ∷ []) k other).of) place ∙ ap (λ (t : Typed). t.of) (at_end list (typed of w) other))

-- one more word of the group of the last has its type
pub like_last : (of : Option Word) (list : List Typed) (w : Word) → EndsWith of list → IsLikeLast (list ++ typed of w ∷ []) (length list)
like_last of list w (some, has) = (
  some,
  λ other. ap (λ (t : Typed). t.of) (at_end list (typed of w) other) ∙ sym (ap (λ (t : Typed). t.of) (get_or_append_left list (typed of w ∷ []) other (length list - 1) (omega (arith, some))) ∙ has other),
)

-- a word keeps its type where one more follows
still_like_last : (list : List Typed) (next : Typed) (place : ℕ) → place < length list → IsLikeLast list place → IsLikeLast (list ++ next ∷ []) place
still_like_last list next place within (some, same) = (
  some,
  λ other. ap (λ (t : Typed). t.of) (get_or_append_left list (next ∷ []) other place within)
      ∙ same other
      ∙ sym (ap (λ (t : Typed). t.of) (get_or_append_left list (next ∷ []) other (place - 1) (omega (arith, within)))),
)

-- a flag that is set is one of some, or the last
flag_cases : (flags : List Bool) (last : Bool) (place : ℕ) → slice_get (flags ++ last ∷ []) place ≡ Some true → (slice_get flags place ≡ Some true) ⊎ ((place ≡ length flags) × (last ≡ true))
flag_cases [] last zero is = inr (refl, cc)
flag_cases [] last (suc place) is = absurd (cc)
flag_cases (flag ∷ flags) last zero is = inl is
flag_cases (flag ∷ flags) last (suc place) is = elim (flag_cases flags last place is) [ inl old ↦ inl old | inr new ↦ inr (ap suc new.0, new.1) ]

-- one more word with its flag
pub alike_more : (list : List Typed) (alike : List Bool) (next : Typed) (flag : Bool) → AreAlike list alike → (flag ≡ true → IsLikeLast (list ++ next ∷ []) (length list)) → AreAlike (list ++ next ∷ []) (alike ++ flag ∷ [])
alike_more list alike next flag are is = record {
  counted = length-append alike (flag ∷ []) ∙ ap (λ n. n + 1) are.counted ∙ sym (length-append list (next ∷ []));
  told = λ place set. elim (flag_cases alike flag place set) [
    | inl old ↦ still_like_last list next place (subst (λ n. place < n) are.counted (slice_get_within alike place true old)) (are.told place old)
    | inr new ↦ subst (IsLikeLast (list ++ next ∷ [])) (sym (new.0 ∙ are.counted)) (is new.1)
  ];
}

-- of no words no flag is set
pub alike_none : AreAlike [] []
alike_none = record { counted = refl; told = λ place set. absurd (cc (set)) }

-- the words of a group that were added, and one more
pub grown : (of : Option Word) (front all : List Typed) (group : List Word) (w : Word) → all ≡ front ++ map (typed of) group → all ++ typed of w ∷ [] ≡ front ++ map (typed of) (group ++ w ∷ [])
grown of front all group w are =
    ap (λ l. l ++ typed of w ∷ []) are ∙ append_assoc front (map (typed of) group) (typed of w ∷ []) ∙ ap (λ l. front ++ l) (sym (map-append (typed of) group (w ∷ [])))
