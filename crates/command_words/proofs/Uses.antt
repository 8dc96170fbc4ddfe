-- The values of the options that are used.
use Rattle.std.proofs.Common.{◌≡◌, ◌≢◌, ℕ, zero, suc, ◌<◌, Bool, true, false, List, [], ◌∷◌, length, get_or, None, Some, refl, sym, ◌∙◌, ap, subst, arith}
use Rattle.std.specs.Prelude.{Option, All, AllPairs, IfSome}
use Rattle.std.specs.Str.{bytes_eq}
use Rattle.std.proofs.lemmas.Bool.{false≢true, false_from_ne_true}
use Rattle.std.proofs.lemmas.List.Elements.{All-nil, All-cons, All-head, All-tail}
use Rattle.std.proofs.lemmas.Option.{none-some, same_Some}
use Rattle.std.proofs.lemmas.Slice.Eq.{bytes_eq-Decides}
use Rattle.command_words.specs.Words.{Use, Tells, TellsOrUsual, told, untold}
use Rattle.command_words.specs.Inner.Matching.{value_in}
use Rattle.command_words.specs.Inner.Values.{IsTextOrUsual}

-- no option is used twice
abbrev pub AreOnce : List Use → Type 0
AreOnce uses = AllPairs (λ one other. one.name ≢ other.name) uses

pub once_tail : (used : Use) (uses : List Use) → AreOnce (used ∷ uses) → AreOnce uses
once_tail used uses once i j d before within = once (suc i) (suc j) d (omega (arith, before)) (omega (arith, within))

names_differ : (one other : List ℕ) → one ≢ other → bytes_eq one other ≡ false
names_differ one other differ = false_from_ne_true (bytes_eq one other) (λ same. differ ((bytes_eq-Decides one other).0 same))

-- the value of the first use, or of a later one
value_here : (used : Use) (uses : List Use) (name : List ℕ) → bytes_eq used.name name ≡ true → value_in (used ∷ uses) name ≡ Some used.value
value_here used uses name same = rw same refl

value_later : (used : Use) (uses : List Use) (name : List ℕ) → bytes_eq used.name name ≡ false → value_in (used ∷ uses) name ≡ value_in uses name
value_later used uses name differ = rw differ refl

told_at : (uses : List Use) (name value : List ℕ) → AreOnce uses → (k : ℕ) → k < length uses → get_or uses k (record { name = name; value = value }) ≡ record { name = name; value = value } → value_in uses name ≡ Some value
told_at [] name value once k within is = absurd (omega (arith, within))
told_at (used ∷ uses) name value once zero within is =
    value_here used uses name ((bytes_eq-Decides used.name name).1 (ap (λ (u : Use). u.name) is)) ∙ ap (λ (u : Use). Some u.value) is
told_at (used ∷ uses) name value once (suc k) within is =
    let differ : used.name ≢ name = λ same. once zero (suc k) (record { name = name; value = value }) (omega arith) within (same ∙ sym (ap (λ (u : Use). u.name) is)) in
    value_later used uses name (names_differ used.name name differ) ∙ told_at uses name value (once_tail used uses once) k (omega (arith, within)) is

-- the value that an option is used with
pub value_told : (uses : List Use) (name value : List ℕ) → AreOnce uses → Tells uses name value → value_in uses name ≡ Some value
value_told uses name value once tells = told_at uses name value once tells.0 tells.1 tells.2

-- an option has one value
pub one_value : (uses : List Use) (name one other : List ℕ) → AreOnce uses → Tells uses name one → Tells uses name other → one ≡ other
one_value uses name one other once tells tells_too = same_Some one other (sym (value_told uses name one once tells) ∙ value_told uses name other once tells_too)

-- an option that is not used has no value
pub value_untold : (uses : List Use) (name : List ℕ) → All (λ used. used.name ≢ name) uses → value_in uses name ≡ None
value_untold [] name none = refl
value_untold (used ∷ uses) name none =
    value_later used uses name (names_differ used.name name (All-head (λ u. u.name ≢ name) used uses none)) ∙ value_untold uses name (All-tail (λ u. u.name ≢ name) used uses none)

tells_first : (used : Use) (uses : List Use) (name value : List ℕ) (b : Bool) → bytes_eq used.name name ≡ b → value_in (used ∷ uses) name ≡ Some value → (value_in uses name ≡ Some value → Tells uses name value) → Tells (used ∷ uses) name value
tells_first used uses name value true same is later =
    let name_is : used.name ≡ name = (bytes_eq-Decides used.name name).0 same in
    let value_is : used.value ≡ value = same_Some used.value value (sym (value_here used uses name same) ∙ is) in
    (zero, omega arith, λ i. record { name = name_is i; value = value_is i })
tells_first used uses name value false differ is later =
    let there = later (sym (value_later used uses name differ) ∙ is) in
    (suc there.0, omega (arith, there.1), there.2)

-- and the other way round: a value is that of a use, and where there is none, the option is not used
pub value_tells : (uses : List Use) (name value : List ℕ) → value_in uses name ≡ Some value → Tells uses name value
value_tells [] name value is = absurd (none-some value is)
value_tells (used ∷ uses) name value is = tells_first used uses name value (bytes_eq used.name name) refl is (value_tells uses name value)

none_first : (used : Use) (uses : List Use) (name : List ℕ) (b : Bool) → bytes_eq used.name name ≡ b → value_in (used ∷ uses) name ≡ None → (value_in uses name ≡ None → All (λ u. u.name ≢ name) uses) → All (λ u. u.name ≢ name) (used ∷ uses)
none_first used uses name true same is later = absurd (none-some used.value (sym is ∙ value_here used uses name same))
none_first used uses name false differ is later =
    All-cons (λ u. u.name ≢ name) used uses (λ same. false≢true (sym differ ∙ (bytes_eq-Decides used.name name).1 same)) (later (sym (value_later used uses name differ) ∙ is))

pub value_none : (uses : List Use) (name : List ℕ) → value_in uses name ≡ None → All (λ u. u.name ≢ name) uses
value_none [] name is = All-nil (λ (u : Use). u.name ≢ name)
value_none (used ∷ uses) name is = none_first used uses name (bytes_eq used.name name) refl is (value_none uses name)

-- what holds of each value holds of that of an option
fits_first : (P : List ℕ → Type 0) (used : Use) (uses : List Use) (name : List ℕ) (b : Bool) → bytes_eq used.name name ≡ b → P used.value → IfSome (value_in uses name) P → IfSome (value_in (used ∷ uses) name) P
fits_first P used uses name true same here later = subst (λ o. IfSome o P) (sym (value_here used uses name same)) here
fits_first P used uses name false differ here later = subst (λ o. IfSome o P) (sym (value_later used uses name differ)) later

pub value_fits : (P : List ℕ → Type 0) (uses : List Use) (name : List ℕ) → All (λ used. P used.value) uses → IfSome (value_in uses name) P
value_fits P [] name all = tt
value_fits P (used ∷ uses) name all =
    fits_first P used uses name (bytes_eq used.name name) refl (All-head (λ u. P u.value) used uses all) (value_fits P uses name (All-tail (λ u. P u.value) used uses all))

-- a value is the text of what an option tells, and where there is none, the usual is told
pub told_text : {A : Type 0} (uses : List Use) (name : List ℕ) (spelled : A → List ℕ) (usual this : A) → AreOnce uses → TellsOrUsual uses name spelled usual this → IsTextOrUsual spelled usual this (value_in uses name)
told_text uses name spelled usual this once (told tells) = subst (IsTextOrUsual spelled usual this) (sym (value_told uses name (spelled this) once tells)) refl
told_text uses name spelled usual this once (untold none is) = subst (IsTextOrUsual spelled usual this) (sym (value_untold uses name none)) is

pub text_told : {A : Type 0} (uses : List Use) (name : List ℕ) (spelled : A → List ℕ) (usual this : A) (value : Option (List ℕ)) → value_in uses name ≡ value → IsTextOrUsual spelled usual this value → TellsOrUsual uses name spelled usual this
text_told uses name spelled usual this None none is = untold (value_none uses name none) is
text_told uses name spelled usual this (Some text) some is = told (subst (Tells uses name) is (value_tells uses name text some))

-- one thing is told, by its text
pub one_text : {A : Type 0} (spelled : A → List ℕ) (usual one other : A) (value : Option (List ℕ)) → IsTextOrUsual spelled usual one value → IsTextOrUsual spelled usual other value → spelled one ≡ spelled other
one_text spelled usual one other None p q = ap spelled (p ∙ sym q)
one_text spelled usual one other (Some text) p q = sym p ∙ q
