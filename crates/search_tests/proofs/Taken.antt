-- What holds of each element of a list holds also after one of them was taken out.
use Rattle.std.proofs.Common.{◌≡◌, List, ◌∷◌, Option, Some, None, sym, subst, All, IsPermutation}
use Rattle.std.specs.Prelude.{IfNone, IfSome}
use Rattle.std.proofs.lemmas.List.Elements.{All-tail}
use Rattle.std.proofs.lemmas.List.Sorted.{All-permutation, IsPermutation-sym}

pub All-taken : {A : Type 0} (P : A → Type 0) (taken : Option A) (old new : List A) → IfNone taken (new ≡ old) → IfSome taken (λ a. IsPermutation (a ∷ new) old) → All P old → All P new
All-taken P None old new unchanged pairs all = subst (All P) (sym unchanged) all
All-taken P (Some a) old new unchanged pairs all = All-tail P a new (All-permutation P old (a ∷ new) (IsPermutation-sym (a ∷ new) old pairs) all)
