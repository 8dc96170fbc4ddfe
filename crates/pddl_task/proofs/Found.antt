-- What the first item that passes a test is.
use Rattle.std.proofs.Common.{◌≡◌, Bool, true, false, cond, List, [], ◌∷◌, Some, find, refl, sym, ap, subst, ◌∙◌}
use Rattle.std.specs.Prelude.{All}
use Rattle.std.proofs.lemmas.List.Elements.{All-head, All-tail}
use Rattle.std.proofs.lemmas.Option.{same_Some, none-some}

-- it passes the test
pub found_passes : {X : Type 0} (test : X → Bool) (xs : List X) (x : X) → find test xs ≡ Some x → test x ≡ true
found_passes test [] x is = absurd (none-some x is)
found_passes test (y ∷ xs) x is = by (found_passes test xs x) (test y) refl is
  where
    by : (find test xs ≡ Some x → test x ≡ true) → (b : Bool) → test y ≡ b → cond b (Some y) (find test xs) ≡ Some x → test x ≡ true
    by later true passes same = ap test (sym (same_Some y x same)) ∙ passes
    by later false fails rest = later rest

-- and what holds of each item holds of it
pub found_has : {X : Type 0} (test : X → Bool) (P : X → Type 0) (xs : List X) (x : X) → find test xs ≡ Some x → All P xs → P x
found_has test P [] x is all = absurd (none-some x is)
found_has test P (y ∷ xs) x is all = by (λ rest. found_has test P xs x rest (All-tail P y xs all)) (test y) is
  where
    by : (find test xs ≡ Some x → P x) → (b : Bool) → cond b (Some y) (find test xs) ≡ Some x → P x
    by later true same = subst P (same_Some y x same) (All-head P y xs all)
    by later false rest = later rest
