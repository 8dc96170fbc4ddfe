-- The names of the items of a list, where one more is added.
use Rattle.std.proofs.Common.{◌≡◌, ℕ, ◌<◌, ◌+◌, take, get_or, length, Bool, true, false, not, List, [], ◌∷◌, ◌++◌, map, refl, sym, ap, ◌∙◌, append_assoc, bytes_eq, if◌then◌else◌}
use Rattle.std.specs.List.{list_any}
use Rattle.std.proofs.lemmas.List.{take_more, map_more}
use Rattle.std.proofs.lemmas.List.Sums.{fold-append}
use Rattle.pddl_task.specs.Names.{with_name, with_names, is_among}
use Rattle.pddl_task.proofs.Mapped.{any_mapped, map-append}

chosen : {X Y : Type 0} (f : X → Y) (b : Bool) (xs ys : List X) → (if b then map f xs else map f ys) ≡ map f (if b then xs else ys)
chosen f true xs ys = refl
chosen f false xs ys = refl

pub with_mapped : {X : Type 0} (f : X → List ℕ) (xs : List X) (x : X) → map f (if list_any (λ y. bytes_eq (f x) (f y)) xs then xs else xs ++ x ∷ []) ≡ with_name (map f xs) (f x)
with_mapped f xs x =
    sym (chosen f (list_any (λ y. bytes_eq (f x) (f y)) xs) xs (xs ++ x ∷ []))
    ∙ ap (λ l. if list_any (λ y. bytes_eq (f x) (f y)) xs then map f xs else l) (map-append f xs (x ∷ []))
    ∙ ap (λ b. if b then map f xs else map f xs ++ f x ∷ []) (sym (any_mapped (bytes_eq (f x)) f xs))

pub among_mapped : {X : Type 0} (f : X → List ℕ) (xs : List X) (x : X) → not (list_any (λ y. bytes_eq (f x) (f y)) xs) ≡ not (is_among (f x) (map f xs))
among_mapped f xs x = ap not (sym (any_mapped (bytes_eq (f x)) f xs))

-- the items up to one more place
pub one_more : {X : Type 0} (xs : List X) (i : ℕ) (x : X) → i < length xs → x ≡ get_or xs i x → take (i + 1) xs ≡ take i xs ++ x ∷ []
one_more {X} xs i x within is = take_more xs i x within ∙ ap (λ (z : X). take i xs ++ z ∷ []) (sym is)

-- the names of words, where one more is added
pub names_more : {X Y : Type 0} (f : Y → List ℕ) (g : X → Y) (start : List (List ℕ)) (xs : List X) (i : ℕ) (x : X) → i < length xs → x ≡ get_or xs i x
    → with_names start (map f (map g (take (i + 1) xs))) ≡ with_name (with_names start (map f (map g (take i xs)))) (f (g x))
names_more f g start xs i x within is =
    ap (λ l. with_names start (map f (map g l))) (one_more xs i x within is)
    ∙ ap (λ l. with_names start (map f l)) (map-append g (take i xs) (x ∷ []))
    ∙ ap (with_names start) (map-append f (map g (take i xs)) (g x ∷ []))
    ∙ fold-append with_name start (map f (map g (take i xs))) (f (g x) ∷ [])

-- what is made of the items up to one more place
pub one_made : {X Y : Type 0} (f : X → Y) (xs : List X) (i : ℕ) (x : X) (front done next : List Y) (y : Y) → i < length xs → x ≡ get_or xs i x → done ≡ front ++ map f (take i xs) → y ≡ f x → next ≡ done ++ y ∷ []
    → next ≡ front ++ map f (take (i + 1) xs)
one_made f xs i x front done next y within is are made pushed =
    pushed
    ∙ ap (λ l. l ++ y ∷ []) are
    ∙ append_assoc front (map f (take i xs)) (y ∷ [])
    ∙ ap (λ z. front ++ (map f (take i xs) ++ z ∷ [])) (made ∙ ap f is)
    ∙ ap (λ l. front ++ l) (sym (map_more f xs i x within))
