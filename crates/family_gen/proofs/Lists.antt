-- Lists of a few items, and lists of what is numbered.
use Rattle.std.proofs.Common.{◌≡◌, ◌≢◌, ℕ, zero, suc, ◌+◌, ◌<◌, List, [], ◌∷◌, ◌++◌, map, get_or, slice_index_or, sym, ap, ◌∙◌, subst, arith}
use Rattle.std.specs.Prelude.{All, Any, Contains}
use Rattle.std.specs.List.{range_with_len}
use Rattle.std.proofs.lemmas.List.Elements.{All-nil, All-cons}
use Rattle.std.proofs.lemmas.List.FromFn.{length-map-range_with_len, get_or-map-range_with_len, map-range_with_len_more}
use Rattle.pddl_task.specs.Inner.Names.{AreApart}

pub all_one : {X : Type 0} (P : X → Type 0) (x : X) → P x → All P (x ∷ [])
all_one P x is = All-cons P x [] is (All-nil P)

pub all_two : {X : Type 0} (P : X → Type 0) (x y : X) → P x → P y → All P (x ∷ y ∷ [])
all_two P x y is also = All-cons P x (y ∷ []) is (all_one P y also)

-- where each item has what none of its kind has beside the other, no item has the other
pub none_has : {X : Type 0} (P Q : X → Type 0) (xs : List X) → ((x : X) → P x → Q x → ⊥) → All P xs → Any Q xs → ⊥
none_has P Q xs apart all (k, x, less, is, has) = apart (slice_index_or xs k x) (all k x less) (subst Q (sym is) has)

pub apart_one : (name : List ℕ) → AreApart (name ∷ [])
apart_one name i j d less within = absurd (omega (arith, less, within))

pub apart_two : (one other : List ℕ) → one ≢ other → AreApart (one ∷ other ∷ [])
apart_two one other differ zero zero d less within = absurd (omega (arith, less))
apart_two one other differ zero (suc zero) d less within = differ
apart_two one other differ zero (suc (suc j)) d less within = absurd (omega (arith, within))
apart_two one other differ (suc i) zero d less within = absurd (omega (arith, less))
apart_two one other differ (suc i) (suc j) d less within = absurd (omega (arith, less, within))

-- what is so of what is numbered by each number below another, is so of all of it
pub all_numbered : {X : Type 0} (P : X → Type 0) (f : ℕ → X) (n : ℕ) → ((k : ℕ) → k < n → P (f k)) → All P (map f (range_with_len 0 n))
all_numbered P f n each k d less =
    let within : k < n = omega (arith, less, length-map-range_with_len f 0 n) in
    subst P (sym (get_or-map-range_with_len f 0 n k k d within (omega arith))) (each k within)

pub contains_numbered : {X : Type 0} (f : ℕ → X) (n k : ℕ) → k < n → Contains (map f (range_with_len 0 n)) (f k)
contains_numbered f n k within = (k, omega (arith, within, length-map-range_with_len f 0 n), get_or-map-range_with_len f 0 n k k (f k) within (omega arith))

-- what is numbered differs, where what two numbers give does
pub apart_numbered : (f : ℕ → List ℕ) (n : ℕ) → ((i j : ℕ) → i < j → j < n → f i ≢ f j) → AreApart (map f (range_with_len 0 n))
apart_numbered f n differ i j d less within =
    let below : j < n = omega (arith, within, length-map-range_with_len f 0 n) in
    let one : get_or (map f (range_with_len 0 n)) i d ≡ f i = get_or-map-range_with_len f 0 n i i d (omega (arith, less, below)) (omega arith) in
    let other : get_or (map f (range_with_len 0 n)) j d ≡ f j = get_or-map-range_with_len f 0 n j j d below (omega arith) in
    λ same. differ i j less below (sym one ∙ same ∙ other)

-- what is numbered, and what the next number gives
pub numbered_more : {X : Type 0} (f : ℕ → X) (xs ys : List X) (n : ℕ) (y : X) → xs ≡ map f (range_with_len 0 n) → y ≡ f n → ys ≡ xs ++ y ∷ [] → ys ≡ map f (range_with_len 0 (n + 1))
numbered_more f xs ys n y before is pushed =
    pushed ∙ (λ i. before i ++ is i ∷ []) ∙ sym (map-range_with_len_more f 0 n n (omega arith))

pub numbered_after : {X : Type 0} (f : ℕ → X) (first : X) (xs ys : List X) (n : ℕ) (y : X) → xs ≡ first ∷ map f (range_with_len 0 n) → y ≡ f n → ys ≡ xs ++ y ∷ [] → ys ≡ first ∷ map f (range_with_len 0 (n + 1))
numbered_after f first xs ys n y before is pushed =
    pushed ∙ (λ i. before i ++ is i ∷ []) ∙ ap (λ l. first ∷ l) (sym (map-range_with_len_more f 0 n n (omega arith)))
