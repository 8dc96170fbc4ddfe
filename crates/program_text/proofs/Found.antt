-- Where a text stands among texts, and texts that are added one after another.
use Rattle.std.proofs.Common.{◌≡◌, ◌≢◌, ℕ, ◌+◌, ◌<◌, Bool, true, false, cond, not, ◌||◌, List, [], ◌∷◌, ◌++◌, length, take, get_or, map, bytes_eq, if◌then◌else◌, refl, sym, ◌∙◌, ap, inl, inr, arith}
use Rattle.std.specs.Prelude.{Some, None, slice_get, position, nat_lt, Contains, All, AllPairs}
use Rattle.std.specs.List.{list_any, prefix_len, position_or_len}
use Rattle.std.proofs.lemmas.Bool.{false≢true, cases_lt, lt-ltb, cond-true, cond-false, false_from_ne_true}
use Rattle.std.proofs.lemmas.Slice.Eq.{bytes_eq-Decides}
use Rattle.std.proofs.lemmas.Option.{slice_get-get_or, get_or_from_slice_get}
use Rattle.std.proofs.lemmas.List.{length-map, map-append, take_more, get_or-take, length-take-le, get_or_read}
use Rattle.std.proofs.lemmas.List.Folds.{list_any_none}
use Rattle.std.proofs.lemmas.List.Sums.{fails_before_first}
use Rattle.std.proofs.lemmas.List.Quantifiers.{position-Some}

any_mapped : {X Y : Type 0} (p : Y → Bool) (f : X → Y) (xs : List X) → list_any p (map f xs) ≡ list_any (λ x. p (f x)) xs
any_mapped p f [] = refl
any_mapped p f (x ∷ xs) = ap (λ rest. p (f x) || rest) (any_mapped p f xs)

prefix_mapped : {X Y : Type 0} (p : Y → Bool) (f : X → Y) (xs : List X) → prefix_len p (map f xs) ≡ prefix_len (λ x. p (f x)) xs
prefix_mapped p f [] = refl
prefix_mapped p f (x ∷ xs) = ap (λ rest. cond (p (f x)) (1 + rest) 0) (prefix_mapped p f xs)

place_mapped : {X Y : Type 0} (p : Y → Bool) (f : X → Y) (xs : List X) → position p (map f xs) ≡ position (λ x. p (f x)) xs
place_mapped p f xs = rw (length-map xs f, prefix_mapped (λ y. not (p y)) f xs) refl

-- a text that is found stands there
pub found_there : {X : Type 0} (f : X → List ℕ) (text : List ℕ) (keys : List X) (i : ℕ) → position (λ key. bytes_eq text (f key)) keys ≡ Some i → slice_get (map f keys) i ≡ Some text
found_there f text keys i e =
    let here = position-Some (bytes_eq text) (map f keys) i [] (place_mapped (bytes_eq text) f keys ∙ e) in
    let same : text ≡ get_or (map f keys) i [] = (bytes_eq-Decides text (get_or (map f keys) i [])).0 here.1 in
    slice_get-get_or (map f keys) i [] here.0 ∙ ap Some (sym same)

-- a text that is not found is not there
not_found : (text : List ℕ) (texts : List (List ℕ)) → position (bytes_eq text) texts ≡ None → Contains texts text → ⊥
not_found text texts e there =
    let p : List ℕ → Bool = bytes_eq text in
    let place : ℕ = position_or_len p texts in
    elim (cases_lt place (length texts)) [
      | inl h ↦ cc (cond-true (nat_lt place (length texts)) (Some place) None (lt-ltb place (length texts) h), e)
      | inr h ↦
          let here : slice_get texts there.0 ≡ Some text = slice_get-get_or texts there.0 text there.1 ∙ ap Some there.2 in
          let same : get_or texts there.0 [] ≡ text = get_or_from_slice_get texts there.0 text [] here in
          let fails : p (get_or texts there.0 []) ≡ false = fails_before_first p texts there.0 [] (omega (arith, h, there.1)) in
          let passes : p (get_or texts there.0 []) ≡ true = (bytes_eq-Decides text (get_or texts there.0 [])).1 (sym same) in
          false≢true (sym fails ∙ passes)
    ]

pub found_nowhere : {X : Type 0} (f : X → List ℕ) (text : List ℕ) (keys : List X) → position (λ key. bytes_eq text (f key)) keys ≡ None → Contains (map f keys) text → ⊥
found_nowhere f text keys e there = not_found text (map f keys) (place_mapped (bytes_eq text) f keys ∙ e) there

-- one more of some different texts, which is not among those before it
pub one_more_text : {X : Type 0} (f : X → List ℕ) (texts : List (List ℕ)) (keys : List X) (i : ℕ) (key : X)
    → AllPairs (λ one other. one ≢ other) texts → map f keys ≡ take i texts → i < length texts → f key ≡ get_or texts i (f key)
    → map f (if list_any (λ other. bytes_eq (f key) (f other)) keys then keys else keys ++ key ∷ []) ≡ take (i + 1) texts
one_more_text {X} f texts keys i key apart so_far within is =
    let here : f key ≡ get_or texts i [] = get_or_read texts i (f key) within is [] in
    let size : length (take i texts) ≡ i = length-take-le i texts (omega arith) in
    let others : All (λ other. bytes_eq (f key) other ≡ false) (take i texts) = λ k d h.
    let before : k < i = omega (arith, size, h) in
    let there : get_or (take i texts) k d ≡ get_or texts k d = get_or-take i texts k d before in
    let differs : get_or texts k d ≢ get_or texts i d = apart k i d before within in
    false_from_ne_true (bytes_eq (f key) (get_or (take i texts) k d)) (λ e.
    differs (sym there ∙ sym ((bytes_eq-Decides (f key) (get_or (take i texts) k d)).0 e) ∙ get_or_read texts i (f key) within is d)) in
    let none : list_any (λ other. bytes_eq (f key) (f other)) keys ≡ false =
    sym (any_mapped (bytes_eq (f key)) f keys) ∙ ap (list_any (bytes_eq (f key))) so_far ∙ list_any_none (bytes_eq (f key)) (take i texts) others in
    ap (map f) (cond-false (list_any (λ other. bytes_eq (f key) (f other)) keys) keys (keys ++ key ∷ []) none)
    ∙ map-append f keys (key ∷ [])
    ∙ ap (λ (l : List (List ℕ)). l ++ f key ∷ []) so_far
    ∙ ap (λ (t : List ℕ). take i texts ++ t ∷ []) here
    ∙ sym (take_more texts i [] within)
