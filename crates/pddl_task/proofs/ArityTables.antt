-- The numbers of parameters by names, where one more predicate is noted.
use Rattle.std.proofs.Common.{◌≡◌, ℕ, suc, Bool, true, false, cond, not, ◌||◌, ◌+◌, List, [], ◌∷◌, ◌++◌, length, slice_get, find, Option, Some, None, option_map, if◌then◌else◌, bytes_eq, refl, sym, ap, ◌∙◌, arith, length-append}
use Rattle.std.specs.Option.{option_or}
use Rattle.std.specs.List.{list_any, position_or_len}
use Rattle.std.proofs.lemmas.Slice.Eq.{bytes_eq-Decides}
use Rattle.pddl_parser.specs.declared.texts.PredText.{PredText}
use Rattle.pddl_task.specs.Names.{with_name, is_among}
use Rattle.pddl_task.specs.Faults.{arity_named}

-- what stands beside the first of some keys that passes a test
abbrev pub beside : (List ℕ → Bool) → List (List ℕ) → List ℕ → Option ℕ
beside test [] values = None
beside test (k ∷ ks) [] = None
beside test (k ∷ ks) (v ∷ vs) = cond (test k) (Some v) (beside test ks vs)

at_one_more : (v : ℕ) (vs : List ℕ) (n : ℕ) → slice_get (v ∷ vs) (1 + n) ≡ slice_get vs n
at_one_more v vs n = let e : 1 + n ≡ suc n = omega arith in ap (slice_get (v ∷ vs)) e

pub at_number : (test : List ℕ → Bool) (ks : List (List ℕ)) (vs : List ℕ) → length ks ≡ length vs → slice_get vs (position_or_len test ks) ≡ beside test ks vs
at_number test [] [] same = refl
at_number test [] (v ∷ vs) same = absurd (omega (arith, same))
at_number test (k ∷ ks) [] same = absurd (omega (arith, same))
at_number test (k ∷ ks) (v ∷ vs) same = by (at_number test ks vs (omega (arith, same))) (test k)
  where
    by : slice_get vs (position_or_len test ks) ≡ beside test ks vs → (b : Bool) → slice_get (v ∷ vs) (cond (not b) (1 + position_or_len test ks) 0) ≡ cond b (Some v) (beside test ks vs)
    by rest true = refl
    by rest false = at_one_more v vs (position_or_len test ks) ∙ rest

beside_push : (test : List ℕ → Bool) (ks : List (List ℕ)) (vs : List ℕ) (k : List ℕ) (v : ℕ) → length ks ≡ length vs
    → beside test (ks ++ k ∷ []) (vs ++ v ∷ []) ≡ option_or (beside test ks vs) (cond (test k) (Some v) None)
beside_push test [] [] k v same = refl
beside_push test [] (w ∷ vs) k v same = absurd (omega (arith, same))
beside_push test (l ∷ ks) [] k v same = absurd (omega (arith, same))
beside_push test (l ∷ ks) (w ∷ vs) k v same = by (beside_push test ks vs k v (omega (arith, same))) (test l)
  where
    by : beside test (ks ++ k ∷ []) (vs ++ v ∷ []) ≡ option_or (beside test ks vs) (cond (test k) (Some v) None) → (b : Bool) → cond b (Some w) (beside test (ks ++ k ∷ []) (vs ++ v ∷ [])) ≡ option_or (cond b (Some w) (beside test ks vs)) (cond (test k) (Some v) None)
    by rest true = refl
    by rest false = rest

mapped_or : {X : Type 0} (f : X → ℕ) (o : Option X) (b : Bool) (x : X) → option_map f (option_or o (cond b (Some x) None)) ≡ option_or (option_map f o) (cond b (Some (f x)) None)
mapped_or f (Some y) b x = refl
mapped_or f None true x = refl
mapped_or f None false x = refl

find_push : {X : Type 0} (test : X → Bool) (xs : List X) (x : X) → find test (xs ++ x ∷ []) ≡ option_or (find test xs) (cond (test x) (Some x) None)
find_push test [] x = refl
find_push test (y ∷ xs) x = by (find_push test xs x) (test y)
  where
    by : find test (xs ++ x ∷ []) ≡ option_or (find test xs) (cond (test x) (Some x) None) → (b : Bool) → cond b (Some y) (find test (xs ++ x ∷ [])) ≡ option_or (cond b (Some y) (find test xs)) (cond (test x) (Some x) None)
    by rest true = refl
    by rest false = rest

-- the number of parameters of a name, where one more predicate follows
named_push : (predicates : List PredText) (p : PredText) (name : List ℕ) → arity_named (predicates ++ p ∷ []) name ≡ option_or (arity_named predicates name) (cond (bytes_eq name p.head.text) (Some (length p.params)) None)
named_push predicates p name =
    ap (option_map (λ (predicate : PredText). length predicate.params)) (find_push (λ (predicate : PredText). bytes_eq name predicate.head.text) predicates p)
    ∙ mapped_or (λ (predicate : PredText). length predicate.params) (find (λ (predicate : PredText). bytes_eq name predicate.head.text) predicates) (bytes_eq name p.head.text) p

-- a key that is there has something beside it, and nothing later counts
kept : (test : List ℕ → Bool) (ks : List (List ℕ)) (vs : List ℕ) (o : Option ℕ) → length ks ≡ length vs → list_any test ks ≡ true → beside test ks vs ≡ option_or (beside test ks vs) o
kept test [] vs o same there = absurd (cc)
kept test (k ∷ ks) [] o same there = absurd (omega (arith, same))
kept test (k ∷ ks) (v ∷ vs) o same there = by (kept test ks vs o (omega (arith, same))) (test k) there
  where
    by : (list_any test ks ≡ true → beside test ks vs ≡ option_or (beside test ks vs) o) → (b : Bool) → (b || list_any test ks) ≡ true → cond b (Some v) (beside test ks vs) ≡ option_or (cond b (Some v) (beside test ks vs)) o
    by rest true there = refl
    by rest false there = rest there

or_nothing : (o : Option ℕ) → o ≡ option_or o None
or_nothing (Some n) = refl
or_nothing None = refl

-- one more predicate that is noted
pub noted : (heads : List (List ℕ)) (counts : List ℕ) (predicates : List PredText) (p : PredText) → length heads ≡ length counts
    → ((name : List ℕ) → beside (bytes_eq name) heads counts ≡ arity_named predicates name)
    → (name : List ℕ) → beside (bytes_eq name) (with_name heads p.head.text) (if is_among p.head.text heads then counts else counts ++ length p.params ∷ []) ≡ arity_named (predicates ++ p ∷ []) name
noted heads counts predicates p same are name = by (is_among p.head.text heads) refl ∙ ap (λ o. option_or o (cond (bytes_eq name p.head.text) (Some (length p.params)) None)) (are name) ∙ sym (named_push predicates p name)
  where
    again : is_among p.head.text heads ≡ true → (b : Bool) → bytes_eq name p.head.text ≡ b → beside (bytes_eq name) heads counts ≡ option_or (beside (bytes_eq name) heads counts) (cond b (Some (length p.params)) None)
    again there true is = kept (bytes_eq name) heads counts (Some (length p.params)) same (ap (λ n. is_among n heads) ((bytes_eq-Decides name p.head.text).0 is) ∙ there)
    again there false is = or_nothing (beside (bytes_eq name) heads counts)

    by : (b : Bool) → is_among p.head.text heads ≡ b → beside (bytes_eq name) (if b then heads else heads ++ p.head.text ∷ []) (if b then counts else counts ++ length p.params ∷ []) ≡ option_or (beside (bytes_eq name) heads counts) (cond (bytes_eq name p.head.text) (Some (length p.params)) None)
    by true there = again there (bytes_eq name p.head.text) refl
    by false absent = beside_push (bytes_eq name) heads counts p.head.text (length p.params) same

pub still_counted : (heads : List (List ℕ)) (counts : List ℕ) (name : List ℕ) (n : ℕ) → length heads ≡ length counts → length (with_name heads name) ≡ length (if is_among name heads then counts else counts ++ n ∷ [])
still_counted heads counts name n same = by (is_among name heads)
  where
    by : (b : Bool) → length (if b then heads else heads ++ name ∷ []) ≡ length (if b then counts else counts ++ n ∷ [])
    by true = same
    by false = omega (arith, same, length-append heads (name ∷ []), length-append counts (n ∷ []))
