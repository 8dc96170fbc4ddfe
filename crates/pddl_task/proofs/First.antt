-- The first of several faults.
use Rattle.std.proofs.Common.{◌≡◌, ℕ, ◌<◌, ◌≤◌, ◌+◌, Bool, true, false, ◌||◌, ◌&&◌, ◌==◌, nat_lt, List, [], ◌∷◌, ◌++◌, length, take, get_or, Option, Some, None, if◌then◌else◌, refl, sym, subst, inl, inr, ◌⊎◌, arith}
use Rattle.std.specs.Prelude.{Any}
use Rattle.std.proofs.lemmas.Bool.Decides.{nat_tests}
use Rattle.std.proofs.lemmas.List.{take_all}
use Rattle.pddl_task.specs.declared.fault.Fault.{Fault}
use Rattle.pddl_task.specs.Faults.{IsFirst, comes_before, rank_of}
use Rattle.pddl_task.specs.Inner.Faults.{earlier_of}
use Rattle.pddl_task.proofs.Anys.{any_here, any_none, any_one, any_split, any_left, any_right}
use Rattle.pddl_task.proofs.NamesOf.{one_more}

abbrev before : ℕ → ℕ → ℕ → ℕ → Bool
before a r b s = nat_lt a b || (a == b && nat_lt r s)

-- what comes before something that comes before a third comes before that
chained : (a r b s c t : ℕ) → before a r b s ≡ true → before b s c t ≡ true → before a r c t ≡ false → ⊥
chained a r b s c t one two not = grind (arith, nat_tests)

-- what does not come before something that does not come before a third does not come before that
unchained : (a r b s c t : ℕ) → before a r b s ≡ false → before b s c t ≡ false → before a r c t ≡ false
unchained a r b s c t one two = grind (arith, nat_tests)

earlier_known : (P Q : Fault → Type 0) (f g : Fault) → IsFirst P (Some f) → IsFirst Q (Some g) → (b : Bool) → comes_before g f ≡ b → IsFirst (λ h. P h ⊎ Q h) (if b then Some g else Some f)
earlier_known P Q f g one other true is = (
  inr other.0,
  λ h has. elim has [
    | inl p ↦ later h (one.1 h p)
    | inr q ↦ other.1 h q
  ],
)
  where
    later : (h : Fault) → comes_before h f ≡ false → comes_before h g ≡ false
    later h not = elim (comes_before h g) as (λ b. comes_before h g ≡ b → b ≡ false) [
      | true ↦ λ same. absurd (chained h.at (rank_of h.kind) g.at (rank_of g.kind) f.at (rank_of f.kind) same is not)
      | false ↦ λ same. refl
    ] refl
earlier_known P Q f g one other false is = (
  inl one.0,
  λ h has. elim has [
    | inl p ↦ one.1 h p
    | inr q ↦ unchained h.at (rank_of h.kind) g.at (rank_of g.kind) f.at (rank_of f.kind) (other.1 h q) is
  ],
)

-- the earlier of two faults is the first of both kinds
pub first_both : (P Q : Fault → Type 0) (a b : Option Fault) → IsFirst P a → IsFirst Q b → IsFirst (λ f. P f ⊎ Q f) (earlier_of a b)
first_both P Q None None one other = λ f has. elim has [ inl p ↦ one f p | inr q ↦ other f q ]
first_both P Q None (Some g) one other = (inr other.0, λ h has. elim has [ inl p ↦ absurd (one h p) | inr q ↦ other.1 h q ])
first_both P Q (Some f) None one other = (inl one.0, λ h has. elim has [ inl p ↦ one.1 h p | inr q ↦ absurd (other h q) ])
first_both P Q (Some f) (Some g) one other = earlier_known P Q f g one other (comes_before g f) refl

-- the first of some faults is the first of those that are the same ones
pub first_same : (P Q : Fault → Type 0) (o : Option Fault) → ((f : Fault) → P f → Q f) → ((f : Fault) → Q f → P f) → IsFirst P o → IsFirst Q o
first_same P Q None there back is = λ f q. is f (back f q)
first_same P Q (Some f) there back is = (there f is.0, λ h q. is.1 h (back h q))

-- where there is one fault, and where there is none
pub first_one : (P : Fault → Type 0) (f : Fault) → P f → ((g : Fault) → P g → g ≡ f) → IsFirst P (Some f)
first_one P f is only = (is, λ g has. subst (λ h. comes_before h f ≡ false) (sym (only g has)) (itself f.at (rank_of f.kind)))
  where
    itself : (a r : ℕ) → before a r a r ≡ false
    itself a r = grind (arith, nat_tests)

-- of no items there is none
pub first_of_none : {X : Type 0} (R : Fault → X → Type 0) → IsFirst (λ f. Any (R f) []) None
first_of_none R = λ f some. any_none (R f) some

-- the first of two lists
pub first_appended : {X : Type 0} (R : Fault → X → Type 0) (xs ys : List X) (a b : Option Fault) → IsFirst (λ f. Any (R f) xs) a → IsFirst (λ f. Any (R f) ys) b → IsFirst (λ f. Any (R f) (xs ++ ys)) (earlier_of a b)
first_appended R xs ys a b one other = first_same (λ f. Any (R f) xs ⊎ Any (R f) ys) (λ f. Any (R f) (xs ++ ys)) (earlier_of a b)
    (λ f has. elim has [ inl left ↦ any_left (R f) xs ys left | inr right ↦ any_right (R f) xs ys right ])
    (λ f has. any_split (R f) xs ys has)
    (first_both (λ f. Any (R f) xs) (λ f. Any (R f) ys) a b one other)

-- the first of one more item
pub first_more : {X : Type 0} (R : Fault → X → Type 0) (xs : List X) (i : ℕ) (x : X) (a b : Option Fault) → i < length xs → x ≡ get_or xs i x
    → IsFirst (λ f. Any (R f) (take i xs)) a → IsFirst (λ f. R f x) b → IsFirst (λ f. Any (R f) (take (i + 1) xs)) (earlier_of a b)
first_more {X} R xs i x a b within is so_far here =
    subst (λ (l : List X). IsFirst (λ f. Any (R f) l) (earlier_of a b)) (sym (one_more xs i x within is))
    (first_appended R (take i xs) (x ∷ []) a b so_far (first_same (λ f. R f x) (λ f. Any (R f) (x ∷ [])) b (λ f has. any_here (R f) x [] has) (λ f has. any_one (R f) x has) here))

-- the first of all items, once the last is seen
pub first_at_end : {X : Type 0} (R : Fault → X → Type 0) (xs : List X) (i : ℕ) (a : Option Fault) → length xs ≤ i → IsFirst (λ f. Any (R f) (take i xs)) a → IsFirst (λ f. Any (R f) xs) a
first_at_end {X} R xs i a long is = subst (λ (l : List X). IsFirst (λ f. Any (R f) l) a) (take_all i xs long) is
