-- Steps that come to one result at most.
use Rattle.std.proofs.Common.{◌≡◌, ℕ, List, Option, Some, None, Result, Ok, Err, refl, sym, ◌∙◌, ap, subst}
use Rattle.std.specs.Prelude.{IsSomeAnd}
use Rattle.input_reading.specs.declared.fault.Fault.{Fault}
use Rattle.input_reading.specs.Faults.{fault_line}
use Rattle.input_reading.specs.Steps.{◌>>=◌, goes_on, ends, or_tell, pure}

-- the step comes to one result at most
pub record IsDecided {A : Type 0} (step : Result A (List ℕ) → Type 0) : Type 0 where
  pub one : (r s : Result A (List ℕ)) → step r → step s → r ≡ s

pub pure_decided : {A : Type 0} (a : A) → IsDecided (pure a)
pure_decided a = record { one = λ r s p q. p ∙ sym q }

-- a step, and then what follows from each value that it may come to
pub then_decided : {A B : Type 0} {step : Result A (List ℕ) → Type 0} {next : A → Result B (List ℕ) → Type 0} → IsDecided step → ((a : A) → step (Ok a) → IsDecided (next a)) → IsDecided (step >>= next)
then_decided {A} {B} {step} {next} here later = record { one = both }
  where
    both : (r s : Result B (List ℕ)) → (step >>= next) r → (step >>= next) s → r ≡ s
    both r s (goes_on {a = a} p after) (goes_on {a = b} q then) =
        let same = here.one (Ok a) (Ok b) p q in
        let is : b ≡ a = cc in
        (later a p).one r s after (subst (λ (v : A). next v s) is then)
    both r _ (goes_on {a = a} p after) (ends {line = y} q) = let same = here.one (Ok a) (Err y) p q in absurd (cc)
    both _ s (ends {line = x} p) (goes_on {a = b} q then) = let same = here.one (Err x) (Ok b) p q in absurd (cc)
    both _ _ (ends {line = x} p) (ends {line = y} q) = let same = here.one (Err x) (Err y) p q in cc

-- what a call may answer: one value at most, or one fault at most and then no value; other refusals do not count
pub record IsDefinite {A E : Type 0} (fault_of : E → Option Fault) (Allowed : Result A E → Type 0) : Type 0 where
  pub value : (a b : A) → Allowed (Ok a) → Allowed (Ok b) → a ≡ b
  pub fault : (d e : E) (x y : Fault) → fault_of d ≡ Some x → fault_of e ≡ Some y → Allowed (Err d) → Allowed (Err e) → x ≡ y
  pub apart : (a : A) (e : E) (x : Fault) → fault_of e ≡ Some x → Allowed (Ok a) → Allowed (Err e) → ⊥

-- the fault that a line tells
told : (o : Option Fault) (P : Fault → Type 0) → IsSomeAnd o P → (x : Fault) × (o ≡ Some x) × P x
told (Some x) P known = (x, refl, known)
told None P known = absurd known

pub tell_decided : {A E : Type 0} {fault_of : E → Option Fault} {Allowed : Result A E → Type 0} (name : List ℕ) → IsDefinite fault_of Allowed → IsDecided (or_tell name fault_of Allowed)
tell_decided {A} {E} {fault_of} {Allowed} name definite = record { one = both }
  where
    telling : (line : (List ℕ)) → or_tell name fault_of Allowed (Err line) → (e : E) × (x : Fault) × (fault_of e ≡ Some x) × Allowed (Err e) × (line ≡ fault_line name x)
    telling line p = let t = told (fault_of p.0) (λ x. line ≡ fault_line name x) p.2 in (p.0, t.0, t.1, p.1, t.2)

    both : (r s : Result A (List ℕ)) → or_tell name fault_of Allowed r → or_tell name fault_of Allowed s → r ≡ s
    both (Ok a) (Ok b) p q = ap Ok (definite.value a b p q)
    both (Ok a) (Err y) p q = let t = telling y q in absurd (definite.apart a t.0 t.1 t.2 p t.3)
    both (Err x) (Ok b) p q = let t = telling x p in absurd (definite.apart b t.0 t.1 t.2 q t.3)
    both (Err x) (Err y) p q = let t = telling x p in let u = telling y q in ap Err (t.4 ∙ ap (fault_line name) (definite.fault t.0 u.0 t.1 u.1 t.2 u.2 t.3 u.3) ∙ sym u.4)
