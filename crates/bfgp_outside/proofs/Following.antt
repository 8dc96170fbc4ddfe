-- Calls of a shelf, one after another.
use Rattle.std.proofs.Common.{◌≡◌, ℕ, ◌+◌, List, ◌++◌, replicate, Bool, Option, None, Some, Result, Ok, Err, IsErrAnd, refl, sym, ◌∙◌, ap, subst, append_assoc, append-nil, arith}
use Rattle.std.proofs.lemmas.List.{replicate-append-replicate}
use Rattle.bfgp_outside.specs.Causes.{RoseIf}
use Rattle.bfgp_outside.specs.Shelf.{Files, GoesOn, CountsFaults, is_failed, is_absent, AsksFor, Asks}
use Rattle.bfgp_outside.specs.Whole.{fault_told, refusal_of}
use Rattle.bfgp_outside.specs.declared.shelf.ShelfFault.{ShelfFault}
use Rattle.bfgp_outside.specs.declared.shelf.ShelfFault.TheVariants.{Absent, Failed}
use Rattle.bfgp_outside.specs.declared.whole.ReadRefusal.{ReadRefusal}
use Rattle.bfgp_outside.specs.declared.whole.ReadRefusal.TheVariants as refusals

pub goes_on_then : {S : Type 0} (files : S → Option Files) (faults absences : S → ℕ) (a b c : S) → GoesOn files faults absences a b → GoesOn files faults absences b c → GoesOn files faults absences a c
goes_on_then files faults absences a b c first next = record {
  kept = next.kept ∙ first.kept;
  faults_later = omega arith;
  absences_later = omega arith;
}

-- ---- counts

-- a count that stood still, and then rose or did not
pub rose_if_then : (told : Bool) (before later now : ℕ) → later ≡ before → RoseIf told later now → RoseIf told before now
rose_if_then told before later now kept rose = subst (λ (n : ℕ). RoseIf told n now) kept rose

-- no fault was told, and then one or none
pub counts_then : {S : Type 0} (faults absences : S → ℕ) (a b c : S) (told : Option ShelfFault) → CountsFaults faults absences a b None → CountsFaults faults absences b c told → CountsFaults faults absences a c told
counts_then faults absences a b c told first next = record {
  failed = rose_if_then (is_failed told) (faults a) (faults b) (faults c) first.failed next.failed;
  absent = rose_if_then (is_absent told) (absences a) (absences b) (absences c) first.absent next.absent;
}

-- before the first call
pub counts_none : {S : Type 0} (faults absences : S → ℕ) (a : S) → CountsFaults faults absences a a None
counts_none faults absences a = record { failed = refl; absent = refl }

-- a fault that `?` hands on is told
pub told_by_error : {T : Type 0} (result : Result T ReadRefusal) (fault : ShelfFault) → IsErrAnd result (λ refusal. refusal ≡ refusal_of fault) → Some fault ≡ fault_told result
told_by_error (Ok value) fault is = absurd is
told_by_error {T} (Err refusal) Absent is = ap (λ (r : ReadRefusal). fault_told {T = T} (Err r)) (sym is)
told_by_error {T} (Err refusal) Failed is = ap (λ (r : ReadRefusal). fault_told {T = T} (Err r)) (sym is)

-- want of memory tells no fault
pub told_by_want : {T : Type 0} (result : Result T ReadRefusal) → IsErrAnd result (λ refusal. refusal ≡ refusals.OutOfMemory) → None ≡ fault_told result
told_by_want (Ok value) is = absurd is
told_by_want {T} (Err refusal) is = ap (λ (r : ReadRefusal). fault_told {T = T} (Err r)) (sym is)

-- ---- names that were asked for

asks_for_none : (a : Option (List (List ℕ))) (name : List ℕ) → AsksFor a a name 0
asks_for_none None name = tt
asks_for_none (Some names) name = sym (append-nil names)

-- before the first call
pub asks_none : (a : Option (List (List ℕ))) (name : List ℕ) → Asks a a name
asks_none a name = (0, asks_for_none a name)

asks_for_then : (a b c : Option (List (List ℕ))) (name : List ℕ) (m n : ℕ) → AsksFor a b name m → AsksFor b c name n → AsksFor a c name (m + n)
asks_for_then None b c name m n first next = tt
asks_for_then (Some names) None c name m n first next = absurd first
asks_for_then (Some names) (Some more) None name m n first next = absurd next
asks_for_then (Some names) (Some more) (Some most) name m n first next =
    next
    ∙ ap (λ (l : List (List ℕ)). l ++ replicate n name) first
    ∙ append_assoc names (replicate m name) (replicate n name)
    ∙ ap (λ (l : List (List ℕ)). names ++ l) (replicate-append-replicate m n name)

-- a call that asked for no other name, and then another
pub asks_then : (a b c : Option (List (List ℕ))) (name : List ℕ) (n : ℕ) → Asks a b name → AsksFor b c name n → Asks a c name
asks_then a b c name n first next = (first.0 + n, asks_for_then a b c name first.0 n first.1 next)
