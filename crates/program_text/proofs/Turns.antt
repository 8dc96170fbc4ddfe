-- A `for` over a list that is known: how far it is, and that all was yielded. What was yielded comes before the chain, so that it tells the steps.
use Rattle.std.proofs.Common.{◌≡◌, ◌<◌, List, length, map, Some, None, Option}
use Rattle.std.specs.Iterator.{Yields}
use Rattle.std.proofs.lemmas.Iterator.{YieldsList}
use Rattle.std.proofs.lemmas.Iterator.Consumers.{YieldsList-turn, YieldsList-end}

pub turn_within : {S A B : Type 0} {steps : S → Option A → S → Type 0} {v : A → B} {s : S} {all : List B} (xs : List A) (t : S) → Yields steps s xs t → (r : Option A) (u : S) (x : A) → r ≡ Some x → steps t r u → YieldsList steps v s all → length xs < length all
turn_within xs t yielded r u x is step road = (YieldsList-turn road xs t yielded r u x is step).0

pub all_yielded : {S A B : Type 0} {steps : S → Option A → S → Type 0} {v : A → B} {s : S} {all : List B} (xs : List A) (t : S) → Yields steps s xs t → (r : Option A) (u : S) → r ≡ None → steps t r u → YieldsList steps v s all → map v xs ≡ all
all_yielded xs t yielded r u is step road = (YieldsList-end road xs t yielded r u is step).0
