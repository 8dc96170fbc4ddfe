-- What several puts, one after another, appended.
use Rattle.std.proofs.Common.{ℕ, List, [], ◌++◌, Option, None, Some, Result, Ok, Err, OnErr, refl, sym, ◌∙◌, ap, append_assoc}
use Rattle.std.proofs.lemmas.List.{append-nil}
use Rattle.bfgp_outside.specs.Sink.{Keeps, Appends, AppendsPrefix}

-- some bytes, and then more
pub appends_more : (a b c : Option (List ℕ)) (xs ys : List ℕ) → Appends a b xs → Appends b c ys → Appends a c (xs ++ ys)
appends_more None b c xs ys some more = tt
appends_more (Some was) None c xs ys some more = absurd some
appends_more (Some was) (Some bs) None xs ys some more = absurd more
appends_more (Some was) (Some bs) (Some cs) xs ys some more = more ∙ ap (λ (l : List ℕ). l ++ ys) some ∙ append_assoc was xs ys

-- nothing is no bytes
pub appends_none : (a b : Option (List ℕ)) → Keeps a b → Appends a b []
appends_none None b kept = tt
appends_none (Some was) None kept = absurd kept
appends_none (Some was) (Some bs) kept = kept ∙ sym (append-nil was)

-- nothing is a front of any bytes
pub prefix_none : (a b : Option (List ℕ)) (xs : List ℕ) → Keeps a b → AppendsPrefix a b xs
prefix_none a b xs kept = record { front = []; rest = xs; split = refl; appended = appends_none a b kept }

-- a front of the first bytes is a front of the first and the next
pub prefix_front : (a b : Option (List ℕ)) (xs ys : List ℕ) → AppendsPrefix a b xs → AppendsPrefix a b (xs ++ ys)
prefix_front a b xs ys part = record {
  front = part.front;
  rest = part.rest ++ ys;
  split = sym (append_assoc part.front part.rest ys) ∙ ap (λ (l : List ℕ). l ++ ys) part.split;
  appended = part.appended;
}

-- the first bytes and a front of the next are a front of the first and the next
pub prefix_back : (a b c : Option (List ℕ)) (xs ys : List ℕ) → Appends a b xs → AppendsPrefix b c ys → AppendsPrefix a c (xs ++ ys)
prefix_back a b c xs ys all part = record {
  front = xs ++ part.front;
  rest = part.rest;
  split = append_assoc xs part.front part.rest ∙ ap (λ (l : List ℕ). xs ++ l) part.split;
  appended = appends_more a b c xs part.front all part.appended;
}

-- what stands is what an error leaves
pub on_err : {T E P : Type 0} (result : Result T E) → P → OnErr result P
on_err (Ok value) stands = tt
on_err (Err error) stands = stands

-- what an error leaves, seen otherwise
pub on_err_then : {T E P Q : Type 0} (result : Result T E) → OnErr result P → (P → Q) → OnErr result Q
on_err_then (Ok value) stands seen = tt
on_err_then (Err error) stands seen = seen stands
