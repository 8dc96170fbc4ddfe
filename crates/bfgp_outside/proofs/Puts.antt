-- Calls that put bytes, one after another.
use Rattle.std.proofs.Common.{◌≡◌, ℕ, ◌+◌, ◌<◌, ◌≤◌, List, [], ◌∷◌, ◌++◌, length, take, drop, get_or, map, flat_map, Option, None, Some, Result, Ok, Err, IsErr, append_assoc, refl, sym, ◌∙◌, ap, subst, arith}
use Rattle.std.proofs.lemmas.Bool.{false≢true}
use Rattle.std.proofs.lemmas.Grind.{flat_map-append}
use Rattle.std.proofs.lemmas.List.{map-append, take_more, take-append-drop, take_all}
use Rattle.flag_rules.specs.Line.{lines_of}
use Rattle.flag_rules.proofs.Lines.{lines_of-append}
use Rattle.bfgp_outside.specs.Sink.{Keeps, Puts}
use Rattle.bfgp_outside.proofs.Written.{appends_none, appends_more, prefix_front, prefix_back}

-- what is written now keeps what is written now
keeps_same : (a : Option (List ℕ)) → Keeps a a
keeps_same None = tt
keeps_same (Some was) = refl

-- a text of items: that of two lists in a row is their texts in a row
pub record IsJoined {A : Type 0} (text : List A → List ℕ) : Type 0 where
  pub joined : (xs ys : List A) → text (xs ++ ys) ≡ text xs ++ text ys

module _ {S : Type 0} (written : S → Option (List ℕ)) (faults : S → ℕ) where
  -- all of the bytes were put: what stands after some calls that all answered Ok
  abbrev pub AllPut : S → S → List ℕ → Type 0
  AllPut a b bytes = Puts {S = S} {T = Unit {0}} {E = Unit {0}} written faults a b (Ok tt) bytes

  -- before the first call
  pub none_put : (a : S) → AllPut a a []
  none_put a = record {
    ok = appends_none (written a) (written a) (keeps_same (written a));
    err = tt;
    cause = record { later = omega arith; failed = tt; kept = refl };
  }

  -- a call that answered Ok put all
  pub all_put : {T E : Type 0} (a b : S) (value : T) (xs : List ℕ) → Puts {S = S} {T = T} {E = E} written faults a b (Ok value) xs → AllPut a b xs
  all_put a b value xs put = record {
    ok = put.ok;
    err = tt;
    cause = record { later = put.cause.later; failed = tt; kept = put.cause.kept };
  }

  -- an answer Ok where all was put
  pub ok_put : {T E : Type 0} (a b : S) (value : T) (xs : List ℕ) → AllPut a b xs → Puts {S = S} {T = T} {E = E} written faults a b (Ok value) xs
  ok_put a b value xs put = record {
    ok = put.ok;
    err = tt;
    cause = record { later = put.cause.later; failed = tt; kept = put.cause.kept };
  }

  -- some bytes, and then what the next call put
  pub then_put : {T E : Type 0} (a b c : S) (result : Result T E) (xs ys : List ℕ) → AllPut a b xs → Puts written faults b c result ys → Puts written faults a c result (xs ++ ys)
  then_put a b c (Ok value) xs ys some next = record {
    ok = appends_more (written a) (written b) (written c) xs ys some.ok next.ok;
    err = tt;
    cause = record { later = omega (arith, some.cause.later, next.cause.later); failed = tt; kept = next.cause.kept ∙ some.cause.kept };
  }
  then_put a b c (Err error) xs ys some next = record {
    ok = tt;
    err = prefix_back (written a) (written b) (written c) xs ys some.ok next.err;
    cause = record {
      later = omega (arith, some.cause.later, next.cause.later);
      failed = omega (arith, some.cause.later, next.cause.failed);
      kept = tt;
    };
  }

  -- a call that failed, its error handed on by `?`, and all that would have come after it
  pub failed_put : {T E U F : Type 0} (a b : S) (error : E) (result : Result U F) (xs ys : List ℕ) → IsErr result → Puts {S = S} {T = T} {E = E} written faults a b (Err error) xs → Puts written faults a b result (xs ++ ys)
  failed_put a b error (Ok value) xs ys is_err part = absurd (false≢true is_err)
  failed_put a b error (Err other) xs ys is_err part = record {
    ok = tt;
    err = prefix_front (written a) (written b) xs ys part.err;
    cause = record { later = part.cause.later; failed = part.cause.failed; kept = tt };
  }

  -- some bytes, then a call that failed, its error handed on by `?`, and all that would have come after it
  pub stopped_put : {T E U F : Type 0} (a b c : S) (error : E) (result : Result U F) (xs ys zs : List ℕ) → IsErr result → AllPut a b xs → Puts {S = S} {T = T} {E = E} written faults b c (Err error) ys → Puts written faults a c result (xs ++ (ys ++ zs))
  stopped_put {T} {E} a b c error result xs ys zs is_err some part =
      subst (λ (l : List ℕ). Puts written faults a c result l) (append_assoc xs ys zs)
      (failed_put a c error result (xs ++ ys) zs is_err (then_put {T = T} a b c (Err error) xs ys some part))

  -- the same bytes, written otherwise
  pub same_put : {T E : Type 0} (a b : S) (result : Result T E) (xs ys : List ℕ) → xs ≡ ys → Puts written faults a b result xs → Puts written faults a b result ys
  same_put a b result xs ys same put = subst (λ (l : List ℕ). Puts written faults a b result l) same put

  -- ---- a loop over items, whose bytes stand one after another

  module _ {A : Type 0} (text : List A → List ℕ) (joined : IsJoined text) (xs : List A) (i : ℕ) (x d : A) (within : i < length xs) (is : x ≡ get_or xs i d) where
    next_item : text (take (i + 1) xs) ≡ text (take i xs) ++ text (x ∷ [])
    next_item =
        ap text (take_more xs i d within ∙ ap (λ (y : A). take i xs ++ y ∷ []) (sym is)) ∙ joined.joined (take i xs) (x ∷ [])

    -- one more item
    pub item_put : {T E : Type 0} (a b c : S) (value : T) → AllPut a b (text (take i xs)) → Puts {S = S} {T = T} {E = E} written faults b c (Ok value) (text (x ∷ [])) → AllPut a c (text (take (i + 1) xs))
    item_put a b c value so_far next =
        same_put a c (Ok tt) _ _ (sym next_item) (then_put a b c (Ok tt) (text (take i xs)) (text (x ∷ [])) so_far (all_put b c value (text (x ∷ [])) next))

    -- an item that failed, its error handed on by `?`
    pub item_failed : {T E U F : Type 0} (a b c : S) (error : E) (result : Result U F) → IsErr result → AllPut a b (text (take i xs)) → Puts {S = S} {T = T} {E = E} written faults b c (Err error) (text (x ∷ [])) → Puts written faults a c result (text xs)
    item_failed {T} a b c error result is_err so_far part =
        same_put a c result _ _
        (ap (λ (l : List ℕ). l ++ text (drop (i + 1) xs)) (sym next_item) ∙ sym (joined.joined (take (i + 1) xs) (drop (i + 1) xs)) ∙ ap text (take-append-drop (i + 1) xs))
        (failed_put a c error result (text (take i xs) ++ text (x ∷ [])) (text (drop (i + 1) xs)) is_err (then_put {T = T} a b c (Err error) (text (take i xs)) (text (x ∷ [])) so_far part))

  -- all items
  pub items_put : {A T E : Type 0} (text : List A → List ℕ) (xs : List A) (n : ℕ) (a b : S) (value : T) → length xs ≤ n → AllPut a b (text (take n xs)) → Puts {S = S} {T = T} {E = E} written faults a b (Ok value) (text xs)
  items_put text xs n a b value past put =
      ok_put a b value (text xs) (same_put a b (Ok tt) _ _ (ap text (take_all n xs past)) put)

-- ---- texts whose parts stand one after another

-- lines
pub lines_joined : IsJoined lines_of
lines_joined = record { joined = lines_of-append }

-- a line for each item
pub lines_map_joined : {A : Type 0} (text : A → List ℕ) → IsJoined (λ (xs : List A). lines_of (map text xs))
lines_map_joined text = record { joined = λ xs ys. ap lines_of (map-append text xs ys) ∙ lines_of-append (map text xs) (map text ys) }

-- some lines for each item
pub lines_flat_map_joined : {A : Type 0} (texts : A → List (List ℕ)) → IsJoined (λ (xs : List A). lines_of (flat_map texts xs))
lines_flat_map_joined texts = record { joined = λ xs ys. ap lines_of (flat_map-append texts xs ys) ∙ lines_of-append (flat_map texts xs) (flat_map texts ys) }

-- some bytes for each item
pub bytes_joined : {A : Type 0} (bytes : A → List ℕ) → IsJoined (flat_map bytes)
bytes_joined bytes = record { joined = flat_map-append bytes }
