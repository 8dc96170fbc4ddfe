-- Calls that gather bytes, one after another.
use Rattle.std.proofs.Common.{◌≡◌, ℕ, ◌+◌, ◌<◌, ◌≤◌, List, [], ◌∷◌, ◌++◌, length, take, drop, get_or, Option, Result, Ok, Err, IsErr, OnOk, append_assoc, refl, sym, ◌∙◌, ap, subst}
use Rattle.std.proofs.lemmas.Bool.{false≢true}
use Rattle.std.proofs.lemmas.List.{append-nil, take_more, take-append-drop, take_all}
use Rattle.bfgp_outside.specs.Sink.{Puts}
use Rattle.bfgp_outside.proofs.Puts.{IsJoined, none_put, all_put, ok_put, then_put, failed_put, same_put}
use Rattle.program_text.specs.Gathered.{Gathers}

-- what stands is what Ok leaves
on_ok : {T E P : Type 0} (result : Result T E) → P → OnOk result P
on_ok (Ok value) stands = stands
on_ok (Err error) stands = tt

module _ {S : Type 0} (written : S → Option (List ℕ)) (faults : S → ℕ) where
  -- all of the bytes were gathered: what stands after some calls that all answered Ok
  abbrev pub AllGathered : S → S → List ℕ → List ℕ → List ℕ → Type 0
  AllGathered a b h i bytes = Gathers {S = S} {T = Unit {0}} {E = Unit {0}} written faults a b h i (Ok tt) bytes

  -- before the first call
  pub none_gathered : (a : S) (h : List ℕ) → AllGathered a a h h []
  none_gathered a h = record { put = []; rest = h; parts = sym (append-nil h); puts = none_put written faults a; kept = refl }

  -- ---- one call

  -- the bytes are kept
  pub kept_gathered : {T E : Type 0} (a : S) (h i bytes : List ℕ) (value : T) → i ≡ h ++ bytes → Gathers {S = S} {T = T} {E = E} written faults a a h i (Ok value) bytes
  kept_gathered a h i bytes value is = record { put = []; rest = h ++ bytes; parts = refl; puts = ok_put written faults a a value [] (none_put written faults a); kept = is }

  -- all that was gathered is put, and the bytes are kept
  pub moved_gathered : {T E U F : Type 0} (a b : S) (h i bytes : List ℕ) (value : T) (other : U) → Puts {S = S} {T = T} {E = E} written faults a b (Ok value) h → i ≡ bytes → Gathers {S = S} {T = U} {E = F} written faults a b h i (Ok other) bytes
  moved_gathered a b h i bytes value other put is = record { put = h; rest = bytes; parts = refl; puts = ok_put written faults a b other h (all_put written faults a b value h put); kept = is }

  -- all that was gathered is put, and then the bytes
  pub passed_gathered : {T E U F : Type 0} (a b c : S) (h i bytes : List ℕ) (value : T) (result : Result U F) → Puts {S = S} {T = T} {E = E} written faults a b (Ok value) h → Puts written faults b c result bytes → i ≡ [] → Gathers written faults a c h i result bytes
  passed_gathered a b c h i bytes value result put next none = record {
    put = h ++ bytes;
    rest = [];
    parts = append-nil (h ++ bytes);
    puts = then_put written faults a b c result h bytes (all_put written faults a b value h put) next;
    kept = on_ok result none;
  }

  -- what was gathered is put no further than to a front of it, the error handed on by `?`
  pub stuck_gathered : {T E U F : Type 0} (a b : S) (h i bytes : List ℕ) (error : E) (result : Result U F) → IsErr result → Puts {S = S} {T = T} {E = E} written faults a b (Err error) h → Gathers written faults a b h i result bytes
  stuck_gathered a b h i bytes error (Ok value) is_err put = absurd (false≢true is_err)
  stuck_gathered a b h i bytes error (Err other) is_err put = record {
    put = h;
    rest = bytes;
    parts = refl;
    puts = same_put written faults a b (Err other) (h ++ []) h (append-nil h) (failed_put written faults a b error (Err other) h [] is_err put);
    kept = tt;
  }

  -- ---- one call after another

  -- a call that answered Ok gathered all
  pub all_gathered : {T E : Type 0} (a b : S) (h i : List ℕ) (value : T) (xs : List ℕ) → Gathers {S = S} {T = T} {E = E} written faults a b h i (Ok value) xs → AllGathered a b h i xs
  all_gathered a b h i value xs some = record { put = some.put; rest = some.rest; parts = some.parts; puts = all_put written faults a b value some.put some.puts; kept = some.kept }

  -- an answer Ok where all was gathered
  pub ok_gathered : {T E : Type 0} (a b : S) (h i : List ℕ) (value : T) (xs : List ℕ) → AllGathered a b h i xs → Gathers {S = S} {T = T} {E = E} written faults a b h i (Ok value) xs
  ok_gathered a b h i value xs some = record { put = some.put; rest = some.rest; parts = some.parts; puts = ok_put written faults a b value some.put some.puts; kept = some.kept }

  -- some bytes, and then what the next call gathered
  pub then_gathered : {T E : Type 0} (a b c : S) (h i j : List ℕ) (result : Result T E) (xs ys : List ℕ) → AllGathered a b h i xs → Gathers written faults b c i j result ys → Gathers written faults a c h j result (xs ++ ys)
  then_gathered a b c h i j result xs ys some next = record {
    put = some.put ++ next.put;
    rest = next.rest;
    parts =
        append_assoc some.put next.put next.rest
        ∙ ap (λ (l : List ℕ). some.put ++ l) (next.parts ∙ ap (λ (l : List ℕ). l ++ ys) some.kept)
        ∙ sym (append_assoc some.put some.rest ys)
        ∙ ap (λ (l : List ℕ). l ++ ys) some.parts
        ∙ append_assoc h xs ys;
    puts = then_put written faults a b c result some.put next.put some.puts next.puts;
    kept = next.kept;
  }

  -- a call that failed, its error handed on by `?`, and all that would have come after it
  pub failed_gathered : {T E U F : Type 0} (a b : S) (h i j : List ℕ) (error : E) (result : Result U F) (xs ys : List ℕ) → IsErr result → Gathers {S = S} {T = T} {E = E} written faults a b h i (Err error) xs → Gathers written faults a b h j result (xs ++ ys)
  failed_gathered a b h i j error (Ok value) xs ys is_err part = absurd (false≢true is_err)
  failed_gathered a b h i j error (Err other) xs ys is_err part = record {
    put = part.put;
    rest = part.rest ++ ys;
    parts = sym (append_assoc part.put part.rest ys) ∙ ap (λ (l : List ℕ). l ++ ys) part.parts ∙ append_assoc h xs ys;
    puts = same_put written faults a b (Err other) (part.put ++ []) part.put (append-nil part.put) (failed_put written faults a b error (Err other) part.put [] is_err part.puts);
    kept = tt;
  }

  -- some bytes, then a call that failed, its error handed on by `?`, and all that would have come after it
  pub stopped_gathered : {T E U F : Type 0} (a b c : S) (h i j k : List ℕ) (error : E) (result : Result U F) (xs ys zs : List ℕ) → IsErr result → AllGathered a b h i xs → Gathers {S = S} {T = T} {E = E} written faults b c i j (Err error) ys → Gathers written faults a c h k result (xs ++ (ys ++ zs))
  stopped_gathered {T} {E} a b c h i j k error result xs ys zs is_err some part =
      subst (λ (l : List ℕ). Gathers written faults a c h k result l) (append_assoc xs ys zs)
      (failed_gathered a c h j k error result (xs ++ ys) zs is_err (then_gathered {T = T} a b c h i j (Err error) xs ys some part))

  -- the same bytes, written otherwise
  pub same_gathered : {T E : Type 0} (a b : S) (h i : List ℕ) (result : Result T E) (xs ys : List ℕ) → xs ≡ ys → Gathers written faults a b h i result xs → Gathers written faults a b h i result ys
  same_gathered a b h i result xs ys same some = subst (λ (l : List ℕ). Gathers written faults a b h i result l) same some

  -- ---- a loop over items, whose bytes stand one after another

  module _ {A : Type 0} (text : List A → List ℕ) (joined : IsJoined text) (xs : List A) (n : ℕ) (x d : A) (within : n < length xs) (is : x ≡ get_or xs n d) where
    next_item : text (take (n + 1) xs) ≡ text (take n xs) ++ text (x ∷ [])
    next_item = ap text (take_more xs n d within ∙ ap (λ (y : A). take n xs ++ y ∷ []) (sym is)) ∙ joined.joined (take n xs) (x ∷ [])

    -- one more item
    pub item_gathered : {T E : Type 0} (a b c : S) (h i j : List ℕ) (value : T) → AllGathered a b h i (text (take n xs)) → Gathers {S = S} {T = T} {E = E} written faults b c i j (Ok value) (text (x ∷ [])) → AllGathered a c h j (text (take (n + 1) xs))
    item_gathered a b c h i j value so_far next =
        same_gathered a c h j (Ok tt) _ _ (sym next_item) (then_gathered a b c h i j (Ok tt) (text (take n xs)) (text (x ∷ [])) so_far (all_gathered b c i j value (text (x ∷ [])) next))

    -- an item that failed, its error handed on by `?`
    pub item_stopped : {T E U F : Type 0} (a b c : S) (h i j k : List ℕ) (error : E) (result : Result U F) → IsErr result → AllGathered a b h i (text (take n xs)) → Gathers {S = S} {T = T} {E = E} written faults b c i j (Err error) (text (x ∷ [])) → Gathers written faults a c h k result (text xs)
    item_stopped {T} a b c h i j k error result is_err so_far part =
        same_gathered a c h k result _ _
        (ap (λ (l : List ℕ). l ++ text (drop (n + 1) xs)) (sym next_item) ∙ sym (joined.joined (take (n + 1) xs) (drop (n + 1) xs)) ∙ ap text (take-append-drop (n + 1) xs))
        (failed_gathered a c h j k error result (text (take n xs) ++ text (x ∷ [])) (text (drop (n + 1) xs)) is_err (then_gathered {T = T} a b c h i j (Err error) (text (take n xs)) (text (x ∷ [])) so_far part))

  -- all items
  pub items_gathered : {A T E : Type 0} (text : List A → List ℕ) (xs : List A) (n : ℕ) (a b : S) (h i : List ℕ) (value : T) → length xs ≤ n → AllGathered a b h i (text (take n xs)) → Gathers {S = S} {T = T} {E = E} written faults a b h i (Ok value) (text xs)
  items_gathered text xs n a b h i value past some =
      ok_gathered a b h i value (text xs) (same_gathered a b h i (Ok tt) _ _ (ap text (take_all n xs past)) some)

  -- ---- the end

  -- all was gathered from nothing on, and then what was left is put
  pub gathered_put : {T E U F : Type 0} (a b c : S) (h i : List ℕ) (value : T) (result : Result U F) (xs : List ℕ) → h ≡ [] → Gathers {S = S} {T = T} {E = E} written faults a b h i (Ok value) xs → Puts written faults b c result i → Puts written faults a c result xs
  gathered_put a b c h i value result xs none some next =
      same_put written faults a c result (some.put ++ i) xs (ap (λ (l : List ℕ). some.put ++ l) some.kept ∙ some.parts ∙ ap (λ (l : List ℕ). l ++ xs) none)
      (then_put written faults a b c result some.put i (all_put written faults a b value some.put some.puts) next)

  -- it was not all gathered, the error handed on by `?`
  pub stopped_put : {T E U F : Type 0} (a b : S) (h i : List ℕ) (error : E) (result : Result U F) (xs : List ℕ) → h ≡ [] → IsErr result → Gathers {S = S} {T = T} {E = E} written faults a b h i (Err error) xs → Puts written faults a b result xs
  stopped_put a b h i error result xs none is_err part =
      same_put written faults a b result (part.put ++ part.rest) xs (part.parts ∙ ap (λ (l : List ℕ). l ++ xs) none)
      (failed_put written faults a b error result part.put part.rest is_err part.puts)
