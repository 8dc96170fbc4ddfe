-- What came of a file so far.
use Rattle.std.proofs.Common.{◌≡◌, ℕ, ◌+◌, ◌≤◌, List, [], ◌++◌, length, take, drop, Option, None, Some, Ok, sym, ◌∙◌, ap, subst, append_assoc, length-append, length-take-le, arith}
use Rattle.std.proofs.lemmas.List.{take-append-drop}
use Rattle.std.proofs.Math.Seq.{drop-append_seam}
use Rattle.bfgp_outside.specs.Shelf.{Files, Told, ReadsHeld, GivesBytes}
use Rattle.piece_reading.specs.Taker.{Took}

-- nothing, or the front of the file that is held
abbrev pub IsFrontOf : List ℕ → Option (List ℕ) → Type 0
IsFrontOf read None = read ≡ []
IsFrontOf read (Some bytes) = (rest : List ℕ) × (read ++ rest ≡ bytes)

-- these bytes came to a taker, and where the shelf tells its files they are the front of the file
pub record TookFront {T : Type 0} (stands_for : T → List ℕ → Type 0) (old new : T) (told : Option Files) (name : List ℕ) (place : ℕ) : Type 0 where
  pub bytes : List ℕ
  pub took : Took stands_for old new bytes
  pub reaches : place ≡ length bytes
  pub front : Told told name (IsFrontOf bytes)

given : (read rest into bytes : List ℕ) (count : ℕ) → read ++ rest ≡ bytes → GivesBytes bytes (length read) count into → (read ++ take count into) ++ drop count rest ≡ bytes
given read rest into bytes count split gives =
    let left : drop (length read) bytes ≡ rest = ap (drop (length read)) (sym split) ∙ drop-append_seam read rest in
    let same : take count into ≡ take count rest = gives.same ∙ ap (take count) left in
    append_assoc read (take count into) (drop count rest)
    ∙ ap (λ (l : List ℕ). read ++ (l ++ drop count rest)) same
    ∙ ap (λ (l : List ℕ). read ++ l) (take-append-drop count rest)
    ∙ split

more_read : (held : Option (List ℕ)) (read into : List ℕ) (count : ℕ) → IsFrontOf read held → ReadsHeld held (length read) (Ok count) into → IsFrontOf (read ++ take count into) held
more_read None read into count front gives = absurd gives
more_read (Some bytes) read into count front gives = (drop count front.0, given read front.0 into bytes count front.1 gives)

front_more : (told now : Option Files) (name read into : List ℕ) (place count : ℕ) → now ≡ told → place ≡ length read → Told told name (IsFrontOf read) → Told now name (λ held. ReadsHeld held place (Ok count) into) → Told told name (IsFrontOf (read ++ take count into))
front_more None now name read into place count kept at front gives = tt
front_more (Some files) now name read into place count kept at front gives =
    let here : ReadsHeld (files name) place (Ok count) into = subst (λ (t : Option Files). Told t name (λ held. ReadsHeld held place (Ok count) into)) kept gives in
    more_read (files name) read into count front (subst (λ (n : ℕ). ReadsHeld (files name) n (Ok count) into) at here)

-- one piece more came
pub front_then : {T : Type 0} (stands_for : T → List ℕ → Type 0) (a b c : T) (told now : Option Files) (name into : List ℕ) (place count : ℕ) → now ≡ told → TookFront stands_for a b told name place → Told now name (λ held. ReadsHeld held place (Ok count) into) → Took stands_for b c (take count into) → count ≤ length into → TookFront stands_for a c told name (place + count)
front_then stands_for a b c told now name into place count kept came gives took fits = record {
  bytes = came.bytes ++ take count into;
  took = λ front stands. subst (stands_for c) (append_assoc front came.bytes (take count into)) (took (front ++ came.bytes) (came.took front stands));
  reaches = omega (arith, came.reaches, length-append came.bytes (take count into), length-take-le count into fits);
  front = front_more told now name came.bytes into place count kept came.reaches came.front gives;
}
