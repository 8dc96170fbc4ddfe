-- What was read of a file so far.
use Rattle.std.proofs.Common.{◌≡◌, ℕ, List, [], ◌++◌, length, take, drop, Option, None, Some, Ok, sym, ◌∙◌, ap, subst, append_assoc}
use Rattle.std.proofs.lemmas.List.{take-append-drop}
use Rattle.std.proofs.Math.Seq.{drop-append_seam}
use Rattle.bfgp_outside.specs.Shelf.{Files, Told, ReadsHeld, GivesBytes}

-- nothing, or the front of the file that is held
abbrev pub IsFrontOf : List ℕ → Option (List ℕ) → Type 0
IsFrontOf read None = read ≡ []
IsFrontOf read (Some bytes) = (rest : List ℕ) × (read ++ rest ≡ bytes)

nothing_read : (read : List ℕ) (held : Option (List ℕ)) → read ≡ [] → IsFrontOf read held
nothing_read read None none = none
nothing_read read (Some bytes) none = (bytes, ap (λ (l : List ℕ). l ++ bytes) none)

pub front_none : (told : Option Files) (name read : List ℕ) → read ≡ [] → Told told name (IsFrontOf read)
front_none None name read none = tt
front_none (Some files) name read none = nothing_read read (files name) none

given : (read rest into bytes : List ℕ) (count : ℕ) → read ++ rest ≡ bytes → GivesBytes bytes (length read) count into → (read ++ take count into) ++ drop count rest ≡ bytes
given read rest into bytes count split gives =
    let left : drop (length read) bytes ≡ rest = ap (drop (length read)) (sym split) ∙ drop-append_seam read rest in
    let same : take count into ≡ take count rest = gives.same ∙ ap (take count) left in
    append_assoc read (take count into) (drop count rest)
    ∙ ap (λ (l : List ℕ). read ++ (l ++ drop count rest)) same
    ∙ ap (λ (l : List ℕ). read ++ l) (take-append-drop count rest)
    ∙ split

more_read : (held : Option (List ℕ)) (read into : List ℕ) (count : ℕ) → IsFrontOf read held → ReadsHeld held (length read) (Ok count) into → IsFrontOf (read ++ take count into) held
more_read None read into count front gives = absurd gives
more_read (Some bytes) read into count front gives = (drop count front.0, given read front.0 into bytes count front.1 gives)

pub front_more : (told now : Option Files) (name read into : List ℕ) (from count : ℕ) → now ≡ told → from ≡ length read → Told told name (IsFrontOf read) → Told now name (λ held. ReadsHeld held from (Ok count) into) → Told told name (IsFrontOf (read ++ take count into))
front_more None now name read into from count kept at front gives = tt
front_more (Some files) now name read into from count kept at front gives =
    let here : ReadsHeld (files name) from (Ok count) into = subst (λ (t : Option Files). Told t name (λ held. ReadsHeld held from (Ok count) into)) kept gives in
    more_read (files name) read into count front (subst (λ (n : ℕ). ReadsHeld (files name) n (Ok count) into) at here)
