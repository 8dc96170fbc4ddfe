-- Lists of lines that are no texts of operations, and how many bytes they have.
use Rattle.std.proofs.Common.{◌≡◌, ℕ, ◌+◌, ◌*◌, ◌≤◌, List, [], ◌∷◌, ◌++◌, length, All, refl, arith, length-append}
use Rattle.std.specs.Prelude.{sum_by}
use Rattle.std.proofs.lemmas.List.Elements.{All-nil, All-cons, All-append, All-weaker}
use Rattle.std.proofs.lemmas.List.Sums.{sum_by-cons, sum_by-append, sum_by-le}
use Rattle.flag_rules.specs.Line.{line, lines_of}
use Rattle.answer_lines.specs.Lines.{IsLine}
use Rattle.answer_lines.proofs.Lengths.{line_fits}

-- a line of a document for a machine that has no operations, so that it is the text of none
abbrev pub IsPlainLine : List ℕ → Type 0
IsPlainLine text = IsLine [] text

-- at most so many lines, and none of them is the text of an operation
pub record ArePlain (count : ℕ) (lines : List (List ℕ)) : Type 0 where
  pub few : length lines ≤ count
  pub each : All IsPlainLine lines

pub plain_nil : ArePlain 0 []
plain_nil = record { few = omega arith; each = All-nil IsPlainLine }

pub plain_cons : (count : ℕ) (text : List ℕ) (lines : List (List ℕ)) → IsPlainLine text → ArePlain count lines → ArePlain (count + 1) (text ∷ lines)
plain_cons count text lines plain rest = record { few = omega (arith, rest.few); each = All-cons IsPlainLine text lines plain rest.each }

pub plain_append : (count more : ℕ) (xs ys : List (List ℕ)) → ArePlain count xs → ArePlain more ys → ArePlain (count + more) (xs ++ ys)
plain_append count more xs ys plain others = record { few = omega (arith, plain.few, others.few, length-append xs ys); each = All-append IsPlainLine xs ys plain.each others.each }

pub plain_within : (count more : ℕ) (lines : List (List ℕ)) → count ≤ more → ArePlain count lines → ArePlain more lines
plain_within count more lines within plain = record { few = omega (arith, plain.few); each = plain.each }

-- how many bytes lines have, each with its line feed
abbrev pub size_of : List (List ℕ) → ℕ
size_of lines = length (lines_of lines)

-- the bytes of a line and its line feed
abbrev size : List ℕ → ℕ
size text = length text + 1

size_is_sum : (lines : List (List ℕ)) → size_of lines ≡ sum_by size lines
size_is_sum [] = refl
size_is_sum (text ∷ lines) = omega (arith, length-append (line text) (lines_of lines), length-append text (10 ∷ []), size_is_sum lines, sum_by-cons size text lines)

pub size_append : (xs ys : List (List ℕ)) → size_of (xs ++ ys) ≡ size_of xs + size_of ys
size_append xs ys = omega (arith, size_is_sum xs, size_is_sum ys, size_is_sum (xs ++ ys), sum_by-append size xs ys)

-- lines of at most so many bytes
pub size_within : (bytes : ℕ) (lines : List (List ℕ)) → All (λ text. length text ≤ bytes) lines → size_of lines ≤ length lines * (bytes + 1)
size_within bytes lines each =
    let sum : sum_by size lines ≤ length lines * (bytes + 1) = sum_by-le size (bytes + 1) lines (All-weaker (λ text. length text ≤ bytes) (λ text. size text ≤ bytes + 1) (λ text short. omega (arith, short)) lines each) in
    omega (arith, size_is_sum lines, sum)

plain_short : (text : List ℕ) → IsPlainLine text → length text ≤ 64
plain_short text is = line_fits [] text 64 (omega arith) (λ op within. absurd (omega (arith, within))) is

-- lines that are no texts of operations have at most 64 bytes and the line feed
pub plain_size : (count : ℕ) (lines : List (List ℕ)) → ArePlain count lines → size_of lines ≤ 65 * count
plain_size count lines plain =
    omega (arith, plain.few, size_within 64 lines (All-weaker IsPlainLine (λ text. length text ≤ 64) plain_short lines plain.each))
