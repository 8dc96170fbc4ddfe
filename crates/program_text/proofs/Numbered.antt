-- Lines with their numbers: how many there are, and one more.
use Rattle.std.proofs.Common.{◌≡◌, ℕ, suc, ◌+◌, ◌≤◌, Bool, true, false, cond, List, [], ◌∷◌, ◌++◌, length, if◌then◌else◌, refl, sym, ◌∙◌, ap, arith}
use Rattle.std.specs.Prelude.{filter, ◌==◌}
use Rattle.std.proofs.lemmas.Bool.{cond-true, cond-false}
use Rattle.std.proofs.lemmas.List.{append-nil}
use Rattle.std.proofs.lemmas.List.Splits.{length-slice_split}
use Rattle.std.proofs.lemmas.List.Sums.{length-filter, count_by-le-length}
use Rattle.program_text.specs.declared.lines.InstructionLine.{InstructionLine}
use Rattle.program_text.specs.Lines.{lines_of_text, line_text, has_words, numbered_from}

count_more : (has : Bool) (line : InstructionLine) (text : List ℕ) (texts : List (List ℕ)) (lines : List InstructionLine) → length texts ≡ length lines → length (cond has (text ∷ texts) texts) ≡ length (if has then line ∷ lines else lines)
count_more true line text texts lines same = ap suc same
count_more false line text texts lines same = same

pub count_numbered : (number : ℕ) (lines : List (List ℕ)) → length (filter has_words lines) ≡ length (numbered_from number lines)
count_numbered number [] = refl
count_numbered number (line ∷ lines) = count_more (has_words line) (record { number = number; text = line_text line }) line (filter has_words lines) (numbered_from (number + 1) lines) (count_numbered (number + 1) lines)

-- there are no more lines than bytes, but for the one after the last line feed
pub few_lines : (bytes : List ℕ) → length (lines_of_text bytes) ≤ length bytes + 1
few_lines bytes = omega (arith, length-slice_split (λ b. b == 10) bytes, count_by-le-length (λ b. b == 10) bytes)

pub few_filtered : (bytes : List ℕ) → length (filter has_words (lines_of_text bytes)) ≤ length bytes + 1
few_filtered bytes = omega (arith, few_lines bytes, length-filter has_words (lines_of_text bytes), count_by-le-length has_words (lines_of_text bytes))

before_more : (has : Bool) (line : InstructionLine) (xs ys all : List InstructionLine) → all ≡ xs ++ ys → (if has then line ∷ all else all) ≡ (if has then line ∷ xs else xs) ++ ys
before_more true line xs ys all same = ap (λ (l : List InstructionLine). line ∷ l) same
before_more false line xs ys all same = same

pub numbered-append : (number : ℕ) (xs ys : List (List ℕ)) → numbered_from number (xs ++ ys) ≡ numbered_from number xs ++ numbered_from (number + length xs) ys
numbered-append number [] ys = let same : number ≡ number + 0 = omega arith in ap (λ (n : ℕ). numbered_from n ys) same
numbered-append number (x ∷ xs) ys =
    let same : number + 1 + length xs ≡ number + suc (length xs) = omega arith in
    before_more (has_words x) (record { number = number; text = line_text x }) (numbered_from (number + 1) xs) (numbered_from (number + suc (length xs)) ys) (numbered_from (number + 1) (xs ++ ys))
    (numbered-append (number + 1) xs ys ∙ ap (λ (n : ℕ). numbered_from (number + 1) xs ++ numbered_from n ys) same)

-- ---- one line

pub one_with_words : (number : ℕ) (line text : List ℕ) (lines : List InstructionLine) → has_words line ≡ true → text ≡ line_text line → lines ++ record { number = number; text = text } ∷ [] ≡ lines ++ numbered_from number (line ∷ [])
one_with_words number line text lines has same =
    let numbered : List ℕ → InstructionLine = λ t. record { number = number; text = t } in
    ap (λ (t : List ℕ). lines ++ numbered t ∷ []) same
    ∙ ap (λ (l : List InstructionLine). lines ++ l) (sym (cond-true (has_words line) (numbered (line_text line) ∷ []) [] has))

pub none_without_words : (number : ℕ) (line : List ℕ) (lines : List InstructionLine) → has_words line ≡ false → lines ≡ lines ++ numbered_from number (line ∷ [])
none_without_words number line lines has =
    sym (append-nil lines)
    ∙ ap (λ (l : List InstructionLine). lines ++ l) (sym (cond-false (has_words line) (record { number = number; text = line_text line } ∷ []) [] has))
