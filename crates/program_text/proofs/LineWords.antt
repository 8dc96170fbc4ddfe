-- The words of a line, joined one after another, and lines that have words.
use Rattle.std.proofs.Common.{◌≡◌, ℕ, Bool, true, false, cond, not, ◌||◌, List, [], ◌∷◌, ◌++◌, map, append_assoc, refl, sym, ◌∙◌, ap, arith}
use Rattle.std.specs.Prelude.{filter}
use Rattle.std.specs.List.{list_any, slice_split, onto_first, join_with_byte}
use Rattle.std.specs.Char.{to_ascii_lowercase}
use Rattle.std.proofs.lemmas.Bool.Decides.{nat_tests}
use Rattle.std.proofs.lemmas.List.Elements.{filter-append}
use Rattle.program_text.specs.Lines.{is_blank, has_items}
use Rattle.program_text.specs.Inner.Words.{with_word}

-- ---- joined words, and one more

join_last : (first : List ℕ) (words : List (List ℕ)) (word : List ℕ) → join_with_byte 32 (first ∷ (words ++ word ∷ [])) ≡ join_with_byte 32 (first ∷ words) ++ (32 ∷ word)
join_last first [] word = refl
join_last first (next ∷ words) word =
    ap (λ (l : List ℕ). first ++ (32 ∷ l)) (join_last next words word)
    ∙ sym (append_assoc first (32 ∷ join_with_byte 32 (next ∷ words)) (32 ∷ word))

onto_some : (a : ℕ) (rest : List ℕ) (words : List (List ℕ)) (b : ℕ) (bs : List ℕ) → with_word (join_with_byte 32 ((a ∷ rest) ∷ words)) (b ∷ bs) ≡ join_with_byte 32 ((a ∷ rest) ∷ words) ++ (32 ∷ b ∷ bs)
onto_some a rest [] b bs = refl
onto_some a rest (next ∷ words) b bs = refl

join_some : (words : List (List ℕ)) (b : ℕ) (bs : List ℕ) → with_word (join_with_byte 32 (filter has_items words)) (b ∷ bs) ≡ join_with_byte 32 (filter has_items words ++ (b ∷ bs) ∷ [])
join_some [] b bs = refl
join_some ([] ∷ words) b bs = join_some words b bs
join_some ((a ∷ rest) ∷ words) b bs = onto_some a rest (filter has_items words) b bs ∙ sym (join_last (a ∷ rest) (filter has_items words) (b ∷ bs))

none_more : (words : List (List ℕ)) → filter has_items words ≡ filter has_items (words ++ [] ∷ [])
none_more [] = refl
none_more ([] ∷ words) = none_more words
none_more ((b ∷ bs) ∷ words) = ap (λ (l : List (List ℕ)). (b ∷ bs) ∷ l) (none_more words)

pub join_more : (words : List (List ℕ)) (word : List ℕ) → with_word (join_with_byte 32 (filter has_items words)) word ≡ join_with_byte 32 (filter has_items (words ++ word ∷ []))
join_more words [] = ap (join_with_byte 32) (none_more words)
join_more words (b ∷ bs) = join_some words b bs ∙ ap (join_with_byte 32) (sym (filter-append has_items words ((b ∷ bs) ∷ [])))

-- ---- lines with words

one_more_there : {X : Type 0} (x : X) (cut others : Bool) (parts : List (List X)) → others ≡ has_items (filter has_items parts) → (not cut || others) ≡ has_items (filter has_items (cond cut ([] ∷ parts) (onto_first x parts)))
one_more_there x true others parts same = same
one_more_there x false others [] same = refl
one_more_there x false others (part ∷ parts) same = refl

-- a list has a part that is not empty exactly where it has an item at which it is not cut
parts_there : {X : Type 0} (p : X → Bool) (xs : List X) → list_any (λ x. not (p x)) xs ≡ has_items (filter has_items (slice_split p xs))
parts_there p [] = refl
parts_there p (x ∷ xs) = one_more_there x (p x) (list_any (λ y. not (p y)) xs) (slice_split p xs) (parts_there p xs)

lower_blank : (b : ℕ) → is_blank (to_ascii_lowercase b) ≡ is_blank b
lower_blank b = grind (arith, nat_tests)

lower_blanks : (bs : List ℕ) → list_any (λ b. not (is_blank b)) (map to_ascii_lowercase bs) ≡ list_any (λ b. not (is_blank b)) bs
lower_blanks [] = refl
lower_blanks (b ∷ bs) = rw (lower_blank b, lower_blanks bs) refl

pub words_there : (said : List ℕ) → list_any (λ b. not (is_blank b)) said ≡ has_items (filter has_items (slice_split is_blank (map to_ascii_lowercase said)))
words_there said = sym (lower_blanks said) ∙ parts_there is_blank (map to_ascii_lowercase said)
