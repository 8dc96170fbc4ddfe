-- Texts of words are read as they are written, and so are programs.
use Rattle.std.proofs.Common.{◌≡◌, ℕ, ◌+◌, ◌%◌, ◌^◌, ◌<◌, ◌≤◌, Bool, true, false, cond, not, ◌&&◌, ◌||◌, List, [], ◌∷◌, ◌++◌, length, map, get_or, refl, sym, ◌∙◌, ap, subst, inl, inr, arith, append_assoc}
use Rattle.std.specs.Prelude.{Option, Some, None, IsSome, option_and_then, option_map, slice_get, filter, take_while, ◌==◌, codes, decimal, All, IsTrue}
use Rattle.std.specs.List.{list_all, slice_split, join_with_byte}
use Rattle.std.specs.Char.{to_ascii_lowercase}
use Rattle.std.proofs.lemmas.Bool.{false≢true, cases_lt, and_parts, and_from, or_left, cond-true}
use Rattle.std.proofs.lemmas.Bool.Decides.{nat_tests}
use Rattle.std.proofs.lemmas.Fmt.{decimal_by_steps}
use Rattle.std.proofs.lemmas.Option.{slice_get-map, get_or_from_slice_get}
use Rattle.std.proofs.lemmas.List.{length-map}
use Rattle.std.proofs.lemmas.List.Elements.{All-nil, All-cons, All-head, All-tail}
use Rattle.std.proofs.lemmas.List.Folds.{list_all-append}
use Rattle.std.proofs.lemmas.List.Splits.{slice_split_none, slice_split_at}
use Rattle.std.proofs.lemmas.List.Sums.{AllPass-from_list_all, take_while-cons}
use Rattle.flag_rules.specs.declared.flags.Cond.{Cond}
use Rattle.flag_rules.specs.declared.flags.Cond.TheVariants.{Zero, Nonzero, Carry, Nocarry}
use Rattle.flag_rules.specs.Line.{lines_of}
use Rattle.program_model.specs.declared.instr.Instr.{Instr}
use Rattle.program_model.specs.declared.instr.Instr.TheVariants.{Op, Goto, End}
use Rattle.program_model.specs.Program.{Program, line_at, IsInstr, IsProgram}
use Rattle.program_model.proofs.Alphabets.{contains_jump, contains_last}
use Rattle.program_text.specs.declared.lines.InstructionLine.{InstructionLine}
use Rattle.program_text.specs.Names.{is_word_byte, is_word, IsWorded, AreNames}
use Rattle.program_text.specs.Texts.{cond_text, jump_text, instr_text, program_line, program_text}
use Rattle.program_text.specs.Lines.{lines_of_text, is_blank, has_items, said_by_line, words_of_line, line_text, has_words, numbered_from, instruction_lines}
use Rattle.program_text.specs.Reading.{texts_of, AreLinesOf}
use Rattle.program_text.proofs.Puts.{has_text_of}

-- ---- bytes

-- the bytes of words and of the spaces between them
abbrev pub spells : ℕ → Bool
spells b = is_word_byte b || b == 32

word_not_blank : (b : ℕ) → is_word_byte b ≡ true → is_blank b ≡ false
word_not_blank b e = grind (arith, nat_tests)

spells_no_comment : (b : ℕ) → spells b ≡ true → not (b == 59) ≡ true
spells_no_comment b e = grind (arith, nat_tests)

spells_no_feed : (b : ℕ) → spells b ≡ true → (b == 10) ≡ false
spells_no_feed b e = grind (arith, nat_tests)

spells_lower : (b : ℕ) → spells b ≡ true → to_ascii_lowercase b ≡ b
spells_lower b e = grind (arith, nat_tests)

digit_in_word : (d : ℕ) → d < 10 → is_word_byte (48 + d) ≡ true
digit_in_word d h = grind (arith, nat_tests)

-- ---- words

word_bytes : (word : List ℕ) → is_word word ≡ true → list_all is_word_byte word ≡ true
word_bytes [] e = refl
word_bytes (b ∷ bs) e = e

bytes_spell : (bs : List ℕ) → list_all is_word_byte bs ≡ true → list_all spells bs ≡ true
bytes_spell [] e = refl
bytes_spell (b ∷ bs) e =
    let parts = and_parts (is_word_byte b) (list_all is_word_byte bs) e in
    and_from (spells b) (list_all spells bs) (or_left (is_word_byte b) (b == 32) parts.0) (bytes_spell bs parts.1)

words_spell : (words : List (List ℕ)) → All (λ word. IsTrue (is_word word)) words → list_all spells (join_with_byte 32 words) ≡ true
words_spell [] each = refl
words_spell (word ∷ []) each = bytes_spell word (word_bytes word (All-head (λ w. IsTrue (is_word w)) word [] each))
words_spell (word ∷ next ∷ words) each =
    list_all-append spells word (32 ∷ join_with_byte 32 (next ∷ words))
    ∙ and_from (list_all spells word) (list_all spells (join_with_byte 32 (next ∷ words)))
    (bytes_spell word (word_bytes word (All-head (λ w. IsTrue (is_word w)) word (next ∷ words) each)))
    (words_spell (next ∷ words) (All-tail (λ w. IsTrue (is_word w)) word (next ∷ words) each))

no_blank : (word : List ℕ) → is_word word ≡ true → All (λ b. is_blank b ≡ false) word
no_blank word e = λ k d h. word_not_blank (get_or word k d) (AllPass-from_list_all is_word_byte word (word_bytes word e) k d h)

-- words that are joined by a space are the parts between the spaces
pub split_words : (word : List ℕ) (words : List (List ℕ)) → All (λ w. IsTrue (is_word w)) (word ∷ words) → slice_split is_blank (join_with_byte 32 (word ∷ words)) ≡ word ∷ words
split_words word [] each = slice_split_none is_blank word (no_blank word (All-head (λ w. IsTrue (is_word w)) word [] each))
split_words word (next ∷ words) each =
    slice_split_at is_blank word 32 (join_with_byte 32 (next ∷ words)) (no_blank word (All-head (λ w. IsTrue (is_word w)) word (next ∷ words) each)) refl
    ∙ ap (λ (l : List (List ℕ)). word ∷ l) (split_words next words (All-tail (λ w. IsTrue (is_word w)) word (next ∷ words) each))

none_left_out : (words : List (List ℕ)) → All (λ w. IsTrue (is_word w)) words → filter has_items words ≡ words
none_left_out [] each = refl
none_left_out ([] ∷ words) each = absurd (false≢true (All-head (λ w. IsTrue (is_word w)) [] words each))
none_left_out ((b ∷ bs) ∷ words) each = ap (λ (l : List (List ℕ)). (b ∷ bs) ∷ l) (none_left_out words (All-tail (λ w. IsTrue (is_word w)) (b ∷ bs) words each))

-- ---- lines

said_as_written : (text : List ℕ) → list_all spells text ≡ true → said_by_line text ≡ text
said_as_written [] e = refl
said_as_written (b ∷ bs) e =
    let parts = and_parts (spells b) (list_all spells bs) e in
    let p : ℕ → Bool = λ x. not (x == 59) in
    ap (map to_ascii_lowercase) (take_while-cons p b bs ∙ cond-true (p b) (b ∷ take_while p bs) [] (spells_no_comment b parts.0))
    ∙ ap (λ (x : ℕ). x ∷ said_by_line bs) (spells_lower b parts.0)
    ∙ ap (λ (l : List ℕ). b ∷ l) (said_as_written bs parts.1)

words_as_written : (word : List ℕ) (words : List (List ℕ)) → All (λ w. IsTrue (is_word w)) (word ∷ words) → words_of_line (join_with_byte 32 (word ∷ words)) ≡ word ∷ words
words_as_written word words each =
    ap (λ (l : List ℕ). filter has_items (slice_split is_blank l)) (said_as_written (join_with_byte 32 (word ∷ words)) (words_spell (word ∷ words) each))
    ∙ ap (filter has_items) (split_words word words each)
    ∙ none_left_out (word ∷ words) each

-- the line of a text of words has these words, and is read as it is written
pub record IsReadAsWritten (text : List ℕ) : Type 0 where
  pub some : has_words text ≡ true
  pub same : line_text text ≡ text
  pub no_feed : All (λ b. (b == 10) ≡ false) text

joined_line : (words : List (List ℕ)) → 0 < length words → All (λ w. IsTrue (is_word w)) words → IsReadAsWritten (join_with_byte 32 words)
joined_line [] some each = absurd (omega (arith, some))
joined_line (word ∷ words) some each = record {
  some = ap has_items (words_as_written word words each);
  same = ap (join_with_byte 32) (words_as_written word words each);
  no_feed = λ k d h. spells_no_feed (get_or (join_with_byte 32 (word ∷ words)) k d) (AllPass-from_list_all spells (join_with_byte 32 (word ∷ words)) (words_spell (word ∷ words) each) k d h);
}

pub line_as_written : (text : List ℕ) → IsWorded text → IsReadAsWritten text
line_as_written text worded = subst IsReadAsWritten worded.joined (joined_line worded.words worded.some worded.each)

-- lines are cut where they were joined
cut_lines : (texts : List (List ℕ)) → All IsReadAsWritten texts → lines_of_text (lines_of texts) ≡ texts ++ [] ∷ []
cut_lines [] each = refl
cut_lines (text ∷ texts) each =
    ap lines_of_text (append_assoc text (10 ∷ []) (lines_of texts))
    ∙ slice_split_at (λ b. b == 10) text 10 (lines_of texts) (All-head IsReadAsWritten text texts each).no_feed refl
    ∙ ap (λ (l : List (List ℕ)). text ∷ l) (cut_lines texts (All-tail IsReadAsWritten text texts each))

numbered_texts : (number : ℕ) (texts : List (List ℕ)) → All IsReadAsWritten texts → texts_of (numbered_from number (texts ++ [] ∷ [])) ≡ texts
numbered_texts number [] each = refl
numbered_texts number (text ∷ texts) each =
    let here = All-head IsReadAsWritten text texts each in
    let rest : List InstructionLine = numbered_from (number + 1) (texts ++ [] ∷ []) in
    let first : InstructionLine = record { number = number; text = line_text text } in
    ap texts_of (cond-true (has_words text) (first ∷ rest) rest here.some)
    ∙ ap (λ (t : List ℕ). t ∷ texts_of rest) here.same
    ∙ ap (λ (l : List (List ℕ)). text ∷ l) (numbered_texts (number + 1) texts (All-tail IsReadAsWritten text texts each))

-- ---- instructions

word_and_digit : (word : List ℕ) (b : ℕ) → is_word word ≡ true → is_word_byte b ≡ true → is_word (word ++ b ∷ []) ≡ true
word_and_digit [] b e h = absurd (false≢true e)
word_and_digit (x ∷ xs) b e h = list_all-append is_word_byte (x ∷ xs) (b ∷ []) ∙ and_from (list_all is_word_byte (x ∷ xs)) (is_word_byte b && true) e (and_from (is_word_byte b) true h refl)

pub decimal_word : (n : ℕ) → n < 2 ^ 64 → is_word (decimal n) ≡ true
decimal_word = decimal_by_steps (λ n ds. is_word ds ≡ true)
    (λ n h. and_from (is_word_byte (48 + n)) true (digit_in_word n h) refl)
    (λ n ds h e. word_and_digit ds (48 + n % 10) e (digit_in_word (n % 10) (omega arith)))

cond_word : (cond : Cond) → is_word (cond_text cond) ≡ true
cond_word Zero = refl
cond_word Nonzero = refl
cond_word Carry = refl
cond_word Nocarry = refl

abbrev pub jump_words : ℕ → Cond → List (List ℕ)
jump_words target cond = codes "goto" ∷ decimal target ∷ codes "if" ∷ cond_text cond ∷ []

pub are_jump_words : (target : ℕ) (cond : Cond) → target < 2 ^ 64 → All (λ w. IsTrue (is_word w)) (jump_words target cond)
are_jump_words target cond h =
    let P : List ℕ → Type 0 = λ w. IsTrue (is_word w) in
    All-cons P (codes "goto") (decimal target ∷ codes "if" ∷ cond_text cond ∷ []) refl
    (All-cons P (decimal target) (codes "if" ∷ cond_text cond ∷ []) (decimal_word target h)
    (All-cons P (codes "if") (cond_text cond ∷ []) refl
    (All-cons P (cond_text cond) [] (cond_word cond) (All-nil P))))

pub join_jump : (target : ℕ) (cond : Cond) → join_with_byte 32 (jump_words target cond) ≡ jump_text target cond
join_jump target cond = sym (append_assoc (codes "goto " ++ decimal target) (codes " if ") (cond_text cond) ∙ append_assoc (codes "goto ") (decimal target) (codes " if " ++ cond_text cond))

-- an instruction whose text is one of words
abbrev pub IsPlain : List (List ℕ) → Instr → Type 0
IsPlain texts (Op op) = op < length texts
IsPlain texts (Goto target cond) = target < 2 ^ 64
IsPlain texts End = Unit {0}

pub plain_instr : (texts : List (List ℕ)) (lines place : ℕ) (instr : Instr) → lines ≤ 16 → place < lines → IsInstr (length texts) lines place instr → IsPlain texts instr
plain_instr texts lines place (Op op) few within there = has_text_of texts lines place (Op op) within there
plain_instr texts lines place (Goto target cond) few within there = elim (cases_lt (place + 1) lines) [
  | inl inner ↦ let target_is = (contains_jump (length texts) lines place target cond inner).0 there in omega (arith, few, target_is.within)
  | inr last ↦ absurd (cc ((contains_last (length texts) lines place (Goto target cond) (omega (arith, last, within))).0 there))
]
plain_instr texts lines place End few within there = tt

pub instr_worded : (texts : List (List ℕ)) (instr : Instr) → AreNames texts → IsPlain texts instr → IsWorded (instr_text texts instr)
instr_worded texts (Op op) names plain = (names.each op [] plain).words
instr_worded texts (Goto target cond) names plain = record {
  words = jump_words target cond;
  some = omega arith;
  each = are_jump_words target cond plain;
  joined = join_jump target cond;
}
instr_worded texts End names plain = record {
  words = codes "end" ∷ [];
  some = omega arith;
  each = All-cons (λ w. IsTrue (is_word w)) (codes "end") [] refl (All-nil (λ w. IsTrue (is_word w)));
  joined = refl;
}

-- ---- programs

-- a line of a whole program
pub record IsLineOf (texts : List (List ℕ)) (program : Program) (k : ℕ) : Type 0 where
  pub instr : Instr
  pub there : slice_get program k ≡ Some (Some instr)
  pub allowed : IsInstr (length texts) (length program) k instr
  pub plain : IsPlain texts instr
  pub text : slice_get (map (program_line texts) program) k ≡ Some (instr_text texts instr)

some_line : (o : Option (Option Instr)) → IsSome (option_and_then (λ (i : Option Instr). i) o) → (instr : Instr) × (o ≡ Some (Some instr))
some_line None e = absurd (false≢true e)
some_line (Some None) e = absurd (false≢true e)
some_line (Some (Some instr)) e = (instr, refl)

pub line_of_program : (texts : List (List ℕ)) (program : Program) (k : ℕ) → IsProgram (length texts) program → length program ≤ 16 → k < length program → IsLineOf texts program k
line_of_program texts program k is_program few within =
    let found = some_line (slice_get program k) (is_program.whole k within) in
    let here : line_at program k ≡ Some found.0 = ap (option_and_then (λ (i : Option Instr). i)) found.1 in
    let allowed = is_program.is_partial.each k found.0 here in
    record {
      instr = found.0;
      there = found.1;
      allowed = allowed;
      plain = plain_instr texts (length program) k found.0 few within allowed;
      text = slice_get-map (program_line texts) program k ∙ ap (option_map (program_line texts)) found.1;
    }

pub lines_as_written : (texts : List (List ℕ)) (program : Program) → AreNames texts → IsProgram (length texts) program → length program ≤ 16 → All IsReadAsWritten (map (program_line texts) program)
lines_as_written texts program names is_program few = λ k d h.
    let it = line_of_program texts program k is_program few (omega (arith, length-map program (program_line texts), h)) in
    subst IsReadAsWritten (sym (get_or_from_slice_get (map (program_line texts) program) k (instr_text texts it.instr) d it.text))
    (line_as_written (instr_text texts it.instr) (instr_worded texts it.instr names it.plain))

-- a program is read as it is written
pub program_as_written : (texts : List (List ℕ)) (program : Program) → AreNames texts → IsProgram (length texts) program → length program ≤ 16 → AreLinesOf texts program (instruction_lines (program_text texts program))
program_as_written texts program names is_program few =
    let each = lines_as_written texts program names is_program few in
    let same : texts_of (instruction_lines (program_text texts program)) ≡ map (program_line texts) program =
    ap (λ (l : List (List ℕ)). texts_of (numbered_from 1 l)) (cut_lines (map (program_line texts) program) each)
    ∙ numbered_texts 1 (map (program_line texts) program) each in
    record {
      few = omega (arith, few, length-map (instruction_lines (program_text texts program)) (λ (l : InstructionLine). l.text), ap length same, length-map program (program_line texts));
      is_program = is_program;
      same = sym same;
    }
