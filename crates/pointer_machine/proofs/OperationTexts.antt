-- The texts of operations are plain words, and no two of them are the same.
use Rattle.std.proofs.Common.{◌≡◌, ◌≢◌, ℕ, zero, suc, ◌+◌, ◌/◌, ◌%◌, ◌<◌, ◌≤◌, ◌⊎◌, Bool, true, false, List, [], ◌∷◌, ◌++◌, length, map, get_or, All, Some, refl, ◌∙◌, inl, inr, ap, sym, arith}
use Rattle.std.specs.Prelude.{◌&&◌, ◌||◌, ◌==◌, not, nat_eq, nat_le, flat_map, codes, decimal, IsTrue, AllPairs}
use Rattle.std.specs.List.{list_all, starts_with, join_with_byte, slice_split}
use Rattle.std.specs.Cmp.Lexicographic.{other_text}
use Rattle.std.specs.Fmt.{digits, digits_onto, digit_glyph}
use Rattle.std.proofs.Math.Dec.{eqb}
use Rattle.std.proofs.lemmas.Bool.{le-leb, lt-leb, leb-true, lt-ltb, eqb-true, ne_eqb, and_parts, and_from, and_left, and_right, or_cases, or_left, not_from_false, cond-true, cond_both, cases_order}
use Rattle.std.proofs.lemmas.Fmt.{decimal_injective}
use Rattle.std.proofs.lemmas.List.{append-nil, length-map, get_or-map}
use Rattle.std.proofs.lemmas.List.Elements.{All-nil, All-cons, All-head, All-tail, All-map, All-weaker}
use Rattle.std.proofs.lemmas.List.Splits.{slice_split_none, slice_split_at}
use Rattle.std.proofs.lemmas.List.Sums.{AllPass-from_list_all, list_all-from_AllPass}
use Rattle.std.proofs.lemmas.Option.{slice_get-get_or}
use Rattle.flag_rules.specs.Name.{is_digit, is_small, is_capital, IsName}
use Rattle.ground_state.specs.declared.parts.TaskParts.{TaskParts}
use Rattle.ground_state.specs.declared.parts.SchemaEntry.{SchemaEntry}
use Rattle.ground_state.specs.declared.parts.PredicateEntry.{PredicateEntry}
use Rattle.ground_state.specs.Action.{schema_of}
use Rattle.ground_state.specs.Task.{IsTask, AreNames}
use Rattle.pointer_machine.specs.declared.form.Form.{Form}
use Rattle.pointer_machine.specs.declared.form.Form.TheVariants.{Act, Test, Inc, Dec, Clear, Set, Cmp}
use Rattle.pointer_machine.specs.Operations.{operations_of, operation_count, predicate_of, IsForm}
use Rattle.pointer_machine.specs.Texts.{pointer_text, then_pointer, form_text, operation_texts}
use Rattle.pointer_machine.proofs.Counts.{length-operations}
use Rattle.pointer_machine.proofs.Forms.{forms_of}
use Rattle.pointer_machine.proofs.Once.{operations_once}

-- a byte of a plain word: a visible one of ASCII, but for capital letters and the semicolon (59)
abbrev pub is_plain_byte : ℕ → Bool
is_plain_byte b = nat_le 33 b && nat_le b 126 && not (b == 59) && not (is_capital b)

-- a plain word: one or more such bytes
abbrev pub is_plain : List ℕ → Bool
is_plain [] = false
is_plain (b ∷ bs) = list_all is_plain_byte (b ∷ bs)

abbrev pub IsPlain : List ℕ → Type 0
IsPlain word = IsTrue (is_plain word)

-- one or more plain words, joined by one space
abbrev pub IsWordedText : List ℕ → Type 0
IsWordedText text = (words : List (List ℕ)) × (0 < length words) × All (λ word. IsTrue (is_plain word)) words × (join_with_byte 32 words ≡ text)

-- the words of an operation
abbrev words_of : TaskParts → Form → List (List ℕ)
words_of task (Act schema args) = codes "act" ∷ (schema_of task schema).name ∷ map pointer_text args
words_of task (Test pred args) = codes "test" ∷ (predicate_of task pred).name ∷ map pointer_text args
words_of task (Inc pointer) = codes "inc" ∷ pointer_text pointer ∷ []
words_of task (Dec pointer) = codes "dec" ∷ pointer_text pointer ∷ []
words_of task (Clear pointer) = codes "clear" ∷ pointer_text pointer ∷ []
words_of task (Set pointer other) = codes "set" ∷ pointer_text pointer ∷ pointer_text other ∷ []
words_of task (Cmp pointer other) = codes "cmp" ∷ pointer_text pointer ∷ pointer_text other ∷ []

words_some : (task : TaskParts) (form : Form) → 0 < length (words_of task form)
words_some task (Act schema args) = omega arith
words_some task (Test pred args) = omega arith
words_some task (Inc pointer) = omega arith
words_some task (Dec pointer) = omega arith
words_some task (Clear pointer) = omega arith
words_some task (Set pointer other) = omega arith
words_some task (Cmp pointer other) = omega arith

-- a word and pointers, joined
joined : (word : List ℕ) (args : List ℕ) → join_with_byte 32 (word ∷ map pointer_text args) ≡ word ++ flat_map then_pointer args
joined word [] = sym (append-nil word)
joined word (pointer ∷ args) = ap (λ rest. word ++ (32 ∷ rest)) (joined (pointer_text pointer) args)

-- the words, joined, are the text
text_is : (task : TaskParts) (form : Form) → join_with_byte 32 (words_of task form) ≡ form_text task form
text_is task (Act schema args) = ap (λ rest. codes "act " ++ rest) (joined (schema_of task schema).name args)
text_is task (Test pred args) = ap (λ rest. codes "test " ++ rest) (joined (predicate_of task pred).name args)
text_is task (Inc pointer) = joined (codes "inc") (pointer ∷ [])
text_is task (Dec pointer) = joined (codes "dec") (pointer ∷ [])
text_is task (Clear pointer) = joined (codes "clear") (pointer ∷ [])
text_is task (Set pointer other) = joined (codes "set") (pointer ∷ other ∷ [])
text_is task (Cmp pointer other) = joined (codes "cmp") (pointer ∷ other ∷ [])

-- which bytes are plain
byte_plain : (b : ℕ) → 33 ≤ b → b ≤ 126 → b ≢ 59 → (b < 65) ⊎ (90 < b) → is_plain_byte b ≡ true
byte_plain b low high other kind =
    let no_capital : is_capital b ≡ false = elim kind [
      | inl under ↦ and_left (nat_le 65 b) (nat_le b 90) (lt-leb 65 b under)
      | inr over ↦ and_right (nat_le 65 b) (nat_le b 90) (lt-leb b 90 over)
    ] in
    and_from _ _ (and_from _ _ (and_from _ _ (le-leb 33 b low) (le-leb b 126 high)) (not_from_false _ (ne_eqb b 59 other))) (not_from_false _ no_capital)

-- the bytes of names are plain
name_byte_plain : (b : ℕ) → (is_small b || is_digit b || b == 45 || b == 95) ≡ true → is_plain_byte b ≡ true
name_byte_plain b named =
    elim (or_cases (is_small b || is_digit b || b == 45) (b == 95) named) [
      | inr line ↦ (let is : b ≡ 95 = eqb-true b 95 line in byte_plain b (omega arith) (omega arith) (omega arith) (inr (omega arith)))
      | inl rest ↦ elim (or_cases (is_small b || is_digit b) (b == 45) rest) [
        | inr dash ↦ (let is : b ≡ 45 = eqb-true b 45 dash in byte_plain b (omega arith) (omega arith) (omega arith) (inl (omega arith)))
        | inl more ↦ elim (or_cases (is_small b) (is_digit b) more) [
          | inl small ↦ (let range = and_parts (nat_le 97 b) (nat_le b 122) small in
              let low : 97 ≤ b = leb-true 97 b range.0 in
              let high : b ≤ 122 = leb-true b 122 range.1 in
              byte_plain b (omega arith) (omega arith) (omega arith) (inr (omega arith)))
          | inr digit ↦ (let range = and_parts (nat_le 48 b) (nat_le b 57) digit in
              let low : 48 ≤ b = leb-true 48 b range.0 in
              let high : b ≤ 57 = leb-true b 57 range.1 in
              byte_plain b (omega arith) (omega arith) (omega arith) (inl (omega arith)))
        ]
      ]
    ]

-- so names are plain words
name_plain : (name : List ℕ) → IsName name → IsPlain name
name_plain [] is = is
name_plain (b ∷ bs) is =
    let parts = and_parts (is_small b || is_digit b) (list_all (λ x. is_small x || is_digit x || x == 45 || x == 95) bs) is in
    let rest = All-weaker (λ x. (is_small x || is_digit x || x == 45 || x == 95) ≡ true) (λ x. is_plain_byte x ≡ true) name_byte_plain bs
    (AllPass-from_list_all (λ x. is_small x || is_digit x || x == 45 || x == 95) bs parts.1) in
    and_from (is_plain_byte b) (list_all is_plain_byte bs)
    (name_byte_plain b (or_left (is_small b || is_digit b || b == 45) (b == 95) (or_left (is_small b || is_digit b) (b == 45) parts.0)))
    (list_all-from_AllPass is_plain_byte bs rest)

-- the digits of numbers are plain
digits_plain : (k n : ℕ) (behind : List ℕ) → list_all is_plain_byte behind ≡ true → list_all is_plain_byte (digits_onto k 10 false n behind) ≡ true
digits_plain zero n behind plain = plain
digits_plain (suc k) n behind plain =
    let digit = digit_glyph false (n % 10) in
    let low : n % 10 < 10 = omega arith in
    let is : digit ≡ 48 + n % 10 = cond-true _ (48 + n % 10) (87 + n % 10) (lt-ltb (n % 10) 10 low) in
    let own : is_plain_byte digit ≡ true = byte_plain digit (omega arith) (omega arith) (omega arith) (inl (omega arith)) in
    let more : list_all is_plain_byte (digit ∷ behind) ≡ true = and_from (is_plain_byte digit) (list_all is_plain_byte behind) own plain in
    cond_both (n / 10 == 0) (digit ∷ behind) (digits_onto k 10 false (n / 10) (digit ∷ behind)) (λ bytes. list_all is_plain_byte bytes ≡ true) (λ last. more) (λ next. digits_plain k (n / 10) (digit ∷ behind) more)

decimal_plain : (n : ℕ) → list_all is_plain_byte (decimal n) ≡ true
unfolding digits
decimal_plain n = digits_plain 64 n [] refl

pointer_plain : (pointer : ℕ) → IsPlain (pointer_text pointer)
pointer_plain pointer = decimal_plain pointer

pointers_plain : (args : List ℕ) → All IsPlain (map pointer_text args)
pointers_plain args = All-map IsPlain pointer_text args (λ k d within. pointer_plain _)

-- the name of an entry is a plain word
entry_plain : {E : Type 0} (name : E → List ℕ) (entries : List E) (n : ℕ) (d : E) → AreNames (map name entries) → n < length entries → IsPlain (name (get_or entries n d))
entry_plain name entries n d names within =
    let long : n < length (map name entries) = omega (arith, length-map entries name) in
    name_plain (name (get_or entries n d)) (rw (get_or-map name entries n d [] within) at (names.each n [] long))

-- a plain word and pointers
all_plain : (word : List ℕ) (args : List ℕ) → IsPlain word → All IsPlain (word ∷ map pointer_text args)
all_plain word args plain = All-cons IsPlain word (map pointer_text args) plain (pointers_plain args)

-- all words of an operation are plain
words_plain : (task : TaskParts) (pointers : ℕ) (form : Form) → IsTask task → IsForm task pointers form → All IsPlain (words_of task form)
words_plain task pointers (Act schema args) fit known =
    let name = (schema_of task schema).name in
    let plain = entry_plain (λ (entry : SchemaEntry). entry.name) task.schemas schema _ fit.schemas.names known.0 in
    All-cons IsPlain (codes "act") (name ∷ map pointer_text args) refl (all_plain name args plain)
words_plain task pointers (Test pred args) fit known =
    let name = (predicate_of task pred).name in
    let plain = entry_plain (λ (entry : PredicateEntry). entry.name) task.predicates pred _ fit.predicates.names known.0 in
    All-cons IsPlain (codes "test") (name ∷ map pointer_text args) refl (all_plain name args plain)
words_plain task pointers (Inc pointer) fit known = all_plain (codes "inc") (pointer ∷ []) refl
words_plain task pointers (Dec pointer) fit known = all_plain (codes "dec") (pointer ∷ []) refl
words_plain task pointers (Clear pointer) fit known = all_plain (codes "clear") (pointer ∷ []) refl
words_plain task pointers (Set pointer other) fit known = all_plain (codes "set") (pointer ∷ other ∷ []) refl
words_plain task pointers (Cmp pointer other) fit known = all_plain (codes "cmp") (pointer ∷ other ∷ []) refl

-- each text is plain words, joined by spaces
pub texts-worded : (task : TaskParts) (pointers : ℕ) → IsTask task → All (λ text. IsWordedText text) (operation_texts task pointers)
texts-worded task pointers fit =
    All-map IsWordedText (form_text task) (operations_of task pointers)
    (All-weaker (IsForm task pointers) (λ form. IsWordedText (form_text task form)) (λ form known. (words_of task form, words_some task form, words_plain task pointers form fit known, text_is task form)) (operations_of task pointers) (forms_of task pointers pointers (omega arith)))

-- no plain byte is a space
byte_solid : (b : ℕ) → is_plain_byte b ≡ true → eqb b 32 ≡ false
byte_solid b plain =
    let visible = and_parts (nat_le 33 b && nat_le b 126 && not (b == 59)) (not (is_capital b)) plain in
    let ascii = and_parts (nat_le 33 b && nat_le b 126) (not (b == 59)) visible.0 in
    let low : 33 ≤ b = leb-true 33 b (and_parts (nat_le 33 b) (nat_le b 126) ascii.0).0 in
    ne_eqb b 32 (λ is. omega arith)

word_solid : (word : List ℕ) → IsPlain word → All (λ b. eqb b 32 ≡ false) word
word_solid [] plain = All-nil (λ b. eqb b 32 ≡ false)
word_solid (b ∷ bs) plain = All-weaker (λ b. is_plain_byte b ≡ true) (λ b. eqb b 32 ≡ false) byte_solid (b ∷ bs) (AllPass-from_list_all is_plain_byte (b ∷ bs) plain)

-- so cutting the text at its spaces gives the words back
split_text : (words : List (List ℕ)) → 0 < length words → All IsPlain words → slice_split (λ b. eqb b 32) (join_with_byte 32 words) ≡ words
split_text [] some plain = absurd (omega arith)
split_text (word ∷ []) some plain = slice_split_none (λ b. eqb b 32) word (word_solid word (All-head IsPlain word [] plain))
split_text (word ∷ next ∷ words) some plain =
    slice_split_at (λ b. eqb b 32) word 32 (join_with_byte 32 (next ∷ words)) (word_solid word (All-head IsPlain word (next ∷ words) plain)) refl
    ∙ ap (λ rest. word ∷ rest) (split_text (next ∷ words) (omega arith) (All-tail IsPlain word (next ∷ words) plain))

-- pointers of the same text are the same
same_pointer : (pointers one other : ℕ) → pointers ≤ 4 → one < pointers → other < pointers → pointer_text one ≡ pointer_text other → one ≡ other
same_pointer pointers one other few low other_low same =
    let digits : decimal one ≡ decimal other = cc in
    decimal_injective one other (omega arith) (omega arith) digits

same_pointers : (pointers : ℕ) (args others : List ℕ) → pointers ≤ 4 → All (λ pointer. pointer < pointers) args → All (λ pointer. pointer < pointers) others → map pointer_text args ≡ map pointer_text others → args ≡ others
same_pointers pointers [] [] few low other_low same = refl
same_pointers pointers [] (other ∷ others) few low other_low same = absurd (cc)
same_pointers pointers (one ∷ args) [] few low other_low same = absurd (cc)
same_pointers pointers (one ∷ args) (other ∷ others) few low other_low same =
    let P : ℕ → Type 0 = λ pointer. pointer < pointers in
    let text : pointer_text one ≡ pointer_text other = cc in
    let texts : map pointer_text args ≡ map pointer_text others = cc in
    let first : one ≡ other = same_pointer pointers one other few (All-head P one args low) (All-head P other others other_low) text in
    let rest : args ≡ others = same_pointers pointers args others few (All-tail P one args low) (All-tail P other others other_low) texts in
    λ i. first i ∷ rest i

-- entries of the same name are the same
same_entry : {E : Type 0} (name : E → List ℕ) (entries : List E) (m n : ℕ) (d : E) → AreNames (map name entries) → m < length entries → n < length entries → name (get_or entries m d) ≡ name (get_or entries n d) → m ≡ n
same_entry name entries m n d names low other_low same =
    let named : get_or (map name entries) m [] ≡ get_or (map name entries) n [] = get_or-map name entries m d [] low ∙ same ∙ sym (get_or-map name entries n d [] other_low) in
    elim (cases_order m n) [
      | inl equal ↦ equal
      | inr apart ↦ elim apart [
        | inl before ↦ absurd (names.differ m n [] before (omega (arith, length-map entries name)) named)
        | inr behind ↦ absurd (names.differ n m [] behind (omega (arith, length-map entries name)) (sym named))
      ]
    ]

-- operations of the same words are the same
same_form : (task : TaskParts) (pointers : ℕ) (one other : Form) → IsTask task → pointers ≤ 4 → IsForm task pointers one → IsForm task pointers other → words_of task one ≡ words_of task other → one ≡ other
same_form task pointers (Act schema args) (Act other others) fit few known other_known same =
    let name : (schema_of task schema).name ≡ (schema_of task other).name = cc in
    let texts : map pointer_text args ≡ map pointer_text others = cc in
    let number : schema ≡ other = same_entry (λ (entry : SchemaEntry). entry.name) task.schemas schema other _ fit.schemas.names known.0 other_known.0 name in
    let pointed : args ≡ others = same_pointers pointers args others few known.2 other_known.2 texts in
    λ i. Act (number i) (pointed i)
same_form task pointers (Test pred args) (Test other others) fit few known other_known same =
    let name : (predicate_of task pred).name ≡ (predicate_of task other).name = cc in
    let texts : map pointer_text args ≡ map pointer_text others = cc in
    let number : pred ≡ other = same_entry (λ (entry : PredicateEntry). entry.name) task.predicates pred other _ fit.predicates.names known.0 other_known.0 name in
    let pointed : args ≡ others = same_pointers pointers args others few known.2 other_known.2 texts in
    λ i. Test (number i) (pointed i)
same_form task pointers (Inc pointer) (Inc other) fit few known other_known same =
    let text : pointer_text pointer ≡ pointer_text other = cc in
    ap Inc (same_pointer pointers pointer other few known other_known text)
same_form task pointers (Dec pointer) (Dec other) fit few known other_known same =
    let text : pointer_text pointer ≡ pointer_text other = cc in
    ap Dec (same_pointer pointers pointer other few known other_known text)
same_form task pointers (Clear pointer) (Clear other) fit few known other_known same =
    let text : pointer_text pointer ≡ pointer_text other = cc in
    ap Clear (same_pointer pointers pointer other few known other_known text)
same_form task pointers (Set pointer from) (Set other source) fit few known other_known same =
    let text : pointer_text pointer ≡ pointer_text other = cc in
    let next : pointer_text from ≡ pointer_text source = cc in
    let first = same_pointer pointers pointer other few known.0 other_known.0 text in
    let second = same_pointer pointers from source few known.1 other_known.1 next in
    λ i. Set (first i) (second i)
same_form task pointers (Cmp pointer with) (Cmp other beside) fit few known other_known same =
    let text : pointer_text pointer ≡ pointer_text other = cc in
    let next : pointer_text with ≡ pointer_text beside = cc in
    let first = same_pointer pointers pointer other few known.0 other_known.0 text in
    let second = same_pointer pointers with beside few known.1 other_known.1 next in
    λ i. Cmp (first i) (second i)
same_form task pointers one other fit few known other_known same =
    let first : get_or (words_of task one) 0 [] ≡ get_or (words_of task other) 0 [] = ap (λ words. get_or words 0 []) same in
    absurd (other_text (get_or (words_of task one) 0 []) (get_or (words_of task other) 0 []) refl first)

-- operations of the same text are the same
same_operation : (task : TaskParts) (pointers : ℕ) (one other : Form) → IsTask task → pointers ≤ 4 → IsForm task pointers one → IsForm task pointers other → form_text task one ≡ form_text task other → one ≡ other
same_operation task pointers one other fit few known other_known same =
    let words = split_text (words_of task one) (words_some task one) (words_plain task pointers one fit known) in
    let others = split_text (words_of task other) (words_some task other) (words_plain task pointers other fit other_known) in
    let text : join_with_byte 32 (words_of task one) ≡ join_with_byte 32 (words_of task other) = text_is task one ∙ same ∙ sym (text_is task other) in
    same_form task pointers one other fit few known other_known (sym words ∙ ap (slice_split (λ b. eqb b 32)) text ∙ others)

-- no operation stands twice in the list
pub operations-apart : (task : TaskParts) (pointers : ℕ) → pointers ≤ 4 → AllPairs (λ one other. one ≢ other) (operations_of task pointers)
operations-apart task pointers few i j d before within same =
    let all = operations_of task pointers in
    let first = slice_get-get_or all i d (omega arith) in
    let second = slice_get-get_or all j d within in
    let place : i ≡ j = operations_once task pointers i j (get_or all j d) (first ∙ ap (λ form. Some form) same) second in
    omega arith

-- no two operations have the same text
pub texts-apart : (task : TaskParts) (pointers : ℕ) → IsTask task → pointers ≤ 4 → AllPairs (λ one other. one ≢ other) (operation_texts task pointers)
texts-apart task pointers fit few i j d before within same =
    let all = operations_of task pointers in
    let forms = forms_of task pointers pointers (omega arith) in
    let far : j < length all = omega (arith, length-map all (form_text task)) in
    let near : i < length all = omega arith in
    let texts : form_text task (get_or all i (Inc 0)) ≡ form_text task (get_or all j (Inc 0)) = sym (get_or-map (form_text task) all i (Inc 0) d near) ∙ same ∙ get_or-map (form_text task) all j (Inc 0) d far in
    operations-apart task pointers few i j (Inc 0) before far
    (same_operation task pointers (get_or all i (Inc 0)) (get_or all j (Inc 0)) fit few (forms i (Inc 0) near) (forms j (Inc 0) far) texts)

-- no text is `end`
form_no_end : (task : TaskParts) (form : Form) → form_text task form ≢ codes "end"
form_no_end task (Act schema args) same = cc
form_no_end task (Test pred args) same = cc
form_no_end task (Inc pointer) same = cc
form_no_end task (Dec pointer) same = cc
form_no_end task (Clear pointer) same = cc
form_no_end task (Set pointer other) same = cc
form_no_end task (Cmp pointer other) same = cc

pub texts-no_end : (task : TaskParts) (pointers : ℕ) → All (λ text. text ≢ codes "end") (operation_texts task pointers)
texts-no_end task pointers = All-map (λ text. text ≢ codes "end") (form_text task) (operations_of task pointers) (λ n d within. form_no_end task _)

-- no text begins as a jump does
form_no_jump : (task : TaskParts) (form : Form) → starts_with nat_eq (form_text task form) (codes "goto ") ≡ false
form_no_jump task (Act schema args) = refl
form_no_jump task (Test pred args) = refl
form_no_jump task (Inc pointer) = refl
form_no_jump task (Dec pointer) = refl
form_no_jump task (Clear pointer) = refl
form_no_jump task (Set pointer other) = refl
form_no_jump task (Cmp pointer other) = refl

pub texts-no_jump : (task : TaskParts) (pointers : ℕ) → All (λ text. starts_with nat_eq text (codes "goto ") ≡ false) (operation_texts task pointers)
texts-no_jump task pointers = All-map (λ text. starts_with nat_eq text (codes "goto ") ≡ false) (form_text task) (operations_of task pointers) (λ n d within. form_no_jump task _)

-- there are as many texts as operations
pub length-operation_texts : (task : TaskParts) (pointers : ℕ) → length (operation_texts task pointers) ≡ operation_count task pointers
length-operation_texts task pointers = length-map (operations_of task pointers) (form_text task) ∙ length-operations task pointers
