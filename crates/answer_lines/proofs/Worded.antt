-- Lines are of words: those of numbers, of marks, of verdicts and of the ends of runs; and what was written is told by them.
use Rattle.std.proofs.Common.{◌≡◌, ℕ, ◌<◌, ◌^◌, true, List, [], ◌∷◌, ◌++◌, length, get_or, refl, sym, ◌∙◌, ap, subst, arith, append_assoc}
use Rattle.std.specs.Prelude.{All, IsTrue, codes, decimal}
use Rattle.std.specs.List.{slice_split, join_with_byte}
use Rattle.std.proofs.lemmas.Fmt.{decimal_injective}
use Rattle.std.proofs.lemmas.List.{append_cancel_left}
use Rattle.std.proofs.lemmas.List.Elements.{All-nil, All-cons}
use Rattle.refutation_tree.specs.declared.evidence.Mark.{Mark}
use Rattle.refutation_tree.specs.declared.evidence.Mark.TheVariants as marks
use Rattle.refutation_tree.specs.declared.evidence.Outcome.{Outcome}
use Rattle.refutation_tree.specs.declared.evidence.Outcome.TheVariants as outcomes
use Rattle.flag_rules.specs.Line.{then_number}
use Rattle.answer_writer.specs.Document.{verdict_line, mark_line}
use Rattle.program_text.specs.Names.{is_word, IsWorded}
use Rattle.program_text.specs.Lines.{is_blank}
use Rattle.program_text.proofs.Spelled.{split_words, decimal_word}

-- ---- words

-- texts of the same words are of words alike
same_words : (first other : List ℕ) (words others : List (List ℕ)) → All (λ w. IsTrue (is_word w)) (first ∷ words) → All (λ w. IsTrue (is_word w)) (other ∷ others)
    → join_with_byte 32 (first ∷ words) ≡ join_with_byte 32 (other ∷ others) → first ∷ words ≡ other ∷ others
same_words first other words others each every same = sym (split_words first words each) ∙ ap (slice_split is_blank) same ∙ split_words other others every

pub two_words : (a b : List ℕ) → is_word a ≡ true → is_word b ≡ true → All (λ w. IsTrue (is_word w)) (a ∷ b ∷ [])
two_words a b p q = let P : List ℕ → Type 0 = λ w. IsTrue (is_word w) in All-cons P a (b ∷ []) p (All-cons P b [] q (All-nil P))

pub three_words : (a b c : List ℕ) → is_word a ≡ true → is_word b ≡ true → is_word c ≡ true → All (λ w. IsTrue (is_word w)) (a ∷ b ∷ c ∷ [])
three_words a b c p q r = let P : List ℕ → Type 0 = λ w. IsTrue (is_word w) in All-cons P a (b ∷ c ∷ []) p (two_words b c q r)

four_words : (a b c d : List ℕ) → is_word a ≡ true → is_word b ≡ true → is_word c ≡ true → is_word d ≡ true → All (λ w. IsTrue (is_word w)) (a ∷ b ∷ c ∷ d ∷ [])
four_words a b c d p q r s = let P : List ℕ → Type 0 = λ w. IsTrue (is_word w) in All-cons P a (b ∷ c ∷ d ∷ []) p (three_words b c d q r s)

pub one_word : (a : List ℕ) → is_word a ≡ true → All (λ w. IsTrue (is_word w)) (a ∷ [])
one_word a p = let P : List ℕ → Type 0 = λ w. IsTrue (is_word w) in All-cons P a [] p (All-nil P)

-- a number after words
pub one_number : (words : List ℕ) (a b : ℕ) → a < 2 ^ 64 → b < 2 ^ 64 → words ++ then_number a ≡ words ++ then_number b → a ≡ b
one_number words a b h k e =
    let told : then_number a ≡ then_number b = append_cancel_left words (then_number a) (then_number b) e in
    decimal_injective a b h k (append_cancel_left (codes " ") (decimal a) (decimal b) told)

pub number_worded : (word : List ℕ) (a : ℕ) → is_word word ≡ true → a < 2 ^ 64 → IsWorded (word ++ then_number a)
number_worded word a w h = record { words = word ∷ decimal a ∷ []; some = omega arith; each = two_words word (decimal a) w (decimal_word a h); joined = refl }

-- ---- marks

abbrev mark_words : Mark → List (List ℕ)
mark_words (marks.Split line stamp) = codes "s" ∷ decimal line ∷ decimal stamp ∷ []
mark_words (marks.Unmet t steps) = codes "f" ∷ decimal t ∷ decimal steps ∷ []
mark_words (marks.Loops t from to) = codes "l" ∷ decimal t ∷ decimal from ∷ decimal to ∷ []
mark_words marks.Twin = codes "t" ∷ []
mark_words marks.Waiting = codes "o" ∷ []
mark_words marks.Solved = codes "g" ∷ []
mark_words (marks.AtLimit t) = codes "r" ∷ decimal t ∷ []

-- the numbers of a mark can be told
abbrev pub IsSmall : Mark → Type 0
IsSmall (marks.Split line stamp) = (line < 2 ^ 64) × (stamp < 2 ^ 64)
IsSmall (marks.Unmet t steps) = (t < 2 ^ 64) × (steps < 2 ^ 64)
IsSmall (marks.Loops t from to) = (t < 2 ^ 64) × (from < 2 ^ 64) × (to < 2 ^ 64)
IsSmall marks.Twin = Unit {0}
IsSmall marks.Waiting = Unit {0}
IsSmall marks.Solved = Unit {0}
IsSmall (marks.AtLimit t) = t < 2 ^ 64

mark_joined : (mark : Mark) → join_with_byte 32 (mark_words mark) ≡ mark_line mark
mark_joined (marks.Split line stamp) = refl
mark_joined (marks.Unmet t steps) = refl
mark_joined (marks.Loops t from to) = ap (λ (l : List ℕ). codes "l " ++ l) (sym (append_assoc (decimal t) (then_number from) (then_number to)))
mark_joined marks.Twin = refl
mark_joined marks.Waiting = refl
mark_joined marks.Solved = refl
mark_joined (marks.AtLimit t) = refl

mark_each : (mark : Mark) → IsSmall mark → All (λ w. IsTrue (is_word w)) (mark_words mark)
mark_each (marks.Split line stamp) h = three_words (codes "s") (decimal line) (decimal stamp) refl (decimal_word line h.0) (decimal_word stamp h.1)
mark_each (marks.Unmet t steps) h = three_words (codes "f") (decimal t) (decimal steps) refl (decimal_word t h.0) (decimal_word steps h.1)
mark_each (marks.Loops t from to) h = four_words (codes "l") (decimal t) (decimal from) (decimal to) refl (decimal_word t h.0) (decimal_word from h.1) (decimal_word to h.2)
mark_each marks.Twin h = one_word (codes "t") refl
mark_each marks.Waiting h = one_word (codes "o") refl
mark_each marks.Solved h = one_word (codes "g") refl
mark_each (marks.AtLimit t) h = two_words (codes "r") (decimal t) refl (decimal_word t h)

mark_some : (mark : Mark) → (first : List ℕ) × (words : List (List ℕ)) × (mark_words mark ≡ first ∷ words)
mark_some (marks.Split line stamp) = (codes "s", decimal line ∷ decimal stamp ∷ [], refl)
mark_some (marks.Unmet t steps) = (codes "f", decimal t ∷ decimal steps ∷ [], refl)
mark_some (marks.Loops t from to) = (codes "l", decimal t ∷ decimal from ∷ decimal to ∷ [], refl)
mark_some marks.Twin = (codes "t", [], refl)
mark_some marks.Waiting = (codes "o", [], refl)
mark_some marks.Solved = (codes "g", [], refl)
mark_some (marks.AtLimit t) = (codes "r", decimal t ∷ [], refl)

-- the first byte of the first word
letter : List (List ℕ) → ℕ
letter words = get_or (get_or words 0 []) 0 0

same_mark_words : (one other : Mark) → IsSmall one → IsSmall other → mark_words one ≡ mark_words other → one ≡ other
unfolding letter
same_mark_words (marks.Split line stamp) (marks.Split line' stamp') h k e =
    let lines : decimal line ≡ decimal line' = cc in
    let stamps : decimal stamp ≡ decimal stamp' = cc in
    let a = decimal_injective line line' h.0 k.0 lines in
    let b = decimal_injective stamp stamp' h.1 k.1 stamps in
    cc (a, b)
same_mark_words (marks.Split line stamp) _ h k e = let letters = ap letter e in absurd (omega arith)
same_mark_words (marks.Unmet t j) (marks.Unmet t' j') h k e =
    let ts : decimal t ≡ decimal t' = cc in
    let js : decimal j ≡ decimal j' = cc in
    let a = decimal_injective t t' h.0 k.0 ts in
    let b = decimal_injective j j' h.1 k.1 js in
    cc (a, b)
same_mark_words (marks.Unmet t j) _ h k e = let letters = ap letter e in absurd (omega arith)
same_mark_words (marks.Loops t i j) (marks.Loops t' i' j') h k e =
    let ts : decimal t ≡ decimal t' = cc in
    let is : decimal i ≡ decimal i' = cc in
    let js : decimal j ≡ decimal j' = cc in
    let a = decimal_injective t t' h.0 k.0 ts in
    let b = decimal_injective i i' h.1 k.1 is in
    let c = decimal_injective j j' h.2 k.2 js in
    cc (a, b, c)
same_mark_words (marks.Loops t i j) _ h k e = let letters = ap letter e in absurd (omega arith)
same_mark_words marks.Twin marks.Twin h k e = refl
same_mark_words marks.Twin _ h k e = let letters = ap letter e in absurd (omega arith)
same_mark_words marks.Waiting marks.Waiting h k e = refl
same_mark_words marks.Waiting _ h k e = let letters = ap letter e in absurd (omega arith)
same_mark_words marks.Solved marks.Solved h k e = refl
same_mark_words marks.Solved _ h k e = let letters = ap letter e in absurd (omega arith)
same_mark_words (marks.AtLimit t) (marks.AtLimit t') h k e =
    let ts : decimal t ≡ decimal t' = cc in
    ap marks.AtLimit (decimal_injective t t' h k ts)
same_mark_words (marks.AtLimit t) _ h k e = let letters = ap letter e in absurd (omega arith)

pub mark_worded : (mark : Mark) → IsSmall mark → IsWorded (mark_line mark)
mark_worded mark h = let some = mark_some mark in record { words = mark_words mark; some = omega (arith, ap length some.2); each = mark_each mark h; joined = mark_joined mark }

pub same_mark : (one other : Mark) → IsSmall one → IsSmall other → mark_line one ≡ mark_line other → one ≡ other
same_mark one other h k e =
    let a = mark_some one in
    let b = mark_some other in
    let P : List (List ℕ) → Type 0 = λ ws. All (λ w. IsTrue (is_word w)) ws in
    let joined : join_with_byte 32 (a.0 ∷ a.1) ≡ join_with_byte 32 (b.0 ∷ b.1) = sym (ap (join_with_byte 32) a.2) ∙ mark_joined one ∙ e ∙ sym (mark_joined other) ∙ ap (join_with_byte 32) b.2 in
    let words = same_words a.0 b.0 a.1 b.1 (subst P a.2 (mark_each one h)) (subst P b.2 (mark_each other k)) joined in
    same_mark_words one other h k (a.2 ∙ words ∙ sym b.2)

-- ---- verdicts

abbrev verdict_words : Outcome → List (List ℕ)
verdict_words (outcomes.Program size) = codes "program" ∷ decimal size ∷ []
verdict_words outcomes.Nothing = codes "none" ∷ []
verdict_words (outcomes.SpentExpansions size) = codes "spent" ∷ codes "expansions" ∷ decimal size ∷ []
verdict_words (outcomes.SpentRun size t) = codes "spent" ∷ codes "run" ∷ decimal size ∷ decimal t ∷ []

-- the numbers of an outcome can be told
abbrev pub IsSmallOutcome : Outcome → Type 0
IsSmallOutcome (outcomes.Program size) = size < 2 ^ 64
IsSmallOutcome outcomes.Nothing = Unit {0}
IsSmallOutcome (outcomes.SpentExpansions size) = size < 2 ^ 64
IsSmallOutcome (outcomes.SpentRun size t) = (size < 2 ^ 64) × (t < 2 ^ 64)

verdict_joined : (outcome : Outcome) → join_with_byte 32 (codes "verdict" ∷ verdict_words outcome) ≡ verdict_line outcome
verdict_joined (outcomes.Program size) = refl
verdict_joined outcomes.Nothing = refl
verdict_joined (outcomes.SpentExpansions size) = refl
verdict_joined (outcomes.SpentRun size t) = refl

verdict_each : (outcome : Outcome) → IsSmallOutcome outcome → All (λ w. IsTrue (is_word w)) (codes "verdict" ∷ verdict_words outcome)
verdict_each (outcomes.Program size) h = three_words (codes "verdict") (codes "program") (decimal size) refl refl (decimal_word size h)
verdict_each outcomes.Nothing h = two_words (codes "verdict") (codes "none") refl refl
verdict_each (outcomes.SpentExpansions size) h = four_words (codes "verdict") (codes "spent") (codes "expansions") (decimal size) refl refl refl (decimal_word size h)
verdict_each (outcomes.SpentRun size t) h =
    All-cons (λ w. IsTrue (is_word w)) (codes "verdict") (codes "spent" ∷ codes "run" ∷ decimal size ∷ decimal t ∷ []) refl
    (four_words (codes "spent") (codes "run") (decimal size) (decimal t) refl refl (decimal_word size h.0) (decimal_word t h.1))

second_letter : List (List ℕ) → ℕ
second_letter words = get_or (get_or words 1 []) 0 0

same_verdict_words : (one other : Outcome) → IsSmallOutcome one → IsSmallOutcome other → verdict_words one ≡ verdict_words other → one ≡ other
unfolding letter second_letter
same_verdict_words (outcomes.Program size) (outcomes.Program size') h k e =
    let sizes : decimal size ≡ decimal size' = cc in
    ap outcomes.Program (decimal_injective size size' h k sizes)
same_verdict_words (outcomes.Program size) _ h k e = let letters = ap letter e in absurd (omega arith)
same_verdict_words outcomes.Nothing outcomes.Nothing h k e = refl
same_verdict_words outcomes.Nothing _ h k e = let letters = ap letter e in absurd (omega arith)
same_verdict_words (outcomes.SpentExpansions size) (outcomes.SpentExpansions size') h k e =
    let sizes : decimal size ≡ decimal size' = cc in
    ap outcomes.SpentExpansions (decimal_injective size size' h k sizes)
same_verdict_words (outcomes.SpentExpansions size) _ h k e = let letters = ap letter e in let seconds = ap second_letter e in absurd (omega arith)
same_verdict_words (outcomes.SpentRun size t) (outcomes.SpentRun size' t') h k e =
    let sizes : decimal size ≡ decimal size' = cc in
    let ts : decimal t ≡ decimal t' = cc in
    let a = decimal_injective size size' h.0 k.0 sizes in
    let b = decimal_injective t t' h.1 k.1 ts in
    cc (a, b)
same_verdict_words (outcomes.SpentRun size t) _ h k e = let letters = ap letter e in let seconds = ap second_letter e in absurd (omega arith)

pub same_verdict : (one other : Outcome) → IsSmallOutcome one → IsSmallOutcome other → verdict_line one ≡ verdict_line other → one ≡ other
same_verdict one other h k e =
    let joined : join_with_byte 32 (codes "verdict" ∷ verdict_words one) ≡ join_with_byte 32 (codes "verdict" ∷ verdict_words other) = verdict_joined one ∙ e ∙ sym (verdict_joined other) in
    let words = same_words (codes "verdict") (codes "verdict") (verdict_words one) (verdict_words other) (verdict_each one h) (verdict_each other k) joined in
    let rest : verdict_words one ≡ verdict_words other = cc in
    same_verdict_words one other h k rest

pub verdict_worded : (outcome : Outcome) → IsSmallOutcome outcome → IsWorded (verdict_line outcome)
verdict_worded outcome h = record { words = codes "verdict" ∷ verdict_words outcome; some = omega arith; each = verdict_each outcome h; joined = verdict_joined outcome }

-- ---- ends

ends_each : (t steps : ℕ) → t < 2 ^ 64 → steps < 2 ^ 64 → All (λ w. IsTrue (is_word w)) (codes "ends" ∷ decimal t ∷ decimal steps ∷ [])
ends_each t steps h k = three_words (codes "ends") (decimal t) (decimal steps) refl (decimal_word t h) (decimal_word steps k)

pub one_ends : (t u i j : ℕ) → t < 2 ^ 64 → u < 2 ^ 64 → i < 2 ^ 64 → j < 2 ^ 64
    → codes "ends" ++ then_number t ++ then_number i ≡ codes "ends" ++ then_number u ++ then_number j → (t ≡ u) × (i ≡ j)
one_ends t u i j h k l m e =
    let words = same_words (codes "ends") (codes "ends") (decimal t ∷ decimal i ∷ []) (decimal u ∷ decimal j ∷ []) (ends_each t i h l) (ends_each u j k m) e in
    let instances : decimal t ≡ decimal u = cc in
    let steps : decimal i ≡ decimal j = cc in
    (decimal_injective t u h k instances, decimal_injective i j l m steps)

pub ends_worded : (t steps : ℕ) → t < 2 ^ 64 → steps < 2 ^ 64 → IsWorded (codes "ends" ++ then_number t ++ then_number steps)
ends_worded t steps h k = record { words = codes "ends" ∷ decimal t ∷ decimal steps ∷ []; some = omega arith; each = ends_each t steps h k; joined = refl }
