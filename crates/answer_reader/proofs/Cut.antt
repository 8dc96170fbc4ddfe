-- Bytes that are cut into lines: lines without line feeds are found again.
use Rattle.std.proofs.Common.{◌≡◌, ℕ, false, List, [], ◌∷◌, ◌++◌, length, refl, sym, ◌∙◌, ap, ◌⊎◌, inl, inr, arith, append_assoc, length-append}
use Rattle.std.specs.Prelude.{All, ◌==◌}
use Rattle.std.proofs.lemmas.Bool.{true≢false}
use Rattle.std.proofs.lemmas.List.Elements.{All-head, All-tail}
use Rattle.flag_rules.specs.Line.{line, lines_of}
use Rattle.answer_reader.proofs.Told.{HasNoFeed}

no_feed_head : (b : ℕ) (bs : List ℕ) → HasNoFeed (b ∷ bs) → 10 ≡ b → ⊥
no_feed_head b bs none e = true≢false (ap (λ (c : ℕ). c == 10) e ∙ All-head (λ (c : ℕ). (c == 10) ≡ false) b bs none)

no_feed_tail : (b : ℕ) (bs : List ℕ) → HasNoFeed (b ∷ bs) → HasNoFeed bs
no_feed_tail b bs none = All-tail (λ (c : ℕ). (c == 10) ≡ false) b bs none

-- two texts without line feeds, up to the first line feed
cut_here : (one other r s : List ℕ) → HasNoFeed one → HasNoFeed other → one ++ (10 ∷ r) ≡ other ++ (10 ∷ s) → (one ≡ other) × (r ≡ s)
cut_here [] [] r s h k e = let rest : r ≡ s = cc in (refl, rest)
cut_here [] (b ∷ bs) r s h k e = let first : 10 ≡ b = cc in absurd (no_feed_head b bs k first)
cut_here (b ∷ bs) [] r s h k e = let first : 10 ≡ b = cc in absurd (no_feed_head b bs h first)
cut_here (b ∷ bs) (c ∷ cs) r s h k e =
    let first : b ≡ c = cc in
    let rest : bs ++ (10 ∷ r) ≡ cs ++ (10 ∷ s) = cc in
    let both = cut_here bs cs r s (no_feed_tail b bs h) (no_feed_tail c cs k) rest in
    (cc (first, both.0), both.1)

pub same_line : (one other r s : List ℕ) → HasNoFeed one → HasNoFeed other → line one ++ r ≡ line other ++ s → (one ≡ other) × (r ≡ s)
same_line one other r s h k e = cut_here one other r s h k (sym (append_assoc one (10 ∷ []) r) ∙ e ∙ append_assoc other (10 ∷ []) s)

-- what is without line feeds has no line
pub no_line : (rest text after : List ℕ) → HasNoFeed rest → rest ≡ line text ++ after → ⊥
no_line [] [] after none e = absurd (cc)
no_line [] (b ∷ bs) after none e = absurd (cc)
no_line (c ∷ cs) [] after none e = let first : 10 ≡ c = cc in no_feed_head c cs none first
no_line (c ∷ cs) (b ∷ bs) after none e = let rest : cs ≡ line bs ++ after = cc in no_line cs bs after (no_feed_tail c cs none) rest

-- some lines are the first of others
pub record Begins (xs : List (List ℕ)) (r : List ℕ) (ys : List (List ℕ)) (s : List ℕ) : Type 0 where
  pub more : List (List ℕ)
  pub lines : ys ≡ xs ++ more
  pub bytes : r ≡ lines_of more ++ s

-- of two ways to cut bytes into lines, one goes on where the other stops
pub align : (xs ys : List (List ℕ)) (r s : List ℕ) → All HasNoFeed xs → All HasNoFeed ys → lines_of xs ++ r ≡ lines_of ys ++ s → Begins xs r ys s ⊎ Begins ys s xs r
align [] ys r s h k e = inl (record { more = ys; lines = refl; bytes = e })
align (x ∷ xs) [] r s h k e = inr (record { more = x ∷ xs; lines = refl; bytes = sym e })
align (x ∷ xs) (y ∷ ys) r s h k e =
    let both = same_line x y (lines_of xs ++ r) (lines_of ys ++ s) (All-head HasNoFeed x xs h) (All-head HasNoFeed y ys k)
    (sym (append_assoc (line x) (lines_of xs) r) ∙ e ∙ append_assoc (line y) (lines_of ys) s) in
    elim (align xs ys r s (All-tail HasNoFeed x xs h) (All-tail HasNoFeed y ys k) both.1) [
      | inl a ↦ inl (record { more = a.more; lines = cc (both.0, a.lines); bytes = a.bytes })
      | inr b ↦ inr (record { more = b.more; lines = cc (both.0, b.lines); bytes = b.bytes })
    ]

-- lines take bytes
pub no_bytes : (lines : List (List ℕ)) (rest : List ℕ) → [] ≡ lines_of lines ++ rest → (lines ≡ []) × (rest ≡ [])
no_bytes [] rest e = (refl, sym e)
no_bytes (text ∷ lines) rest e =
    let size : 0 ≡ length (lines_of (text ∷ lines) ++ rest) = ap length e in
    absurd (omega (arith, size, length-append (lines_of (text ∷ lines)) rest, length-append (line text) (lines_of lines), length-append text (10 ∷ [])))
