-- How the tokens of a text go on from piece to piece, and that they stand in order.
use Rattle.std.proofs.Common.{◌≡◌, ℕ, zero, suc, ◌+◌, ◌-◌, ◌<◌, ◌≤◌, Bool, true, false, cond, ◌&&◌, eqb, List, [], ◌∷◌, ◌++◌, length, take, drop, get_or, Result, Ok, Err, refl, sym, ap, ◌∙◌, arith, append_assoc}
use Rattle.std.proofs.lemmas.List.{drop-drop, drop_more, drop_all, append-nil, take_rest}
use Rattle.std.proofs.lemmas.List.Sums.{prefix_len-le-length}
use Rattle.flag_rules.specs.Name.{begins_name, is_name_byte}
use Rattle.pddl_lexer.specs.declared.lexer.Kind.{Kind}
use Rattle.pddl_lexer.specs.declared.lexer.Kind.TheVariants.{LeftParen, RightParen, Name, Variable, Keyword, Dash, Equal}
use Rattle.pddl_lexer.specs.declared.lexer.Token.{Token}
use Rattle.pddl_lexer.specs.declared.lexer.Piece.{Piece}
use Rattle.pddl_lexer.specs.declared.lexer.Piece.TheVariants.{Passed, Spelled, Stray}
use Rattle.pddl_lexer.specs.Lexing.{is_blank, starts_name, name_len, comment_len, piece_of, before, from_piece, tokens_at, InOrder}
use Rattle.pddl_lexer.specs.Inner.Spans.{IsWithin, AreWithin}

record Fitting (piece : Piece) (room : ℕ) : Type 0 where
  within : IsWithin piece room

-- where both pieces fit, the one that a test picks fits
either : (b : Bool) {x y : Piece} {room : ℕ} → Fitting x room → Fitting y room → Fitting (cond b x y) room
either true f g = f
either false f g = g

piece_fits : (b : ℕ) (bs : List ℕ) → Fitting (piece_of b bs) (length bs + 1)
unfolding piece_of
piece_fits b bs =
    either (is_blank b) (passed 0 (omega arith))
    (either (eqb b 59) (passed (comment_len bs) (prefix_len-le-length _ bs))
    (either (eqb b 40) (token LeftParen 0 (omega arith))
    (either (eqb b 41) (token RightParen 0 (omega arith))
    (either (eqb b 61) (token Equal 0 (omega arith))
    (either (begins_name b) (name Name)
    (either (eqb b 63 && starts_name bs) (name Variable)
    (either (eqb b 58 && starts_name bs) (name Keyword)
    (either (eqb b 45) (token Dash 0 (omega arith)) (record { within = tt })))))))))
  where
    token : (kind : Kind) (count : ℕ) → count ≤ length bs → Fitting (Spelled kind (count + 1)) (length bs + 1)
    token kind count fits = record { within = (omega arith, omega arith) }

    passed : (count : ℕ) → count ≤ length bs → Fitting (Passed (count + 1)) (length bs + 1)
    passed count fits = record { within = (omega arith, omega arith) }

    name : (kind : Kind) → Fitting (Spelled kind (name_len bs + 1)) (length bs + 1)
    name kind = token kind _ (prefix_len-le-length is_name_byte bs)

pub piece_is_within : (b : ℕ) (bs : List ℕ) → IsWithin (piece_of b bs) (length bs + 1)
piece_is_within b bs = (piece_fits b bs).within

-- bytes that belong to a piece already are skipped
pub tokens_at-taken : (bs : List ℕ) (at taken : ℕ) → tokens_at bs at taken ≡ tokens_at (drop taken bs) (at + taken) 0
unfolding tokens_at
tokens_at-taken [] at zero = refl
tokens_at-taken [] at (suc taken) = refl
tokens_at-taken (b ∷ bs) at zero = let e : at + 0 ≡ at = omega arith in rw e refl
tokens_at-taken (b ∷ bs) at (suc taken) =
    let e : at + 1 + taken ≡ at + suc taken = omega arith in
    tokens_at-taken bs (at + 1) taken ∙ ap (λ n. tokens_at (drop taken bs) n 0) e

-- the tokens after a piece are those of the bytes after it
pub tokens_at-after : (bytes : List ℕ) (at b : ℕ) (bs : List ℕ) (count : ℕ) → drop at bytes ≡ b ∷ bs → 0 < count → tokens_at bs (at + 1) (count - 1) ≡ tokens_at (drop (at + count) bytes) (at + count) 0
tokens_at-after bytes at b bs zero e more = absurd (omega arith)
tokens_at-after bytes at b bs (suc n) e more =
    let less : suc n - 1 ≡ n = omega arith in
    let place : at + 1 + n ≡ at + suc n = omega arith in
    let rest : drop n bs ≡ drop (at + suc n) bytes = ap (drop (suc n)) (sym e) ∙ drop-drop (suc n) at bytes in
    rw less (tokens_at-taken bs (at + 1) n ∙ ap (λ k. tokens_at (drop n bs) k 0) place ∙ ap (λ l. tokens_at l (at + suc n) 0) rest)

-- some tokens, and then those that could be read
abbrev pub glue : List Token → Result (List Token) ℕ → Result (List Token) ℕ
glue done (Ok tokens) = Ok (done ++ tokens)
glue done (Err place) = Err place

pub glue-before : (done : List Token) (t : Token) (r : Result (List Token) ℕ) → glue done (before t r) ≡ glue (done ++ t ∷ []) r
glue-before done t (Ok ts) = ap Ok (sym (append_assoc done (t ∷ []) ts))
glue-before done t (Err place) = refl

-- what is read from a place on, after the tokens before it
abbrev pub reading : List ℕ → List Token → ℕ → Result (List Token) ℕ
reading bytes done at = glue done (tokens_at (drop at bytes) at 0)

-- what stands at a place, as the loop asks for it
abbrev pub piece_at : List ℕ → ℕ → Piece
piece_at bytes at = piece_of (get_or bytes at 0) (take (length bytes - (at + 1)) (drop (at + 1) bytes))

module _ (bytes : List ℕ) (done : List Token) (at : ℕ) (here : at < length bytes) where
  front : drop at bytes ≡ get_or bytes at 0 ∷ drop (at + 1) bytes
  front = drop_more bytes at 0 here

  opened : (piece : Piece) → piece ≡ piece_at bytes at → tokens_at (drop at bytes) at 0 ≡ from_piece piece at (λ count. tokens_at (drop (at + 1) bytes) (at + 1) (count - 1))
  unfolding tokens_at
  opened piece is =
      let rest = take_rest bytes (at + 1) in
      let same : piece_of (get_or bytes at 0) (drop (at + 1) bytes) ≡ piece = ap (piece_of (get_or bytes at 0)) (sym rest) ∙ sym is in
      ap (λ bs. tokens_at bs at 0) front ∙ ap (λ p. from_piece p at (λ count. tokens_at (drop (at + 1) bytes) (at + 1) (count - 1))) same

  pub reading-passed : (count : ℕ) → Passed count ≡ piece_at bytes at → 0 < count → reading bytes done (at + count) ≡ reading bytes done at
  reading-passed count is more = sym (ap (glue done) (opened _ is ∙ tokens_at-after bytes at _ _ count front more))

  pub reading-spelled : (kind : Kind) (count : ℕ) → Spelled kind count ≡ piece_at bytes at → 0 < count → reading bytes (done ++ (record { kind = kind; from = at; to = at + count }) ∷ []) (at + count) ≡ reading bytes done at
  reading-spelled kind count is more =
      let t : Token = record { kind = kind; from = at; to = at + count } in
      sym (ap (glue done) (opened _ is ∙ ap (before t) (tokens_at-after bytes at _ _ count front more)) ∙ glue-before done t _)

  pub reading-stray : Stray ≡ piece_at bytes at → reading bytes done at ≡ Err at
  reading-stray is = ap (glue done) (opened _ is)

pub reading-end : (bytes : List ℕ) (done : List Token) (at : ℕ) → length bytes ≤ at → reading bytes done at ≡ Ok done
unfolding tokens_at
reading-end bytes done at past = rw (drop_all at bytes past) (ap Ok (append-nil done))

-- the bytes of a token are a piece of its kind
abbrev pub IsPiece : List ℕ → Token → Type 0
IsPiece whole t = (b : ℕ) × (bs : List ℕ) × (drop t.from whole ≡ b ∷ bs) × (piece_of b bs ≡ Spelled t.kind (t.to - t.from))

-- tokens that stand in order, each a piece
abbrev pub AreCut : List ℕ → ℕ → ℕ → List Token → Type 0
AreCut whole low high [] = Unit {0}
AreCut whole low high (t ∷ ts) = (low ≤ t.from) × (t.from < t.to) × (t.to ≤ high) × IsPiece whole t × AreCut whole t.to high ts

AreCut-from_lower : (whole : List ℕ) (low lower high : ℕ) (ts : List Token) → lower ≤ low → AreCut whole low high ts → AreCut whole lower high ts
AreCut-from_lower whole low lower high [] below cut = tt
AreCut-from_lower whole low lower high (t ∷ ts) below cut = let first = cut.0 in (omega arith, cut.1, cut.2, cut.3, cut.4)

-- where a token came before what could be read
before-Ok : (t : Token) (r : Result (List Token) ℕ) (ts : List Token) → before t r ≡ Ok ts → (us : List Token) × (r ≡ Ok us) × (ts ≡ t ∷ us)
before-Ok t (Ok us) ts e = (us, refl, cc)
before-Ok t (Err place) ts e = absurd cc

-- a piece at the front, and tokens that stand in order after it
AreCut-from_piece : (whole : List ℕ) (b : ℕ) (bs : List ℕ) (at : ℕ) (ts : List Token) → drop at whole ≡ b ∷ bs → (piece : Piece) → piece_of b bs ≡ piece → IsWithin piece (length bs + 1) → ((count : ℕ) (us : List Token) → count - 1 ≤ length bs → tokens_at bs (at + 1) (count - 1) ≡ Ok us → AreCut whole (at + 1 + (count - 1)) (at + 1 + length bs) us) → from_piece piece at (λ count. tokens_at bs (at + 1) (count - 1)) ≡ Ok ts → AreCut whole (at + 0) (at + suc (length bs)) ts
AreCut-from_piece whole b bs at ts here (Passed count) is within further read =
    let high : at + 1 + length bs ≡ at + suc (length bs) = omega arith in
    rw (← high) (AreCut-from_lower whole _ _ _ ts (omega arith) (further count ts (omega arith) read))
AreCut-from_piece whole b bs at ts here (Spelled kind count) is within further read =
    let high : at + 1 + length bs ≡ at + suc (length bs) = omega arith in
    let low : at + 1 + (count - 1) ≡ at + count = omega arith in
    let size : at + count - at ≡ count = omega arith in
    let rest = before-Ok _ _ ts read in
    let after = rw (high, low) at (further count rest.0 (omega arith) rest.1) in
    rw rest.2 (omega arith, omega arith, omega arith, (b, bs, here, is ∙ ap (Spelled kind) (sym size)), after)
AreCut-from_piece whole b bs at ts here Stray is within further read = absurd cc

pub tokens_are_cut : (whole bs : List ℕ) (at taken : ℕ) (ts : List Token) → drop at whole ≡ bs → taken ≤ length bs → tokens_at bs at taken ≡ Ok ts → AreCut whole (at + taken) (at + length bs) ts
unfolding tokens_at
tokens_are_cut whole [] at taken [] here fits e = tt
tokens_are_cut whole [] at taken (t ∷ ts) here fits e = absurd cc
tokens_are_cut whole (b ∷ bs) at (suc taken) ts here fits e =
    let low : at + 1 + taken ≡ at + suc taken = omega arith in
    let high : at + 1 + length bs ≡ at + suc (length bs) = omega arith in
    rw (← low, ← high) (tokens_are_cut whole bs (at + 1) taken ts (sym (drop-drop 1 at whole) ∙ ap (drop 1) here) (omega arith) e)
tokens_are_cut whole (b ∷ bs) at zero ts here fits e =
    let next : drop (at + 1) whole ≡ bs = sym (drop-drop 1 at whole) ∙ ap (drop 1) here in
    AreCut-from_piece whole b bs at ts here (piece_of b bs) refl (piece_is_within b bs) (λ count us. tokens_are_cut whole bs (at + 1) (count - 1) us next) e

AreCut-InOrder : (whole : List ℕ) (low high : ℕ) (ts : List Token) → AreCut whole low high ts → InOrder low high ts
AreCut-InOrder whole low high [] cut = tt
AreCut-InOrder whole low high (t ∷ ts) cut = (cut.0, cut.1, cut.2, AreCut-InOrder whole t.to high ts cut.4)

pub tokens_are_in_order : (bytes : List ℕ) (ts : List Token) → tokens_at bytes 0 0 ≡ Ok ts → InOrder 0 (length bytes) ts
tokens_are_in_order bytes ts e =
    let cut = AreCut-InOrder bytes _ _ ts (tokens_are_cut bytes bytes 0 0 ts refl (omega arith) e) in
    let high : 0 + length bytes ≡ length bytes = omega arith in
    rw high at cut

-- tokens that stand in order stand within the text
pub AreWithin-from_InOrder : (bytes : List ℕ) (low : ℕ) (ts : List Token) → InOrder low (length bytes) ts → AreWithin bytes ts
AreWithin-from_InOrder bytes low [] order = tt
AreWithin-from_InOrder bytes low (t ∷ ts) order = (omega (arith, order.1), order.2, AreWithin-from_InOrder bytes t.to ts order.3)

InOrder-length : (low high : ℕ) (ts : List Token) → low ≤ high → InOrder low high ts → low + length ts ≤ high
InOrder-length low high [] fits order = omega arith
InOrder-length low high (t ∷ ts) fits order = omega (arith, order.0, order.1, order.2, InOrder-length t.to high ts order.2 order.3)

-- tokens are no more than the bytes
pub tokens_are_few : (bytes : List ℕ) (ts : List Token) → tokens_at bytes 0 0 ≡ Ok ts → length ts ≤ length bytes
tokens_are_few bytes ts e = omega (arith, InOrder-length 0 (length bytes) ts (omega arith) (tokens_are_in_order bytes ts e))
