-- The tokens of a line of words: each word is one, at its place.
use Rattle.std.proofs.Common.{◌≡◌, ℕ, ◌+◌, ◌-◌, List, [], ◌∷◌, ◌++◌, length, take, drop, Ok, refl, sym, ap, ◌∙◌, arith, append_assoc}
use Rattle.std.proofs.lemmas.List.{drop-drop}
use Rattle.std.proofs.Math.Seq.{drop-append_seam}
use Rattle.pddl_lexer.specs.declared.lexer.Token.{Token}
use Rattle.pddl_lexer.specs.Lexing.{name_len, piece_of, before, tokens_at, tokens_of}
use Rattle.pddl_lexer.proofs.Pieces.{tokens_at-taken}
use Rattle.pddl_forms.specs.Lexemes.{Lexeme, lexeme, see, lexemes, lower}
use Rattle.pddl_printer.specs.Printing.{spaced, line_of_words}
use Rattle.pddl_printer.proofs.Tokens.{kind_of, IsFront, IsToken}

-- each word is read as one token
abbrev pub AreTokens : List (List ℕ) → Type 0
AreTokens [] = Unit {0}
AreTokens (w ∷ ws) = IsToken w × AreTokens ws

-- the token of a word at a place
abbrev pub token_of : List ℕ → ℕ → Token
token_of w at = record { kind = kind_of w; from = at; to = at + length w }

-- the tokens of words that stand each after a space
abbrev pub tokens_from : ℕ → List (List ℕ) → List Token
tokens_from at [] = []
tokens_from at (w ∷ ws) = token_of w (at + 1) ∷ tokens_from (at + 1 + length w) ws

-- a word is read before what is read after it
word_tokens : (w more : List ℕ) (at : ℕ) → IsFront w more → tokens_at (w ++ more) at 0 ≡ before (token_of w at) (tokens_at more (at + length w) 0)
unfolding tokens_at
word_tokens [] more at front = absurd front
word_tokens (b ∷ bs) more at front =
    let past : length (b ∷ bs) - 1 ≡ length bs = omega arith in
    let place : at + 1 + length bs ≡ at + length (b ∷ bs) = omega arith in
    rw front (ap (before (token_of (b ∷ bs) at)) (ap (tokens_at (bs ++ more) (at + 1)) past ∙ tokens_at-taken (bs ++ more) (at + 1) (length bs) ∙ ap (λ rest. tokens_at rest (at + 1 + length bs) 0) (dropped bs more) ∙ ap (λ n. tokens_at more n 0) place))
  where
    dropped : (us vs : List ℕ) → drop (length us) (us ++ vs) ≡ vs
    dropped [] vs = refl
    dropped (u ∷ us) vs = dropped us vs

-- what follows a word begins with no byte of a name
no_name : (ws : List (List ℕ)) → name_len (spaced ws ++ 10 ∷ []) ≡ 0
no_name [] = refl
no_name (w ∷ ws) = refl

after_space : (bs : List ℕ) (at : ℕ) → tokens_at (32 ∷ bs) at 0 ≡ tokens_at bs (at + 1) 0
unfolding tokens_at piece_of
after_space bs at = refl

line_end : (at : ℕ) → tokens_at (10 ∷ []) at 0 ≡ Ok []
unfolding tokens_at piece_of
line_end at = refl

spaced-tokens : (ws : List (List ℕ)) (at : ℕ) → AreTokens ws → tokens_at (spaced ws ++ 10 ∷ []) at 0 ≡ Ok (tokens_from at ws)
spaced-tokens [] at are = line_end at
spaced-tokens (w ∷ ws) at are =
    after_space ((w ++ spaced ws) ++ 10 ∷ []) at ∙ ap (λ l. tokens_at l (at + 1) 0) (append_assoc w (spaced ws) (10 ∷ []))
    ∙ word_tokens w (spaced ws ++ 10 ∷ []) (at + 1) (are.0.front (spaced ws ++ 10 ∷ []) (no_name ws)) ∙ ap (before (token_of w (at + 1))) (spaced-tokens ws (at + 1 + length w) are.1)

-- the tokens of a line whose first word is this one
abbrev pub line_tokens : List ℕ → List (List ℕ) → List Token
line_tokens w ws = token_of w 0 ∷ tokens_from (0 + length w) ws

pub line-tokens : (w : List ℕ) (ws : List (List ℕ)) → AreTokens (w ∷ ws) → tokens_of (line_of_words (w ∷ ws)) ≡ Ok (line_tokens w ws)
line-tokens w ws are =
    ap (λ l. tokens_at l 0 0) (append_assoc w (spaced ws) (10 ∷ []))
    ∙ word_tokens w (spaced ws ++ 10 ∷ []) 0 (are.0.front (spaced ws ++ 10 ∷ []) (no_name ws)) ∙ ap (before (token_of w 0)) (spaced-tokens ws (0 + length w) are.1)

-- lexemes that show words, each at some place
pub data Shown : List (List ℕ) → List Lexeme → Type 0 where
  all_shown : Shown [] []
  shown : {w : List ℕ} {ws : List (List ℕ)} (at : ℕ) {ts : List Lexeme} → Shown ws ts → Shown (w ∷ ws) (lexeme (kind_of w) w at ∷ ts)

-- a token whose bytes are a word in lower case shows it
see-word : (bytes w more : List ℕ) (at : ℕ) → drop at bytes ≡ w ++ more → lower w ≡ w → see bytes (token_of w at) ≡ lexeme (kind_of w) w at
see-word bytes w more at here small =
    let size : at + length w - at ≡ length w = omega arith in
    ap (λ text. lexeme (kind_of w) (lower text) at) (ap (λ n. take n (drop at bytes)) size ∙ ap (take (length w)) here ∙ taken w more) ∙ ap (λ text. lexeme (kind_of w) text at) small
  where
    taken : (us vs : List ℕ) → take (length us) (us ++ vs) ≡ us
    taken [] vs = refl
    taken (u ∷ us) vs = ap (λ l. u ∷ l) (taken us vs)

spaced-shown : (bytes : List ℕ) (ws : List (List ℕ)) (at : ℕ) → drop at bytes ≡ spaced ws ++ 10 ∷ [] → AreTokens ws → Shown ws (lexemes bytes (tokens_from at ws))
spaced-shown bytes [] at here are = all_shown
spaced-shown bytes (w ∷ ws) at here are =
    let next : drop (at + 1) bytes ≡ w ++ (spaced ws ++ 10 ∷ []) = sym (drop-drop 1 at bytes) ∙ ap (drop 1) here ∙ append_assoc w (spaced ws) (10 ∷ []) in
    rw (see-word bytes w (spaced ws ++ 10 ∷ []) (at + 1) next are.0.small) (shown (at + 1) (spaced-shown bytes ws (at + 1 + length w) (after-word bytes w (spaced ws ++ 10 ∷ []) (at + 1) next) are.1))
  where
    after-word : (bytes w more : List ℕ) (at : ℕ) → drop at bytes ≡ w ++ more → drop (at + length w) bytes ≡ more
    after-word bytes w more at here = sym (drop-drop (length w) at bytes) ∙ ap (drop (length w)) here ∙ drop-append_seam w more

-- the lexemes of a line show its words
pub line-shown : (w : List ℕ) (ws : List (List ℕ)) → AreTokens (w ∷ ws) → Shown (w ∷ ws) (lexemes (line_of_words (w ∷ ws)) (line_tokens w ws))
line-shown w ws are =
    let bytes = line_of_words (w ∷ ws) in
    let here : drop 0 bytes ≡ w ++ (spaced ws ++ 10 ∷ []) = append_assoc w (spaced ws) (10 ∷ []) in
    let after : drop (0 + length w) bytes ≡ spaced ws ++ 10 ∷ [] = sym (drop-drop (length w) 0 bytes) ∙ ap (drop (length w)) here ∙ drop-append_seam w (spaced ws ++ 10 ∷ []) in
    rw (see-word bytes w (spaced ws ++ 10 ∷ []) 0 here are.0.small) (shown 0 (spaced-shown bytes ws (0 + length w) after are.1))
