-- The lexemes of tokens are no gaps, and their words are spelled as names and as variables.
use Rattle.std.proofs.Common.{◌≡◌, ℕ, ◌+◌, ◌-◌, Bool, true, false, cond, ◌&&◌, ◌||◌, eqb, List, [], ◌∷◌, take, Ok, refl, arith}
use Rattle.std.specs.Char.{to_ascii_lowercase}
use Rattle.std.specs.List.{list_all}
use Rattle.std.proofs.lemmas.Bool.Decides.{nat_tests}
use Rattle.std.proofs.Math.Numerals.{add-one, one-add}
use Rattle.flag_rules.specs.Name.{begins_name, is_name_byte, is_small, is_digit, IsName}
use Rattle.pddl_lexer.specs.declared.lexer.Kind.{Kind}
use Rattle.pddl_lexer.specs.declared.lexer.Kind.TheVariants.{Name, Variable}
use Rattle.pddl_lexer.specs.declared.lexer.Token.{Token}
use Rattle.pddl_lexer.specs.declared.lexer.Piece.{Piece}
use Rattle.pddl_lexer.specs.declared.lexer.Piece.TheVariants.{Spelled}
use Rattle.pddl_lexer.specs.Lexing.{is_blank, starts_name, name_len, piece_of, tokens_of}
use Rattle.pddl_forms.specs.Lexemes.{Lexeme, name, variable, gap, lower, lexeme, see, lexemes}
use Rattle.pddl_parser.specs.Spelled.{IsVariable}
use Rattle.pddl_lexer.proofs.Pieces.{IsPiece, AreCut, tokens_are_cut}

-- a letter or a digit is one in lower case too
lower-letter : (b : ℕ) → begins_name b ≡ true → (is_small (to_ascii_lowercase b) || is_digit (to_ascii_lowercase b)) ≡ true
lower-letter b e = grind (arith, nat_tests)

abbrev is_lower_byte : ℕ → Bool
is_lower_byte x = is_small x || is_digit x || eqb x 45 || eqb x 95

lower-name_byte : (b : ℕ) → is_name_byte b ≡ true → is_lower_byte (to_ascii_lowercase b) ≡ true
lower-name_byte b e = grind (arith, nat_tests)

run-more : (b n : ℕ) (bs : List ℕ) (named : Bool) → is_name_byte b ≡ named → list_all is_lower_byte (lower (take n bs)) ≡ true → list_all is_lower_byte (lower (take (cond named (1 + n) 0) (b ∷ bs))) ≡ true
run-more b n bs true e so_far = rw (one-add, lower-name_byte b e) so_far
run-more b n bs false e so_far = refl

-- a run of bytes of a name, in lower case
lower-run : (bs : List ℕ) → list_all is_lower_byte (lower (take (name_len bs) bs)) ≡ true
lower-run [] = refl
lower-run (b ∷ bs) = run-more b (name_len bs) bs (is_name_byte b) refl (lower-run bs)

-- a letter or a digit, and a run of bytes of a name
lower-name : (b : ℕ) (bs : List ℕ) → begins_name b ≡ true → IsName (lower (take (name_len bs + 1) (b ∷ bs)))
lower-name b bs e = rw (add-one, lower-letter b e) (lower-run bs)

lower-starts : (bs : List ℕ) → starts_name bs ≡ true → IsName (lower (take (name_len bs) bs))
lower-starts [] e = absurd cc
lower-starts (b ∷ bs) e =
    let named : is_name_byte b ≡ true = rw e refl in
    let more : 1 + name_len bs ≡ name_len bs + 1 = omega arith in
    rw (named, more) (lower-name b bs e)

-- what a piece that is a name or a variable says of its bytes
abbrev Says : ℕ → List ℕ → Piece → Type 0
Says b bs (Spelled Name n) = (begins_name b ≡ true) × (n ≡ name_len bs + 1)
Says b bs (Spelled Variable n) = (b ≡ 63) × (starts_name bs ≡ true) × (n ≡ name_len bs + 1)
Says b bs _ = Unit {0}

record Said (b : ℕ) (bs : List ℕ) (piece : Piece) : Type 0 where
  says : Says b bs piece

either : (c : Bool) {b : ℕ} {bs : List ℕ} {x y : Piece} → (c ≡ true → Said b bs x) → Said b bs y → Said b bs (cond c x y)
either true f g = f refl
either false f g = g

both : (c d : Bool) → (c && d) ≡ true → (c ≡ true) × (d ≡ true)
both true true e = (refl, refl)
both true false e = absurd cc
both false d e = absurd cc

is_mark : (b : ℕ) → eqb b 63 ≡ true → b ≡ 63
is_mark b e = grind (arith, nat_tests)

piece_says : (b : ℕ) (bs : List ℕ) → Said b bs (piece_of b bs)
unfolding piece_of
piece_says b bs =
    either (is_blank b) (λ _. record { says = tt })
    (either (eqb b 59) (λ _. record { says = tt })
    (either (eqb b 40) (λ _. record { says = tt })
    (either (eqb b 41) (λ _. record { says = tt })
    (either (eqb b 61) (λ _. record { says = tt })
    (either (begins_name b) (λ e. record { says = (e, refl) })
    (either (eqb b 63 && starts_name bs) (λ e. let p = both (eqb b 63) (starts_name bs) e in record { says = (is_mark b p.0, p.1, refl) })
    (either (eqb b 58 && starts_name bs) (λ _. record { says = tt })
    (either (eqb b 45) (λ _. record { says = tt }) (record { says = tt })))))))))

-- a lexeme of a token, whose word is spelled as its kind
abbrev pub IsSpelled : Lexeme → Type 0
IsSpelled (name text at) = IsName text
IsSpelled (variable text at) = IsVariable text
IsSpelled (gap at) = ⊥
IsSpelled _ = Unit {0}

abbrev pub AreSpelled : List Lexeme → Type 0
AreSpelled [] = Unit {0}
AreSpelled (t ∷ ts) = IsSpelled t × AreSpelled ts

spelled-as : (b : ℕ) (bs : List ℕ) (kind : Kind) (n at : ℕ) → Says b bs (Spelled kind n) → IsSpelled (lexeme kind (lower (take n (b ∷ bs))) at)
spelled-as b bs Name n at says = rw says.1 (lower-name b bs says.0)
spelled-as b bs Variable n at says = rw (says.2, says.0, add-one) (refl, lower-starts bs says.1)
spelled-as b bs _ n at says = tt

piece-spelled : (bytes : List ℕ) (t : Token) → IsPiece bytes t → IsSpelled (see bytes t)
piece-spelled bytes t (b, bs, here, is) =
    rw here (spelled-as b bs t.kind (t.to - t.from) t.from (rw is at (piece_says b bs).says))

cut-spelled : (bytes : List ℕ) (low high : ℕ) (ts : List Token) → AreCut bytes low high ts → AreSpelled (lexemes bytes ts)
cut-spelled bytes low high [] cut = tt
cut-spelled bytes low high (t ∷ ts) cut = (piece-spelled bytes t cut.3, cut-spelled bytes t.to high ts cut.4)

pub lexemes_are_spelled : (bytes : List ℕ) (ts : List Token) → tokens_of bytes ≡ Ok ts → AreSpelled (lexemes bytes ts)
lexemes_are_spelled bytes ts are = cut-spelled bytes _ _ ts (tokens_are_cut bytes bytes 0 0 ts refl (omega arith) are)
