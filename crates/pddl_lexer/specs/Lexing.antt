-- The tokens of a text's bytes.
use Rattle.std.specs.Prelude.{ℕ, zero, suc, ◌≡◌, ◌+◌, ◌-◌, ◌<◌, ◌≤◌, Bool, false, not, ◌&&◌, ◌||◌, ◌==◌, List, [], ◌∷◌, Result, Ok, Err, if◌then◌else◌}
use Rattle.std.specs.List.{prefix_len}
use Rattle.flag_rules.specs.Name.{begins_name, is_name_byte}
use Rattle.pddl_lexer.specs.declared.lexer.Kind.TheVariants.{LeftParen, RightParen, Name, Variable, Keyword, Dash, Equal}
use Rattle.pddl_lexer.specs.declared.lexer.Token.{Token}
use Rattle.pddl_lexer.specs.declared.lexer.Piece.{Piece}
use Rattle.pddl_lexer.specs.declared.lexer.Piece.TheVariants.{Passed, Spelled, Stray}
use Rattle.pddl_lexer.specs.declared.lexer.LexRefusal.{LexRefusal}
use Rattle.pddl_lexer.specs.declared.lexer.LexRefusal.TheVariants.{Byte, OutOfMemory}

-- space, tab, line feed, form feed and carriage return separate tokens
abbrev pub is_blank : ℕ → Bool
is_blank b = b == 32 || b == 9 || b == 10 || b == 12 || b == 13

-- a line feed or a carriage return ends a comment
abbrev pub ends_line : ℕ → Bool
ends_line b = b == 10 || b == 13

-- how many bytes at the front are bytes of a name
abbrev pub name_len : List ℕ → ℕ
name_len bs = prefix_len is_name_byte bs

-- how many bytes at the front stand before the end of the line
abbrev pub comment_len : List ℕ → ℕ
comment_len bs = prefix_len (λ b. not (ends_line b)) bs

-- a letter or a digit comes first
abbrev pub starts_name : List ℕ → Bool
starts_name [] = false
starts_name (b ∷ bs) = begins_name b

-- what stands at the front of a text, by its first byte `b` and the bytes `bs` after it
unfoldable pub piece_of : ℕ → List ℕ → Piece
piece_of b bs =
    if is_blank b then Passed 1
    else (if b == 59 then Passed (comment_len bs + 1)
    else (if b == 40 then Spelled LeftParen 1
    else (if b == 41 then Spelled RightParen 1
    else (if b == 61 then Spelled Equal 1
    else (if begins_name b then Spelled Name (name_len bs + 1)
    else (if b == 63 && starts_name bs then Spelled Variable (name_len bs + 1)
    else (if b == 58 && starts_name bs then Spelled Keyword (name_len bs + 1)
    else (if b == 45 then Spelled Dash 1
    else Stray))))))))

-- a token before other tokens, if these could be read
abbrev pub before : Token → Result (List Token) ℕ → Result (List Token) ℕ
before token (Ok tokens) = Ok (token ∷ tokens)
before token (Err place) = Err place

-- the tokens from a place on where this piece stands, by those from as many bytes on as are told
abbrev pub from_piece : Piece → ℕ → (ℕ → Result (List Token) ℕ) → Result (List Token) ℕ
from_piece (Passed count) at further = further count
from_piece (Spelled kind count) at further = before (record { kind = kind; from = at; to = at + count }) (further count)
from_piece Stray at further = Err at

-- the tokens of bytes that begin at a place, where the first few belong to a piece already; or the first place that begins no token
unfoldable pub tokens_at : List ℕ → ℕ → ℕ → Result (List Token) ℕ
tokens_at [] at taken = Ok []
tokens_at (b ∷ bs) at (suc taken) = tokens_at bs (at + 1) taken
tokens_at (b ∷ bs) at zero = from_piece (piece_of b bs) at (λ count. tokens_at bs (at + 1) (count - 1))

-- the tokens of a text, or the place of the first byte that begins no token
abbrev pub tokens_of : List ℕ → Result (List Token) ℕ
tokens_of bytes = tokens_at bytes 0 0

-- the answer is exactly that; want of memory says nothing
abbrev pub Gives : Result (List Token) LexRefusal → Result (List Token) ℕ → Type 0
Gives (Ok tokens) all = all ≡ Ok tokens
Gives (Err (Byte place)) all = all ≡ Err place
Gives (Err OutOfMemory) all = Unit {0}

-- the tokens stand one after another, none empty, from one place on and up to another
abbrev pub InOrder : ℕ → ℕ → List Token → Type 0
InOrder low high [] = Unit {0}
InOrder low high (t ∷ ts) = (low ≤ t.from) × (t.from < t.to) × (t.to ≤ high) × InOrder t.to high ts
