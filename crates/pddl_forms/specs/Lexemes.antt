-- What a reader of PDDL sees of a text: its tokens, with their words in lower case and their places.
use Rattle.std.specs.Prelude.{ℕ, List, [], ◌∷◌, map, slice_range}
use Rattle.std.specs.Char.{to_ascii_lowercase}
use Rattle.pddl_lexer.specs.declared.lexer.Kind.{Kind}
use Rattle.pddl_lexer.specs.declared.lexer.Kind.TheVariants.{LeftParen, RightParen, Name, Variable, Keyword, Dash, Equal}
use Rattle.pddl_lexer.specs.declared.lexer.Token.{Token}

-- A token as it is read: where it stands, and for a word its text in lower case, with the `?` or `:` that begins it.
-- `gap` is no token, and the lexemes of bytes have none. It stands after the dash and the left parenthesis of a type that
-- the grammar leaves out, as in `- (either a b)`, so that what comes up to this parenthesis still begins a text.
pub data Lexeme : Type 0 where
  left : ℕ → Lexeme
  right : ℕ → Lexeme
  name : List ℕ → ℕ → Lexeme
  variable : List ℕ → ℕ → Lexeme
  keyword : List ℕ → ℕ → Lexeme
  dash : ℕ → Lexeme
  equal : ℕ → Lexeme
  gap : ℕ → Lexeme

-- a token of a kind as it is read; the marks keep no text
abbrev pub lexeme : Kind → List ℕ → ℕ → Lexeme
lexeme LeftParen text at = left at
lexeme RightParen text at = right at
lexeme Name text at = name text at
lexeme Variable text at = variable text at
lexeme Keyword text at = keyword text at
lexeme Dash text at = dash at
lexeme Equal text at = equal at

-- some bytes in lower case
abbrev pub lower : List ℕ → List ℕ
lower bytes = map to_ascii_lowercase bytes

-- a token of a text as it is read
abbrev pub see : List ℕ → Token → Lexeme
see bytes token = lexeme token.kind (lower (slice_range bytes token.from token.to)) token.from

-- the tokens of a text as they are read
abbrev pub lexemes : List ℕ → List Token → List Lexeme
lexemes bytes tokens = map (see bytes) tokens

-- where a lexeme stands
abbrev pub at_of : Lexeme → ℕ
at_of (left at) = at
at_of (right at) = at
at_of (name text at) = at
at_of (variable text at) = at
at_of (keyword text at) = at
at_of (dash at) = at
at_of (equal at) = at
at_of (gap at) = at

-- where the first of some lexemes stands, which is the end of the text where there is none
abbrev pub place_of : ℕ → List Lexeme → ℕ
place_of end [] = end
place_of end (t ∷ ts) = at_of t
