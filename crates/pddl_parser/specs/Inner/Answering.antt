-- The contract of the code for whole bytes: reading them stage by stage, their tokens, then their parentheses, then
-- lexeme by lexeme.
use Rattle.std.specs.Prelude.{ℕ, List, length, Option, None, Some, Result, Ok, Err}
use Rattle.pddl_lexer.specs.declared.lexer.Token.{Token}
use Rattle.pddl_lexer.specs.declared.lexer.LexRefusal.{LexRefusal}
use Rattle.pddl_lexer.specs.declared.lexer.LexRefusal.TheVariants as lexing
use Rattle.pddl_lexer.specs.declared.parentheses.Misplaced.{Misplaced}
use Rattle.pddl_lexer.specs.declared.parentheses.Misplaced.TheVariants as parentheses
use Rattle.pddl_lexer.specs.Lexing.{tokens_of}
use Rattle.pddl_lexer.specs.Parentheses.{misplaced_in}
use Rattle.pddl_forms.specs.declared.stop.Why.{Why}
use Rattle.pddl_forms.specs.declared.stop.Why.TheVariants as kinds
use Rattle.pddl_forms.specs.declared.stop.Stop.{Stop}
use Rattle.pddl_forms.specs.declared.stop.Stop.TheVariants as stops
use Rattle.pddl_parser.specs.declared.refusal.ParseRefusal.{ParseRefusal}
use Rattle.pddl_parser.specs.declared.refusal.ParseRefusal.TheVariants.{Byte, Unclosed, Unopened, TooDeep, Shape, Unsupported, OutOfMemory}
use Rattle.pddl_forms.specs.Lexemes.{Lexeme, lexemes, place_of}
use Rattle.pddl_forms.specs.Inner.Reading.{Read, got, stuck}
use Rattle.pddl_parser.specs.Inner.Choosing.{all_of}

-- the refusal of bytes that have no tokens
abbrev pub refusal_of_lexer : LexRefusal → ParseRefusal
refusal_of_lexer (lexing.Byte at) = Byte at
refusal_of_lexer lexing.OutOfMemory = OutOfMemory

-- the refusal of a parenthesis that is out of place
abbrev pub refusal_of_misplaced : Misplaced → ParseRefusal
refusal_of_misplaced (parentheses.Unopened at) = Unopened at
refusal_of_misplaced (parentheses.TooDeep at) = TooDeep at
refusal_of_misplaced (parentheses.Unclosed at) = Unclosed at

-- the refusal of the offending lexeme at a place
abbrev pub refusal_of_why : Why → ℕ → ParseRefusal
refusal_of_why kinds.Shape at = Shape at
refusal_of_why kinds.Unsupported at = Unsupported at

-- the refusal where reading stopped at a place
abbrev pub refusal_of_stop : Stop → ℕ → ParseRefusal
refusal_of_stop (stops.Refused why) at = refusal_of_why why at
refusal_of_stop stops.OutOfMemory at = OutOfMemory

-- tokens, unless a parenthesis is out of place
abbrev pub unless_misplaced : List Token → Option Misplaced → Result (List Token) ParseRefusal
unless_misplaced tokens None = Ok tokens
unless_misplaced tokens (Some misplaced) = Err (refusal_of_misplaced misplaced)

-- tokens with every parenthesis in its place, if there are tokens
abbrev pub ordered : Result (List Token) ℕ → Result (List Token) ParseRefusal
ordered (Ok tokens) = unless_misplaced tokens (misplaced_in tokens)
ordered (Err at) = Err (Byte at)

-- the tokens of bytes, with every parenthesis in its place
abbrev pub ordered_tokens_of : List ℕ → Result (List Token) ParseRefusal
ordered_tokens_of bytes = ordered (tokens_of bytes)

-- the text that was read, or the refusal at the lexeme where reading was stuck, in a text that ends at a place
abbrev pub reply_to_read : {A : Type 0} → ℕ → Read A → Result A ParseRefusal
reply_to_read end (got text rest) = Ok text
reply_to_read end (stuck why bad) = Err (refusal_of_why why (place_of end bad))

-- what is read of tokens to their end
abbrev pub reply_to_tokens : {A : Type 0} → (List Lexeme → Read A) → List ℕ → Result (List Token) ParseRefusal → Result A ParseRefusal
reply_to_tokens read bytes (Ok tokens) = reply_to_read (length bytes) (all_of read (lexemes bytes tokens))
reply_to_tokens read bytes (Err refusal) = Err refusal

-- what is read of bytes to their end
abbrev pub reply_by : {A : Type 0} → (List Lexeme → Read A) → List ℕ → Result A ParseRefusal
reply_by read bytes = reply_to_tokens read bytes (ordered_tokens_of bytes)
