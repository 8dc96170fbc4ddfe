-- What the bytes of a text mean, and what reading them has to answer.
use Rattle.std.specs.Prelude.{◌≡◌, ℕ, ◌≤◌, List, [], length, Some, None, Result, Ok, Err}
use Rattle.pddl_lexer.specs.declared.lexer.Token.{Token}
use Rattle.pddl_lexer.specs.declared.parentheses.Misplaced.{Misplaced}
use Rattle.pddl_lexer.specs.declared.parentheses.Misplaced.TheVariants as parentheses
use Rattle.flag_rules.specs.declared.file.TheConstants.{MAX_FILE_BYTES}
use Rattle.pddl_lexer.specs.Lexing.{tokens_of}
use Rattle.pddl_lexer.specs.Parentheses.{misplaced_in}
use Rattle.pddl_forms.specs.declared.stop.Why.{Why}
use Rattle.pddl_forms.specs.declared.stop.Why.TheVariants as kinds
use Rattle.pddl_parser.specs.declared.refusal.ParseRefusal.{ParseRefusal}
use Rattle.pddl_parser.specs.declared.refusal.ParseRefusal.TheVariants.{Byte, Unclosed, Unopened, TooDeep, Shape, Unsupported, OutOfMemory}
use Rattle.pddl_parser.specs.declared.texts.DomainText.{DomainText}
use Rattle.pddl_parser.specs.declared.texts.ProblemText.{ProblemText}
use Rattle.pddl_forms.specs.Lexemes.{Lexeme, lexemes, place_of}
use Rattle.pddl_parser.specs.Grammar.{IsDomain, IsProblem}
use Rattle.pddl_forms.specs.Offending.{Offends, domain_keywords, problem_keywords}

-- bytes that have tokens with every parenthesis in its place, which are those of a text of the grammar
abbrev pub HasText : {A : Type 0} → (List Lexeme → A → List Lexeme → Type 0) → List ℕ → A → Type 0
HasText Text bytes text = (tokens : List Token) × (tokens_of bytes ≡ Ok tokens) × (misplaced_in tokens ≡ None) × Text (lexemes bytes tokens) text []

-- the bytes are those of this domain
abbrev pub HasDomain : List ℕ → DomainText → Type 0
HasDomain = HasText IsDomain

-- the bytes are those of this problem
abbrev pub HasProblem : List ℕ → ProblemText → Type 0
HasProblem = HasText IsProblem

-- a parenthesis of the bytes is out of place
abbrev pub HasMisplaced : List ℕ → Misplaced → Type 0
HasMisplaced bytes misplaced = (tokens : List Token) × (tokens_of bytes ≡ Ok tokens) × (misplaced_in tokens ≡ Some misplaced)

-- every parenthesis of the bytes is in its place, and the offending token of the grammar stands at this place; the end of
-- the text stands after its last byte
abbrev pub HasOffence : {A : Type 0} → List (List ℕ) → (List Lexeme → A → List Lexeme → Type 0) → List ℕ → Why → ℕ → Type 0
HasOffence sections Text bytes why at =
    (tokens : List Token) × (tokens_of bytes ≡ Ok tokens) × (misplaced_in tokens ≡ None)
    × (bad : List Lexeme) × Offends sections Text (lexemes bytes tokens) why bad × (at ≡ place_of (length bytes) bad)

-- the refusal of bytes that have no text: first by their bytes, then by their parentheses, then by the grammar
abbrev pub HasRefusal : {A : Type 0} → List (List ℕ) → (List Lexeme → A → List Lexeme → Type 0) → List ℕ → ParseRefusal → Type 0
HasRefusal sections Text bytes (Byte at) = tokens_of bytes ≡ Err at
HasRefusal sections Text bytes (Unopened at) = HasMisplaced bytes (parentheses.Unopened at)
HasRefusal sections Text bytes (TooDeep at) = HasMisplaced bytes (parentheses.TooDeep at)
HasRefusal sections Text bytes (Unclosed at) = HasMisplaced bytes (parentheses.Unclosed at)
HasRefusal sections Text bytes (Shape at) = HasOffence sections Text bytes kinds.Shape at
HasRefusal sections Text bytes (Unsupported at) = HasOffence sections Text bytes kinds.Unsupported at
HasRefusal sections Text bytes OutOfMemory = ⊥

-- the one answer to bytes: their text, or their refusal
abbrev pub HasReply : {A : Type 0} → List (List ℕ) → (List Lexeme → A → List Lexeme → Type 0) → List ℕ → Result A ParseRefusal → Type 0
HasReply sections Text bytes (Ok text) = HasText Text bytes text
HasReply sections Text bytes (Err refusal) = HasRefusal sections Text bytes refusal

-- the one answer to the bytes of a domain
abbrev pub HasDomainReply : List ℕ → Result DomainText ParseRefusal → Type 0
HasDomainReply = HasReply domain_keywords IsDomain

-- the one answer to the bytes of a problem
abbrev pub HasProblemReply : List ℕ → Result ProblemText ParseRefusal → Type 0
HasProblemReply = HasReply problem_keywords IsProblem

-- an answer that has to be given, or want of memory, which says nothing
abbrev pub OrMemory : {A : Type 0} → (Result A ParseRefusal → Type 0) → Result A ParseRefusal → Type 0
OrMemory Is (Ok text) = Is (Ok text)
OrMemory Is (Err OutOfMemory) = Unit {0}
OrMemory Is (Err refusal) = Is (Err refusal)

-- what `domain` has to answer
abbrev pub IsDomainReply : List ℕ → Result DomainText ParseRefusal → Type 0
IsDomainReply bytes = OrMemory (HasDomainReply bytes)

-- what `problem` has to answer
abbrev pub IsProblemReply : List ℕ → Result ProblemText ParseRefusal → Type 0
IsProblemReply bytes = OrMemory (HasProblemReply bytes)

-- a domain that is read of some bytes
abbrev pub IsDomainText : DomainText → Type 0
IsDomainText text = (bytes : List ℕ) × (length bytes ≤ MAX_FILE_BYTES) × HasDomain bytes text

-- a problem that is read of some bytes
abbrev pub IsProblemText : ProblemText → Type 0
IsProblemText text = (bytes : List ℕ) × (length bytes ≤ MAX_FILE_BYTES) × HasProblem bytes text
