-- What is always true of texts of the grammar: their words are spelled as names, variables and keywords, and their lists
-- have no more items than a text may have bytes.
use Rattle.std.proofs.Common.{◌≡◌, ℕ, ◌≤◌, List, length, Ok, arith}
use Rattle.std.proofs.lemmas.List.{length-map}
use Rattle.pddl_lexer.specs.declared.lexer.Token.{Token}
use Rattle.flag_rules.specs.declared.file.TheConstants.{MAX_FILE_BYTES}
use Rattle.pddl_lexer.specs.Lexing.{tokens_of}
use Rattle.pddl_lexer.proofs.Pieces.{tokens_are_few}
use Rattle.pddl_parser.specs.declared.texts.DomainText.{DomainText}
use Rattle.pddl_parser.specs.declared.texts.ProblemText.{ProblemText}
use Rattle.pddl_forms.specs.Lexemes.{see, lexemes}
use Rattle.pddl_parser.specs.Spelled.{IsDomainSpelled, IsProblemSpelled, IsDomainWithin, IsProblemWithin}
use Rattle.pddl_parser.specs.Replies.{IsDomainText, IsProblemText}
use Rattle.pddl_parser.proofs.Spelling.{lexemes_are_spelled}
use Rattle.pddl_parser.proofs.SpelledRules.{IsDomain-spelled, IsProblem-spelled}
use Rattle.pddl_parser.proofs.Counts.{IsDomain-within, IsProblem-within}

-- lexemes are no more than the bytes
length-lexemes : (bytes : List ℕ) (ts : List Token) → tokens_of bytes ≡ Ok ts → length bytes ≤ MAX_FILE_BYTES → length (lexemes bytes ts) ≤ MAX_FILE_BYTES
length-lexemes bytes ts are fits = omega (arith, length-map ts (see bytes), tokens_are_few bytes ts are, fits)

pub domain-spelled : (d : DomainText) → IsDomainText d → IsDomainSpelled d
domain-spelled d (bytes, fits, has) = IsDomain-spelled _ _ d has.3 (lexemes_are_spelled bytes has.0 has.1)

pub domain-within : (d : DomainText) → IsDomainText d → IsDomainWithin MAX_FILE_BYTES d
domain-within d (bytes, fits, has) = IsDomain-within MAX_FILE_BYTES _ _ d has.3 (length-lexemes bytes has.0 has.1 fits)

pub problem-spelled : (p : ProblemText) → IsProblemText p → IsProblemSpelled p
problem-spelled p (bytes, fits, has) = IsProblem-spelled _ _ p has.3 (lexemes_are_spelled bytes has.0 has.1)

pub problem-within : (p : ProblemText) → IsProblemText p → IsProblemWithin MAX_FILE_BYTES p
problem-within p (bytes, fits, has) = IsProblem-within MAX_FILE_BYTES _ _ p has.3 (length-lexemes bytes has.0 has.1 fits)
