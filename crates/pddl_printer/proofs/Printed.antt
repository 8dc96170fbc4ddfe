-- The bytes of a text that is printed are those of a text that says the same.
use Rattle.std.proofs.Common.{◌≡◌, ℕ, ◌+◌, List, [], ◌∷◌, ◌++◌, length, None, codes, arith}
use Rattle.pddl_lexer.specs.Parentheses.{misplaced, misplaced_in}
use Rattle.pddl_parser.specs.declared.texts.DomainText.{DomainText}
use Rattle.pddl_parser.specs.declared.texts.ProblemText.{ProblemText}
use Rattle.pddl_forms.specs.Lexemes.{Lexeme, lexemes}
use Rattle.pddl_parser.specs.Grammar.{IsDomain, IsProblem}
use Rattle.pddl_parser.specs.Spelled.{IsDomainSpelled, IsProblemSpelled}
use Rattle.pddl_parser.specs.Replies.{HasText, HasDomain, HasProblem}
use Rattle.pddl_printer.specs.Printing.{in_parentheses, section, line_of_words, domain_words, domain_section_words, problem_words, problem_section_words, printed_domain, printed_problem}
use Rattle.pddl_printer.specs.Alike.{AlikeDomain, AlikeProblem}
use Rattle.pddl_printer.proofs.Lines.{AreTokens, Shown, line_tokens, line-tokens, line-shown}
use Rattle.pddl_printer.proofs.Nesting.{IsNested, nested-parentheses}
use Rattle.pddl_printer.proofs.NestedTexts.{nested-domain, nested-problem}
use Rattle.pddl_printer.proofs.DomainShows.{read-domain}
use Rattle.pddl_printer.proofs.ProblemShows.{read-problem}

-- a line of words between parentheses, which are nested within them and in order
module _ (body : List (List ℕ)) (nested : IsNested 4 body) where
  abbrev bytes : List ℕ
  bytes = line_of_words (in_parentheses body)

  are-tokens : AreTokens (in_parentheses body)
  are-tokens = (nested-parentheses 4 body nested).tokens

  in-order : misplaced_in (line_tokens (codes "(") (body ++ codes ")" ∷ [])) ≡ None
  unfolding misplaced
  in-order = (nested.level (codes ")" ∷ []) (0 + length (codes "(")) (0 ∷ []) (omega arith)).1

  shows : Shown (in_parentheses body) (lexemes bytes (line_tokens (codes "(") (body ++ codes ")" ∷ [])))
  shows = line-shown (codes "(") (body ++ codes ")" ∷ []) are-tokens

  has-text : {A : Type 0} (Text : List Lexeme → A → List Lexeme → Type 0) (text : A) → Text (lexemes bytes (line_tokens (codes "(") (body ++ codes ")" ∷ []))) text [] → HasText Text bytes text
  has-text Text text is = (line_tokens (codes "(") (body ++ codes ")" ∷ []), line-tokens (codes "(") (body ++ codes ")" ∷ []) are-tokens, in-order, is)

pub printed_domain-reads : (domain : DomainText) → IsDomainSpelled domain → (read : DomainText) × AlikeDomain domain read × HasDomain (printed_domain domain) read
unfolding domain_words
printed_domain-reads domain is =
    let body = (codes "define" ∷ section (codes "domain") (domain.name.text ∷ [])) ++ domain_section_words domain in
    let nested = nested-domain domain is in
    let r = read-domain domain is (lexemes (bytes body nested) (line_tokens (codes "(") (body ++ codes ")" ∷ []))) (shows body nested) in
    (r.item, r.alike, has-text body nested IsDomain r.item r.rule)

pub printed_problem-reads : (problem : ProblemText) → IsProblemSpelled problem → (read : ProblemText) × AlikeProblem problem read × HasProblem (printed_problem problem) read
unfolding problem_words
printed_problem-reads problem is =
    let body = (codes "define" ∷ section (codes "problem") (problem.name.text ∷ [])) ++ problem_section_words problem in
    let nested = nested-problem problem is in
    let r = read-problem problem is (lexemes (bytes body nested) (line_tokens (codes "(") (body ++ codes ")" ∷ []))) (shows body nested) in
    (r.item, r.alike, has-text body nested IsProblem r.item r.rule)
