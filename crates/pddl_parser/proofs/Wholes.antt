-- Bytes have exactly one answer, as a domain and as a problem.
use Rattle.std.proofs.Common.{◌≡◌, ℕ, List, Result}
use Rattle.pddl_parser.specs.declared.refusal.ParseRefusal.{ParseRefusal}
use Rattle.pddl_parser.specs.declared.texts.DomainText.{DomainText}
use Rattle.pddl_parser.specs.declared.texts.ProblemText.{ProblemText}
use Rattle.pddl_parser.specs.Grammar.{IsDomain, IsProblem}
use Rattle.pddl_forms.specs.Offending.{domain_keywords, problem_keywords}
use Rattle.pddl_parser.specs.Inner.SectionReading.{domain, problem}
use Rattle.pddl_parser.specs.Inner.Answering.{reply_by}
use Rattle.pddl_parser.specs.Replies.{HasDomainReply, HasProblemReply}
use Rattle.pddl_parser.proofs.DomainRules.{parses_domain, domain-offends}
use Rattle.pddl_parser.proofs.ProblemRules.{parses_problem, problem-offends}
use Rattle.pddl_parser.proofs.HasReply.{has-reply}
use Rattle.pddl_parser.proofs.OneReply.{one_text_read, one-reply}

pub one-domain-reply : (bytes : List ℕ) (one other : Result DomainText ParseRefusal) → HasDomainReply bytes one → HasDomainReply bytes other → one ≡ other
one-domain-reply = one-reply domain_keywords IsDomain (one_text_read IsDomain domain parses_domain)

pub one-problem-reply : (bytes : List ℕ) (one other : Result ProblemText ParseRefusal) → HasProblemReply bytes one → HasProblemReply bytes other → one ≡ other
one-problem-reply = one-reply problem_keywords IsProblem (one_text_read IsProblem problem parses_problem)

pub some-domain-reply : (bytes : List ℕ) → (reply : Result DomainText ParseRefusal) × HasDomainReply bytes reply
some-domain-reply bytes = (reply_by domain bytes, has-reply domain_keywords IsDomain domain parses_domain domain-offends bytes)

pub some-problem-reply : (bytes : List ℕ) → (reply : Result ProblemText ParseRefusal) × HasProblemReply bytes reply
some-problem-reply bytes = (reply_by problem bytes, has-reply problem_keywords IsProblem problem parses_problem problem-offends bytes)
