-- Where a text that is printed is read, the answer says the same, or memory was wanting.
use Rattle.std.proofs.Common.{◌≡◌, Result, Ok, Err, MatchResult, refl, subst}
use Rattle.pddl_parser.specs.declared.refusal.ParseRefusal.{ParseRefusal}
use Rattle.pddl_parser.specs.declared.refusal.ParseRefusal.TheVariants.{Byte, Unclosed, Unopened, TooDeep, Shape, Unsupported, OutOfMemory}
use Rattle.pddl_parser.specs.declared.texts.DomainText.{DomainText}
use Rattle.pddl_parser.specs.declared.texts.ProblemText.{ProblemText}
use Rattle.pddl_parser.specs.Spelled.{IsDomainSpelled, IsProblemSpelled}
use Rattle.pddl_parser.specs.Replies.{HasDomainReply, HasProblemReply, OrMemory, IsDomainReply, IsProblemReply}
use Rattle.pddl_parser.proofs.Wholes.{one-domain-reply, one-problem-reply}
use Rattle.pddl_printer.specs.Printing.{printed_domain, printed_problem}
use Rattle.pddl_printer.specs.Alike.{AlikeDomain, AlikeProblem}
use Rattle.pddl_printer.proofs.Printed.{printed_domain-reads, printed_problem-reads}

-- where there is one answer at most, and a text is one, what is answered is this text, or want of memory
only-text : {A : Type 0} (Has : Result A ParseRefusal → Type 0) → ((one other : Result A ParseRefusal) → Has one → Has other → one ≡ other) → (P : A → Type 0) (text : A) → Has (Ok text) → P text
    → (reply : Result A ParseRefusal) → OrMemory Has reply → MatchResult reply P (λ refusal. refusal ≡ OutOfMemory)
only-text Has one P text has says (Ok read) is = let same = one (Ok text) (Ok read) has is in subst P (cc) says
only-text Has one P text has says (Err OutOfMemory) is = refl
only-text Has one P text has says (Err (Byte at)) is = let same = one (Ok text) (Err (Byte at)) has is in absurd (cc)
only-text Has one P text has says (Err (Unclosed at)) is = let same = one (Ok text) (Err (Unclosed at)) has is in absurd (cc)
only-text Has one P text has says (Err (Unopened at)) is = let same = one (Ok text) (Err (Unopened at)) has is in absurd (cc)
only-text Has one P text has says (Err (TooDeep at)) is = let same = one (Ok text) (Err (TooDeep at)) has is in absurd (cc)
only-text Has one P text has says (Err (Shape at)) is = let same = one (Ok text) (Err (Shape at)) has is in absurd (cc)
only-text Has one P text has says (Err (Unsupported at)) is = let same = one (Ok text) (Err (Unsupported at)) has is in absurd (cc)

pub domain-read_back : (domain : DomainText) → IsDomainSpelled domain → (reply : Result DomainText ParseRefusal) → IsDomainReply (printed_domain domain) reply → MatchResult reply (AlikeDomain domain) (λ refusal. refusal ≡ OutOfMemory)
domain-read_back domain is reply =
    let bytes = printed_domain domain in
    let r = printed_domain-reads domain is in
    only-text (HasDomainReply bytes) (one-domain-reply bytes) (AlikeDomain domain) r.0 r.2 r.1 reply

pub problem-read_back : (problem : ProblemText) → IsProblemSpelled problem → (reply : Result ProblemText ParseRefusal) → IsProblemReply (printed_problem problem) reply → MatchResult reply (AlikeProblem problem) (λ refusal. refusal ≡ OutOfMemory)
problem-read_back problem is reply =
    let bytes = printed_problem problem in
    let r = printed_problem-reads problem is in
    only-text (HasProblemReply bytes) (one-problem-reply bytes) (AlikeProblem problem) r.0 r.2 r.1 reply
