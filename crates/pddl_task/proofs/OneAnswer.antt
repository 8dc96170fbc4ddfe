-- There is at most one answer to each text.
use Rattle.std.proofs.Common.{◌≡◌, ℕ, ◌==◌, ◌&&◌, ◌||◌, nat_lt, Bool, false, cond, Option, Some, None, refl, sym, ap, ◌∙◌, inl, inr, arith}
use Rattle.std.specs.Prelude.{Result, Ok, Err}
use Rattle.std.proofs.lemmas.Bool.Decides.{nat_tests}
use Rattle.std.proofs.lemmas.Option.{same_Some}
use Rattle.pddl_parser.specs.declared.texts.DomainText.{DomainText}
use Rattle.pddl_parser.specs.declared.texts.ProblemText.{ProblemText}
use Rattle.ground_state.specs.declared.parts.TaskParts.{TaskParts}
use Rattle.ground_state.specs.declared.parts.InstanceParts.{InstanceParts}
use Rattle.pddl_task.specs.declared.fault.Fault.{Fault}
use Rattle.pddl_task.specs.declared.fault.FaultKind.{FaultKind}
use Rattle.pddl_task.specs.declared.fault.FaultKind.TheVariants.{Twice, Unknown, Arity, TypeCycle, OtherDomain}
use Rattle.pddl_task.specs.declared.refusal.TaskRefusal.{TaskRefusal}
use Rattle.pddl_task.specs.Faults.{IsFirst, rank_of, refusal_of, IsDomainFault, IsProblemFault, domain_limit, problem_limit}
use Rattle.pddl_task.specs.Parts.{TaskOf, InstanceOf}
use Rattle.pddl_task.specs.Replies.{IsRefusal, HasReply, HasTaskReply, HasInstanceReply}

-- the kind of a place in the order
kind_of : ℕ → FaultKind
kind_of rank = cond (rank == 0) Twice (cond (rank == 1) Unknown (cond (rank == 2) Arity (cond (rank == 3) TypeCycle OtherDomain)))

of_rank : (kind : FaultKind) → kind_of (rank_of kind) ≡ kind
unfolding kind_of
of_rank Twice = refl
of_rank Unknown = refl
of_rank Arity = refl
of_rank TypeCycle = refl
of_rank OtherDomain = refl

same_kind : (one other : FaultKind) → rank_of one ≡ rank_of other → one ≡ other
same_kind one other same = sym (of_rank one) ∙ ap kind_of same ∙ of_rank other

abbrev fault_with : FaultKind → ℕ → Fault
fault_with kind at = record { kind = kind; at = at }

abbrev before : ℕ → ℕ → ℕ → ℕ → Bool
before a r b s = nat_lt a b || (a == b && nat_lt r s)

same_place : (a r b s : ℕ) → before a r b s ≡ false → before b s a r ≡ false → (a ≡ b) × (r ≡ s)
same_place a r b s one other = (grind (arith, nat_tests), grind (arith, nat_tests))

-- there is at most one first fault
one_first : (P : Fault → Type 0) (f g : Fault) → IsFirst P (Some f) → IsFirst P (Some g) → f ≡ g
one_first P f g one other =
    let same = same_place f.at (rank_of f.kind) g.at (rank_of g.kind) (other.1 f one.0) (one.1 g other.0) in
    ap (λ kind. fault_with kind f.at) (same_kind f.kind g.kind same.1) ∙ ap (fault_with g.kind) same.0

one_refusal : (P : Fault → Type 0) (limit : Option TaskRefusal) (r s : TaskRefusal) → IsRefusal P limit r → IsRefusal P limit s → r ≡ s
one_refusal P limit r s (inl (f, first, is)) (inl (g, other, so)) = is ∙ ap refusal_of (one_first P f g first other) ∙ sym so
one_refusal P limit r s (inl (f, first, is)) (inr (none, so)) = absurd (none f first.0)
one_refusal P limit r s (inr (none, is)) (inl (g, other, so)) = absurd (none g other.0)
one_refusal P limit r s (inr (none, is)) (inr (nothing, so)) = same_Some r s (sym is ∙ so)

no_refusal : (P : Fault → Type 0) (limit : Option TaskRefusal) (r : TaskRefusal) → IsFirst P None → limit ≡ None → IsRefusal P limit r → ⊥
no_refusal P limit r free within (inl (f, first, is)) = free f first.0
no_refusal P limit r free within (inr (none, is)) = absurd (cc)

-- there is one answer where there are parts, if at all, only of a text without a fault that exceeds no limit, and one of them at most
one_reply : {A : Type 0} (Of : A → Type 0) (P : Fault → Type 0) (limit : Option TaskRefusal) → ((a : A) → Of a → IsFirst P None × (limit ≡ None)) → ((a b : A) → Of a → Of b → a ≡ b)
    → (r s : Result A TaskRefusal) → HasReply Of P limit r → HasReply Of P limit s → r ≡ s
one_reply Of P limit sound one (Ok a) (Ok b) is so = ap Ok (one a b is so)
one_reply Of P limit sound one (Ok a) (Err s) is so = absurd (let s_no = sound a is in no_refusal P limit s s_no.0 s_no.1 so)
one_reply Of P limit sound one (Err r) (Ok b) is so = absurd (let s_no = sound b so in no_refusal P limit r s_no.0 s_no.1 is)
one_reply Of P limit sound one (Err r) (Err s) is so = ap Err (one_refusal P limit r s is so)

pub one-task : (domain : DomainText) (one other : Result TaskParts TaskRefusal) → HasTaskReply domain one → HasTaskReply domain other → one ≡ other
one-task domain = one_reply (TaskOf domain) (IsDomainFault domain) (domain_limit domain) (λ parts of. (of.faultless, of.within)) (λ parts others of is. of.made ∙ sym is.made)

pub one-instance : (domain : DomainText) (problem : ProblemText) (one other : Result InstanceParts TaskRefusal) → HasInstanceReply domain problem one → HasInstanceReply domain problem other → one ≡ other
one-instance domain problem = one_reply (InstanceOf domain problem) (IsProblemFault domain problem) (problem_limit domain problem) (λ parts of. (of.faultless, of.within)) (λ parts others of is. of.made ∙ sym is.made)
