-- What a search comes to.
use Rattle.std.proofs.Common.{◌≡◌, ℕ, List, length, Ok, sym, ◌∙◌, ap, subst, arith}
use Rattle.std.proofs.lemmas.List.{length-map}
use Rattle.program_model.specs.declared.machine.TheConstants.{MAX_INSTANCES, MAX_POINTERS}
use Rattle.program_text.specs.Names.{AreNames}
use Rattle.pointer_machine.specs.Machine.{MachineParts, meaning_of}
use Rattle.pointer_machine.specs.Operations.{operations_of}
use Rattle.pointer_machine.specs.Texts.{form_text, operation_texts}
use Rattle.refutation_tree.specs.declared.evidence.Answer.{Answer}
use Rattle.refutation_tree.specs.declared.evidence.Outcome.{Outcome}
use Rattle.refutation_tree.specs.declared.evidence.Outcome.TheVariants as outcomes
use Rattle.answer_writer.specs.Document.{document}
use Rattle.refutation_tree.specs.Grammar.{IsFromOneTo, IsGrammatical}
use Rattle.search_bounds.specs.declared.bounds.Bounds.{Bounds}
use Rattle.synthesis.specs.BestFirst.{best_first, IsBestFirstAnswer}
use Rattle.search_bounds.specs.Limits.{AreWithinLimits}
use Rattle.synthesis.proofs.Grammatical.{searched_grammatical}
use Rattle.family_gen.specs.declared.kinds.Family.{Family}
use Rattle.family_gen.specs.declared.kinds.Family.TheVariants.{Lights, Corridor}
use Rattle.family_gen.specs.Families.{bounds_of}
use Rattle.summary_writer.specs.Summary.{summary}
use Rattle.command_words.specs.declared.job.GenJob.{GenJob}
use Rattle.bfgp_jobs.specs.Reply.{Reply}
use Rattle.bfgp_jobs.specs.Due.{answer_due, summary_due, status_of}
use Rattle.bfgp_jobs.specs.Answers.{IsAnswerStatus}

-- the reply with the document of a search's answer
pub answer_is_due : (machine : MachineParts) (bounds : Bounds) (answer : Answer) (names : List (List ℕ)) (reply : Reply) → IsBestFirstAnswer (meaning_of machine) bounds answer → names ≡ operation_texts machine.task machine.pointers
    → reply ≡ record { status = status_of answer.outcome; text = document names answer } → answer_due machine bounds (Ok reply)
answer_is_due machine bounds answer names reply found names_are is =
    (answer, found, is ∙ λ i. record { status = status_of answer.outcome; text = document (names_are i) answer })

-- the reply with the summary of one over a family
pub summary_is_due : (job : GenJob) (machine : MachineParts) (bounds : Bounds) (answer : Answer) (names : List (List ℕ)) (reply : Reply) → bounds ≡ bounds_of job.family → IsBestFirstAnswer (meaning_of machine) bounds answer → names ≡ operation_texts machine.task machine.pointers
    → reply ≡ record { status = status_of answer.outcome; text = summary names job.family job.number answer } → summary_due job machine (Ok reply)
summary_is_due job machine bounds answer names reply bounds_are found names_are is =
    (answer, subst (λ (b : Bounds). IsBestFirstAnswer (meaning_of machine) b answer) bounds_are found, is ∙ λ i. record { status = status_of answer.outcome; text = summary (names_are i) job.family job.number answer })

outcome_verdict : (outcome : Outcome) → IsAnswerStatus (status_of outcome)
outcome_verdict (outcomes.Program size) = tt
outcome_verdict outcomes.Nothing = tt
outcome_verdict (outcomes.SpentExpansions size) = tt
outcome_verdict (outcomes.SpentRun size t) = tt

pub answer_verdict : (outcome : Outcome) (text : List ℕ) (reply : Reply) → reply ≡ record { status = status_of outcome; text = text } → IsAnswerStatus reply.status
answer_verdict outcome text reply is = subst IsAnswerStatus (sym (ap (λ (r : Reply). r.status) is)) (outcome_verdict outcome)

-- the bounds of a family are within their limits
pub family_bounds_within : (family : Family) → AreWithinLimits (bounds_of family)
family_bounds_within Lights = record { some_lines = omega arith; few_lines = omega arith; few_splits = omega arith; few_steps = omega arith }
family_bounds_within Corridor = record { some_lines = omega arith; few_lines = omega arith; few_splits = omega arith; few_steps = omega arith }

pub bounds_within : (family : Family) (bounds : Bounds) → bounds ≡ bounds_of family → AreWithinLimits bounds
bounds_within family bounds is = subst AreWithinLimits (sym is) (family_bounds_within family)

-- the answer is of the grammar, over the names of the operations
pub answer_is_grammatical : (machine : MachineParts) (bounds : Bounds) (answer : Answer) (names : List (List ℕ)) → AreNames (operation_texts machine.task machine.pointers) → IsFromOneTo MAX_POINTERS machine.pointers → IsFromOneTo MAX_INSTANCES (length machine.tables) → AreWithinLimits bounds
    → IsBestFirstAnswer (meaning_of machine) bounds answer → names ≡ operation_texts machine.task machine.pointers → IsGrammatical (length names) answer
answer_is_grammatical machine bounds answer names named pointers instances within found names_are =
    let ops : length names ≡ length (operations_of machine.task machine.pointers) = ap length names_are ∙ length-map (operations_of machine.task machine.pointers) (form_text machine.task) in
    let there = named.some in
    subst (λ (n : ℕ). IsGrammatical n answer) (sym ops)
    (searched_grammatical (best_first (meaning_of machine) bounds) bounds.budget (omega (arith, within.few_splits)) (omega (arith, within.few_steps)) bounds.lines answer
    (omega (arith, there, ap length names_are, ops)) pointers instances (within.some_lines, within.few_lines) found)
