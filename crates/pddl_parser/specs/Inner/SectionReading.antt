-- The contract of the code for the sections of a domain and of a problem, and for the parts of an action: reading them
-- lexeme by lexeme.
use Rattle.std.specs.Prelude.{ℕ, Bool, true, false, not, ◌&&◌, unwrap_or, List, [], ◌∷◌, ◌++◌, Option, Some, None, codes, if◌then◌else◌}
use Rattle.pddl_lexer.specs.declared.lexer.Kind.TheVariants.{LeftParen, RightParen, Name, Variable}
use Rattle.pddl_forms.specs.declared.stop.Why.TheVariants.{Shape}
use Rattle.pddl_forms.specs.declared.texts.Word.{Word}
use Rattle.pddl_parser.specs.declared.texts.PredText.{PredText}
use Rattle.pddl_parser.specs.declared.texts.ActionText.{ActionText}
use Rattle.pddl_parser.specs.declared.texts.DomainText.{DomainText}
use Rattle.pddl_parser.specs.declared.texts.ProblemText.{ProblemText}
use Rattle.pddl_forms.specs.declared.formulas.Terms.TheVariants.{Names, NamesAndVariables}
use Rattle.pddl_forms.specs.Lexemes.{Lexeme}
use Rattle.pddl_forms.specs.Inner.Reading.{Read, got, stuck, and_then, mark, any_word, head, many, in_list, atom, atom_body, change_body, closed_item, conjunction, literal}
use Rattle.pddl_forms.specs.Offending.{domain_keywords, problem_keywords, part_keywords}
use Rattle.pddl_forms.specs.Forms.{word}
use Rattle.pddl_parser.specs.Grammar.{ActionParts, no_parts, action_of, or_empty, DomainSections, no_domain_sections, domain_of, ProblemSections, no_problem_sections}
use Rattle.pddl_forms.specs.Inner.TypedReading.{typed_list}
use Rattle.pddl_parser.specs.Inner.Choosing.{requirement, Choice, any_may, choice_of, turns}

-- there is none yet
abbrev pub is_none : {A : Type 0} → Option A → Bool
is_none None = true
is_none (Some a) = false

-- ( define ( KIND NAME )
unfoldable pub opening : List ℕ → List Lexeme → Read Word
opening kind ts =
    and_then (mark LeftParen ts) (λ _ ts. and_then (literal Name (codes "define") ts) (λ _ ts. and_then (mark LeftParen ts) (λ _ ts.
    and_then (literal Name kind ts) (λ _ ts. and_then (any_word Name ts) (λ own ts. and_then (mark RightParen ts) (λ _ rest.
    got own rest))))))

-- HEAD vars )
unfoldable pub predicate : List Lexeme → Read PredText
predicate ts =
    and_then (mark LeftParen ts) (λ _ ts. and_then (head ts) (λ head ts. and_then (typed_list Variable ts) (λ params rest.
    got (record { head = head; params = params }) rest)))

-- a body, put among what stands already
abbrev pub put : {A S : Type 0} → (List Lexeme → Read A) → (S → A → S) → S → List Lexeme → Read S
put body add seen ts = and_then (body ts) (λ value rest. got (add seen value) rest)

-- the parts of an action
abbrev pub parameters_choice : Choice ActionParts
parameters_choice = record { key = codes ":parameters"; may = λ seen. is_none seen.params; body = put (in_list (typed_list Variable)) (λ seen params. record seen { params = Some params }) }

abbrev pub precondition_choice : Choice ActionParts
precondition_choice = record { key = codes ":precondition"; may = λ seen. is_none seen.pre; body = put (conjunction (atom_body NamesAndVariables)) (λ seen pre. record seen { pre = Some pre }) }

abbrev pub effect_choice : Choice ActionParts
effect_choice = record { key = codes ":effect"; may = λ seen. is_none seen.changes; body = put (conjunction change_body) (λ seen changes. record seen { changes = Some changes }) }

abbrev pub part_choices : List (Choice ActionParts)
part_choices = parameters_choice ∷ precondition_choice ∷ effect_choice ∷ []

-- part* ), after those that stand already
abbrev pub parts : ActionParts → List Lexeme → Read ActionParts
parts = turns (λ _. true) (choice_of part_keywords part_choices)

-- NAME part* )
unfoldable pub action : List Lexeme → Read ActionText
action ts = and_then (any_word Name ts) (λ own ts. and_then (parts no_parts ts) (λ all rest. got (action_of own all) rest))

-- the sections of a domain
abbrev pub domain_choices : List (Choice DomainSections)
domain_choices =
    record { key = codes ":requirements"; may = λ seen. is_none seen.requirements; body = put (many requirement) (λ seen words. record seen { requirements = Some words }) }
    ∷ record { key = codes ":types"; may = λ seen. is_none seen.types; body = put (typed_list Name) (λ seen names. record seen { types = Some names }) }
    ∷ record { key = codes ":constants"; may = λ seen. is_none seen.constants; body = put (typed_list Name) (λ seen names. record seen { constants = Some names }) }
    ∷ record { key = codes ":predicates"; may = λ seen. is_none seen.predicates; body = put (many predicate) (λ seen preds. record seen { predicates = Some preds }) }
    ∷ record { key = codes ":action"; may = λ seen. true; body = put action (λ seen a. record seen { actions = seen.actions ++ a ∷ [] }) }
    ∷ []

-- ( and one of some choices, where one may come
unfoldable pub section_of : {S : Type 0} → List (List ℕ) → List (Choice S) → S → List Lexeme → Read S
section_of keys choices seen ts = if any_may choices seen then in_list (choice_of keys choices seen) ts else stuck Shape ts

-- dsection* ), after those that stand already
abbrev pub domain_sections : DomainSections → List Lexeme → Read DomainSections
domain_sections = turns (λ _. true) (section_of domain_keywords domain_choices)

-- ( define ( domain NAME ) dsection* )
unfoldable pub domain : List Lexeme → Read DomainText
domain ts = and_then (opening (codes "domain") ts) (λ own ts. and_then (domain_sections no_domain_sections ts) (λ all rest. got (domain_of own all) rest))

-- the sections of a problem
abbrev pub problem_choices : List (Choice ProblemSections)
problem_choices =
    record { key = codes ":domain"; may = λ seen. is_none seen.domain; body = put (closed_item (any_word Name)) (λ seen of. record seen { domain = Some of }) }
    ∷ record { key = codes ":requirements"; may = λ seen. is_none seen.requirements; body = put (many requirement) (λ seen words. record seen { requirements = Some words }) }
    ∷ record { key = codes ":objects"; may = λ seen. is_none seen.objects; body = put (typed_list Name) (λ seen names. record seen { objects = Some names }) }
    ∷ record { key = codes ":init"; may = λ seen. is_none seen.init; body = put (many (atom Names)) (λ seen atoms. record seen { init = Some atoms }) }
    ∷ record { key = codes ":goal"; may = λ seen. is_none seen.goal; body = put (closed_item (conjunction (atom_body Names))) (λ seen atoms. record seen { goal = Some atoms }) }
    ∷ []

-- `:domain` and `:goal` stand
abbrev pub stand_needed : ProblemSections → Bool
stand_needed seen = not (is_none seen.domain) && not (is_none seen.goal)

-- psection* ), after those that stand already
abbrev pub problem_sections : ProblemSections → List Lexeme → Read ProblemSections
problem_sections = turns stand_needed (section_of problem_keywords problem_choices)

-- a problem of these sections, where `:domain` is one of them
abbrev pub problem_of : Word → ProblemSections → ProblemText
problem_of own s = record {
  name = own;
  domain = unwrap_or s.domain (word [] 0);
  requirements = or_empty s.requirements;
  objects = or_empty s.objects;
  init = or_empty s.init;
  goal = or_empty s.goal;
}

-- ( define ( problem NAME ) psection* )
unfoldable pub problem : List Lexeme → Read ProblemText
problem ts = and_then (opening (codes "problem") ts) (λ own ts. and_then (problem_sections no_problem_sections ts) (λ all rest. got (problem_of own all) rest))
