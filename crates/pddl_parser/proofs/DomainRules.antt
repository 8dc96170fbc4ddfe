-- Whole domains are read as the grammar says.
use Rattle.std.proofs.Common.{◌≡◌, ℕ, true, false, inl, inr, List, [], ◌∷◌, ◌++◌, Some, codes, refl, ap, ◌∙◌, subst}
use Rattle.pddl_lexer.specs.declared.lexer.Kind.TheVariants.{RightParen}
use Rattle.pddl_forms.specs.declared.stop.Why.{Why}
use Rattle.pddl_parser.specs.declared.texts.PredText.{PredText}
use Rattle.pddl_parser.specs.declared.texts.DomainText.{DomainText}
use Rattle.pddl_forms.specs.Lexemes.{Lexeme, left, right, keyword}
use Rattle.pddl_forms.specs.Forms.{Many}
use Rattle.pddl_parser.specs.Grammar.{is_section}
use Rattle.pddl_forms.specs.Inner.Reading.{got, stuck, and_then, comes, many}
use Rattle.pddl_forms.specs.Offending.{domain_keywords, Offends}
use Rattle.pddl_parser.specs.Grammar
use Rattle.pddl_parser.specs.Grammar.{IsPredicate, is_predicate, DomainSections, no_domain_sections, IsDomainSections, IsDomain, is_domain}
use Rattle.pddl_parser.specs.Inner.Choosing.{choice_of, all_of}
use Rattle.pddl_parser.specs.Inner.SectionReading.{predicate, domain_choices, section_of, domain_sections, domain}
use Rattle.pddl_forms.proofs.Fronts.{and_then-cases, same_got, mark-left}
use Rattle.pddl_forms.proofs.ItemSteps.{Parses, IsItem, parses_many}
use Rattle.pddl_forms.proofs.Exact.{head-sound, head-complete, carried}
use Rattle.pddl_parser.proofs.Openings.{parses_opening}
use Rattle.pddl_parser.proofs.Offences.{whole-offends}
use Rattle.pddl_forms.proofs.TypedRules.{parses_variables, parses_names}
use Rattle.pddl_parser.proofs.Turns.{turn-is, turns-sound}
use Rattle.pddl_parser.proofs.SectionReaders.{predicate-shrinks, sections-step, domain-reader}
use Rattle.pddl_parser.proofs.SectionRules.{IsChoice, none_is, parses_action_of_parts}
use Rattle.pddl_parser.proofs.Sections.{parses_requirements, section_at, carried_on, section-sound, one_section}

-- `( HEAD vars )`
predicate-sound : (ts rest : List Lexeme) (p : PredText) → predicate ts ≡ got p rest → IsPredicate ts p rest
unfolding predicate
predicate-sound ts rest p e =
    let paren = and_then-cases _ _ _ _ e in
    let first = and_then-cases _ _ _ _ paren.3 in
    let others = and_then-cases _ _ _ _ first.3 in
    let same = same_got others.3 in
    let at = mark-left ts paren.1 paren.0 paren.2 in
    carried IsPredicate at.1 same.0 same.1 (is_predicate (head-sound _ _ _ first.2) (parses_variables.sound _ _ _ others.2))

predicate-complete : (ts rest : List Lexeme) (p : PredText) → IsPredicate ts p rest → predicate ts ≡ got p rest
unfolding predicate and_then
predicate-complete ts rest p (is_predicate {ts = after} {mid = mid} {head = h} {params = params} d ds) =
    rw (head-complete after mid h d, parses_variables.complete mid rest params ds) refl

pub predicate_is_item : IsItem IsPredicate
predicate_is_item = record { shorter = λ ts rest p d. predicate-shrinks ts rest p (predicate-complete ts rest p d); inside = inside }
  where
    inside : (ts rest : List Lexeme) (p : PredText) → IsPredicate ts p rest → comes RightParen ts ≡ false
    inside ts rest p (is_predicate d ds) = refl

parses_predicates : Parses (Many IsPredicate) (many predicate)
parses_predicates = parses_many IsPredicate predicate predicate_is_item (record { sound = predicate-sound; complete = predicate-complete })

-- the sections
section_turn : (seen next all : DomainSections) (ts mid rest : List Lexeme) → section_of domain_keywords domain_choices seen ts ≡ got next mid → IsDomainSections next mid all rest → IsDomainSections seen ts all rest
section_turn seen next all ts mid rest e ds = let at = section-sound domain_keywords domain_choices seen next ts mid e in go at.0 at.1 at.2 at.3
  where
    go : (a : ℕ) (us : List Lexeme) → ts ≡ left a ∷ us → IsChoice domain_choices seen us next mid → IsDomainSections seen ts all rest
    go a us i (inl (q, vs, j, may, e)) =
        let one = and_then-cases _ _ _ _ e in let same = same_got one.3 in
        Grammar.requirements (none_is seen.requirements may) (section_at ts us vs one.1 one.0 a q i j (parses_requirements.sound vs one.1 one.0 one.2)) (carried_on IsDomainSections same.0 same.1 ds)
    go a us i (inr (inl (q, vs, j, may, e))) =
        let one = and_then-cases _ _ _ _ e in let same = same_got one.3 in
        Grammar.types (none_is seen.types may) (section_at ts us vs one.1 one.0 a q i j (parses_names.sound vs one.1 one.0 one.2)) (carried_on IsDomainSections same.0 same.1 ds)
    go a us i (inr (inr (inl (q, vs, j, may, e)))) =
        let one = and_then-cases _ _ _ _ e in let same = same_got one.3 in
        Grammar.constants (none_is seen.constants may) (section_at ts us vs one.1 one.0 a q i j (parses_names.sound vs one.1 one.0 one.2)) (carried_on IsDomainSections same.0 same.1 ds)
    go a us i (inr (inr (inr (inl (q, vs, j, may, e))))) =
        let one = and_then-cases _ _ _ _ e in let same = same_got one.3 in
        Grammar.predicates (none_is seen.predicates may) (section_at ts us vs one.1 one.0 a q i j (parses_predicates.sound vs one.1 one.0 one.2)) (carried_on IsDomainSections same.0 same.1 ds)
    go a us i (inr (inr (inr (inr (inl (q, vs, j, may, e)))))) =
        let one = and_then-cases _ _ _ _ e in let same = same_got one.3 in
        Grammar.action (section_at ts us vs one.1 one.0 a q i j (parses_action_of_parts.sound vs one.1 one.0 one.2)) (carried_on IsDomainSections same.0 same.1 ds)
    go a us i (inr (inr (inr (inr (inr none))))) = absurd none

sections-sound : (seen all : DomainSections) (ts rest : List Lexeme) → domain_sections seen ts ≡ got all rest → IsDomainSections seen ts all rest
sections-sound = turns-sound domain_keywords (λ _. true) (section_of domain_keywords domain_choices) sections-step IsDomainSections (λ seen p rest e. Grammar.no_more_sections) section_turn

domain_turn : (seen next : DomainSections) (a : ℕ) (us mid : List Lexeme) → choice_of domain_keywords domain_choices seen us ≡ got next mid → domain_sections seen (left a ∷ us) ≡ domain_sections next mid
domain_turn seen next = one_section domain_keywords domain_choices seen next domain_keywords (λ _. true) sections-step

sections-complete : (seen all : DomainSections) (ts rest : List Lexeme) → IsDomainSections seen ts all rest → domain_sections seen ts ≡ got all rest
unfolding choice_of and_then
sections-complete seen all ts rest (Grammar.no_more_sections {p = p}) = turn-is domain_keywords (λ _. true) (section_of domain_keywords domain_choices) sections-step seen (right p ∷ rest)
sections-complete seen all ts rest (Grammar.requirements {mid = mid} {words = v} none (is_section {a = a} {b = b} {ts = us} d) ds) =
    domain_turn seen (record seen { requirements = Some v }) a (keyword (codes ":requirements") b ∷ us) mid (rw none (ap (λ r. and_then r (λ v rest. got (record seen { requirements = Some v }) rest)) (parses_requirements.complete us mid v d))) ∙ sections-complete (record seen { requirements = Some v }) all mid rest ds
sections-complete seen all ts rest (Grammar.types {mid = mid} {names = v} none (is_section {a = a} {b = b} {ts = us} d) ds) =
    domain_turn seen (record seen { types = Some v }) a (keyword (codes ":types") b ∷ us) mid (rw none (ap (λ r. and_then r (λ v rest. got (record seen { types = Some v }) rest)) (parses_names.complete us mid v d))) ∙ sections-complete (record seen { types = Some v }) all mid rest ds
sections-complete seen all ts rest (Grammar.constants {mid = mid} {names = v} none (is_section {a = a} {b = b} {ts = us} d) ds) =
    domain_turn seen (record seen { constants = Some v }) a (keyword (codes ":constants") b ∷ us) mid (rw none (ap (λ r. and_then r (λ v rest. got (record seen { constants = Some v }) rest)) (parses_names.complete us mid v d))) ∙ sections-complete (record seen { constants = Some v }) all mid rest ds
sections-complete seen all ts rest (Grammar.predicates {mid = mid} {preds = v} none (is_section {a = a} {b = b} {ts = us} d) ds) =
    domain_turn seen (record seen { predicates = Some v }) a (keyword (codes ":predicates") b ∷ us) mid (rw none (ap (λ r. and_then r (λ v rest. got (record seen { predicates = Some v }) rest)) (parses_predicates.complete us mid v d))) ∙ sections-complete (record seen { predicates = Some v }) all mid rest ds
sections-complete seen all ts rest (Grammar.action {mid = mid} {a = v} (is_section {a = a} {b = b} {ts = us} d) ds) =
    domain_turn seen (record seen { actions = seen.actions ++ v ∷ [] }) a (keyword (codes ":action") b ∷ us) mid (ap (λ r. and_then r (λ v rest. got (record seen { actions = seen.actions ++ v ∷ [] }) rest)) (parses_action_of_parts.complete us mid v d)) ∙ sections-complete (record seen { actions = seen.actions ++ v ∷ [] }) all mid rest ds

-- a whole domain
domain-sound : (ts rest : List Lexeme) (d : DomainText) → domain ts ≡ got d rest → IsDomain ts d rest
unfolding domain
domain-sound ts rest d e =
    let own = and_then-cases _ _ _ _ e in
    let all = and_then-cases _ _ _ _ own.3 in
    let same = same_got all.3 in
    subst (λ d. IsDomain ts d rest) same.0 (is_domain ((parses_opening (codes "domain")).sound _ _ _ own.2) (sections-sound no_domain_sections all.0 own.1 rest (all.2 ∙ ap (got all.0) same.1)))

domain-complete : (ts rest : List Lexeme) (d : DomainText) → IsDomain ts d rest → domain ts ≡ got d rest
unfolding domain and_then
domain-complete ts rest d (is_domain {mid = mid} {own = own} {all = all} o ds) = rw ((parses_opening (codes "domain")).complete ts mid own o, sections-complete no_domain_sections all mid rest ds) refl

pub parses_domain : Parses IsDomain domain
parses_domain = record { sound = domain-sound; complete = domain-complete }

-- where a domain is refused, its offending token stands, with the kind of the table
pub domain-offends : (ts bad : List Lexeme) (why : Why) → all_of domain ts ≡ stuck why bad → Offends domain_keywords IsDomain ts why bad
domain-offends = whole-offends domain_keywords IsDomain domain domain-reader parses_domain
