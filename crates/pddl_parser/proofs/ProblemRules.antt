-- Whole problems are read as the grammar says.
use Rattle.std.proofs.Common.{◌≡◌, ℕ, true, not, ◌&&◌, inl, inr, List, [], ◌∷◌, Option, Some, None, unwrap_or, codes, refl, sym, ap, ◌∙◌, subst}
use Rattle.pddl_lexer.specs.declared.lexer.Kind.TheVariants.{Name}
use Rattle.pddl_forms.specs.declared.stop.Why.{Why}
use Rattle.pddl_forms.specs.declared.texts.Word.{Word}
use Rattle.pddl_forms.specs.declared.texts.AtomText.{AtomText}
use Rattle.pddl_parser.specs.declared.texts.ProblemText.{ProblemText}
use Rattle.pddl_forms.specs.declared.formulas.Terms.TheVariants.{Names}
use Rattle.pddl_forms.specs.Lexemes.{Lexeme, left, right, keyword}
use Rattle.pddl_parser.specs.Grammar
use Rattle.pddl_forms.specs.Forms.{word, Many, Closed, Conjunction, IsNameWord, IsGroundAtom}
use Rattle.pddl_parser.specs.Grammar.{is_section, ProblemSections, no_problem_sections, IsProblemSections, IsProblem, is_problem}
use Rattle.pddl_forms.specs.Inner.Reading.{got, stuck, and_then, any_word, many, atom, atom_body, closed_item, conjunction}
use Rattle.pddl_forms.specs.Offending.{problem_keywords, Offends}
use Rattle.pddl_parser.specs.Inner.Choosing.{choice_of, all_of}
use Rattle.pddl_parser.specs.Inner.SectionReading.{is_none, problem_choices, section_of, stand_needed, problem_sections, problem_of, problem}
use Rattle.pddl_forms.proofs.Fronts.{and_then-cases, same_got}
use Rattle.pddl_forms.proofs.ItemSteps.{Parses, parses_many}
use Rattle.pddl_forms.proofs.Exact.{parses_name_word, atom_is_item, parses_atom, parses_closed}
use Rattle.pddl_parser.proofs.Openings.{parses_opening}
use Rattle.pddl_forms.proofs.ConjunctionRules.{parses_formula}
use Rattle.pddl_parser.proofs.Offences.{whole-offends}
use Rattle.pddl_forms.proofs.TypedRules.{parses_names}
use Rattle.pddl_parser.proofs.Turns.{turn-is, turns-sound}
use Rattle.pddl_parser.proofs.SectionRules.{IsChoice, none_is}
use Rattle.pddl_parser.proofs.Sections.{parses_requirements, section_at, carried_on, section-sound, one_section}
use Rattle.pddl_parser.proofs.ProblemReaders.{problem-step, problem-reader}

-- what the sections carry
of_domain_parses : Parses (Closed IsNameWord) (closed_item (any_word Name))
of_domain_parses = parses_closed IsNameWord (any_word Name) parses_name_word

init_parses : Parses (Many IsGroundAtom) (many (atom Names))
init_parses = parses_many IsGroundAtom (atom Names) (atom_is_item Names) (parses_atom Names)

goal_parses : Parses (Closed (Conjunction IsGroundAtom)) (closed_item (conjunction (atom_body Names)))
goal_parses = parses_closed (Conjunction IsGroundAtom) (conjunction (atom_body Names)) (parses_formula Names)

-- the sections
section_turn : (seen next all : ProblemSections) (ts mid rest : List Lexeme) → section_of problem_keywords problem_choices seen ts ≡ got next mid → IsProblemSections next mid all rest → IsProblemSections seen ts all rest
section_turn seen next all ts mid rest e ds = let at = section-sound problem_keywords problem_choices seen next ts mid e in go at.0 at.1 at.2 at.3
  where
    go : (a : ℕ) (us : List Lexeme) → ts ≡ left a ∷ us → IsChoice problem_choices seen us next mid → IsProblemSections seen ts all rest
    go a us i (inl (q, vs, j, may, e)) =
        let one = and_then-cases _ _ _ _ e in let same = same_got one.3 in
        Grammar.of_domain (none_is seen.domain may) (section_at ts us vs one.1 one.0 a q i j (of_domain_parses.sound vs one.1 one.0 one.2)) (carried_on IsProblemSections same.0 same.1 ds)
    go a us i (inr (inl (q, vs, j, may, e))) =
        let one = and_then-cases _ _ _ _ e in let same = same_got one.3 in
        Grammar.needs (none_is seen.requirements may) (section_at ts us vs one.1 one.0 a q i j (parses_requirements.sound vs one.1 one.0 one.2)) (carried_on IsProblemSections same.0 same.1 ds)
    go a us i (inr (inr (inl (q, vs, j, may, e)))) =
        let one = and_then-cases _ _ _ _ e in let same = same_got one.3 in
        Grammar.objects (none_is seen.objects may) (section_at ts us vs one.1 one.0 a q i j (parses_names.sound vs one.1 one.0 one.2)) (carried_on IsProblemSections same.0 same.1 ds)
    go a us i (inr (inr (inr (inl (q, vs, j, may, e))))) =
        let one = and_then-cases _ _ _ _ e in let same = same_got one.3 in
        Grammar.init (none_is seen.init may) (section_at ts us vs one.1 one.0 a q i j (init_parses.sound vs one.1 one.0 one.2)) (carried_on IsProblemSections same.0 same.1 ds)
    go a us i (inr (inr (inr (inr (inl (q, vs, j, may, e)))))) =
        let one = and_then-cases _ _ _ _ e in let same = same_got one.3 in
        Grammar.goal (none_is seen.goal may) (section_at ts us vs one.1 one.0 a q i j (goal_parses.sound vs one.1 one.0 one.2)) (carried_on IsProblemSections same.0 same.1 ds)
    go a us i (inr (inr (inr (inr (inr none))))) = absurd none

-- `:domain` and `:goal`, where both stand
both_stand : (o : Option Word) (p : Option (List AtomText)) → (not (is_none o) && not (is_none p)) ≡ true → (of : Word) × (goal : List AtomText) × (o ≡ Some of) × (p ≡ Some goal)
both_stand (Some of) (Some goal) e = (of, goal, refl, refl)
both_stand (Some of) None e = absurd cc
both_stand None p e = absurd cc

sections_end : (seen : ProblemSections) (p : ℕ) (rest : List Lexeme) → stand_needed seen ≡ true → IsProblemSections seen (right p ∷ rest) seen rest
sections_end seen p rest e = let both = both_stand seen.domain seen.goal e in Grammar.all_stand both.2 both.3

sections-sound : (seen all : ProblemSections) (ts rest : List Lexeme) → problem_sections seen ts ≡ got all rest → IsProblemSections seen ts all rest
sections-sound = turns-sound problem_keywords stand_needed (section_of problem_keywords problem_choices) problem-step IsProblemSections sections_end section_turn

problem_turn : (seen next : ProblemSections) (a : ℕ) (us mid : List Lexeme) → choice_of problem_keywords problem_choices seen us ≡ got next mid → problem_sections seen (left a ∷ us) ≡ problem_sections next mid
problem_turn seen next = one_section problem_keywords problem_choices seen next problem_keywords stand_needed problem-step

problem_end : (seen : ProblemSections) (p : ℕ) (rest : List Lexeme) → stand_needed seen ≡ true → problem_sections seen (right p ∷ rest) ≡ got seen rest
problem_end seen p rest e = turn-is problem_keywords stand_needed (section_of problem_keywords problem_choices) problem-step seen (right p ∷ rest) ∙ rw e refl

sections-complete : (seen all : ProblemSections) (ts rest : List Lexeme) → IsProblemSections seen ts all rest → problem_sections seen ts ≡ got all rest
unfolding choice_of and_then
sections-complete seen all ts rest (Grammar.all_stand {p = p} of goal) = problem_end seen p rest (rw (of, goal) refl)
sections-complete seen all ts rest (Grammar.of_domain {mid = mid} {of = v} none (is_section {a = a} {b = b} {ts = us} d) ds) =
    problem_turn seen (record seen { domain = Some v }) a (keyword (codes ":domain") b ∷ us) mid (rw none (ap (λ r. and_then r (λ v rest. got (record seen { domain = Some v }) rest)) (of_domain_parses.complete us mid v d))) ∙ sections-complete (record seen { domain = Some v }) all mid rest ds
sections-complete seen all ts rest (Grammar.needs {mid = mid} {words = v} none (is_section {a = a} {b = b} {ts = us} d) ds) =
    problem_turn seen (record seen { requirements = Some v }) a (keyword (codes ":requirements") b ∷ us) mid (rw none (ap (λ r. and_then r (λ v rest. got (record seen { requirements = Some v }) rest)) (parses_requirements.complete us mid v d))) ∙ sections-complete (record seen { requirements = Some v }) all mid rest ds
sections-complete seen all ts rest (Grammar.objects {mid = mid} {names = v} none (is_section {a = a} {b = b} {ts = us} d) ds) =
    problem_turn seen (record seen { objects = Some v }) a (keyword (codes ":objects") b ∷ us) mid (rw none (ap (λ r. and_then r (λ v rest. got (record seen { objects = Some v }) rest)) (parses_names.complete us mid v d))) ∙ sections-complete (record seen { objects = Some v }) all mid rest ds
sections-complete seen all ts rest (Grammar.init {mid = mid} {atoms = v} none (is_section {a = a} {b = b} {ts = us} d) ds) =
    problem_turn seen (record seen { init = Some v }) a (keyword (codes ":init") b ∷ us) mid (rw none (ap (λ r. and_then r (λ v rest. got (record seen { init = Some v }) rest)) (init_parses.complete us mid v d))) ∙ sections-complete (record seen { init = Some v }) all mid rest ds
sections-complete seen all ts rest (Grammar.goal {mid = mid} {atoms = v} none (is_section {a = a} {b = b} {ts = us} d) ds) =
    problem_turn seen (record seen { goal = Some v }) a (keyword (codes ":goal") b ∷ us) mid (rw none (ap (λ r. and_then r (λ v rest. got (record seen { goal = Some v }) rest)) (goal_parses.complete us mid v d))) ∙ sections-complete (record seen { goal = Some v }) all mid rest ds

-- the sections of a problem name its domain
domain_stands : (seen all : ProblemSections) (ts rest : List Lexeme) → IsProblemSections seen ts all rest → (of : Word) × (all.domain ≡ Some of)
domain_stands seen all ts rest (Grammar.all_stand {of = of} is goal) = (of, is)
domain_stands seen all ts rest (Grammar.of_domain {mid = mid} none d ds) = domain_stands _ all mid rest ds
domain_stands seen all ts rest (Grammar.needs {mid = mid} none d ds) = domain_stands _ all mid rest ds
domain_stands seen all ts rest (Grammar.objects {mid = mid} none d ds) = domain_stands _ all mid rest ds
domain_stands seen all ts rest (Grammar.init {mid = mid} none d ds) = domain_stands _ all mid rest ds
domain_stands seen all ts rest (Grammar.goal {mid = mid} none d ds) = domain_stands _ all mid rest ds

-- the domain of a problem's text is the one that stands
of_sections : (own of : Word) (all : ProblemSections) → all.domain ≡ Some of → problem_of own all ≡ record (problem_of own all) { domain = of }
of_sections own of all is = ap (λ o. record (problem_of own all) { domain = unwrap_or o (word [] 0) }) is

-- a whole problem
problem-sound : (ts rest : List Lexeme) (p : ProblemText) → problem ts ≡ got p rest → IsProblem ts p rest
unfolding problem
problem-sound ts rest p e =
    let own = and_then-cases _ _ _ _ e in
    let all = and_then-cases _ _ _ _ own.3 in
    let same = same_got all.3 in
    let ds = sections-sound no_problem_sections all.0 own.1 rest (all.2 ∙ ap (got all.0) same.1) in
    let of = domain_stands no_problem_sections all.0 own.1 rest ds in
    subst (λ p. IsProblem ts p rest) (sym (of_sections own.0 of.0 all.0 of.1) ∙ same.0) (is_problem ((parses_opening (codes "problem")).sound _ _ _ own.2) ds of.1)

problem-complete : (ts rest : List Lexeme) (p : ProblemText) → IsProblem ts p rest → problem ts ≡ got p rest
unfolding problem and_then
problem-complete ts rest p (is_problem {mid = mid} {own = own} {of = of} {all = all} o ds is) =
    rw ((parses_opening (codes "problem")).complete ts mid own o, sections-complete no_problem_sections all mid rest ds) (ap (λ p. got p rest) (of_sections own of all is))

pub parses_problem : Parses IsProblem problem
parses_problem = record { sound = problem-sound; complete = problem-complete }

-- where a problem is refused, its offending token stands, with its kind
pub problem-offends : (ts bad : List Lexeme) (why : Why) → all_of problem ts ≡ stuck why bad → Offends problem_keywords IsProblem ts why bad
problem-offends = whole-offends problem_keywords IsProblem problem problem-reader parses_problem
