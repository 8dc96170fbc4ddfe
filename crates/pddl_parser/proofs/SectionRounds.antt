-- The loops over the parts of an action and over the sections of a domain and of a problem.
use Rattle.std.proofs.Common.{◌≡◌, Bool, true, false, ◌||◌, ◌&&◌, List, drop, Err, refl}
use Rattle.pddl_lexer.specs.declared.lexer.Kind.TheVariants.{RightParen}
use Rattle.pddl_forms.specs.declared.stop.Stop.{Stop}
use Rattle.pddl_forms.specs.Lexemes.{Lexeme}
use Rattle.pddl_parser.specs.Grammar.{ActionParts, DomainSections, ProblemSections}
use Rattle.pddl_forms.specs.Offending.{domain_keywords, problem_keywords, part_keywords}
use Rattle.pddl_forms.specs.Inner.Reading.{Read, Reads, got, comes}
use Rattle.pddl_parser.specs.Inner.Choosing.{any_may, choice_of}
use Rattle.pddl_parser.specs.Inner.SectionReading.{is_none, part_choices, parts, domain_choices, section_of, domain_sections, problem_choices, stand_needed, problem_sections}
use Rattle.pddl_forms.proofs.ItemSteps.{Shrinks}
use Rattle.pddl_parser.proofs.Turns.{turn-is, step-shrinks}
use Rattle.pddl_parser.proofs.SectionReaders.{parts-step, sections-step}
use Rattle.pddl_parser.proofs.ProblemReaders.{problem-step}
use Rattle.pddl_parser.proofs.Rounds.{beside_true, turns-next, turns-done, turns-err}

-- the parts of an action
pub parts_shrink : (seen : ActionParts) → Shrinks (choice_of part_keywords part_choices seen)
parts_shrink seen = step-shrinks (choice_of part_keywords part_choices seen) (parts-step seen)

pub parts-next : (seen next : ActionParts) (ts mid : List Lexeme) (all : Read ActionParts) → parts seen ts ≡ all → comes RightParen ts ≡ false → choice_of part_keywords part_choices seen ts ≡ got next mid → parts next mid ≡ all
parts-next seen next ts mid all so_far stands e =
    turns-next (λ _. true) (choice_of part_keywords part_choices) (turn-is domain_keywords (λ _. true) (choice_of part_keywords part_choices) parts-step) seen next ts mid all so_far (beside_true _ _ stands) e

pub parts-done : (seen : ActionParts) (ts : List Lexeme) (all : Read ActionParts) → parts seen ts ≡ all → comes RightParen ts ≡ true → all ≡ got seen (drop 1 ts)
parts-done seen ts all so_far closes =
    turns-done (λ _. true) (choice_of part_keywords part_choices) (turn-is domain_keywords (λ _. true) (choice_of part_keywords part_choices) parts-step) seen ts all so_far (beside_true _ _ closes)

pub parts-err : (seen : ActionParts) (ts bad : List Lexeme) (stop : Stop) (all : Read ActionParts) → parts seen ts ≡ all → comes RightParen ts ≡ false → Reads (choice_of part_keywords part_choices seen ts) (Err stop) bad → Reads all (Err stop) bad
parts-err seen ts bad stop all so_far stands e =
    turns-err (λ _. true) (choice_of part_keywords part_choices) (turn-is domain_keywords (λ _. true) (choice_of part_keywords part_choices) parts-step) seen ts bad stop all so_far (beside_true _ _ stands) e

-- the sections of a domain, of which an action may always come
pub domain_may : (seen : DomainSections) → any_may domain_choices seen ≡ true
domain_may seen = go (is_none seen.requirements) (is_none seen.types) (is_none seen.constants) (is_none seen.predicates)
  where
    go : (a b c d : Bool) → (a || (b || (c || (d || true)))) ≡ true
    go true b c d = refl
    go false true c d = refl
    go false false true d = refl
    go false false false true = refl
    go false false false false = refl

pub sections_shrink : (seen : DomainSections) → Shrinks (section_of domain_keywords domain_choices seen)
sections_shrink seen = step-shrinks (section_of domain_keywords domain_choices seen) (sections-step seen)

pub sections-next : (seen next : DomainSections) (ts mid : List Lexeme) (all : Read DomainSections) → domain_sections seen ts ≡ all → comes RightParen ts ≡ false → section_of domain_keywords domain_choices seen ts ≡ got next mid → domain_sections next mid ≡ all
sections-next seen next ts mid all so_far stands e =
    turns-next (λ _. true) (section_of domain_keywords domain_choices) (turn-is domain_keywords (λ _. true) (section_of domain_keywords domain_choices) sections-step) seen next ts mid all so_far (beside_true _ _ stands) e

pub sections-done : (seen : DomainSections) (ts : List Lexeme) (all : Read DomainSections) → domain_sections seen ts ≡ all → comes RightParen ts ≡ true → all ≡ got seen (drop 1 ts)
sections-done seen ts all so_far closes =
    turns-done (λ _. true) (section_of domain_keywords domain_choices) (turn-is domain_keywords (λ _. true) (section_of domain_keywords domain_choices) sections-step) seen ts all so_far (beside_true _ _ closes)

pub sections-err : (seen : DomainSections) (ts bad : List Lexeme) (stop : Stop) (all : Read DomainSections) → domain_sections seen ts ≡ all → comes RightParen ts ≡ false → Reads (section_of domain_keywords domain_choices seen ts) (Err stop) bad → Reads all (Err stop) bad
sections-err seen ts bad stop all so_far stands e =
    turns-err (λ _. true) (section_of domain_keywords domain_choices) (turn-is domain_keywords (λ _. true) (section_of domain_keywords domain_choices) sections-step) seen ts bad stop all so_far (beside_true _ _ stands) e

-- the sections of a problem
pub problem_shrink : (seen : ProblemSections) → Shrinks (section_of problem_keywords problem_choices seen)
problem_shrink seen = step-shrinks (section_of problem_keywords problem_choices seen) (problem-step seen)

pub problem-next : (seen next : ProblemSections) (ts mid : List Lexeme) (all : Read ProblemSections) → problem_sections seen ts ≡ all → (comes RightParen ts && stand_needed seen) ≡ false → section_of problem_keywords problem_choices seen ts ≡ got next mid → problem_sections next mid ≡ all
problem-next = turns-next stand_needed (section_of problem_keywords problem_choices) (turn-is problem_keywords stand_needed (section_of problem_keywords problem_choices) problem-step)

pub problem-done : (seen : ProblemSections) (ts : List Lexeme) (all : Read ProblemSections) → problem_sections seen ts ≡ all → (comes RightParen ts && stand_needed seen) ≡ true → all ≡ got seen (drop 1 ts)
problem-done = turns-done stand_needed (section_of problem_keywords problem_choices) (turn-is problem_keywords stand_needed (section_of problem_keywords problem_choices) problem-step)

pub problem-err : (seen : ProblemSections) (ts bad : List Lexeme) (stop : Stop) (all : Read ProblemSections) → problem_sections seen ts ≡ all → (comes RightParen ts && stand_needed seen) ≡ false → Reads (section_of problem_keywords problem_choices seen ts) (Err stop) bad → Reads all (Err stop) bad
problem-err = turns-err stand_needed (section_of problem_keywords problem_choices) (turn-is problem_keywords stand_needed (section_of problem_keywords problem_choices) problem-step)
