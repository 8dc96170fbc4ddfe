-- The readers of the sections of a problem, and of whole problems, are exact on both sides.
use Rattle.std.proofs.Common.{◌≡◌, Bool, true, false, cond, inl, inr, List, [], ◌∷◌, ◌++◌, Some, codes, refl, ap, ◌∙◌}
use Rattle.std.proofs.lemmas.List.{append_assoc}
use Rattle.pddl_lexer.specs.declared.lexer.Kind.TheVariants.{Name}
use Rattle.pddl_forms.specs.declared.formulas.Terms.TheVariants.{Names}
use Rattle.pddl_forms.specs.Lexemes.{Lexeme, left, right, name, keyword}
use Rattle.pddl_forms.specs.Inner.Reading.{got, and_then, any_word, atom, atom_body, start, conjuncts, conjunction}
use Rattle.pddl_parser.specs.Inner.SectionReading.{opening}
use Rattle.pddl_forms.specs.Offending.{requirement_keywords}
use Rattle.pddl_forms.specs.Offending.{problem_keywords, part_keywords}
use Rattle.pddl_forms.specs.Forms.{word}
use Rattle.pddl_parser.specs.Grammar.{ProblemSections, no_problem_sections}
use Rattle.pddl_parser.specs.Inner.Choosing.{choice_of}
use Rattle.pddl_parser.specs.Inner.SectionReading.{is_none, problem_choices, section_of, stand_needed, problem_sections, problem_of, problem}
use Rattle.pddl_forms.proofs.Readers.{Starts, IsReader, pure-reader, seq-reader}
use Rattle.pddl_forms.proofs.Branches.{branch-reader, many-reader}
use Rattle.pddl_forms.proofs.OneLexeme.{name-branch}
use Rattle.pddl_forms.proofs.Exact.{atom_shrinks}
use Rattle.pddl_forms.proofs.ConjunctionReaders.{closed-reader, atom-branch, formula-reader}
use Rattle.pddl_forms.proofs.TypedReaders.{typed_list-reader}
use Rattle.pddl_parser.proofs.Choices.{apart, IsPlace, AreChoices}
use Rattle.pddl_parser.proofs.Turns.{Step, turn-is, turns-reader}
use Rattle.pddl_parser.proofs.SectionReaders.{are-choices, section-step, put-reader, requirements-reader, opening-reader}
use Rattle.pddl_parser.proofs.Sections.{one_section}

problem_place : IsPlace problem_keywords problem_keywords
problem_place = record { one = inl refl; section = inl refl; requirement = inr (apart requirement_keywords problem_keywords refl); part = inr (apart part_keywords problem_keywords refl) }

sections_read : AreChoices problem_keywords problem_keywords problem_choices
sections_read =
    are-choices problem_keywords problem_keywords problem_place problem_choices (
      refl,
      put-reader problem_keywords _ _ (closed-reader problem_keywords (any_word Name) (branch-reader (name-branch problem_keywords))),
      (
        refl,
        put-reader problem_keywords _ _ (requirements-reader problem_keywords refl),
        (
          refl,
          put-reader problem_keywords _ _ (typed_list-reader problem_keywords Name refl),
          (
            refl,
            put-reader problem_keywords _ _ (many-reader (atom Names) (atom-branch problem_keywords Names) (atom_shrinks Names)),
            (refl, put-reader problem_keywords _ _ (closed-reader problem_keywords (conjunction (atom_body Names)) (formula-reader problem_keywords Names)), tt),
          ),
        ),
      ),
    )

pub problem-step : (seen : ProblemSections) → Step problem_keywords (section_of problem_keywords problem_choices seen)
problem-step = section-step problem_keywords problem_keywords problem_choices sections_read

-- what can be ended after a section can be ended before it
ends-after : (seen next : ProblemSections) (section : List Lexeme) → ((other : List Lexeme) → choice_of problem_keywords problem_choices seen (section ++ other) ≡ got next other)
    → Starts (problem_sections next) → Starts (problem_sections seen)
ends-after seen next section read ends =
    record {
      more = left 0 ∷ section ++ ends.more;
      value = ends.value;
      again = λ other.
          ap (λ us. problem_sections seen (left 0 ∷ us)) (append_assoc section ends.more other)
          ∙ one_section problem_keywords problem_choices seen next problem_keywords stand_needed problem-step 0 (section ++ (ends.more ++ other)) (ends.more ++ other) (read (ends.more ++ other))
          ∙ ends.again other;
    }

-- a right parenthesis ends where both stand
whole-ends : (seen : ProblemSections) → stand_needed seen ≡ true → Starts (problem_sections seen)
whole-ends seen e =
    record {
      more = right 0 ∷ [];
      value = seen;
      again = λ other.
          turn-is problem_keywords stand_needed (section_of problem_keywords problem_choices) problem-step seen (right 0 ∷ other)
          ∙ ap (λ b. cond b (got seen other) (and_then (section_of problem_keywords problem_choices seen (right 0 ∷ other)) (problem_sections))) e;
    }

-- `( :domain NAME )`
domain-read : (seen : ProblemSections) → is_none seen.domain ≡ true → (other : List Lexeme)
    → choice_of problem_keywords problem_choices seen (keyword (codes ":domain") 0 ∷ name [] 0 ∷ right 0 ∷ other) ≡ got (record seen { domain = Some (word [] 0) }) other
unfolding choice_of and_then
domain-read seen e other = rw e refl

-- `( :goal ( ) )`
goal-read : (seen : ProblemSections) → is_none seen.goal ≡ true → (other : List Lexeme)
    → choice_of problem_keywords problem_choices seen (keyword (codes ":goal") 0 ∷ left 0 ∷ right 0 ∷ right 0 ∷ other) ≡ got (record seen { goal = Some [] }) other
unfolding choice_of conjunction conjuncts start and_then
goal-read seen e other = rw e refl

goal-ends : (seen : ProblemSections) → is_none seen.domain ≡ false → Starts (problem_sections seen)
goal-ends seen domain = go (is_none seen.goal) refl
  where
    go : (b : Bool) → is_none seen.goal ≡ b → Starts (problem_sections seen)
    go true is = ends-after seen (record seen { goal = Some [] }) (keyword (codes ":goal") 0 ∷ left 0 ∷ right 0 ∷ right 0 ∷ []) (goal-read seen is) (whole-ends (record seen { goal = Some [] }) (rw domain refl))
    go false is = whole-ends seen (rw (domain, is) refl)

-- every problem that began can be ended
pub problem-ends : (seen : ProblemSections) → Starts (problem_sections seen)
problem-ends seen = go (is_none seen.domain) refl
  where
    go : (b : Bool) → is_none seen.domain ≡ b → Starts (problem_sections seen)
    go true is = ends-after seen (record seen { domain = Some (word [] 0) }) (keyword (codes ":domain") 0 ∷ name [] 0 ∷ right 0 ∷ []) (domain-read seen is) (goal-ends (record seen { domain = Some (word [] 0) }) refl)
    go false is = goal-ends seen is

pub problem_sections-reader : (seen : ProblemSections) → IsReader problem_keywords (problem_sections seen)
problem_sections-reader = turns-reader problem_keywords stand_needed (section_of problem_keywords problem_choices) problem-step problem-ends

-- a whole problem
pub problem-reader : IsReader problem_keywords problem
unfolding problem
problem-reader =
    seq-reader (opening (codes "problem")) _ (opening-reader problem_keywords (codes "problem") refl) (λ own. seq-reader (problem_sections no_problem_sections) _ (problem_sections-reader no_problem_sections) (λ all. pure-reader (problem_of own all)))
