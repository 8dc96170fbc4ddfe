-- The readers of actions in parts, of the sections of a domain, and of whole domains are exact on both sides.
use Rattle.std.proofs.Common.{◌≡◌, ℕ, Bool, true, false, cond, ◌||◌, ◌&&◌, inl, inr, bytes_eq, List, [], ◌∷◌, codes, refl}
use Rattle.std.specs.List.{list_any}
use Rattle.pddl_lexer.specs.declared.lexer.Kind.TheVariants.{LeftParen, RightParen, Name, Variable, Keyword}
use Rattle.pddl_forms.specs.declared.stop.Why.TheVariants.{Shape}
use Rattle.pddl_forms.specs.declared.formulas.Terms.TheVariants.{NamesAndVariables}
use Rattle.pddl_forms.specs.Lexemes.{Lexeme}
use Rattle.pddl_forms.specs.Inner.Reading.{stuck, is_of, word_of, mark, literal, any_word, head, many, in_list}
use Rattle.pddl_parser.specs.Inner.SectionReading.{opening}
use Rattle.pddl_forms.specs.Forms.{is_one_of}
use Rattle.pddl_forms.specs.Offending.{requirement_keywords}
use Rattle.pddl_forms.specs.Offending.{domain_keywords, part_keywords}
use Rattle.pddl_parser.specs.Grammar.{ActionParts, no_parts, action_of, DomainSections, no_domain_sections, domain_of}
use Rattle.pddl_forms.specs.Inner.TypedReading.{typed_list}
use Rattle.pddl_parser.specs.Inner.Choosing.{is_keyword, why_no_keyword, requirement, Choice, any_may, takes_key, after_key, choice_of}
use Rattle.pddl_parser.specs.Inner.SectionReading.{predicate, put, part_choices, parts, action, domain_choices, section_of, domain_sections, domain}
use Rattle.pddl_forms.proofs.ItemSteps.{Shrinks}
use Rattle.pddl_forms.proofs.Readers.{Reader, IsReader, pure-reader, seq-reader}
use Rattle.pddl_forms.proofs.Branches.{Branch, branch-reader, branch-then, many-reader}
use Rattle.pddl_forms.proofs.OneLexeme.{nameless-conforms, left-branch, right-branch, name-branch, head-branch, literal-branch}
use Rattle.pddl_forms.proofs.ConjunctionReaders.{in_list-branch, formula-reader, effect-reader}
use Rattle.pddl_forms.proofs.TypedReaders.{typed_list-reader}
use Rattle.pddl_parser.proofs.Choices.{keyword_found, apart, IsPlace, AreChoices, requirement-branch, choice-refused, choice-followed, choice-conforms, choice-branch}
use Rattle.pddl_parser.proofs.Turns.{Step, branch-step, step-shrinks, turns-reader, always-ends}

-- each keyword is one of the place, and each body is a reader
abbrev pub AllRead : {S : Type 0} → List (List ℕ) → List (List ℕ) → List (Choice S) → Type 0
AllRead sections keys [] = Unit {0}
AllRead {S} sections keys (c ∷ choices) = (is_one_of keys c.key ≡ true) × ((seen : S) → IsReader sections (c.body seen)) × AllRead sections keys choices

module _ {S : Type 0} (sections keys : List (List ℕ)) where
  all-keyed : (choices : List (Choice S)) → AllRead sections keys choices → (seen : S) (t : Lexeme) → takes_key choices seen t ≡ true → (is_of Keyword t && is_one_of keys (word_of t).text) ≡ true
  all-keyed [] all seen t e = absurd cc
  all-keyed (c ∷ choices) all seen t e = go (all-keyed choices all.2 seen t) (is_keyword c.key t) (c.may seen) refl e
    where
      go : (takes_key choices seen t ≡ true → (is_of Keyword t && is_one_of keys (word_of t).text) ≡ true) → (a b : Bool) → is_keyword c.key t ≡ a → (a && b || takes_key choices seen t) ≡ true → (is_of Keyword t && is_one_of keys (word_of t).text) ≡ true
      go further true true is e = let found = keyword_found c.key t is in rw found.1 all.0
      go further true false is e = further e
      go further false b is e = further e

  all-read : (choices : List (Choice S)) → AllRead sections keys choices → (seen : S) (t : Lexeme) → takes_key choices seen t ≡ true → IsReader sections (after_key choices seen t)
  all-read [] all seen t e = absurd cc
  all-read (c ∷ choices) all seen t e = go (all-read choices all.2 seen t) (is_keyword c.key t && c.may seen) e
    where
      go : (takes_key choices seen t ≡ true → IsReader sections (after_key choices seen t)) → (b : Bool) → (b || takes_key choices seen t) ≡ true → IsReader sections (λ ts. cond b (c.body seen ts) (after_key choices seen t ts))
      go further true e = all.1 seen
      go further false e = further e

  pub are-choices : IsPlace sections keys → (choices : List (Choice S)) → AllRead sections keys choices → AreChoices sections keys choices
  are-choices place choices all = record { place = place; keyed = all-keyed choices all; reads = all-read choices all }

  -- a keyword
  pub choice-step : (choices : List (Choice S)) → AreChoices sections keys choices → (seen : S) → Step sections (choice_of keys choices seen)
  unfolding choice_of
  choice-step choices are seen =
      record {
        takes = takes_key choices seen;
        kind = why_no_keyword keys (any_may choices seen);
        after = after_key choices seen;
        at_end = refl;
        refused = choice-refused sections keys choices are seen;
        followed = choice-followed sections keys choices are seen;
        reads = are.reads seen;
        conforms = choice-conforms sections keys choices are seen;
      }

  -- a left parenthesis and a keyword
  pub section-step : (choices : List (Choice S)) → AreChoices sections keys choices → (seen : S) → Step sections (section_of keys choices seen)
  unfolding section_of
  section-step choices are seen = go (any_may choices seen) refl
    where
      go : (b : Bool) → any_may choices seen ≡ b → Step sections (λ ts. cond b (in_list (choice_of keys choices seen) ts) (stuck Shape ts))
      go true e = branch-step (in_list-branch sections (choice_of keys choices seen) (branch-reader (choice-branch sections keys choices are seen e)))
      go false e =
          record {
            takes = λ t. false;
            kind = λ t. Shape;
            after = λ t ts. stuck Shape ts;
            at_end = refl;
            refused = λ t other taken. refl;
            followed = λ t other taken. absurd cc;
            reads = λ t taken. absurd cc;
            conforms = nameless-conforms sections (λ t. false) (λ text at. refl) refl refl;
          }

pub put-reader : {A S : Type 0} (sections : List (List ℕ)) (body : Reader A) (add : S → A → S) → IsReader sections body → (seen : S) → IsReader sections (put body add seen)
put-reader sections body add reads seen = seq-reader body _ reads (λ value. pure-reader (add seen value))

-- the parts of an action, within a domain
part_place : IsPlace domain_keywords part_keywords
part_place = record { one = inr (inr refl); section = inr (apart domain_keywords part_keywords refl); requirement = inr (apart requirement_keywords part_keywords refl); part = inl refl }

variables-reader : IsReader domain_keywords (typed_list Variable)
variables-reader = typed_list-reader domain_keywords Variable refl

parts_read : AreChoices domain_keywords part_keywords part_choices
parts_read =
    are-choices domain_keywords part_keywords part_place part_choices (
      refl,
      put-reader domain_keywords _ _ (branch-reader (in_list-branch domain_keywords (typed_list Variable) variables-reader)),
      (refl, put-reader domain_keywords _ _ (formula-reader domain_keywords NamesAndVariables), (refl, put-reader domain_keywords _ _ (effect-reader domain_keywords), tt)),
    )

pub parts-step : (seen : ActionParts) → Step domain_keywords (choice_of part_keywords part_choices seen)
parts-step = choice-step domain_keywords part_keywords part_choices parts_read

pub parts-reader : (seen : ActionParts) → IsReader domain_keywords (parts seen)
parts-reader =
    turns-reader domain_keywords (λ _. true) (choice_of part_keywords part_choices) parts-step (always-ends domain_keywords (λ _. true) (choice_of part_keywords part_choices) parts-step (λ _. refl))

pub action-reader : IsReader domain_keywords action
unfolding action
action-reader = seq-reader (any_word Name) _ (branch-reader (name-branch domain_keywords)) (λ own. seq-reader (parts no_parts) _ (parts-reader no_parts) (λ all. pure-reader (action_of own all)))

-- the words of `:requirements`, within texts whose keywords are others
requirement_place : (sections : List (List ℕ)) → list_any (is_one_of requirement_keywords) sections ≡ false → IsPlace sections requirement_keywords
requirement_place sections others = record { one = inr (inl refl); section = inr (apart sections requirement_keywords others); requirement = inl refl; part = inr (apart part_keywords requirement_keywords refl) }

pub requirement-shrinks : Shrinks requirement
requirement-shrinks ts rest value e = step-shrinks requirement (branch-step (requirement-branch domain_keywords (requirement_place domain_keywords refl))) ts rest value e

pub requirements-reader : (sections : List (List ℕ)) → list_any (is_one_of requirement_keywords) sections ≡ false → IsReader sections (many requirement)
requirements-reader sections others = many-reader requirement (requirement-branch sections (requirement_place sections others)) requirement-shrinks

-- the sections of a domain
predicate-branch : Branch domain_keywords predicate
unfolding predicate
predicate-branch =
    branch-then (mark LeftParen) _ (left-branch domain_keywords) (λ _. seq-reader head _ (branch-reader (head-branch domain_keywords)) (λ w. seq-reader (typed_list Variable) _ variables-reader (λ params. pure-reader _)))

pub predicate-shrinks : Shrinks predicate
predicate-shrinks ts rest value e = step-shrinks predicate (branch-step predicate-branch) ts rest value e

domain_place : IsPlace domain_keywords domain_keywords
domain_place = record { one = inl refl; section = inl refl; requirement = inr (apart requirement_keywords domain_keywords refl); part = inr (apart part_keywords domain_keywords refl) }

names-reader : IsReader domain_keywords (typed_list Name)
names-reader = typed_list-reader domain_keywords Name refl

-- one section: typed predicates
pub predicates-reader : IsReader domain_keywords (many predicate)
predicates-reader = many-reader predicate predicate-branch predicate-shrinks

sections_read : AreChoices domain_keywords domain_keywords domain_choices
sections_read =
    are-choices domain_keywords domain_keywords domain_place domain_choices (
      refl,
      put-reader domain_keywords _ _ (requirements-reader domain_keywords refl),
      (
        refl,
        put-reader domain_keywords _ _ names-reader,
        (
          refl,
          put-reader domain_keywords _ _ names-reader,
          (
            refl,
            put-reader domain_keywords _ _ predicates-reader,
            (refl, put-reader domain_keywords _ _ action-reader, tt),
          ),
        ),
      ),
    )

pub sections-step : (seen : DomainSections) → Step domain_keywords (section_of domain_keywords domain_choices seen)
sections-step = section-step domain_keywords domain_keywords domain_choices sections_read

pub sections-reader : (seen : DomainSections) → IsReader domain_keywords (domain_sections seen)
sections-reader =
    turns-reader domain_keywords (λ _. true) (section_of domain_keywords domain_choices) sections-step (always-ends domain_keywords (λ _. true) (section_of domain_keywords domain_choices) sections-step (λ _. refl))

pub opening-reader : (sections : List (List ℕ)) (kind : List ℕ) → bytes_eq [] kind ≡ false → IsReader sections (opening kind)
unfolding opening
opening-reader sections kind some =
    seq-reader (mark LeftParen) _ (branch-reader (left-branch sections)) (λ _.
    seq-reader (literal Name (codes "define")) _ (branch-reader (literal-branch sections (codes "define") refl)) (λ _.
    seq-reader (mark LeftParen) _ (branch-reader (left-branch sections)) (λ _.
    seq-reader (literal Name kind) _ (branch-reader (literal-branch sections kind some)) (λ _.
    seq-reader (any_word Name) _ (branch-reader (name-branch sections)) (λ own.
    seq-reader (mark RightParen) _ (branch-reader (right-branch sections)) (λ _. pure-reader own))))))

-- a whole domain
pub domain-reader : IsReader domain_keywords domain
unfolding domain
domain-reader =
    seq-reader (opening (codes "domain")) _ (opening-reader domain_keywords (codes "domain") refl) (λ own. seq-reader (domain_sections no_domain_sections) _ (sections-reader no_domain_sections) (λ all. pure-reader (domain_of own all)))
