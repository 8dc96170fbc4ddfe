-- Sections, of a domain and of a problem, are read as the grammar says, and so are the words of `:requirements`.
use Rattle.std.proofs.Common.{◌≡◌, ℕ, ◌<◌, Bool, true, false, cond, ◌||◌, inl, inr, List, [], ◌∷◌, length, refl, ap, ◌∙◌, arith}
use Rattle.pddl_lexer.specs.declared.lexer.Kind.TheVariants.{RightParen}
use Rattle.pddl_forms.specs.declared.stop.Why.{Why}
use Rattle.pddl_forms.specs.declared.stop.Why.TheVariants.{Shape}
use Rattle.pddl_forms.specs.declared.texts.Word.{Word}
use Rattle.pddl_forms.specs.Lexemes.{Lexeme, left, keyword}
use Rattle.pddl_forms.specs.Forms.{is_one_of, word, Many}
use Rattle.pddl_forms.specs.Offending.{requirement_keywords}
use Rattle.pddl_parser.specs.Grammar.{IsRequirement, is_requirement, IsSection, is_section}
use Rattle.pddl_forms.specs.Inner.Reading.{got, stuck, and_then, comes, many, in_list}
use Rattle.pddl_parser.specs.Inner.Choosing.{why_no_keyword, requirement, Choice, any_may, choice_of, turns}
use Rattle.pddl_parser.specs.Inner.SectionReading.{section_of}
use Rattle.pddl_forms.proofs.Fronts.{and_then-cases, same_got, mark-left}
use Rattle.pddl_forms.proofs.ItemSteps.{Parses, IsItem, parses_many}
use Rattle.pddl_parser.proofs.Turns.{Step, turn-got}
use Rattle.pddl_parser.proofs.SectionRules.{IsChoice, choice-sound}

-- a word of `:requirements`
requirement-by : (text : List ℕ) (at : ℕ) (ts rest : List Lexeme) (w : Word) (why : Why) (among : Bool) → is_one_of requirement_keywords text ≡ among
    → cond among (got (word text at) ts) (stuck why (keyword text at ∷ ts)) ≡ got w rest → IsRequirement (keyword text at ∷ ts) w rest
requirement-by text at ts rest w why true is e = let same = same_got e in rw (← same.0, ← same.1) (is_requirement is)
requirement-by text at ts rest w why false is e = absurd cc

requirement-sound : (ts rest : List Lexeme) (w : Word) → requirement ts ≡ got w rest → IsRequirement ts w rest
requirement-sound [] rest w e = absurd cc
requirement-sound (keyword text at ∷ ts) rest w e = requirement-by text at ts rest w (why_no_keyword requirement_keywords true (keyword text at)) _ refl e
requirement-sound (_ ∷ ts) rest w e = absurd cc

requirement-complete : (ts rest : List Lexeme) (w : Word) → IsRequirement ts w rest → requirement ts ≡ got w rest
requirement-complete ts rest w (is_requirement is) = rw is refl

pub requirement_is_item : IsItem IsRequirement
requirement_is_item = record { shorter = shorter; inside = inside }
  where
    shorter : (ts rest : List Lexeme) (w : Word) → IsRequirement ts w rest → length rest < length ts
    shorter ts rest w (is_requirement is) = omega arith

    inside : (ts rest : List Lexeme) (w : Word) → IsRequirement ts w rest → comes RightParen ts ≡ false
    inside ts rest w (is_requirement is) = refl

pub parses_requirements : Parses (Many IsRequirement) (many requirement)
parses_requirements = parses_many IsRequirement requirement requirement_is_item (record { sound = requirement-sound; complete = requirement-complete })

-- a section that stands where its lexemes do
pub section_at : {A : Type 0} {key : List ℕ} {Body : List Lexeme → A → List Lexeme → Type 0} (ts us vs rest : List Lexeme) (value : A) (p q : ℕ) → ts ≡ left p ∷ us → us ≡ keyword key q ∷ vs → Body vs value rest → IsSection key Body ts value rest
section_at ts us vs rest value p q i j d = rw (i, j) (is_section d)

-- what holds after an equal state and before equal lexemes
pub carried_on : {S : Type 0} (Rule : S → List Lexeme → S → List Lexeme → Type 0) {other next all : S} {left_over mid rest : List Lexeme} → other ≡ next → left_over ≡ mid → Rule next mid all rest → Rule other left_over all rest
carried_on Rule p q d = rw (p, q) d

-- a choice that came may come
choice-may : {S : Type 0} (choices : List (Choice S)) (seen next : S) (ts rest : List Lexeme) → IsChoice choices seen ts next rest → any_may choices seen ≡ true
choice-may [] seen next ts rest none = absurd none
choice-may (c ∷ choices) seen next ts rest (inl (p, us, is, may, e)) = rw may refl
choice-may (c ∷ choices) seen next ts rest (inr other) = either_way (c.may seen) (choice-may choices seen next ts rest other)
  where
    either_way : (a : Bool) → any_may choices seen ≡ true → (a || any_may choices seen) ≡ true
    either_way true e = refl
    either_way false e = e

module _ {S : Type 0} (keys : List (List ℕ)) (choices : List (Choice S)) (seen next : S) where
  -- a section is a left parenthesis and a choice
  pub section-sound : (ts mid : List Lexeme) → section_of keys choices seen ts ≡ got next mid → (p : ℕ) × (us : List Lexeme) × (ts ≡ left p ∷ us) × IsChoice choices seen us next mid
  unfolding section_of
  section-sound ts mid e = go (any_may choices seen) e
    where
      go : (b : Bool) → cond b (in_list (choice_of keys choices seen) ts) (stuck Shape ts) ≡ got next mid → (p : ℕ) × (us : List Lexeme) × (ts ≡ left p ∷ us) × IsChoice choices seen us next mid
      go true e =
          let one = and_then-cases _ _ _ _ e in
          let at = mark-left ts _ _ one.2 in
          (at.0, one.1, at.1, choice-sound keys choices seen next one.1 mid one.3)
      go false e = absurd cc

  section-complete : (a : ℕ) (us mid : List Lexeme) → choice_of keys choices seen us ≡ got next mid → section_of keys choices seen (left a ∷ us) ≡ got next mid
  unfolding section_of and_then
  section-complete a us mid e =
      ap (λ may. cond may (in_list (choice_of keys choices seen) (left a ∷ us)) (stuck Shape (left a ∷ us))) (choice-may choices seen next us mid (choice-sound keys choices seen next us mid e)) ∙ e

  -- one section before others
  pub one_section : (sections : List (List ℕ)) (whole : S → Bool) → ((s : S) → Step sections (section_of keys choices s)) → (a : ℕ) (us mid : List Lexeme)
      → choice_of keys choices seen us ≡ got next mid → turns whole (section_of keys choices) seen (left a ∷ us) ≡ turns whole (section_of keys choices) next mid
  one_section sections whole step a us mid e = turn-got sections whole (section_of keys choices) step seen next (left a ∷ us) mid refl (section-complete a us mid e)
