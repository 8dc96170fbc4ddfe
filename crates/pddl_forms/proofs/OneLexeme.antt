-- The readers of one lexeme are exact on both sides.
use Rattle.std.proofs.Common.{◌≡◌, inl, inr, ℕ, Bool, true, false, cond, ◌&&◌, not, List, [], ◌∷◌, codes, bytes_eq, refl, ap, ◌∙◌}
use Rattle.std.proofs.lemmas.Slice.Eq.{bytes_eq-Decides}
use Rattle.pddl_lexer.specs.declared.lexer.Kind.TheVariants.{LeftParen, RightParen, Name}
use Rattle.pddl_forms.specs.declared.stop.Why.{Why}
use Rattle.pddl_forms.specs.declared.stop.Why.TheVariants.{Shape, Unsupported}
use Rattle.pddl_forms.specs.declared.formulas.Terms.{Terms}
use Rattle.pddl_forms.specs.declared.formulas.Terms.TheVariants.{Names, NamesAndVariables}
use Rattle.pddl_forms.specs.Lexemes.{Lexeme, left, right, name, variable, keyword, dash, equal, gap}
use Rattle.pddl_forms.specs.Forms.{word, is_reserved}
use Rattle.pddl_forms.specs.Inner.Reading.{got, stuck, is_of, word_of, mark, literal, any_word, term, head}
use Rattle.pddl_forms.specs.Offending.{IsUnsupported, other_section, other_requirement, other_part, reserved_head, either_type, IsKind}
use Rattle.pddl_forms.proofs.Readers.{Conforms}
use Rattle.pddl_forms.proofs.Branches.{Branch, single}

-- where no keyword may stand, and no name without letters, nothing is left out
pub nameless-conforms : (sections : List (List ℕ)) (takes : Lexeme → Bool) → ((text : List ℕ) (at : ℕ) → takes (keyword text at) ≡ false) → takes (name [] 0) ≡ false → takes (gap 0) ≡ false → Conforms sections takes (λ t. Shape)
nameless-conforms sections takes keywords none no_gap t e (other_section (is, there)) = let not_there = keywords there.0 there.1 in let is_there = there.3 in absurd cc
nameless-conforms sections takes keywords none no_gap t e (other_requirement (is, there)) = let not_there = keywords there.0 there.1 in let is_there = there.3 in absurd cc
nameless-conforms sections takes keywords none no_gap t e (other_part (is, there)) = let not_there = keywords there.0 there.1 in let is_there = there.3 in absurd cc
nameless-conforms sections takes keywords none no_gap t e (reserved_head is there) = let is_there = there.0 [] 0 refl in absurd cc
nameless-conforms sections takes keywords none no_gap t e (either_type is there) = let is_there = there 0 in absurd cc

-- nor where every name may stand
pub names-conforms : (sections : List (List ℕ)) (takes : Lexeme → Bool) → ((text : List ℕ) (at : ℕ) → takes (keyword text at) ≡ false) → ((text : List ℕ) (at : ℕ) → takes (name text at) ≡ true) → Conforms sections takes (λ t. Shape)
names-conforms sections takes keywords names t e (other_section (is, there)) = let not_there = keywords there.0 there.1 in let is_there = there.3 in absurd cc
names-conforms sections takes keywords names t e (other_requirement (is, there)) = let not_there = keywords there.0 there.1 in let is_there = there.3 in absurd cc
names-conforms sections takes keywords names t e (other_part (is, there)) = let not_there = keywords there.0 there.1 in let is_there = there.3 in absurd cc
names-conforms sections takes keywords names t e (reserved_head is there) = there.1 0 (names (codes "or") 0)
names-conforms sections takes keywords names t e (either_type {at = at} is there) = let taken = ap takes is ∙ names (codes "either") at in absurd cc

-- an argument
abbrev is_term : Lexeme → Bool
is_term (name text at) = true
is_term (variable text at) = true
is_term _ = false

term_at : (t : Lexeme) (other : List Lexeme) → term NamesAndVariables (t ∷ other) ≡ cond (is_term t) (got (word_of t) other) (stuck Shape (t ∷ other))
term_at (left p) other = refl
term_at (right p) other = refl
term_at (name text p) other = refl
term_at (variable text p) other = refl
term_at (keyword text p) other = refl
term_at (dash p) other = refl
term_at (equal p) other = refl
term_at (gap p) other = refl

-- a HEAD
abbrev pub is_free : Lexeme → Bool
is_free (name text at) = not (is_reserved text)
is_free _ = false

abbrev kind_of_head : Lexeme → Why
kind_of_head (name text at) = cond (is_reserved text) Unsupported Shape
kind_of_head (equal at) = Unsupported
kind_of_head _ = Shape

head_at : (t : Lexeme) (other : List Lexeme) → head (t ∷ other) ≡ cond (is_free t) (got (word_of t) other) (stuck (kind_of_head t) (t ∷ other))
head_at (left p) other = refl
head_at (right p) other = refl
head_at (name text p) other = go (is_reserved text)
  where
    go : (b : Bool) → cond b (stuck Unsupported (name text p ∷ other)) (got (word text p) other) ≡ cond (not b) (got (word text p) other) (stuck (cond b Unsupported Shape) (name text p ∷ other))
    go true = refl
    go false = refl
head_at (variable text p) other = refl
head_at (keyword text p) other = refl
head_at (dash p) other = refl
head_at (equal p) other = refl
head_at (gap p) other = refl

-- what may stand in the place of a HEAD
may_head : ((text : List ℕ) (at : ℕ) → is_reserved text ≡ false → is_free (name text at) ≡ true) × ((at : ℕ) → is_free (name (codes "or") at) ≡ true → ⊥)
may_head = (λ text at free. ap not free, λ at e. absurd cc)

module _ (sections : List (List ℕ)) where
  pub left-branch : Branch sections (mark LeftParen)
  left-branch = single (mark LeftParen) (is_of LeftParen) (λ t. Shape) (λ t. tt) refl (λ t other. refl) (left 0) refl (nameless-conforms sections (is_of LeftParen) (λ text at. refl) refl refl)

  pub right-branch : Branch sections (mark RightParen)
  right-branch = single (mark RightParen) (is_of RightParen) (λ t. Shape) (λ t. tt) refl (λ t other. refl) (right 0) refl (nameless-conforms sections (is_of RightParen) (λ text at. refl) refl refl)

  pub name-branch : Branch sections (any_word Name)
  name-branch = single (any_word Name) (is_of Name) (λ t. Shape) word_of refl (λ t other. refl) (name [] 0) refl (names-conforms sections (is_of Name) (λ text at. refl) (λ text at. refl))

  -- a given name that is not empty
  pub literal-branch : (text : List ℕ) → bytes_eq [] text ≡ false → Branch sections (literal Name text)
  literal-branch text some =
      single (literal Name text) (λ t. is_of Name t && bytes_eq (word_of t).text text) (λ t. Shape) (λ t. tt) refl (λ t other. refl) (name text 0) ((bytes_eq-Decides text text).1 refl)
      (nameless-conforms sections (λ t. is_of Name t && bytes_eq (word_of t).text text) (λ text at. refl) some refl)

  pub term-branch : (terms : Terms) → Branch sections (term terms)
  term-branch Names = name-branch
  term-branch NamesAndVariables = single (term NamesAndVariables) is_term (λ t. Shape) word_of refl term_at (name [] 0) refl (names-conforms sections is_term (λ text at. refl) (λ text at. refl))

  no_such_head : (t : Lexeme) → ((text : List ℕ) (at : ℕ) → t ≡ name text at → ⊥) → ((at : ℕ) → t ≡ equal at → ⊥) → IsUnsupported sections (λ u. is_free u ≡ true) t → ⊥
  no_such_head t no_name no_equal (other_section (is, there)) = let is_there = there.3 in absurd cc
  no_such_head t no_name no_equal (other_requirement (is, there)) = let is_there = there.3 in absurd cc
  no_such_head t no_name no_equal (other_part (is, there)) = let is_there = there.3 in absurd cc
  no_such_head t no_name no_equal (reserved_head (inl is) there) = no_name is.0 is.1 is.2
  no_such_head t no_name no_equal (reserved_head (inr is) there) = no_equal is.0 is.1
  no_such_head t no_name no_equal (either_type {at = at} is there) = no_name (codes "either") at is

  reserved-conforms : (text : List ℕ) (at : ℕ) (b : Bool) → is_reserved text ≡ b → not b ≡ false → IsKind (cond b Unsupported Shape) (IsUnsupported sections (λ u. is_free u ≡ true) (name text at))
  reserved-conforms text at true is e = reserved_head (inl (text, at, refl, is)) may_head
  reserved-conforms text at false is e = absurd cc

  head-conforms : Conforms sections is_free kind_of_head
  head-conforms (name text at) e = reserved-conforms text at (is_reserved text) refl e
  head-conforms (equal at) e = reserved_head (inr (at, refl)) may_head
  head-conforms (left p) e = no_such_head (left p) (λ text at is. absurd cc) (λ at is. absurd cc)
  head-conforms (right p) e = no_such_head (right p) (λ text at is. absurd cc) (λ at is. absurd cc)
  head-conforms (variable text p) e = no_such_head (variable text p) (λ text at is. absurd cc) (λ at is. absurd cc)
  head-conforms (keyword text p) e = no_such_head (keyword text p) (λ text at is. absurd cc) (λ at is. absurd cc)
  head-conforms (dash p) e = no_such_head (dash p) (λ text at is. absurd cc) (λ at is. absurd cc)
  head-conforms (gap p) e = no_such_head (gap p) (λ text at is. absurd cc) (λ at is. absurd cc)

  pub head-branch : Branch sections head
  head-branch = single head is_free kind_of_head word_of refl head_at (name [] 0) refl head-conforms
