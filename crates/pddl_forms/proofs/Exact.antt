-- The reading of each rule is what the grammar says.
use Rattle.std.proofs.Common.{◌≡◌, ℕ, ◌+◌, ◌<◌, Bool, true, false, cond, List, [], ◌∷◌, length, refl, arith}
use Rattle.pddl_lexer.specs.declared.lexer.Kind.TheVariants.{RightParen, Name}
use Rattle.pddl_forms.specs.declared.stop.Why.TheVariants.{Unsupported}
use Rattle.pddl_forms.specs.declared.formulas.Terms.{Terms}
use Rattle.pddl_forms.specs.declared.formulas.Terms.TheVariants.{Names, NamesAndVariables}
use Rattle.pddl_forms.specs.declared.texts.Word.{Word}
use Rattle.pddl_forms.specs.declared.texts.AtomText.{AtomText}
use Rattle.pddl_forms.specs.Lexemes.{Lexeme, right, name, variable}
use Rattle.pddl_forms.specs.Forms.{is_reserved, word, IsNameWord, is_name_word, IsHead, is_head, IsTerm, is_constant, is_argument, Many, IsAtom, is_atom, Closed, closed}
use Rattle.pddl_forms.specs.Inner.Reading.{Read, got, stuck, and_then, comes, any_word, head, many, term, atom_body, atom, closed_item}
use Rattle.pddl_forms.proofs.Fronts.{and_then-cases, same_got, mark-left, mark-right}
use Rattle.pddl_forms.proofs.ItemSteps.{Parses, IsItem, Shrinks, item_shrinks, parses_many, Many-count}

-- one word of each kind
name_word-sound : (ts rest : List Lexeme) (w : Word) → any_word Name ts ≡ got w rest → IsNameWord ts w rest
name_word-sound [] rest w e = absurd cc
name_word-sound (name text at ∷ ts) rest w e = let same = same_got e in rw (← same.0, ← same.1) is_name_word
name_word-sound (_ ∷ ts) rest w e = absurd cc

name_word-complete : (ts rest : List Lexeme) (w : Word) → IsNameWord ts w rest → any_word Name ts ≡ got w rest
name_word-complete ts rest w is_name_word = refl

pub parses_name_word : Parses IsNameWord (any_word Name)
parses_name_word = record { sound = name_word-sound; complete = name_word-complete }

-- a head
-- a name that is not reserved
free_head : (text : List ℕ) (at : ℕ) (ts rest : List Lexeme) (w : Word) (reserved : Bool) → is_reserved text ≡ reserved → cond reserved (stuck Unsupported (name text at ∷ ts)) (got (word text at) ts) ≡ got w rest → IsHead (name text at ∷ ts) w rest
free_head text at ts rest w true is e = absurd cc
free_head text at ts rest w false is e = let same = same_got e in rw (← same.0, ← same.1) (is_head is)

pub head-sound : (ts rest : List Lexeme) (w : Word) → head ts ≡ got w rest → IsHead ts w rest
head-sound [] rest w e = absurd cc
head-sound (name text at ∷ ts) rest w e = free_head text at ts rest w (is_reserved text) refl e
head-sound (_ ∷ ts) rest w e = absurd cc

pub head-complete : (ts rest : List Lexeme) (w : Word) → IsHead ts w rest → head ts ≡ got w rest
head-complete ts rest w (is_head free) = rw free refl

-- what an argument may be
abbrev pub IsTermOf : Terms → List Lexeme → Word → List Lexeme → Type 0
IsTermOf Names = IsNameWord
IsTermOf NamesAndVariables = IsTerm

term-sound : (ts rest : List Lexeme) (w : Word) → term NamesAndVariables ts ≡ got w rest → IsTerm ts w rest
term-sound [] rest w e = absurd cc
term-sound (name text at ∷ ts) rest w e = let same = same_got e in rw (← same.0, ← same.1) is_constant
term-sound (variable text at ∷ ts) rest w e = let same = same_got e in rw (← same.0, ← same.1) is_argument
term-sound (_ ∷ ts) rest w e = absurd cc

term-complete : (ts rest : List Lexeme) (w : Word) → IsTerm ts w rest → term NamesAndVariables ts ≡ got w rest
term-complete ts rest w is_constant = refl
term-complete ts rest w is_argument = refl

pub parses_term : (terms : Terms) → Parses (IsTermOf terms) (term terms)
parses_term Names = parses_name_word
parses_term NamesAndVariables = record { sound = term-sound; complete = term-complete }

pub name_word_is_item : IsItem IsNameWord
name_word_is_item = record { shorter = shorter; inside = inside }
  where
    shorter : (ts rest : List Lexeme) (w : Word) → IsNameWord ts w rest → length rest < length ts
    shorter ts rest w is_name_word = omega arith

    inside : (ts rest : List Lexeme) (w : Word) → IsNameWord ts w rest → comes RightParen ts ≡ false
    inside ts rest w is_name_word = refl

pub head-shorter : (ts rest : List Lexeme) (w : Word) → IsHead ts w rest → length rest < length ts
head-shorter ts rest w (is_head free) = omega arith

pub term_is_item : (terms : Terms) → IsItem (IsTermOf terms)
term_is_item Names = name_word_is_item
term_is_item NamesAndVariables = record { shorter = shorter; inside = inside }
  where
    shorter : (ts rest : List Lexeme) (w : Word) → IsTerm ts w rest → length rest < length ts
    shorter ts rest w is_constant = omega arith
    shorter ts rest w is_argument = omega arith

    inside : (ts rest : List Lexeme) (w : Word) → IsTerm ts w rest → comes RightParen ts ≡ false
    inside ts rest w is_constant = refl
    inside ts rest w is_argument = refl

pub term_shrinks : (terms : Terms) → Shrinks (term terms)
term_shrinks terms = item_shrinks (IsTermOf terms) (term terms) (term_is_item terms) (parses_term terms)

-- an atom has a parenthesis, a head and a parenthesis
pub atom-shorter : (terms : Terms) (ts rest : List Lexeme) (a : AtomText) → IsAtom (IsTermOf terms) ts a rest → length rest + 1 < length ts
atom-shorter terms ts rest a (is_atom {ts = after} {mid = mid} {head = h} {args = args} d ds) =
    omega (arith, head-shorter after mid h d, Many-count (term_is_item terms) mid rest args ds)

pub atom_is_item : (terms : Terms) → IsItem (IsAtom (IsTermOf terms))
atom_is_item terms = record { shorter = λ ts rest a d. omega (arith, atom-shorter terms ts rest a d); inside = inside }
  where
    inside : (ts rest : List Lexeme) (a : AtomText) → IsAtom (IsTermOf terms) ts a rest → comes RightParen ts ≡ false
    inside ts rest a (is_atom d ds) = refl

-- what holds of equal lexemes, values and rests
pub carried : {A : Type 0} (Rule : List Lexeme → A → List Lexeme → Type 0) {ts us rest left_over : List Lexeme} {x y : A} → ts ≡ us → x ≡ y → left_over ≡ rest → Rule us x left_over → Rule ts y rest
carried Rule p q r d = rw (p, ← q, ← r) d

pub arguments : (terms : Terms) → Parses (Many (IsTermOf terms)) (many (term terms))
arguments terms = parses_many (IsTermOf terms) (term terms) (term_is_item terms) (parses_term terms)

-- `( HEAD term* )`
atom-sound : (terms : Terms) (ts rest : List Lexeme) (a : AtomText) → atom terms ts ≡ got a rest → IsAtom (IsTermOf terms) ts a rest
unfolding atom_body
atom-sound terms ts rest a e =
    let paren = and_then-cases _ _ _ _ e in
    let first = and_then-cases _ _ _ _ paren.3 in
    let others = and_then-cases _ _ _ _ first.3 in
    let same = same_got others.3 in
    let at = mark-left ts paren.1 paren.0 paren.2 in
    carried (IsAtom (IsTermOf terms)) at.1 same.0 same.1 (is_atom (head-sound _ _ _ first.2) ((arguments terms).sound _ _ _ others.2))

atom-complete : (terms : Terms) (ts rest : List Lexeme) (a : AtomText) → IsAtom (IsTermOf terms) ts a rest → atom terms ts ≡ got a rest
unfolding atom_body and_then
atom-complete terms ts rest a (is_atom {ts = after} {mid = mid} {head = h} {args = args} d ds) =
    rw (head-complete after mid h d, (arguments terms).complete mid rest args ds) refl

pub parses_atom : (terms : Terms) → Parses (IsAtom (IsTermOf terms)) (atom terms)
parses_atom terms = record { sound = atom-sound terms; complete = atom-complete terms }

pub atom_shrinks : (terms : Terms) → Shrinks (atom terms)
atom_shrinks terms = item_shrinks (IsAtom (IsTermOf terms)) (atom terms) (atom_is_item terms) (parses_atom terms)

-- an item and a right parenthesis
module _ {A : Type 0} (Item : List Lexeme → A → List Lexeme → Type 0) (item : List Lexeme → Read A) (parses : Parses Item item) where
  closed_at : (a b rest : List Lexeme) (value : A) (p : ℕ) → b ≡ right p ∷ rest → Item a value b → Closed Item a value rest
  closed_at a b rest value p i d = closed {p = p} (rw i at d)

  closed-sound : (ts rest : List Lexeme) (value : A) → closed_item item ts ≡ got value rest → Closed Item ts value rest
  closed-sound ts rest value e =
      let a = and_then-cases _ _ _ _ e in
      let b = and_then-cases _ _ _ _ a.3 in
      let p = mark-right _ _ _ b.2 in
      let same = same_got b.3 in
      carried (Closed Item) refl same.0 same.1 (closed_at ts _ _ _ _ p.1 (parses.sound _ _ _ a.2))

  closed-complete : (ts rest : List Lexeme) (value : A) → Closed Item ts value rest → closed_item item ts ≡ got value rest
  unfolding and_then
  closed-complete ts rest value (closed {p = p} d) = rw (parses.complete ts (right p ∷ rest) value d) refl

  pub parses_closed : Parses (Closed Item) (closed_item item)
  parses_closed = record { sound = closed-sound; complete = closed-complete }
