-- What stands at the front of a text's lexemes.
use Rattle.std.proofs.Common.{◌≡◌, ℕ, ◌≤◌, Bool, true, false, cond, List, [], ◌∷◌, length, drop, get_or, slice_range, IsTrue, ◌↔◌, ◌&&◌, Decides, bytes_eq, refl, sym, ap, ◌∙◌, arith}
use Rattle.std.proofs.lemmas.Bool.Decides.{same_from_decides}
use Rattle.std.proofs.lemmas.Slice.Eq.{bytes_eq-Decides}
use Rattle.pddl_lexer.specs.declared.lexer.Kind.{Kind}
use Rattle.pddl_lexer.specs.declared.lexer.Kind.TheVariants.{LeftParen, RightParen, Name, Variable, Keyword}
use Rattle.pddl_forms.specs.declared.stop.Why.TheVariants.{Shape}
use Rattle.pddl_lexer.specs.declared.lexer.Token.{Token}
use Rattle.pddl_forms.specs.Lexemes.{Lexeme, left, right, name, lexeme, lower, lexemes}
use Rattle.pddl_forms.specs.Inner.Reading.{Read, got, stuck, and_then, is_of, is_word, word_of, comes, comes_as, mark, literal}

-- what a comparison without regard to case says of a word that comes first
pub comes_as-seen : (bytes : List ℕ) (ts : List Token) (d : Token) (kind : Kind) (text : List ℕ) (found : Bool) → 1 ≤ length ts → (get_or ts 0 d).kind ≡ kind → is_word kind ≡ true → lower text ≡ text → IsTrue found ↔ (lower (slice_range bytes (get_or ts 0 d).from (get_or ts 0 d).to) ≡ lower text) → found ≡ comes_as kind text (lexemes bytes ts)
comes_as-seen bytes [] d kind text found some is wordy low same = absurd (omega arith)
comes_as-seen bytes (t ∷ ts) d kind text found some is wordy low same = rw is (go kind wordy)
  where
    seen : List ℕ
    seen = lower (slice_range bytes t.from t.to)

    decides : Decides found (seen ≡ text)
    decides = (λ e. same.0 e ∙ low, λ e. same.1 (e ∙ sym low))

    equal_texts : found ≡ bytes_eq seen text
    equal_texts = same_from_decides found _ decides (bytes_eq-Decides seen text)

    go : (k : Kind) → is_word k ≡ true → found ≡ (is_of k (lexeme k seen t.from) && bytes_eq (word_of (lexeme k seen t.from)).text text)
    go Name w = equal_texts
    go Variable w = equal_texts
    go Keyword w = equal_texts
    go _ w = absurd cc

-- a right parenthesis, where one comes first
pub right_comes : (ts : List Lexeme) → comes RightParen ts ≡ true → (p : ℕ) × (ts ≡ right p ∷ drop 1 ts)
right_comes [] e = absurd cc
right_comes (right p ∷ ts) e = (p, refl)
right_comes (_ ∷ ts) e = absurd cc

-- what was read first, where more was read after it
pub and_then-cases : {A B : Type 0} (r : Read A) (further : A → List Lexeme → Read B) (value : B) (rest : List Lexeme) → and_then r further ≡ got value rest → (first : A) × (mid : List Lexeme) × (r ≡ got first mid) × (further first mid ≡ got value rest)
unfolding and_then
and_then-cases (got first mid) further value rest e = (first, mid, refl, e)
and_then-cases (stuck why bad) further value rest e = absurd cc

-- what was got is the same
pub same_got : {A : Type 0} {x y : A} {rest left_over : List Lexeme} → got x rest ≡ got y left_over → (x ≡ y) × (rest ≡ left_over)
same_got e = (cc, cc)

-- a mark that was read
pub mark-left : (ts rest : List Lexeme) (u : Unit {0}) → mark LeftParen ts ≡ got u rest → (p : ℕ) × (ts ≡ left p ∷ rest)
mark-left [] rest u e = absurd cc
mark-left (left p ∷ ts) rest u e = (p, ap (λ l. left p ∷ l) (same_got e).1)
mark-left (_ ∷ ts) rest u e = absurd cc

pub mark-right : (ts rest : List Lexeme) (u : Unit {0}) → mark RightParen ts ≡ got u rest → (p : ℕ) × (ts ≡ right p ∷ rest)
mark-right [] rest u e = absurd cc
mark-right (right p ∷ ts) rest u e = (p, ap (λ l. right p ∷ l) (same_got e).1)
mark-right (_ ∷ ts) rest u e = absurd cc

-- a word that is the given one
given : (word_at : List ℕ → List Lexeme → List Lexeme) (text w : List ℕ) (ts rest : List Lexeme) (u : Unit {0}) (equal_texts : Bool) → bytes_eq w text ≡ equal_texts
    → cond equal_texts (got tt ts) (stuck Shape (word_at w ts)) ≡ got u rest → word_at w ts ≡ word_at text rest
given word_at text w ts rest u true is e = rw ((bytes_eq-Decides w text).0 is, (same_got e).1) refl
given word_at text w ts rest u false is e = absurd cc

-- a given word that was read
pub literal-name : (text : List ℕ) (ts rest : List Lexeme) (u : Unit {0}) → literal Name text ts ≡ got u rest → (p : ℕ) × (ts ≡ name text p ∷ rest)
literal-name text [] rest u e = absurd cc
literal-name text (name w p ∷ ts) rest u e = (p, given (λ w ts. name w p ∷ ts) text w ts rest u (bytes_eq w text) refl e)
literal-name text (_ ∷ ts) rest u e = absurd cc
