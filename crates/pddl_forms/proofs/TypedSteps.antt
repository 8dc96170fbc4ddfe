-- Typed lists are read step by step: where a word, a type or the right parenthesis comes next.
use Rattle.std.proofs.Common.{◌≡◌, ℕ, Bool, true, false, cond, ◌&&◌, List, [], ◌∷◌, ◌++◌, map, drop, Some, None, Result, Ok, Err, codes, refl, ap, ◌∙◌}
use Rattle.pddl_lexer.specs.declared.lexer.Kind.{Kind}
use Rattle.pddl_lexer.specs.declared.lexer.Kind.TheVariants.{LeftParen, RightParen, Name, Variable, Keyword, Dash, Equal}
use Rattle.pddl_lexer.specs.declared.lexer.Token.{Token}
use Rattle.pddl_forms.specs.declared.stop.Why.{Why}
use Rattle.pddl_forms.specs.declared.stop.Why.TheVariants.{Shape, Unsupported}
use Rattle.pddl_forms.specs.declared.stop.Stop.{Stop}
use Rattle.pddl_forms.specs.declared.stop.Stop.TheVariants.{Refused, OutOfMemory}
use Rattle.pddl_forms.specs.declared.texts.Word.{Word}
use Rattle.pddl_forms.specs.declared.texts.Typed.{Typed}
use Rattle.pddl_forms.specs.Lexemes.{Lexeme, left, right, name, dash, lexeme, lexemes}
use Rattle.pddl_forms.specs.Forms.{typed}
use Rattle.pddl_forms.specs.Inner.Reading.{Read, Reads, got, stuck, comes, comes_as, mark, any_word}
use Rattle.pddl_forms.specs.Inner.TypedReading.{is_gap, some_words, words_of, type_of}
use Rattle.pddl_forms.specs.Inner.GroupReading.{GivesType, ReadsType, ReadsGroupType, IsWhyNoType}
use Rattle.pddl_forms.proofs.Fronts.{same_got}

-- a gap is read of no token
no_gap : (kind : Kind) (text : List ℕ) (at : ℕ) → is_gap (lexeme kind text at) ≡ false
no_gap LeftParen text at = refl
no_gap RightParen text at = refl
no_gap Name text at = refl
no_gap Variable text at = refl
no_gap Keyword text at = refl
no_gap Dash text at = refl
no_gap Equal text at = refl

-- after a dash and a left parenthesis, at the tokens of a text
pub no_type_of-tokens : (bytes : List ℕ) (tokens : List Token) (either : Bool) → comes_as Name (codes "either") (lexemes bytes tokens) ≡ either → IsWhyNoType (lexemes bytes tokens) (cond either Unsupported Shape)
unfolding words_of
no_type_of-tokens bytes [] either is kind done waiting = rw (← is) refl
no_type_of-tokens bytes (t ∷ ts) either is kind done waiting = rw (no_gap, is) refl

-- after a dash
pub type_of-left : (ts : List Lexeme) (why : Why) → comes LeftParen ts ≡ true → IsWhyNoType (drop 1 ts) why → ReadsType ts (Err (Refused why)) (drop 1 ts)
unfolding words_of
type_of-left [] why is no_type kind done waiting = absurd cc
type_of-left (left p ∷ ts) why is no_type kind done waiting = no_type kind done waiting
type_of-left (_ ∷ ts) why is no_type kind done waiting = absurd cc

pub type_of-name : (ts rest : List Lexeme) (result : Result Word Stop) → comes LeftParen ts ≡ false → Reads (any_word Name ts) result rest → ReadsType ts result rest
unfolding words_of
type_of-name ts rest (Err OutOfMemory) none e kind done waiting = tt
type_of-name [] rest (Ok of) none e kind done waiting = absurd cc
type_of-name (name text p ∷ ts) rest (Ok of) none e kind done waiting =
    let same = same_got e in
    ap (λ w. words_of kind (done ++ map (typed (Some w)) waiting) [] ts) same.0 ∙ ap (λ l. words_of kind (done ++ map (typed (Some of)) waiting) [] l) same.1
type_of-name (_ ∷ ts) rest (Ok of) none e kind done waiting = absurd cc
type_of-name [] rest (Err (Refused why)) none e kind done waiting = cc
type_of-name (name text p ∷ ts) rest (Err (Refused why)) none e kind done waiting = absurd cc
type_of-name (left p ∷ ts) rest (Err (Refused why)) none e kind done waiting = absurd cc
type_of-name (_ ∷ ts) rest (Err (Refused why)) none e kind done waiting = cc

and_false : (b : Bool) → (b && false) ≡ false
and_false true = refl
and_false false = refl

-- after no words
pub group-empty : (ts : List Lexeme) → ReadsGroupType [] ts (Err (Refused Shape)) ts
unfolding words_of
group-empty [] kind done closed other = refl
group-empty (t ∷ ts) kind done closed other = rw (closed, other, and_false) refl

-- after some words
pub some_words-found : (waiting : List Word) → (waiting ≡ [] → ⊥) → some_words waiting ≡ true
some_words-found [] some = absurd (some refl)
some_words-found (w ∷ waiting) some = refl

dash_next : (kind : Kind) (done : List Typed) (waiting : List Word) (ts mid : List Lexeme) (u : Unit {0}) → some_words waiting ≡ true → comes kind ts ≡ false → mark Dash ts ≡ got u mid → words_of kind done waiting ts ≡ type_of kind done waiting mid
unfolding words_of
dash_next kind done waiting [] mid u some other e = absurd cc
dash_next kind done waiting (dash p ∷ ts) mid u some other e = let same = same_got e in rw (other, some) (ap (type_of kind done waiting) same.1)
dash_next kind done waiting (_ ∷ ts) mid u some other e = absurd cc

no_dash_next : (kind : Kind) (done : List Typed) (waiting : List Word) (ts bad : List Lexeme) (why : Why) → comes RightParen ts ≡ false → comes kind ts ≡ false → mark Dash ts ≡ stuck why bad → words_of kind done waiting ts ≡ stuck why bad
unfolding words_of
no_dash_next kind done waiting [] bad why closed other e = cc
no_dash_next kind done waiting (dash p ∷ ts) bad why closed other e = absurd cc
no_dash_next kind done waiting (right p ∷ ts) bad why closed other e = absurd cc
no_dash_next kind done waiting (_ ∷ ts) bad why closed other e = rw other (cc)

GivesType-same : (kind : Kind) (done : List Typed) (waiting : List Word) (list other : Read (List Typed)) (result : Result Word Stop) (rest : List Lexeme) → list ≡ other → GivesType kind done waiting other result rest → GivesType kind done waiting list result rest
GivesType-same kind done waiting list other result rest e gives = rw e gives

pub group-dash : (waiting : List Word) (ts mid rest : List Lexeme) (u : Unit {0}) (result : Result Word Stop) → some_words waiting ≡ true → mark Dash ts ≡ got u mid → ReadsType mid result rest → ReadsGroupType waiting ts result rest
group-dash waiting ts mid rest u result some is reads kind done closed other =
    GivesType-same kind done waiting _ _ result rest (dash_next kind done waiting ts mid u some other is) (reads kind done waiting)

pub group-no_dash : (waiting : List Word) (ts bad : List Lexeme) (stop : Stop) → Reads (mark Dash ts) (Err stop) bad → ReadsGroupType waiting ts (Err stop) bad
group-no_dash waiting ts bad (Refused why) is kind done closed other = no_dash_next kind done waiting ts bad why closed other is
group-no_dash waiting ts bad OutOfMemory is kind done closed other = tt

-- one more word
pub word-next : (kind : Kind) (done : List Typed) (waiting : List Word) (ts rest : List Lexeme) (w : Word) → comes RightParen ts ≡ false → comes kind ts ≡ true → any_word kind ts ≡ got w rest
    → words_of kind done waiting ts ≡ words_of kind done (waiting ++ w ∷ []) rest
unfolding words_of
word-next kind done waiting [] rest w closed is e = absurd cc
word-next kind done waiting (t ∷ ts) rest w closed is e =
    let same = same_got (rw is at e) in
    rw (closed, is) (ap (λ v. words_of kind done (waiting ++ v ∷ []) ts) same.0 ∙ ap (words_of kind done (waiting ++ w ∷ [])) same.1)

-- the right parenthesis
pub right-next : (kind : Kind) (done : List Typed) (waiting : List Word) (ts : List Lexeme) → comes RightParen ts ≡ true → words_of kind done waiting ts ≡ got (done ++ map (typed None) waiting) (drop 1 ts)
unfolding words_of
right-next kind done waiting [] closed = absurd cc
right-next kind done waiting (t ∷ ts) closed = rw closed refl
