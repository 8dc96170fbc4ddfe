-- Words of a line that are read as one token each.
use Rattle.std.proofs.Common.{◌≡◌, ℕ, ◌+◌, eqb, Bool, true, false, ◌&&◌, ◌||◌, List, [], ◌∷◌, ◌++◌, length, codes, if◌then◌else◌, refl, ap, arith}
use Rattle.std.specs.List.{list_all}
use Rattle.std.specs.Char.{to_ascii_lowercase}
use Rattle.std.proofs.lemmas.Bool.Decides.{nat_tests}
use Rattle.flag_rules.specs.Name.{IsName, is_small, is_digit, begins_name, is_name_byte}
use Rattle.pddl_lexer.specs.declared.lexer.Kind.{Kind}
use Rattle.pddl_lexer.specs.declared.lexer.Kind.TheVariants.{LeftParen, RightParen, Name, Variable, Keyword, Dash}
use Rattle.pddl_lexer.specs.declared.lexer.Piece.TheVariants.{Spelled}
use Rattle.pddl_lexer.specs.Lexing.{is_blank, starts_name, name_len, piece_of}
use Rattle.pddl_forms.specs.Lexemes.{lower}
use Rattle.pddl_parser.specs.Spelled.{IsVariable}

-- the kind of a word, by its first byte
abbrev pub kind_of : List ℕ → Kind
kind_of [] = Name
kind_of (b ∷ bs) =
    if eqb b 40 then LeftParen else (if eqb b 41 then RightParen else (if eqb b 45 then Dash else (if eqb b 58 then Keyword else (if eqb b 63 then Variable else Name))))

-- the word stands as one token before bytes that go on with no byte of a name
abbrev pub IsFront : List ℕ → List ℕ → Type 0
IsFront [] more = ⊥
IsFront (b ∷ bs) more = piece_of b (bs ++ more) ≡ Spelled (kind_of (b ∷ bs)) (length (b ∷ bs))

-- a word in lower case that is read as one token
pub record IsToken (w : List ℕ) : Type 0 where
  pub front : (more : List ℕ) → name_len more ≡ 0 → IsFront w more
  pub small : lower w ≡ w

abbrev is_later : ℕ → Bool
is_later x = is_small x || is_digit x || eqb x 45 || eqb x 95

later-name : (b : ℕ) → is_later b ≡ true → is_name_byte b ≡ true
later-name b is = grind (arith, nat_tests)

later-small : (b : ℕ) → is_later b ≡ true → to_ascii_lowercase b ≡ b
later-small b is = grind (arith, nat_tests)

and-true : (a b : Bool) → (a && b) ≡ true → (a ≡ true) × (b ≡ true)
and-true true b is = (refl, is)
and-true false b is = absurd (cc)

name_len-later : (bs more : List ℕ) → list_all is_later bs ≡ true → name_len more ≡ 0 → name_len (bs ++ more) ≡ length bs
name_len-later [] more all none = none
name_len-later (b ∷ bs) more all none =
    let both = and-true (is_later b) (list_all is_later bs) all in
    rw (later-name b both.0) (let e = name_len-later bs more both.1 none in omega arith)

lower-later : (bs : List ℕ) → list_all is_later bs ≡ true → lower bs ≡ bs
lower-later [] all = refl
lower-later (b ∷ bs) all =
    let both = and-true (is_later b) (list_all is_later bs) all in
    let first = later-small b both.0 in
    let rest = lower-later bs both.1 in cc

-- what begins a name
record Begins (b : ℕ) : Type 0 where
  blank : is_blank b ≡ false
  semicolon : eqb b 59 ≡ false
  left : eqb b 40 ≡ false
  right : eqb b 41 ≡ false
  equal : eqb b 61 ≡ false
  begins : begins_name b ≡ true
  dash : eqb b 45 ≡ false
  colon : eqb b 58 ≡ false
  question : eqb b 63 ≡ false
  later : is_later b ≡ true

begins : (b : ℕ) → (is_small b || is_digit b) ≡ true → Begins b
begins b is = record {
  blank = grind (arith, nat_tests);
  semicolon = grind (arith, nat_tests);
  left = grind (arith, nat_tests);
  right = grind (arith, nat_tests);
  equal = grind (arith, nat_tests);
  begins = grind (arith, nat_tests);
  dash = grind (arith, nat_tests);
  colon = grind (arith, nat_tests);
  question = grind (arith, nat_tests);
  later = grind (arith, nat_tests);
}

-- the first byte of a name, and the bytes after it
record IsNameOf (b : ℕ) (bs : List ℕ) : Type 0 where
  first : Begins b
  later : list_all is_later bs ≡ true

name_of : (b : ℕ) (bs : List ℕ) → IsName (b ∷ bs) → IsNameOf b bs
name_of b bs is =
    let both = and-true (is_small b || is_digit b) (list_all is_later bs) is in
    record { first = begins b both.0; later = both.1 }

pub kind-name : (w : List ℕ) → IsName w → kind_of w ≡ Name
kind-name [] is = refl
kind-name (b ∷ bs) is = let f = (name_of b bs is).first in rw (f.left, f.right, f.dash, f.colon, f.question) refl

pub token-name : (w : List ℕ) → IsName w → IsToken w
unfolding piece_of
token-name [] is = absurd (cc)
token-name (b ∷ bs) is =
    let n = name_of b bs is in
    let f = n.first in
    record {
      front = λ more none.
          let size : name_len (bs ++ more) + 1 ≡ length (b ∷ bs) = let e = name_len-later bs more n.later none in omega arith in
          rw (f.blank, f.semicolon, f.left, f.right, f.equal, f.begins, f.dash, f.colon, f.question) (ap (Spelled Name) size);
      small = lower-later (b ∷ bs) (rw (f.later, n.later) refl);
    }

-- after a first byte, a name that makes one token with it
starts : (bs : List ℕ) → IsName bs → (more : List ℕ) → starts_name (bs ++ more) ≡ true
starts [] is more = absurd (cc)
starts (b ∷ bs) is more = (name_of b bs is).first.begins

all-later : (bs : List ℕ) → IsName bs → list_all is_later bs ≡ true
all-later [] is = refl
all-later (b ∷ bs) is = let n = name_of b bs is in rw (n.first.later, n.later) refl

pub token-keyword : (bs : List ℕ) → IsName bs → IsToken (58 ∷ bs)
unfolding piece_of
token-keyword bs is = record {
  front = λ more none.
      let size : name_len (bs ++ more) + 1 ≡ length (58 ∷ bs) = let e = name_len-later bs more (all-later bs is) none in omega arith in
      rw (starts bs is more) (ap (Spelled Keyword) size);
  small = ap (λ l. 58 ∷ l) (lower-later bs (all-later bs is));
}

token-mark : (bs : List ℕ) → IsName bs → IsToken (63 ∷ bs)
unfolding piece_of
token-mark bs is = record {
  front = λ more none.
      let size : name_len (bs ++ more) + 1 ≡ length (63 ∷ bs) = let e = name_len-later bs more (all-later bs is) none in omega arith in
      rw (starts bs is more) (ap (Spelled Variable) size);
  small = ap (λ l. 63 ∷ l) (lower-later bs (all-later bs is));
}

pub kind-variable : (w : List ℕ) → IsVariable w → kind_of w ≡ Variable
kind-variable [] is = absurd is
kind-variable (b ∷ bs) is = rw is.0 refl

pub token-variable : (w : List ℕ) → IsVariable w → IsToken w
token-variable [] is = absurd is
token-variable (b ∷ bs) is = let first = is.0 in rw first (token-mark bs is.1)

pub token-open : IsToken (codes "(")
unfolding piece_of
token-open = record { front = λ more none. refl; small = refl }

pub token-close : IsToken (codes ")")
unfolding piece_of
token-close = record { front = λ more none. refl; small = refl }

pub token-dash : IsToken (codes "-")
unfolding piece_of
token-dash = record { front = λ more none. refl; small = refl }
