-- The readers of typed lists are exact on both sides.
use Rattle.std.proofs.Common.{◌≡◌, ℕ, zero, suc, Bool, true, false, cond, ◌||◌, ◌&&◌, List, [], ◌∷◌, ◌++◌, map, Some, None, codes, refl, ap, arith}
use Rattle.pddl_lexer.specs.declared.lexer.Kind.{Kind}
use Rattle.pddl_lexer.specs.declared.lexer.Kind.TheVariants.{LeftParen, RightParen, Name, Variable, Dash}
use Rattle.pddl_forms.specs.declared.stop.Why.TheVariants.{Shape, Unsupported}
use Rattle.pddl_forms.specs.declared.texts.Word.{Word}
use Rattle.pddl_forms.specs.declared.texts.Typed.{Typed}
use Rattle.pddl_forms.specs.Lexemes.{Lexeme, right, name, gap}
use Rattle.pddl_forms.specs.Inner.Reading.{got, stuck, is_of, word_of}
use Rattle.pddl_forms.specs.Offending.{IsUnsupported, other_section, other_requirement, other_part, reserved_head, either_type, IsKind}
use Rattle.pddl_forms.specs.Forms.{typed}
use Rattle.pddl_forms.specs.Inner.TypedReading.{is_name, is_gap, some_words, why_no_type, words_of, type_of, no_type_of, typed_list}
use Rattle.pddl_forms.proofs.Fronts.{literal-name}
use Rattle.pddl_forms.proofs.Readers.{Reader, Starts, Conforms, IsReader, pure-reader, pure-starts}
use Rattle.pddl_forms.proofs.Branches.{Fork, Within, reader-within, within-reader, fork-within, neither}
use Rattle.pddl_forms.proofs.OneLexeme.{nameless-conforms, names-conforms}

-- the kinds of the words of typed lists
abbrev pub is_listed : Kind → Bool
is_listed Name = true
is_listed Variable = true
is_listed _ = false

-- a name that was found
pub name_found : (text : List ℕ) (t : Lexeme) → is_name text t ≡ true → (p : ℕ) × (t ≡ name text p)
name_found text t e = let at = literal-name text (t ∷ []) [] tt (ap (λ b. cond b (got tt []) (stuck Shape (t ∷ []))) e) in (at.0, cc)

-- a gap that was found
pub gap_found : (t : Lexeme) → is_gap t ≡ true → (p : ℕ) × (t ≡ gap p)
gap_found (gap p) e = (p, refl)
gap_found _ e = absurd cc

chosen : {A : Type 0} (a b c : Bool) (x y z w : A) → (a || (b || c)) ≡ true → cond a x (cond b y (cond c z w)) ≡ cond a x (cond b y z)
chosen true b c x y z w e = refl
chosen false true c x y z w e = refl
chosen false false true x y z w e = refl
chosen false false false x y z w e = absurd cc

-- what may stand after some words
abbrev takes_word : Kind → List Word → Lexeme → Bool
takes_word kind waiting t = is_of RightParen t || (is_of kind t || (is_of Dash t && some_words waiting))

-- what may stand after a dash
abbrev takes_type : Lexeme → Bool
takes_type t = is_of Name t || is_of LeftParen t

word-conforms : (sections : List (List ℕ)) (kind : Kind) (waiting : List Word) → is_listed kind ≡ true → Conforms sections (takes_word kind waiting) (λ t. Shape)
word-conforms sections Name waiting listed = names-conforms sections (takes_word Name waiting) (λ text at. refl) (λ text at. refl)
word-conforms sections Variable waiting listed = nameless-conforms sections (takes_word Variable waiting) (λ text at. refl) refl refl
word-conforms sections _ waiting listed = absurd cc

-- only a gap may stand after a dash and a left parenthesis
no_type-conforms : (sections : List (List ℕ)) → Conforms sections is_gap why_no_type
no_type-conforms sections t e = go (is_name (codes "either") t) refl
  where
    may_not : is_name (codes "either") t ≡ false → IsUnsupported sections (λ u. is_gap u ≡ true) t → ⊥
    may_not not_either (other_section (is, there)) = let is_there = there.3 in absurd cc
    may_not not_either (other_requirement (is, there)) = let is_there = there.3 in absurd cc
    may_not not_either (other_part (is, there)) = let is_there = there.3 in absurd cc
    may_not not_either (reserved_head is there) = let is_there = there.0 (codes "x") 0 refl in absurd cc
    may_not not_either (either_type {at = at} is there) = let found : is_name (codes "either") t ≡ true = ap (is_name (codes "either")) is in absurd cc

    go : (b : Bool) → is_name (codes "either") t ≡ b → IsKind (cond b Unsupported Shape) (IsUnsupported sections (λ u. is_gap u ≡ true) t)
    go true is = let found = name_found (codes "either") t is in either_type {at = found.0} found.1 (λ at. refl)
    go false is = may_not is

module _ (sections : List (List ℕ)) (kind : Kind) (listed : is_listed kind ≡ true) where
  words-starts : (done : List Typed) (waiting : List Word) → Starts (words_of kind done waiting)
  unfolding words_of
  words-starts done waiting = record { more = right 0 ∷ []; value = done ++ map (typed None) waiting; again = λ other. refl }

  type-starts : (done : List Typed) (waiting : List Word) → Starts (type_of kind done waiting)
  unfolding words_of
  type-starts done waiting = record { more = name [] 0 ∷ right 0 ∷ []; value = (done ++ map (typed (Some (record { text = []; at = 0 }))) waiting) ++ []; again = λ other. refl }

  no_type-starts : (done : List Typed) (waiting : List Word) → Starts (no_type_of kind done waiting)
  unfolding words_of
  no_type-starts done waiting = record { more = gap 0 ∷ right 0 ∷ []; value = (done ++ map (typed None) waiting) ++ []; again = λ other. refl }

  module _ (done : List Typed) (waiting : List Word) where
    abbrev after_word : Lexeme → Reader (List Typed)
    after_word t ts = cond (is_of RightParen t) (got (done ++ map (typed None) waiting) ts) (cond (is_of kind t) (words_of kind done (waiting ++ word_of t ∷ []) ts) (type_of kind done waiting ts))

    words-refused : (t : Lexeme) (other : List Lexeme) → takes_word kind waiting t ≡ false → words_of kind done waiting (t ∷ other) ≡ stuck Shape (t ∷ other)
    unfolding words_of
    words-refused t other e =
        let closes = neither (is_of RightParen t) (is_of kind t || (is_of Dash t && some_words waiting)) e in
        let more = neither (is_of kind t) (is_of Dash t && some_words waiting) closes.1 in
        rw (closes.0, more.0, more.1) refl

    after_word-starts : (t : Lexeme) → Starts (after_word t)
    after_word-starts t = go (is_of RightParen t) (is_of kind t)
      where
        go : (a b : Bool) → Starts (λ ts. cond a (got (done ++ map (typed None) waiting) ts) (cond b (words_of kind done (waiting ++ word_of t ∷ []) ts) (type_of kind done waiting ts)))
        go true b = pure-starts _
        go false true = words-starts done (waiting ++ word_of t ∷ [])
        go false false = type-starts done waiting

    words-fork : Fork sections (words_of kind done waiting)
    unfolding words_of
    words-fork =
        record {
          takes = takes_word kind waiting;
          kind = λ t. Shape;
          after = after_word;
          at_end = refl;
          refused = words-refused;
          followed = λ t other e. chosen (is_of RightParen t) (is_of kind t) (is_of Dash t && some_words waiting) _ _ _ _ e;
          starts = λ t e. after_word-starts t;
          first = right 0;
          first_taken = refl;
          conforms = word-conforms sections kind waiting listed;
        }

    abbrev after_dash : Lexeme → Reader (List Typed)
    after_dash t ts = cond (is_of Name t) (words_of kind (done ++ map (typed (Some (word_of t))) waiting) [] ts) (no_type_of kind done waiting ts)

    type-refused : (t : Lexeme) (other : List Lexeme) → takes_type t ≡ false → type_of kind done waiting (t ∷ other) ≡ stuck Shape (t ∷ other)
    unfolding words_of
    type-refused t other e = let none = neither (is_of Name t) (is_of LeftParen t) e in rw (none.0, none.1) refl

    after_dash-starts : (t : Lexeme) → Starts (after_dash t)
    after_dash-starts t = go (is_of Name t)
      where
        go : (a : Bool) → Starts (λ ts. cond a (words_of kind (done ++ map (typed (Some (word_of t))) waiting) [] ts) (no_type_of kind done waiting ts))
        go true = words-starts _ []
        go false = no_type-starts done waiting

    type-followed : (t : Lexeme) (other : List Lexeme) → takes_type t ≡ true → type_of kind done waiting (t ∷ other) ≡ after_dash t other
    unfolding words_of
    type-followed t other e = go (is_of Name t) (is_of LeftParen t) e
      where
        go : (a b : Bool) → (a || b) ≡ true → cond a (words_of kind (done ++ map (typed (Some (word_of t))) waiting) [] other) (cond b (no_type_of kind done waiting other) (stuck Shape (t ∷ other)))
            ≡ cond a (words_of kind (done ++ map (typed (Some (word_of t))) waiting) [] other) (no_type_of kind done waiting other)
        go true b e = refl
        go false true e = refl
        go false false e = absurd cc

    type-fork : Fork sections (type_of kind done waiting)
    unfolding words_of
    type-fork =
        record {
          takes = takes_type;
          kind = λ t. Shape;
          after = after_dash;
          at_end = refl;
          refused = type-refused;
          followed = type-followed;
          starts = λ t e. after_dash-starts t;
          first = name [] 0;
          first_taken = refl;
          conforms = names-conforms sections takes_type (λ text at. refl) (λ text at. refl);
        }

    no_type-fork : Fork sections (no_type_of kind done waiting)
    unfolding words_of
    no_type-fork =
        record {
          takes = is_gap;
          kind = why_no_type;
          after = λ t ts. words_of kind (done ++ map (typed None) waiting) [] ts;
          at_end = refl;
          refused = λ t other e. rw e refl;
          followed = λ t other e. rw e refl;
          starts = λ t e. words-starts _ [];
          first = gap 0;
          first_taken = refl;
          conforms = no_type-conforms sections;
        }

  -- one more lexeme
  words-next : (n : ℕ) (done : List Typed) (waiting : List Word) → ((d : List Typed) (w : List Word) → Within sections n (words_of kind d w)) → Within sections n (type_of kind done waiting) → Within sections (suc n) (words_of kind done waiting)
  unfolding words-fork
  words-next n done waiting words type = fork-within n (words_of kind done waiting) (words-fork done waiting) (λ t e. go t (is_of RightParen t) (is_of kind t))
    where
      go : (t : Lexeme) (a b : Bool) → Within sections n (λ ts. cond a (got (done ++ map (typed None) waiting) ts) (cond b (words_of kind done (waiting ++ word_of t ∷ []) ts) (type_of kind done waiting ts)))
      go t true b = reader-within n (pure-reader _)
      go t false true = words done (waiting ++ word_of t ∷ [])
      go t false false = type

  type-next : (n : ℕ) (done : List Typed) (waiting : List Word) → ((d : List Typed) (w : List Word) → Within sections n (words_of kind d w)) → Within sections n (no_type_of kind done waiting) → Within sections (suc n) (type_of kind done waiting)
  unfolding type-fork
  type-next n done waiting words no_type = fork-within n (type_of kind done waiting) (type-fork done waiting) (λ t e. go t (is_of Name t))
    where
      go : (t : Lexeme) (a : Bool) → Within sections n (λ ts. cond a (words_of kind (done ++ map (typed (Some (word_of t))) waiting) [] ts) (no_type_of kind done waiting ts))
      go t true = words (done ++ map (typed (Some (word_of t))) waiting) []
      go t false = no_type

  no_type-next : (n : ℕ) (done : List Typed) (waiting : List Word) → ((d : List Typed) (w : List Word) → Within sections n (words_of kind d w)) → Within sections (suc n) (no_type_of kind done waiting)
  unfolding no_type-fork
  no_type-next n done waiting words = fork-within n (no_type_of kind done waiting) (no_type-fork done waiting) (λ t e. words (done ++ map (typed None) waiting) [])

  none_within : {A : Type 0} (p : Reader A) → Within sections 0 p
  none_within p ts less = absurd (omega arith)

  mutual
    words-within : (n : ℕ) (done : List Typed) (waiting : List Word) → Within sections n (words_of kind done waiting)
    words-within zero done waiting = none_within _
    words-within (suc n) done waiting = words-next n done waiting (words-within n) (type-within n done waiting)

    type-within : (n : ℕ) (done : List Typed) (waiting : List Word) → Within sections n (type_of kind done waiting)
    type-within zero done waiting = none_within _
    type-within (suc n) done waiting = type-next n done waiting (words-within n) (no_type-within n done waiting)

    no_type-within : (n : ℕ) (done : List Typed) (waiting : List Word) → Within sections n (no_type_of kind done waiting)
    no_type-within zero done waiting = none_within _
    no_type-within (suc n) done waiting = no_type-next n done waiting (words-within n)

  pub typed_list-reader : IsReader sections (typed_list kind)
  typed_list-reader = within-reader (λ n. words-within n [] [])
