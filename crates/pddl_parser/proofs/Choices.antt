-- Readers of things that come in any order: each begins with its keyword, and some may come once alone.
use Rattle.std.proofs.Common.{◌≡◌, ℕ, ◌≤◌, Bool, true, false, not, cond, ◌||◌, ◌&&◌, ◌⊎◌, inl, inr, bytes_eq, List, [], ◌∷◌, length, codes, refl, sym, ap, ◌∙◌, subst, arith}
use Rattle.std.specs.List.{list_any}
use Rattle.std.proofs.lemmas.List.{length-append}
use Rattle.std.proofs.lemmas.Slice.Eq.{bytes_eq-Decides}
use Rattle.pddl_lexer.specs.declared.lexer.Kind.TheVariants.{Keyword}
use Rattle.pddl_forms.specs.declared.stop.Why.TheVariants.{Shape, Unsupported}
use Rattle.pddl_forms.specs.Lexemes.{Lexeme, name, keyword, gap}
use Rattle.pddl_forms.specs.Inner.Reading.{got, stuck, is_of, word_of}
use Rattle.pddl_forms.specs.Forms.{is_one_of}
use Rattle.pddl_forms.specs.Offending.{requirement_keywords}
use Rattle.pddl_forms.specs.Offending.{part_keywords, IsOtherKeyword, IsUnsupported, other_section, other_requirement, other_part, reserved_head, either_type, IsKind}
use Rattle.pddl_parser.specs.Inner.Choosing.{is_keyword, why_no_keyword, requirement, Choice, any_may, takes_key, after_key, choice_of}
use Rattle.pddl_forms.proofs.Fronts.{same_got}
use Rattle.pddl_forms.proofs.Readers.{Reader, Conforms, Passes-read, Outcome, passes, refuses, IsReader, reader-starts}
use Rattle.pddl_parser.proofs.Offences.{Refuses-read}
use Rattle.pddl_forms.proofs.Branches.{Branch, single, neither}

-- a keyword that was found
pub keyword_found : (text : List ℕ) (t : Lexeme) → is_keyword text t ≡ true → (p : ℕ) × (t ≡ keyword text p)
keyword_found text (keyword w p) e = (p, ap (λ w. keyword w p) ((bytes_eq-Decides w text).0 e))
keyword_found text _ e = absurd cc

-- no word is one of both lists
abbrev pub Apart : List (List ℕ) → List (List ℕ) → Type 0
Apart ks gs = (text : List ℕ) → is_one_of ks text ≡ true → is_one_of gs text ≡ true → ⊥

pub apart : (ks gs : List (List ℕ)) → list_any (is_one_of gs) ks ≡ false → Apart ks gs
apart [] gs none text k g = absurd cc
apart (key ∷ ks) gs none text k g = go (apart ks gs both.1 text) (bytes_eq text key) refl
  where
    both : (is_one_of gs key ≡ false) × (list_any (is_one_of gs) ks ≡ false)
    both = neither (is_one_of gs key) (list_any (is_one_of gs) ks) none

    go : (is_one_of ks text ≡ true → is_one_of gs text ≡ true → ⊥) → (b : Bool) → bytes_eq text key ≡ b → ⊥
    go further true is = let same = (bytes_eq-Decides text key).0 is in let found : is_one_of gs key ≡ true = ap (is_one_of gs) (sym same) ∙ g in let none = both.0 in absurd cc
    go further false is = let other : is_one_of ks text ≡ true = ap (λ b. b || is_one_of ks text) (sym is) ∙ k in further other g

-- the keywords of a place are those of one row of the table, and apart from those of the others
pub record IsPlace (sections keys : List (List ℕ)) : Type 0 where
  pub one : (sections ≡ keys) ⊎ ((requirement_keywords ≡ keys) ⊎ (part_keywords ≡ keys))
  pub section : (sections ≡ keys) ⊎ Apart sections keys
  pub requirement : (requirement_keywords ≡ keys) ⊎ Apart requirement_keywords keys
  pub part : (part_keywords ≡ keys) ⊎ Apart part_keywords keys

-- another keyword in such a place is left out
row : (sections keys : List (List ℕ)) → IsPlace sections keys → (May : Lexeme → Type 0) (t : Lexeme) → IsOtherKeyword keys May t → IsUnsupported sections May t
row sections keys place May t other = go place.one
  where
    go : (sections ≡ keys) ⊎ ((requirement_keywords ≡ keys) ⊎ (part_keywords ≡ keys)) → IsUnsupported sections May t
    go (inl same) = other_section (subst (λ g. IsOtherKeyword g May t) (sym same) other)
    go (inr (inl same)) = other_requirement (subst (λ g. IsOtherKeyword g May t) (sym same) other)
    go (inr (inr same)) = other_part (subst (λ g. IsOtherKeyword g May t) (sym same) other)

-- in the place of a keyword other keywords are left out where one may stand, and nothing else is
module _ (sections keys : List (List ℕ)) (place : IsPlace sections keys) (takes : Lexeme → Bool) (may : Bool)
    (only : (t : Lexeme) → takes t ≡ true → (is_of Keyword t && is_one_of keys (word_of t).text) ≡ true)
    (some : may ≡ true → (text : List ℕ) × (is_one_of keys text ≡ true) × ((at : ℕ) → takes (keyword text at) ≡ true)) (none : may ≡ false → (t : Lexeme) → takes t ≡ true → ⊥) where
  left_out : (t : Lexeme) → (is_of Keyword t && (not (is_one_of keys (word_of t).text) && may)) ≡ true → IsUnsupported sections (λ u. takes u ≡ true) t
  left_out (keyword text p) e = row sections keys place _ _ ((text, p, refl, not_there (is_one_of keys text) may e), (let key = some (there (is_one_of keys text) may e) in (key.0, 0, key.1, key.2 0)))
    where
      not_there : (a b : Bool) → (not a && b) ≡ true → a ≡ false
      not_there true b e = absurd cc
      not_there false b e = refl

      there : (a b : Bool) → (not a && b) ≡ true → b ≡ true
      there true b e = absurd cc
      there false b e = e
  left_out _ e = absurd cc

  -- another keyword where one of these may stand
  shown : (t : Lexeme) → IsOtherKeyword keys (λ u. takes u ≡ true) t → (is_of Keyword t && (not (is_one_of keys (word_of t).text) && may)) ≡ true
  shown t (is, there) = go may refl
    where
      go : (b : Bool) → may ≡ b → (is_of Keyword t && (not (is_one_of keys (word_of t).text) && may)) ≡ true
      go true e = rw (is.2, is.3, e) refl
      go false e = absurd (none e (keyword there.0 there.1) there.3)

  by_row : (group : List (List ℕ)) (t : Lexeme) → (group ≡ keys) ⊎ Apart group keys → IsOtherKeyword group (λ u. takes u ≡ true) t → (is_of Keyword t && (not (is_one_of keys (word_of t).text) && may)) ≡ true
  by_row group t (inl same) other = shown t (subst (λ g. IsOtherKeyword g (λ u. takes u ≡ true) t) same other)
  by_row group t (inr apart) (is, there) = absurd (apart there.0 there.2 (only (keyword there.0 there.1) there.3))

  not_left_out : (t : Lexeme) → IsUnsupported sections (λ u. takes u ≡ true) t → (is_of Keyword t && (not (is_one_of keys (word_of t).text) && may)) ≡ true
  not_left_out t (other_section other) = by_row sections t place.section other
  not_left_out t (other_requirement other) = by_row requirement_keywords t place.requirement other
  not_left_out t (other_part other) = by_row part_keywords t place.part other
  not_left_out t (reserved_head is there) = let no_name = only (name [] 0) (there.0 [] 0 refl) in absurd cc
  not_left_out t (either_type is there) = let no_name = only (gap 0) (there 0) in absurd cc

  pub keyword-conforms : Conforms sections takes (why_no_keyword keys may)
  keyword-conforms t e = go (is_of Keyword t && (not (is_one_of keys (word_of t).text) && may)) refl
    where
      go : (b : Bool) → (is_of Keyword t && (not (is_one_of keys (word_of t).text) && may)) ≡ b → IsKind (cond b Unsupported Shape) (IsUnsupported sections (λ u. takes u ≡ true) t)
      go true is = left_out t is
      go false is = λ out. let is_so = not_left_out t out in absurd cc

-- a word of `:requirements`
pub requirement-branch : (sections : List (List ℕ)) → IsPlace sections requirement_keywords → Branch sections requirement
requirement-branch sections place =
    single requirement takes (why_no_keyword requirement_keywords true) word_of refl (λ t other. refl) (keyword (codes ":strips") 0) refl
    (keyword-conforms sections requirement_keywords place takes true (λ t e. e) (λ e. (codes ":strips", refl, λ at. refl)) (λ e. absurd cc))
  where
    takes : Lexeme → Bool
    takes t = is_of Keyword t && is_one_of requirement_keywords (word_of t).text

-- a reader leaves no more than there was
pub reader-stays : {A : Type 0} {sections : List (List ℕ)} (p : Reader A) → IsReader sections p → (ts rest : List Lexeme) (value : A) → p ts ≡ got value rest → length rest ≤ length ts
reader-stays {sections = sections} p reads ts rest value e = go (reads ts)
  where
    go : Outcome sections p ts → length rest ≤ length ts
    go (passes {rest = left_over} r) =
        let same = same_got (sym (Passes-read r) ∙ e) in
        omega (arith, ap length r.split, length-append r.front left_over, ap length same.1)
    go (refuses {why = why} {bad = bad} r) = let stops = Refuses-read sections p ts bad why r in absurd cc

-- choices whose keywords are those of the place, and whose bodies are readers
pub record AreChoices {S : Type 0} (sections keys : List (List ℕ)) (choices : List (Choice S)) : Type 0 where
  pub place : IsPlace sections keys
  pub keyed : (seen : S) (t : Lexeme) → takes_key choices seen t ≡ true → (is_of Keyword t && is_one_of keys (word_of t).text) ≡ true
  pub reads : (seen : S) (t : Lexeme) → takes_key choices seen t ≡ true → IsReader sections (after_key choices seen t)

-- a choice that may come
key_that_may : {S : Type 0} (choices : List (Choice S)) (seen : S) → any_may choices seen ≡ true → (text : List ℕ) × ((at : ℕ) → takes_key choices seen (keyword text at) ≡ true)
key_that_may [] seen e = absurd cc
key_that_may (c ∷ choices) seen e = go (key_that_may choices seen) (c.may seen) refl
  where
    either_way : (a b : Bool) → b ≡ true → (a || b) ≡ true
    either_way true b e = refl
    either_way false b e = e

    go : (any_may choices seen ≡ true → (text : List ℕ) × ((at : ℕ) → takes_key choices seen (keyword text at) ≡ true)) → (b : Bool) → c.may seen ≡ b → (text : List ℕ) × ((at : ℕ) → takes_key (c ∷ choices) seen (keyword text at) ≡ true)
    go further true is = (c.key, λ at. rw ((bytes_eq-Decides c.key c.key).1 refl, is) refl)
    go further false is =
        let other : any_may choices seen ≡ true = ap (λ b. b || any_may choices seen) (sym is) ∙ e in
        let key = further other in
        (key.0, λ at. either_way _ _ (key.1 at))

no_key_may : {S : Type 0} (choices : List (Choice S)) (seen : S) (t : Lexeme) → any_may choices seen ≡ false → takes_key choices seen t ≡ false
no_key_may [] seen t e = refl
no_key_may (c ∷ choices) seen t e =
    let both = neither (c.may seen) (any_may choices seen) e in
    rw (both.0, no_key_may choices seen t both.1) (never (is_keyword c.key t))
  where
    never : (a : Bool) → (a && false || false) ≡ false
    never true = refl
    never false = refl

-- one of the choices, where one may come
module _ {S : Type 0} (sections keys : List (List ℕ)) (choices : List (Choice S)) (are : AreChoices sections keys choices) (seen : S) where
  pub choice-refused : (t : Lexeme) (other : List Lexeme) → takes_key choices seen t ≡ false → choice_of keys choices seen (t ∷ other) ≡ stuck (why_no_keyword keys (any_may choices seen) t) (t ∷ other)
  unfolding choice_of
  choice-refused t other e = rw e refl

  pub choice-followed : (t : Lexeme) (other : List Lexeme) → takes_key choices seen t ≡ true → choice_of keys choices seen (t ∷ other) ≡ after_key choices seen t other
  unfolding choice_of
  choice-followed t other e = rw e refl

  pub choice-conforms : Conforms sections (takes_key choices seen) (why_no_keyword keys (any_may choices seen))
  choice-conforms =
      keyword-conforms sections keys are.place (takes_key choices seen) (any_may choices seen) (are.keyed seen)
      (λ e. let key = key_that_may choices seen e in (key.0, are.keyed seen (keyword key.0 0) (key.1 0), key.1))
      (λ e t takes. let none = no_key_may choices seen t e in absurd cc)

  pub choice-branch : any_may choices seen ≡ true → Branch sections (choice_of keys choices seen)
  unfolding choice_of
  choice-branch e =
      let key = key_that_may choices seen e in
      record {
        fork = record {
          takes = takes_key choices seen;
          kind = why_no_keyword keys (any_may choices seen);
          after = after_key choices seen;
          at_end = refl;
          refused = choice-refused;
          followed = choice-followed;
          starts = λ t takes. reader-starts (are.reads seen t takes);
          first = keyword key.0 0;
          first_taken = key.1 0;
          conforms = choice-conforms;
        };
        reads = are.reads seen;
      }
