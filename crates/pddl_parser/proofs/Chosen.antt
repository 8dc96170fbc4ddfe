-- What is read where one of several keywords may come, as a chain of tests: the first keyword that stands there and may come.
use Rattle.std.proofs.Common.{◌≡◌, ℕ, zero, suc, Bool, true, false, not, cond, ◌||◌, ◌&&◌, List, [], ◌∷◌, drop, Result, Err, refl, sym, ap, ◌∙◌, subst}
use Rattle.std.specs.List.{list_any}
use Rattle.pddl_lexer.specs.declared.lexer.Kind.TheVariants.{LeftParen, Keyword}
use Rattle.pddl_forms.specs.declared.stop.Why.{Why}
use Rattle.pddl_forms.specs.declared.stop.Why.TheVariants.{Shape, Unsupported}
use Rattle.pddl_forms.specs.declared.stop.Stop.{Stop}
use Rattle.pddl_forms.specs.declared.stop.Stop.TheVariants.{Refused, OutOfMemory}
use Rattle.pddl_forms.specs.Lexemes.{Lexeme}
use Rattle.pddl_forms.specs.Forms.{is_one_of}
use Rattle.pddl_forms.specs.Inner.Reading.{Read, Reads, got, stuck, and_then, is_of, word_of, comes, comes_as, mark, in_list}
use Rattle.pddl_parser.specs.Inner.Choosing.{is_keyword, why_no_keyword, Choice, any_may, takes_key, after_key, choice_of}
use Rattle.pddl_parser.specs.Inner.SectionReading.{section_of}

-- one of these keywords comes first
abbrev pub comes_key : List (List ℕ) → List Lexeme → Bool
comes_key keys ts = list_any (λ key. comes_as Keyword key ts) keys

-- why what comes first may not stand in the place of a keyword
abbrev pub why_none : List (List ℕ) → Bool → List Lexeme → Why
why_none keys may ts = cond (comes Keyword ts && (not (comes_key keys ts) && may)) Unsupported Shape

-- the body of the first choice whose keyword comes and that may come, or what is read otherwise
abbrev pub chosen : {S : Type 0} → List (Choice S) → S → List Lexeme → Read S → Read S
chosen [] seen ts otherwise = otherwise
chosen (c ∷ choices) seen ts otherwise = cond (comes_as Keyword c.key ts && c.may seen) (c.body seen (drop 1 ts)) (chosen choices seen ts otherwise)

key-any : (keys : List (List ℕ)) (t : Lexeme) (ts : List Lexeme) → is_of Keyword t ≡ true → comes_key keys (t ∷ ts) ≡ is_one_of keys (word_of t).text
key-any [] t ts is = refl
key-any (key ∷ keys) t ts is = rw (is, key-any keys t ts is) refl

why-is : (keys : List (List ℕ)) (may : Bool) (t : Lexeme) (ts : List Lexeme) → why_none keys may (t ∷ ts) ≡ why_no_keyword keys may t
why-is keys may t ts = go (is_of Keyword t) refl
  where
    go : (b : Bool) → is_of Keyword t ≡ b → why_none keys may (t ∷ ts) ≡ why_no_keyword keys may t
    go true is = ap (λ b. cond (is_of Keyword t && (not b && may)) Unsupported Shape) (key-any keys t ts is)
    go false is = rw is refl

chosen-end : {S : Type 0} (choices : List (Choice S)) (seen : S) (otherwise : Read S) → chosen choices seen [] otherwise ≡ otherwise
chosen-end [] seen otherwise = refl
chosen-end (c ∷ choices) seen otherwise = chosen-end choices seen otherwise

chosen-cons : {S : Type 0} (choices : List (Choice S)) (seen : S) (t : Lexeme) (ts : List Lexeme) (otherwise : Read S) → cond (takes_key choices seen t) (after_key choices seen t ts) otherwise ≡ chosen choices seen (t ∷ ts) otherwise
chosen-cons [] seen t ts otherwise = refl
chosen-cons (c ∷ choices) seen t ts otherwise = go (chosen-cons choices seen t ts otherwise) (is_keyword c.key t && c.may seen)
  where
    go : cond (takes_key choices seen t) (after_key choices seen t ts) otherwise ≡ chosen choices seen (t ∷ ts) otherwise → (b : Bool)
        → cond (b || takes_key choices seen t) (cond b (c.body seen ts) (after_key choices seen t ts)) otherwise ≡ cond b (c.body seen ts) (chosen choices seen (t ∷ ts) otherwise)
    go further true = refl
    go further false = further

pub choice-is : {S : Type 0} (keys : List (List ℕ)) (choices : List (Choice S)) (seen : S) (ts : List Lexeme) → choice_of keys choices seen ts ≡ chosen choices seen ts (stuck (why_none keys (any_may choices seen) ts) ts)
unfolding choice_of
choice-is keys choices seen [] = sym (chosen-end choices seen (stuck Shape []))
choice-is keys choices seen (t ∷ ts) =
    ap (λ why. cond (takes_key choices seen t) (after_key choices seen t ts) (stuck why (t ∷ ts))) (sym (why-is keys (any_may choices seen) t ts)) ∙ chosen-cons choices seen t ts (stuck (why_none keys (any_may choices seen) (t ∷ ts)) (t ∷ ts))

-- the choice after so many others is the first whose keyword comes and that may come, and this is read of its body
abbrev pub IsTaken : {S : Type 0} → ℕ → List (Choice S) → S → List Lexeme → Result S Stop → List Lexeme → Type 0
IsTaken n [] seen ts result rest = ⊥
IsTaken zero (c ∷ choices) seen ts result rest = ((comes_as Keyword c.key ts && c.may seen) ≡ true) × Reads (c.body seen (drop 1 ts)) result rest
IsTaken (suc n) (c ∷ choices) seen ts result rest = ((comes_as Keyword c.key ts && c.may seen) ≡ false) × IsTaken n choices seen ts result rest

chosen-taken : {S : Type 0} (n : ℕ) (choices : List (Choice S)) (seen : S) (ts : List Lexeme) (result : Result S Stop) (rest : List Lexeme) (otherwise : Read S) → IsTaken n choices seen ts result rest → Reads (chosen choices seen ts otherwise) result rest
chosen-taken n [] seen ts result rest otherwise taken = absurd taken
chosen-taken zero (c ∷ choices) seen ts result rest otherwise (is, reads) = rw is reads
chosen-taken (suc n) (c ∷ choices) seen ts result rest otherwise (is, taken) = rw is (chosen-taken n choices seen ts result rest otherwise taken)

pub choice-taken : {S : Type 0} (keys : List (List ℕ)) (choices : List (Choice S)) (seen : S) (ts : List Lexeme) (result : Result S Stop) (rest : List Lexeme) (n : ℕ) → IsTaken n choices seen ts result rest → Reads (choice_of keys choices seen ts) result rest
choice-taken keys choices seen ts result rest n taken =
    subst (λ r. Reads r result rest) (sym (choice-is keys choices seen ts)) (chosen-taken n choices seen ts result rest (stuck (why_none keys (any_may choices seen) ts) ts) taken)

-- none of some choices comes
abbrev pub NoneTaken : {S : Type 0} → List (Choice S) → S → List Lexeme → Type 0
NoneTaken [] seen ts = Unit {0}
NoneTaken (c ∷ choices) seen ts = ((comes_as Keyword c.key ts && c.may seen) ≡ false) × NoneTaken choices seen ts

chosen-none : {S : Type 0} (choices : List (Choice S)) (seen : S) (ts : List Lexeme) (otherwise : Read S) → NoneTaken choices seen ts → chosen choices seen ts otherwise ≡ otherwise
chosen-none [] seen ts otherwise none = refl
chosen-none (c ∷ choices) seen ts otherwise (is, none) = rw is (chosen-none choices seen ts otherwise none)

pub choice-none : {S : Type 0} (keys : List (List ℕ)) (choices : List (Choice S)) (seen : S) (ts : List Lexeme) (why : Why) (key may : Bool) → NoneTaken choices seen ts → key ≡ comes_key keys ts → may ≡ any_may choices seen
    → why ≡ cond (comes Keyword ts && (not key && may)) Unsupported Shape → choice_of keys choices seen ts ≡ stuck why ts
choice-none keys choices seen ts why key may none is_key is_may is =
    choice-is keys choices seen ts ∙ chosen-none choices seen ts (stuck (why_none keys (any_may choices seen) ts) ts) none ∙ ap (λ why. stuck why ts) (rw (← is_key, ← is_may) (sym is))

-- a section: its left parenthesis, and its keyword and body
module _ {S : Type 0} (keys : List (List ℕ)) (choices : List (Choice S)) (seen : S) (ts : List Lexeme) where
  section-is : any_may choices seen ≡ true → section_of keys choices seen ts ≡ in_list (choice_of keys choices seen) ts
  unfolding section_of
  section-is may = ap (λ b. cond b (in_list (choice_of keys choices seen) ts) (stuck Shape ts)) may

  pub section-full : any_may choices seen ≡ false → section_of keys choices seen ts ≡ stuck Shape ts
  unfolding section_of
  section-full may = ap (λ b. cond b (in_list (choice_of keys choices seen) ts) (stuck Shape ts)) may

  pub section-opened : (mid : List Lexeme) (u : Unit {0}) (result : Result S Stop) (rest : List Lexeme) → any_may choices seen ≡ true → mark LeftParen ts ≡ got u mid → Reads (choice_of keys choices seen mid) result rest → Reads (section_of keys choices seen ts) result rest
  unfolding and_then
  section-opened mid u result rest may e reads =
      subst (λ r. Reads r result rest) (sym (section-is may ∙ ap (λ r. and_then r (λ _ ts. choice_of keys choices seen ts)) e)) reads

  pub section-err : (stop : Stop) (bad : List Lexeme) → any_may choices seen ≡ true → Reads (mark LeftParen ts) (Err stop) bad → Reads (section_of keys choices seen ts) (Err stop) bad
  unfolding and_then
  section-err (Refused why) bad may e = section-is may ∙ ap (λ r. and_then r (λ _ ts. choice_of keys choices seen ts)) e
  section-err OutOfMemory bad may e = tt
