-- Bytes have one reply at most: the refusal of their tokens or parentheses, or what the grammar answers.
use Rattle.std.proofs.Common.{◌≡◌, ℕ, List, [], ◌∷◌, ◌++◌, length, Some, None, Result, Ok, Err, refl, sym, ap, ◌∙◌, subst, append_assoc}
use Rattle.pddl_lexer.specs.declared.lexer.Token.{Token}
use Rattle.pddl_lexer.specs.declared.parentheses.Misplaced.{Misplaced}
use Rattle.pddl_lexer.specs.declared.parentheses.Misplaced.TheVariants as parentheses
use Rattle.pddl_lexer.specs.Lexing.{tokens_of}
use Rattle.pddl_lexer.specs.Parentheses.{misplaced_in}
use Rattle.pddl_forms.specs.declared.stop.Why.{Why}
use Rattle.pddl_forms.specs.declared.stop.Why.TheVariants as kinds
use Rattle.pddl_parser.specs.declared.refusal.ParseRefusal.{ParseRefusal}
use Rattle.pddl_parser.specs.declared.refusal.ParseRefusal.TheVariants.{Byte, Unclosed, Unopened, TooDeep, Shape, Unsupported, OutOfMemory}
use Rattle.pddl_forms.specs.Lexemes.{Lexeme, lexemes, place_of}
use Rattle.pddl_forms.specs.Offending.{Begins, IsUnsupported, IsKind, Offends}
use Rattle.pddl_forms.specs.Inner.Reading.{Read}
use Rattle.pddl_parser.specs.Inner.Answering.{refusal_of_misplaced, refusal_of_why, unless_misplaced, ordered, ordered_tokens_of}
use Rattle.pddl_parser.specs.Replies.{HasMisplaced, HasOffence, HasReply}
use Rattle.pddl_forms.proofs.Fronts.{same_got}
use Rattle.pddl_forms.proofs.ItemSteps.{Parses}

-- two readings of the same lexemes give the same
pub one_text_read : {A : Type 0} (Text : List Lexeme → A → List Lexeme → Type 0) (read : List Lexeme → Read A) → Parses Text read → (ts : List Lexeme) (x y : A) → Text ts x [] → Text ts y [] → x ≡ y
one_text_read Text read parses ts x y is is_other = (same_got (sym (parses.complete ts [] x is) ∙ parses.complete ts [] y is_other)).0

misplaced_tokens : (bytes : List ℕ) (tokens : List Token) (misplaced : Misplaced) → tokens_of bytes ≡ Ok tokens → misplaced_in tokens ≡ Some misplaced → ordered_tokens_of bytes ≡ Err (refusal_of_misplaced misplaced)
misplaced_tokens bytes tokens misplaced are is = ap ordered are ∙ ap (unless_misplaced tokens) is

ordered_tokens : (bytes : List ℕ) (tokens : List Token) → tokens_of bytes ≡ Ok tokens → misplaced_in tokens ≡ None → ordered_tokens_of bytes ≡ Ok tokens
ordered_tokens bytes tokens are none = ap ordered are ∙ ap (unless_misplaced tokens) none

-- two fronts of the same lexemes, each with the lexeme after it: they are one, or one is longer
data Fronts (front : List Lexeme) (t : Lexeme) (bad other_front : List Lexeme) (u : Lexeme) (other_bad : List Lexeme) : Type 0 where
  same : front ≡ other_front → t ≡ u → bad ≡ other_bad → Fronts front t bad other_front u other_bad
  first_shorter : (more : List Lexeme) → other_front ≡ front ++ t ∷ more → Fronts front t bad other_front u other_bad
  other_shorter : (more : List Lexeme) → front ≡ other_front ++ u ∷ more → Fronts front t bad other_front u other_bad

same_first : {A : Type 0} {x y : A} {xs ys : List A} → x ∷ xs ≡ y ∷ ys → (x ≡ y) × (xs ≡ ys)
same_first e = (cc, cc)

Fronts-after : {t u x y : Lexeme} {front bad other_front other_bad : List Lexeme} → x ≡ y → Fronts front t bad other_front u other_bad → Fronts (x ∷ front) t bad (y ∷ other_front) u other_bad
Fronts-after e (same f g h) = same (cc) g h
Fronts-after e (first_shorter more f) = first_shorter more (cc)
Fronts-after e (other_shorter more f) = other_shorter more (cc)

fronts : (front : List Lexeme) (t : Lexeme) (bad other_front : List Lexeme) (u : Lexeme) (other_bad : List Lexeme) → front ++ t ∷ bad ≡ other_front ++ u ∷ other_bad → Fronts front t bad other_front u other_bad
fronts [] t bad [] u other_bad e = same refl (same_first e).0 (same_first e).1
fronts [] t bad (y ∷ other_front) u other_bad e = first_shorter other_front (ap (λ x. x ∷ other_front) (sym (same_first e).0))
fronts (x ∷ front) t bad [] u other_bad e = other_shorter front (ap (λ y. y ∷ front) (same_first e).0)
fronts (x ∷ front) t bad (y ∷ other_front) u other_bad e = Fronts-after (same_first e).0 (fronts front t bad other_front u other_bad (same_first e).1)

one_kind : (why other : Why) (LeavesOut : Type 0) → IsKind why LeavesOut → IsKind other LeavesOut → why ≡ other
one_kind kinds.Shape kinds.Shape LeavesOut is is_other = refl
one_kind kinds.Shape kinds.Unsupported LeavesOut is is_other = absurd (is is_other)
one_kind kinds.Unsupported kinds.Shape LeavesOut is is_other = absurd (is_other is)
one_kind kinds.Unsupported kinds.Unsupported LeavesOut is is_other = refl

module _ {A : Type 0} (sections : List (List ℕ)) (Text : List Lexeme → A → List Lexeme → Type 0) where
  -- a front of what begins a text begins it
  begins-front : (front : List Lexeme) (t : Lexeme) (more : List Lexeme) → Begins Text (front ++ t ∷ more) → Begins Text (front ++ t ∷ [])
  begins-front front t more b =
      (more ++ b.0, b.1, subst (λ l. Text l b.1 []) (append_assoc front (t ∷ more) b.0 ∙ sym (append_assoc front (t ∷ []) (more ++ b.0))) b.2)

  -- lexemes that offend are no text
  pub offence_is_no_text : (ts : List Lexeme) (why : Why) (bad : List Lexeme) (text : A) → Offends sections Text ts why bad → Text ts text [] → ⊥
  offence_is_no_text ts why [] text o is = o.1 text is
  offence_is_no_text ts why (t ∷ bad) text o is = o.3 (bad, text, subst (λ l. Text l text []) (o.1 ∙ sym (append_assoc o.0 (t ∷ []) bad)) is)

  no_end : (ts : List Lexeme) (why : Why) (t : Lexeme) (bad : List Lexeme) → Begins Text ts → Offends sections Text ts why (t ∷ bad) → ⊥
  no_end ts why t bad b o = o.3 (begins-front o.0 t bad (subst (Begins Text) o.1 b))

  -- lexemes offend at one place, in one way
  pub one_offence : (ts : List Lexeme) (why other : Why) (bad other_bad : List Lexeme) → Offends sections Text ts why bad → Offends sections Text ts other other_bad → (why ≡ other) × (bad ≡ other_bad)
  one_offence ts why other [] [] o p = (o.2 ∙ sym p.2, refl)
  one_offence ts why other [] (u ∷ other_bad) o p = absurd (no_end ts other u other_bad o.0 p)
  one_offence ts why other (t ∷ bad) [] o p = absurd (no_end ts why t bad p.0 o)
  one_offence ts why other (t ∷ bad) (u ∷ other_bad) o p = go (fronts o.0 t bad p.0 u other_bad (sym o.1 ∙ p.1))
    where
      go : Fronts o.0 t bad p.0 u other_bad → (why ≡ other) × (t ∷ bad ≡ u ∷ other_bad)
      go (same f g h) = (
        one_kind why other _ o.4 (subst (λ t. IsKind other (IsUnsupported sections (λ v. Begins Text (o.0 ++ v ∷ [])) t)) (sym g) (subst (λ l. IsKind other (IsUnsupported sections (λ v. Begins Text (l ++ v ∷ [])) u)) (sym f) p.4)),
        cc,
      )
      go (first_shorter more f) = absurd (o.3 (begins-front o.0 t more (subst (Begins Text) f p.2)))
      go (other_shorter more f) = absurd (p.3 (begins-front p.0 u more (subst (Begins Text) f o.2)))

  -- what the grammar answers to lexemes that end at a place: their text, or the refusal of their offence
  pub data Answers (end : ℕ) (ts : List Lexeme) : Result A ParseRefusal → Type 0 where
    text_of : {text : A} → Text ts text [] → Answers end ts (Ok text)
    offence_of : (why : Why) (bad : List Lexeme) → Offends sections Text ts why bad → Answers end ts (Err (refusal_of_why why (place_of end bad)))

  -- what is answered to tokens, if there are tokens in order
  abbrev pub AnswersTokens : List ℕ → Result (List Token) ParseRefusal → Result A ParseRefusal → Type 0
  AnswersTokens bytes (Ok tokens) reply = Answers (length bytes) (lexemes bytes tokens) reply
  AnswersTokens bytes (Err refusal) reply = reply ≡ Err refusal

  answers_offence : (bytes : List ℕ) (why : Why) (at : ℕ) → HasOffence sections Text bytes why at → AnswersTokens bytes (ordered_tokens_of bytes) (Err (refusal_of_why why at))
  answers_offence bytes why at has =
      subst (λ s. AnswersTokens bytes s (Err (refusal_of_why why at))) (sym (ordered_tokens bytes has.0 has.1 has.2))
      (subst (λ at. Answers (length bytes) (lexemes bytes has.0) (Err (refusal_of_why why at))) (sym has.5) (offence_of why has.3 has.4))

  answers_misplaced : (bytes : List ℕ) (misplaced : Misplaced) → HasMisplaced bytes misplaced → AnswersTokens bytes (ordered_tokens_of bytes) (Err (refusal_of_misplaced misplaced))
  answers_misplaced bytes misplaced has = subst (λ s. AnswersTokens bytes s (Err (refusal_of_misplaced misplaced))) (sym (misplaced_tokens bytes has.0 misplaced has.1 has.2)) refl

  -- a reply is what is answered to the tokens of its bytes
  pub reply-answers : (bytes : List ℕ) (reply : Result A ParseRefusal) → HasReply sections Text bytes reply → AnswersTokens bytes (ordered_tokens_of bytes) reply
  reply-answers bytes (Ok text) has = subst (λ s. AnswersTokens bytes s (Ok text)) (sym (ordered_tokens bytes has.0 has.1 has.2)) (text_of has.3)
  reply-answers bytes (Err (Byte at)) has = subst (λ s. AnswersTokens bytes s (Err (Byte at))) (sym (ap ordered has)) refl
  reply-answers bytes (Err (Unopened at)) has = answers_misplaced bytes (parentheses.Unopened at) has
  reply-answers bytes (Err (TooDeep at)) has = answers_misplaced bytes (parentheses.TooDeep at) has
  reply-answers bytes (Err (Unclosed at)) has = answers_misplaced bytes (parentheses.Unclosed at) has
  reply-answers bytes (Err (Shape at)) has = answers_offence bytes kinds.Shape at has
  reply-answers bytes (Err (Unsupported at)) has = answers_offence bytes kinds.Unsupported at has
  reply-answers bytes (Err OutOfMemory) has = absurd has

  module _ (one_text : (ts : List Lexeme) (x y : A) → Text ts x [] → Text ts y [] → x ≡ y) where
    one_answer : (end : ℕ) (ts : List Lexeme) (one other : Result A ParseRefusal) → Answers end ts one → Answers end ts other → one ≡ other
    one_answer end ts one other (text_of {text = x} a) (text_of {text = y} b) = ap Ok (one_text ts x y a b)
    one_answer end ts one other (text_of {text = x} a) (offence_of why bad o) = absurd (offence_is_no_text ts why bad x o a)
    one_answer end ts one other (offence_of why bad o) (text_of {text = x} a) = absurd (offence_is_no_text ts why bad x o a)
    one_answer end ts one other (offence_of why bad o) (offence_of other_why other_bad p) =
        let same = one_offence ts why other_why bad other_bad o p in
        ap (λ why. Err (refusal_of_why why (place_of end bad))) same.0 ∙ ap (λ bad. Err (refusal_of_why other_why (place_of end bad))) same.1

    one_to_tokens : (bytes : List ℕ) (tokens : Result (List Token) ParseRefusal) (one other : Result A ParseRefusal) → AnswersTokens bytes tokens one → AnswersTokens bytes tokens other → one ≡ other
    one_to_tokens bytes (Ok tokens) one other is is_other = one_answer (length bytes) (lexemes bytes tokens) one other is is_other
    one_to_tokens bytes (Err refusal) one other is is_other = is ∙ sym is_other

    -- bytes have one reply at most
    pub one-reply : (bytes : List ℕ) (one other : Result A ParseRefusal) → HasReply sections Text bytes one → HasReply sections Text bytes other → one ≡ other
    one-reply bytes one other has has_other = one_to_tokens bytes (ordered_tokens_of bytes) one other (reply-answers bytes one has) (reply-answers bytes other has_other)
