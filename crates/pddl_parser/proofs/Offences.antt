-- Where a reader of a whole text stops, the offending token of its grammar stands, and the kind is that of the table.
use Rattle.std.proofs.Common.{◌≡◌, ℕ, Bool, true, false, List, [], ◌∷◌, ◌++◌, refl, sym, ap, ◌∙◌, subst, append_assoc}
use Rattle.std.proofs.lemmas.List.{append-nil}
use Rattle.pddl_forms.specs.declared.stop.Why.{Why}
use Rattle.pddl_forms.specs.declared.stop.Why.TheVariants.{Shape}
use Rattle.pddl_forms.specs.Lexemes.{Lexeme}
use Rattle.pddl_forms.specs.Inner.Reading.{Read, got, stuck, and_then}
use Rattle.pddl_forms.specs.Offending.{Begins, IsUnsupported, other_section, other_requirement, other_part, reserved_head, either_type, IsKind, Offends}
use Rattle.pddl_parser.specs.Inner.Choosing.{ended, all_of}
use Rattle.pddl_forms.proofs.ItemSteps.{Parses}
use Rattle.pddl_forms.proofs.Readers.{Reader, Completes, Passes, Passes-read, Refuses, Outcome, passes, refuses, IsReader, IsUnsupported-same, IsKind-same}

same_stuck : {A : Type 0} {why other : Why} {bad rest : List Lexeme} → ◌≡◌ {A = Read A} (stuck why bad) (stuck other rest) → (why ≡ other) × (bad ≡ rest)
same_stuck e = (cc, cc)

-- where nothing may stand, nothing is left out
nothing_unsupported : (sections : List (List ℕ)) (May : Lexeme → Type 0) (t : Lexeme) → ((u : Lexeme) → May u → ⊥) → IsUnsupported sections May t → ⊥
nothing_unsupported sections May t none (other_section (is, there)) = none _ there.3
nothing_unsupported sections May t none (other_requirement (is, there)) = none _ there.3
nothing_unsupported sections May t none (other_part (is, there)) = none _ there.3
nothing_unsupported sections May t none (reserved_head is there) = none _ (there.0 [] 0 refl)
nothing_unsupported sections May t none (either_type is there) = none _ (there 0)

-- what is refused is read so
pub Refuses-read : {A : Type 0} (sections : List (List ℕ)) (p : Reader A) (ts bad : List Lexeme) (why : Why) → Refuses sections p ts why bad → p ts ≡ stuck why bad
Refuses-read sections p ts [] why r = ap p (r.split ∙ append-nil r.front) ∙ r.at_end ∙ ap (λ k. stuck k []) (sym r.barred)
Refuses-read sections p ts (t ∷ bad) why r = ap p r.split ∙ r.refused t bad r.barred.0 ∙ ap (λ k. stuck k (t ∷ bad)) r.barred.1

module _ {A : Type 0} (sections : List (List ℕ)) (Text : List Lexeme → A → List Lexeme → Type 0) (p : Reader A) (reads : IsReader sections p) (parses : Parses Text p) where
  begins : (front : List Lexeme) → Completes p front → Begins Text front
  begins front c = (c.more, c.value, parses.sound (front ++ c.more) [] c.value (ap (λ l. p (front ++ l)) (sym (append-nil c.more)) ∙ c.again []))

  -- what is refused whatever comes after it begins no text
  begins_none : (front : List Lexeme) (t : Lexeme) (why : Why) → ((other : List Lexeme) → p (front ++ t ∷ other) ≡ stuck why (t ∷ other)) → Begins Text (front ++ t ∷ []) → ⊥
  begins_none front t why stops b =
      let read = parses.complete ((front ++ t ∷ []) ++ b.0) [] b.1 b.2 in
      let stopped = ap p (append_assoc front (t ∷ []) b.0) ∙ stops b.0 in
      absurd cc

  -- nor does a lexeme after a whole text
  begins_no_more : (front : List Lexeme) (t : Lexeme) (value : A) → ((other : List Lexeme) → p (front ++ other) ≡ got value other) → Begins Text (front ++ t ∷ []) → ⊥
  begins_no_more front t value again b =
      let read = parses.complete ((front ++ t ∷ []) ++ b.0) [] b.1 b.2 in
      let passed = ap p (append_assoc front (t ∷ []) b.0) ∙ again (t ∷ b.0) in
      absurd cc

  offends-passed : (ts rest : List Lexeme) (t : Lexeme) (value : A) → Passes p ts value (t ∷ rest) → Offends sections Text ts Shape (t ∷ rest)
  offends-passed ts rest t value r = (
    r.front,
    r.split,
    ([], value, subst (λ l. Text l value []) (sym (append-nil r.front)) (parses.sound r.front [] value (ap p (sym (append-nil r.front)) ∙ r.again []))),
    begins_no_more r.front t value r.again,
    nothing_unsupported sections _ t (λ u. begins_no_more r.front u value r.again),
  )

  module _ (front : List Lexeme) (takes : Lexeme → Bool) (kind : Lexeme → Why) (refused : (t : Lexeme) (other : List Lexeme) → takes t ≡ false → p (front ++ t ∷ other) ≡ stuck (kind t) (t ∷ other)) where
    may : (u : Lexeme) (b : Bool) → takes u ≡ b → Begins Text (front ++ u ∷ []) → b ≡ true
    may u true e b = refl
    may u false e b = absurd (begins_none front u (kind u) (λ other. refused u other e) b)

  offends-refused : (ts bad : List Lexeme) (why : Why) → Refuses sections p ts why bad → Offends sections Text ts why bad
  offends-refused ts [] why r =
      let all : ts ≡ r.front = r.split ∙ append-nil r.front in
      (subst (Begins Text) (sym all) (begins r.front r.alive), λ text is. let read = parses.complete ts [] text is in let stopped = Refuses-read sections p ts [] why r in absurd cc, r.barred)
  offends-refused ts (t ∷ bad) why r = (
    r.front,
    r.split,
    begins r.front r.alive,
    begins_none r.front t (r.kind t) (λ other. r.refused t other r.barred.0),
    subst (λ k. IsKind k (IsUnsupported sections (λ u. Begins Text (r.front ++ u ∷ [])) t)) r.barred.1
        (IsKind-same (r.kind t)
        (IsUnsupported-same sections _ _ t (λ text at e. begins _ (r.taken _ e)) (λ text at free e. begins _ (r.taken _ e)) (λ at b. may r.front r.takes r.kind r.refused _ _ refl b) (λ at e. begins _ (r.taken _ e)))
        (IsUnsupported-same sections _ _ t (λ text at b. may r.front r.takes r.kind r.refused _ _ refl b) (λ text at free b. may r.front r.takes r.kind r.refused _ _ refl b) (λ at e. begins _ (r.taken _ e)) (λ at b. may r.front r.takes r.kind r.refused _ _ refl b))
        (r.conforms t r.barred.0)),
  )

  -- the offending token of a text that is none
  pub whole-offends : (ts bad : List Lexeme) (why : Why) → all_of p ts ≡ stuck why bad → Offends sections Text ts why bad
  unfolding all_of and_then
  whole-offends ts bad why e = go (reads ts)
    where
      past : (rest : List Lexeme) (value : A) → Passes p ts value rest → ended value rest ≡ stuck why bad → Offends sections Text ts why bad
      past [] value r is = absurd cc
      past (t ∷ rest) value r is = let same = same_stuck is in rw (← same.0, ← same.1) (offends-passed ts rest t value r)

      go : Outcome sections p ts → Offends sections Text ts why bad
      go (passes {value = value} {rest = rest} r) = past rest value r (sym (ap (λ r. and_then r ended) (Passes-read r)) ∙ e)
      go (refuses {why = other} {bad = left_over} r) =
          let same = same_stuck (sym (ap (λ r. and_then r ended) (Refuses-read sections p ts left_over other r)) ∙ e) in
          rw (← same.0, ← same.1) (offends-refused ts left_over other r)
