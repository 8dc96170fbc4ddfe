-- Loops whose turns go by what stands already are exact on both sides.
use Rattle.std.proofs.Common.{◌≡◌, ℕ, zero, suc, ◌<◌, Bool, true, false, cond, ◌||◌, ◌&&◌, List, [], ◌∷◌, ◌++◌, length, drop, refl, sym, ap, ◌∙◌, subst, arith}
use Rattle.pddl_lexer.specs.declared.lexer.Kind.TheVariants.{RightParen}
use Rattle.pddl_forms.specs.declared.stop.Why.{Why}
use Rattle.pddl_forms.specs.declared.stop.Why.TheVariants.{Shape}
use Rattle.pddl_forms.specs.Lexemes.{Lexeme, right}
use Rattle.pddl_forms.specs.Inner.Reading.{Read, got, stuck, and_then, is_of, comes}
use Rattle.pddl_parser.specs.Inner.Choosing.{turns_within, turns}
use Rattle.pddl_forms.proofs.Fronts.{and_then-cases, same_got}
use Rattle.pddl_forms.proofs.Readers.{Reader, Starts, Conforms, IsReader, Completes-then, pure-reader, pure-starts, reader-starts}
use Rattle.pddl_forms.proofs.Branches.{Fork, Branch, Conforms-or, neither, Within, reader-within, within-reader, then-within, fork-within}
use Rattle.pddl_parser.proofs.Choices.{reader-stays}

-- a reader that goes by the first lexeme, and may take none at all
pub record Step {A : Type 0} (sections : List (List ℕ)) (p : Reader A) : Type 0 where
  pub takes : Lexeme → Bool
  pub kind : Lexeme → Why
  pub after : Lexeme → Reader A
  pub at_end : p [] ≡ stuck Shape []
  pub refused : (t : Lexeme) (other : List Lexeme) → takes t ≡ false → p (t ∷ other) ≡ stuck (kind t) (t ∷ other)
  pub followed : (t : Lexeme) (other : List Lexeme) → takes t ≡ true → p (t ∷ other) ≡ after t other
  pub reads : (t : Lexeme) → takes t ≡ true → IsReader sections (after t)
  pub conforms : Conforms sections takes kind

pub branch-step : {A : Type 0} {sections : List (List ℕ)} {p : Reader A} → Branch sections p → Step sections p
branch-step b =
    record { takes = b.fork.takes; kind = b.fork.kind; after = b.fork.after; at_end = b.fork.at_end; refused = b.fork.refused; followed = b.fork.followed; reads = b.reads; conforms = b.fork.conforms }

-- such a reader takes a lexeme at least
pub step-shrinks : {A : Type 0} {sections : List (List ℕ)} (p : Reader A) → Step sections p → (ts rest : List Lexeme) (value : A) → p ts ≡ got value rest → length rest < length ts
step-shrinks p s [] rest value e = let stops = s.at_end in absurd cc
step-shrinks p s (t ∷ ts) rest value e = go (s.takes t) refl
  where
    go : (b : Bool) → s.takes t ≡ b → length rest < length (t ∷ ts)
    go true is = omega (arith, reader-stays (s.after t) (s.reads t is) ts rest value (sym (s.followed t ts is) ∙ e))
    go false is = let stops = s.refused t ts is in absurd cc

-- what reads something takes some lexeme
first_of : {A : Type 0} (p : Reader A) (takes : Lexeme → Bool) (kind : Lexeme → Why) → p [] ≡ stuck Shape [] → ((t : Lexeme) (other : List Lexeme) → takes t ≡ false → p (t ∷ other) ≡ stuck (kind t) (t ∷ other)) → Starts p → (t : Lexeme) × (takes t ≡ true)
first_of p takes kind at_end refused starts = go starts.more (starts.again [])
  where
    go : (more : List Lexeme) → p (more ++ []) ≡ got starts.value [] → (t : Lexeme) × (takes t ≡ true)
    go [] e = absurd cc
    go (t ∷ more) e = (t, taken (takes t) refl)
      where
        taken : (b : Bool) → takes t ≡ b → b ≡ true
        taken true is = refl
        taken false is = let stops = refused t (more ++ []) is in absurd cc

module _ {S : Type 0} (sections : List (List ℕ)) (whole : S → Bool) (item : S → Reader S) (step : (seen : S) → Step sections (item seen)) where
  further-same : (f g : S → Reader S) (seen : S) (ts : List Lexeme) (r : Read S) → item seen ts ≡ r → ((next : S) (rest : List Lexeme) → length rest < length ts → f next rest ≡ g next rest) → and_then r f ≡ and_then r g
  unfolding and_then
  further-same f g seen ts (got next rest) e same = same next rest (step-shrinks (item seen) (step seen) ts rest next e)
  further-same f g seen ts (stuck why bad) e same = refl

  turns-same : (n m : ℕ) (seen : S) (ts : List Lexeme) → length ts < n → length ts < m → turns_within whole item n seen ts ≡ turns_within whole item m seen ts
  turns-same zero m seen ts a b = absurd (omega arith)
  turns-same (suc n) zero seen ts a b = absurd (omega arith)
  turns-same (suc n) (suc m) seen ts a b =
      ap (cond (comes RightParen ts && whole seen) (got seen (drop 1 ts)))
      (further-same (turns_within whole item n) (turns_within whole item m) seen ts (item seen ts) refl (λ next rest less. turns-same n m next rest (omega arith) (omega arith)))

  -- one turn
  pub turn-is : (seen : S) (ts : List Lexeme) → turns whole item seen ts ≡ cond (comes RightParen ts && whole seen) (got seen (drop 1 ts)) (and_then (item seen ts) (turns whole item))
  unfolding turns
  turn-is seen ts =
      ap (cond (comes RightParen ts && whole seen) (got seen (drop 1 ts)))
      (further-same (turns_within whole item (length ts)) (turns whole item) seen ts (item seen ts) refl (λ next rest less. turns-same (length ts) (suc (length rest)) next rest (omega arith) (omega arith)))

  pub turn-got : (seen next : S) (ts mid : List Lexeme) → comes RightParen ts ≡ false → item seen ts ≡ got next mid → turns whole item seen ts ≡ turns whole item next mid
  unfolding and_then
  turn-got seen next ts mid stands e =
      turn-is seen ts ∙ ap (λ b. cond (b && whole seen) (got seen (drop 1 ts)) (and_then (item seen ts) (turns whole item))) stands ∙ ap (λ r. and_then r (turns whole item)) e

  -- a rule that holds of the end, and of one turn before others, holds of what is read
  module _ (Rule : S → List Lexeme → S → List Lexeme → Type 0) (done : (seen : S) (p : ℕ) (rest : List Lexeme) → whole seen ≡ true → Rule seen (right p ∷ rest) seen rest)
      (turn : (seen next all : S) (ts mid rest : List Lexeme) → item seen ts ≡ got next mid → Rule next mid all rest → Rule seen ts all rest) where
    end_at : (seen all : S) (ts rest : List Lexeme) → (comes RightParen ts && whole seen) ≡ true → got seen (drop 1 ts) ≡ got all rest → Rule seen ts all rest
    end_at seen all (right p ∷ ts) rest closes e =
        let same = same_got e in
        subst (λ s. Rule seen (right p ∷ ts) s rest) same.0 (subst (λ l. Rule seen (right p ∷ ts) seen l) same.1 (done seen p ts closes))
    end_at seen all _ rest closes e = absurd cc

    turns-by : (n : ℕ) (seen all : S) (ts rest : List Lexeme) → length ts < n → turns whole item seen ts ≡ got all rest → Rule seen ts all rest
    turns-by zero seen all ts rest less e = absurd (omega arith)
    turns-by (suc n) seen all ts rest less e = go (λ next mid fewer. turns-by n next all mid rest (omega (arith, fewer, less))) (comes RightParen ts && whole seen) refl (sym (turn-is seen ts) ∙ e)
      where
        go : ((next : S) (mid : List Lexeme) → length mid < length ts → turns whole item next mid ≡ got all rest → Rule next mid all rest) → (b : Bool) → (comes RightParen ts && whole seen) ≡ b
            → cond b (got seen (drop 1 ts)) (and_then (item seen ts) (turns whole item)) ≡ got all rest → Rule seen ts all rest
        go further true closes e = end_at seen all ts rest closes e
        go further false closes e =
            let one = and_then-cases (item seen ts) (turns whole item) all rest e in
            turn seen one.0 all ts one.1 rest one.2 (further one.0 one.1 (step-shrinks (item seen) (step seen) ts one.1 one.0 one.2) one.3)

    pub turns-sound : (seen all : S) (ts rest : List Lexeme) → turns whole item seen ts ≡ got all rest → Rule seen ts all rest
    turns-sound seen all ts rest e = turns-by (suc (length ts)) seen all ts rest (omega arith) e

  module _ (ends : (seen : S) → Starts (turns whole item seen)) where
    abbrev after_turn : S → Lexeme → Reader S
    after_turn seen t ts = cond (is_of RightParen t && whole seen) (got seen ts) (and_then ((step seen).after t ts) (turns whole item))

    abbrev takes_turn : S → Lexeme → Bool
    takes_turn seen t = (is_of RightParen t && whole seen) || (step seen).takes t

    turn-at_end : (seen : S) → turns whole item seen [] ≡ stuck Shape []
    unfolding and_then
    turn-at_end seen = turn-is seen [] ∙ ap (λ r. and_then r (turns whole item)) (step seen).at_end

    turn-refused : (seen : S) (t : Lexeme) (other : List Lexeme) → takes_turn seen t ≡ false → turns whole item seen (t ∷ other) ≡ stuck ((step seen).kind t) (t ∷ other)
    unfolding and_then
    turn-refused seen t other e =
        let none = neither (is_of RightParen t && whole seen) ((step seen).takes t) e in
        turn-is seen (t ∷ other) ∙ ap (λ b. cond b (got seen other) (and_then (item seen (t ∷ other)) (turns whole item))) none.0 ∙ ap (λ r. and_then r (turns whole item)) ((step seen).refused t other none.1)

    took : (a b : Bool) → a ≡ false → (a || b) ≡ true → b ≡ true
    took true b is e = absurd cc
    took false b is e = e

    turn-followed : (seen : S) (t : Lexeme) (other : List Lexeme) → takes_turn seen t ≡ true → turns whole item seen (t ∷ other) ≡ after_turn seen t other
    turn-followed seen t other e = turn-is seen (t ∷ other) ∙ go (is_of RightParen t && whole seen) refl
      where
        go : (b : Bool) → (is_of RightParen t && whole seen) ≡ b → cond b (got seen other) (and_then (item seen (t ∷ other)) (turns whole item)) ≡ cond b (got seen other) (and_then ((step seen).after t other) (turns whole item))
        go true is = refl
        go false is = ap (λ r. and_then r (turns whole item)) ((step seen).followed t other (took (is_of RightParen t && whole seen) _ is e))

    turn-starts : (seen : S) (t : Lexeme) → takes_turn seen t ≡ true → Starts (after_turn seen t)
    turn-starts seen t e = go (is_of RightParen t && whole seen) refl
      where
        go : (b : Bool) → (is_of RightParen t && whole seen) ≡ b → Starts (λ ts. cond b (got seen ts) (and_then ((step seen).after t ts) (turns whole item)))
        go true is = pure-starts seen
        go false is = Completes-then ((step seen).after t) (turns whole item) ends [] (reader-starts ((step seen).reads t (took (is_of RightParen t && whole seen) _ is e)))

    turn-fork : (seen : S) → Fork sections (turns whole item seen)
    turn-fork seen =
        let first = first_of (turns whole item seen) (takes_turn seen) (step seen).kind (turn-at_end seen) (turn-refused seen) (ends seen) in
        record {
          takes = takes_turn seen;
          kind = (step seen).kind;
          after = after_turn seen;
          at_end = turn-at_end seen;
          refused = turn-refused seen;
          followed = turn-followed seen;
          starts = turn-starts seen;
          first = first.0;
          first_taken = first.1;
          conforms = Conforms-or sections (step seen).takes (step seen).kind (λ t. is_of RightParen t && whole seen) (record { keywords = λ text at. refl; heads = λ text at free. refl; or = λ at. refl; gaps = λ at. refl }) (step seen).conforms;
        }

    turn-next : (n : ℕ) (seen : S) → ((next : S) → Within sections n (turns whole item next)) → Within sections (suc n) (turns whole item seen)
    unfolding turn-fork
    turn-next n seen again = fork-within n (turns whole item seen) (turn-fork seen) (λ t e. go t e (is_of RightParen t && whole seen) refl)
      where
        go : (t : Lexeme) → takes_turn seen t ≡ true → (b : Bool) → (is_of RightParen t && whole seen) ≡ b → Within sections n (λ ts. cond b (got seen ts) (and_then ((step seen).after t ts) (turns whole item)))
        go t e true is = reader-within n (pure-reader seen)
        go t e false is = then-within n ((step seen).after t) (turns whole item) ends (reader-within n ((step seen).reads t (took (is_of RightParen t && whole seen) _ is e))) again

    turns-within : (n : ℕ) (seen : S) → Within sections n (turns whole item seen)
    turns-within zero seen ts less = absurd (omega arith)
    turns-within (suc n) seen ts less = turn-next n seen (turns-within n) ts less

    pub turns-reader : (seen : S) → IsReader sections (turns whole item seen)
    turns-reader seen = within-reader (λ n. turns-within n seen)

  -- where it may always end
  pub always-ends : ((seen : S) → whole seen ≡ true) → (seen : S) → Starts (turns whole item seen)
  always-ends all seen = record { more = right 0 ∷ []; value = seen; again = λ other. turn-is seen (right 0 ∷ other) ∙ ap (λ b. cond b (got seen other) (and_then (item seen (right 0 ∷ other)) (turns whole item))) (all seen) }
