-- Readers that are exact on both sides: what a reader reads is told by the lexemes that it takes alone, and what it
-- refuses, it refuses at the first lexeme that no text of it can have there, with the kind of the table.
use Rattle.std.proofs.Common.{◌≡◌, ℕ, Bool, true, false, List, [], ◌∷◌, ◌++◌, codes, refl, sym, ap, ◌∙◌, subst, append_assoc}
use Rattle.pddl_forms.specs.declared.stop.Why.{Why}
use Rattle.pddl_forms.specs.declared.stop.Why.TheVariants.{Shape, Unsupported}
use Rattle.pddl_forms.specs.Lexemes.{Lexeme, name, keyword, gap}
use Rattle.pddl_forms.specs.Forms.{is_reserved}
use Rattle.pddl_forms.specs.Inner.Reading.{Read, got, stuck, and_then}
use Rattle.pddl_forms.specs.Offending.{IsUnsupported, other_section, other_requirement, other_part, reserved_head, either_type, IsKind}

-- what reads a value of the front of some lexemes
abbrev pub Reader : Type 0 → Type 0
Reader A = List Lexeme → Read A

-- with some lexemes more, the reader takes all of these, whatever comes after them
pub record Completes {A : Type 0} (p : Reader A) (front : List Lexeme) : Type 0 where
  pub more : List Lexeme
  pub value : A
  pub again : (other : List Lexeme) → p (front ++ (more ++ other)) ≡ got value other

-- the reader takes the lexemes up to the rest, and so it does whatever comes after them
pub record Passes {A : Type 0} (p : Reader A) (ts : List Lexeme) (value : A) (rest : List Lexeme) : Type 0 where
  pub front : List Lexeme
  pub split : ts ≡ front ++ rest
  pub again : (other : List Lexeme) → p (front ++ other) ≡ got value other

-- the kinds of the lexemes that may not stand here go by those that may
abbrev pub Conforms : List (List ℕ) → (Lexeme → Bool) → (Lexeme → Why) → Type 0
Conforms sections takes kind = (t : Lexeme) → takes t ≡ false → IsKind (kind t) (IsUnsupported sections (λ u. takes u ≡ true) t)

-- the lexeme that comes first here is one that may not stand, or there is none
abbrev pub IsBarred : (Lexeme → Bool) → (Lexeme → Why) → Why → List Lexeme → Type 0
IsBarred takes kind why [] = why ≡ Shape
IsBarred takes kind why (t ∷ bad) = (takes t ≡ false) × (kind t ≡ why)

-- the reader stops after the front: some lexemes may stand there and begin a value, and it refuses every other, and the end
pub record Refuses {A : Type 0} (sections : List (List ℕ)) (p : Reader A) (ts : List Lexeme) (why : Why) (bad : List Lexeme) : Type 0 where
  pub front : List Lexeme
  pub split : ts ≡ front ++ bad
  pub takes : Lexeme → Bool
  pub kind : Lexeme → Why
  pub barred : IsBarred takes kind why bad
  pub at_end : p front ≡ stuck Shape []
  pub refused : (t : Lexeme) (other : List Lexeme) → takes t ≡ false → p (front ++ t ∷ other) ≡ stuck (kind t) (t ∷ other)
  pub taken : (t : Lexeme) → takes t ≡ true → Completes p (front ++ t ∷ [])
  pub alive : Completes p front
  pub conforms : Conforms sections takes kind

-- what a reader does with some lexemes
pub data Outcome {A : Type 0} (sections : List (List ℕ)) (p : Reader A) (ts : List Lexeme) : Type 0 where
  passes : {value : A} {rest : List Lexeme} → Passes p ts value rest → Outcome sections p ts
  refuses : {why : Why} {bad : List Lexeme} → Refuses sections p ts why bad → Outcome sections p ts

-- a reader that does so with all lexemes
abbrev pub IsReader : {A : Type 0} → List (List ℕ) → Reader A → Type 0
IsReader sections p = (ts : List Lexeme) → Outcome sections p ts

-- some lexemes are a value of the reader
abbrev pub Starts : {A : Type 0} → Reader A → Type 0
Starts p = Completes p []

-- a reader that goes on as another does after some lexemes
pub Completes-after : {A : Type 0} {p q : Reader A} (first front : List Lexeme) → ((other : List Lexeme) → p (first ++ other) ≡ q other) → Completes q front → Completes p (first ++ front)
Completes-after {p} first front law c =
    record { more = c.more; value = c.value; again = λ other. ap p (append_assoc first front (c.more ++ other)) ∙ law (front ++ (c.more ++ other)) ∙ c.again other }

Refuses-after : {A : Type 0} {sections : List (List ℕ)} {p q : Reader A} (first : List Lexeme) → ((other : List Lexeme) → p (first ++ other) ≡ q other)
    → {ts bad : List Lexeme} {why : Why} → Refuses sections q ts why bad → Refuses sections p (first ++ ts) why bad
Refuses-after {p} first law {bad = bad} r =
    record {
      front = first ++ r.front;
      split = ap (λ l. first ++ l) r.split ∙ sym (append_assoc first r.front bad);
      takes = r.takes;
      kind = r.kind;
      barred = r.barred;
      at_end = law r.front ∙ r.at_end;
      refused = λ t other e. ap p (append_assoc first r.front (t ∷ other)) ∙ law (r.front ++ t ∷ other) ∙ r.refused t other e;
      taken = λ t e. subst (Completes p) (sym (append_assoc first r.front (t ∷ []))) (Completes-after first (r.front ++ t ∷ []) law (r.taken t e));
      alive = Completes-after first r.front law r.alive;
      conforms = r.conforms;
    }

pub Outcome-after : {A : Type 0} {sections : List (List ℕ)} {p q : Reader A} (first : List Lexeme) → ((other : List Lexeme) → p (first ++ other) ≡ q other) → (ts : List Lexeme) → Outcome sections q ts → Outcome sections p (first ++ ts)
Outcome-after {p} first law ts (passes {rest = rest} r) =
    passes (record { front = first ++ r.front; split = ap (λ l. first ++ l) r.split ∙ sym (append_assoc first r.front rest); again = λ other. ap p (append_assoc first r.front other) ∙ law (r.front ++ other) ∙ r.again other })
Outcome-after first law ts (refuses r) = refuses (Refuses-after first law r)

-- a reader that does the same
pub Outcome-same : {A : Type 0} {sections : List (List ℕ)} {p q : Reader A} → ((ts : List Lexeme) → p ts ≡ q ts) → (ts : List Lexeme) → Outcome sections q ts → Outcome sections p ts
Outcome-same same ts o = Outcome-after [] same ts o

-- reading nothing
pub pure-reader : {A : Type 0} {sections : List (List ℕ)} (value : A) → IsReader sections (λ ts. got value ts)
pure-reader value ts = passes {value = value} {rest = ts} (record { front = []; split = refl; again = λ other. refl })

pub pure-starts : {A : Type 0} (value : A) → Starts (λ ts. got value ts)
pure-starts value = record { more = []; value = value; again = λ other. refl }

no_more : (front bad : List Lexeme) → [] ≡ front ++ bad → front ≡ []
no_more [] bad e = refl
no_more (t ∷ front) bad e = absurd cc

-- a reader can read something
pub reader-starts : {A : Type 0} {sections : List (List ℕ)} {p : Reader A} → IsReader sections p → Starts p
reader-starts {sections} {p} reads = go (reads [])
  where
    go : Outcome sections p [] → Starts p
    go (passes {value = value} {rest = rest} r) = record { more = []; value = value; again = λ other. ap (λ l. p (l ++ other)) (sym (no_more r.front rest r.split)) ∙ r.again other }
    go (refuses {bad = bad} r) = subst (Completes p) (no_more r.front bad r.split) r.alive

module _ {A B : Type 0} (p : Reader A) (q : A → Reader B) where
  -- one reader, and then another
  pub Completes-then : ((value : A) → Starts (q value)) → (front : List Lexeme) → Completes p front → Completes (λ ts. and_then (p ts) q) front
  unfolding and_then
  Completes-then starts front c =
      let next = starts c.value in
      record {
        more = c.more ++ next.more;
        value = next.value;
        again = λ other. ap (λ l. and_then (p (front ++ l)) q) (append_assoc c.more next.more other) ∙ ap (λ r. and_then r q) (c.again (next.more ++ other)) ∙ next.again other;
      }

  Refuses-then : {sections : List (List ℕ)} → ((value : A) → Starts (q value)) → {ts bad : List Lexeme} {why : Why} → Refuses sections p ts why bad → Refuses sections (λ ts. and_then (p ts) q) ts why bad
  unfolding and_then
  Refuses-then starts r =
      record {
        front = r.front;
        split = r.split;
        takes = r.takes;
        kind = r.kind;
        barred = r.barred;
        at_end = ap (λ r. and_then r q) r.at_end;
        refused = λ t other e. ap (λ r. and_then r q) (r.refused t other e);
        taken = λ t e. Completes-then starts (r.front ++ t ∷ []) (r.taken t e);
        alive = Completes-then starts r.front r.alive;
        conforms = r.conforms;
      }

  pub Outcome-then : {sections : List (List ℕ)} → ((value : A) → Starts (q value)) → (ts : List Lexeme) → ((value : A) (rest : List Lexeme) → Passes p ts value rest → Outcome sections (q value) rest) → Outcome sections p ts → Outcome sections (λ ts. and_then (p ts) q) ts
  unfolding and_then
  Outcome-then {sections} starts ts next (passes {value = value} {rest = rest} r) =
      subst (Outcome sections (λ ts. and_then (p ts) q)) (sym r.split) (Outcome-after r.front (λ other. ap (λ r. and_then r q) (r.again other)) rest (next value rest r))
  Outcome-then starts ts next (refuses r) = refuses (Refuses-then starts r)

  pub seq-reader : {sections : List (List ℕ)} → IsReader sections p → ((value : A) → IsReader sections (q value)) → IsReader sections (λ ts. and_then (p ts) q)
  seq-reader first next ts = Outcome-then (λ value. reader-starts (next value)) ts (λ value rest r. next value rest) (first ts)

-- the reader reads so
pub Passes-read : {A : Type 0} {p : Reader A} {ts rest : List Lexeme} {value : A} → Passes p ts value rest → p ts ≡ got value rest
Passes-read {p} {rest = rest} r = ap p r.split ∙ r.again rest

-- a kind goes by what is as much left out
pub IsKind-same : (why : Why) {One Other : Type 0} → (One → Other) → (Other → One) → IsKind why One → IsKind why Other
IsKind-same Unsupported forth back left_out = forth left_out
IsKind-same Shape forth back no_such = λ other. no_such (back other)

-- what goes by the lexemes that may stand there, goes by others that are as the same where it looks
pub IsUnsupported-same : (sections : List (List ℕ)) (May Might : Lexeme → Type 0) (t : Lexeme)
    → ((text : List ℕ) (at : ℕ) → May (keyword text at) → Might (keyword text at)) → ((text : List ℕ) (at : ℕ) → is_reserved text ≡ false → May (name text at) → Might (name text at))
    → ((at : ℕ) → Might (name (codes "or") at) → May (name (codes "or") at)) → ((at : ℕ) → May (gap at) → Might (gap at)) → IsUnsupported sections May t → IsUnsupported sections Might t
IsUnsupported-same sections May Might t keywords heads or gaps (other_section (is, there)) = other_section (is, (there.0, there.1, there.2, keywords there.0 there.1 there.3))
IsUnsupported-same sections May Might t keywords heads or gaps (other_requirement (is, there)) = other_requirement (is, (there.0, there.1, there.2, keywords there.0 there.1 there.3))
IsUnsupported-same sections May Might t keywords heads or gaps (other_part (is, there)) = other_part (is, (there.0, there.1, there.2, keywords there.0 there.1 there.3))
IsUnsupported-same sections May Might t keywords heads or gaps (reserved_head is there) = reserved_head is (λ text at free. heads text at free (there.0 text at free), λ at might. there.1 at (or at might))
IsUnsupported-same sections May Might t keywords heads or gaps (either_type is there) = either_type is (λ at. gaps at (there at))
