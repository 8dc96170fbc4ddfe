-- Readers that go by the first lexeme, and loops of them.
use Rattle.std.proofs.Common.{◌≡◌, ℕ, zero, suc, ◌<◌, Bool, true, false, cond, ◌||◌, ◌&&◌, bytes_eq, List, [], ◌∷◌, length, drop, codes, refl, sym, ap, ◌∙◌, arith}
use Rattle.std.proofs.lemmas.List.{length-append}
use Rattle.pddl_lexer.specs.declared.lexer.Kind.TheVariants.{RightParen, Name}
use Rattle.pddl_forms.specs.declared.stop.Why.{Why}
use Rattle.pddl_forms.specs.declared.stop.Why.TheVariants.{Shape}
use Rattle.pddl_forms.specs.declared.stop.Stop.TheVariants.{Refused}
use Rattle.pddl_forms.specs.Lexemes.{Lexeme, right, name, keyword, gap}
use Rattle.pddl_forms.specs.Forms.{is_reserved}
use Rattle.pddl_forms.specs.Inner.Reading.{Read, got, stuck, and_then, is_of, word_of, comes, before_others, many}
use Rattle.pddl_forms.proofs.ItemSteps.{Shrinks, many-next, many-done, many-err}
use Rattle.pddl_forms.proofs.Readers.{Reader, Starts, Completes-after, Passes-read, Conforms, IsBarred, Refuses, Outcome, refuses, Outcome-after, Outcome-same, Outcome-then, IsReader, Completes-then, pure-reader, pure-starts, reader-starts, seq-reader, IsUnsupported-same, IsKind-same}

-- a reader that takes some lexemes at first, refuses the others, and goes on by the one that it took
pub record Fork {A : Type 0} (sections : List (List ℕ)) (p : Reader A) : Type 0 where
  pub takes : Lexeme → Bool
  pub kind : Lexeme → Why
  pub after : Lexeme → Reader A
  pub at_end : p [] ≡ stuck Shape []
  pub refused : (t : Lexeme) (other : List Lexeme) → takes t ≡ false → p (t ∷ other) ≡ stuck (kind t) (t ∷ other)
  pub followed : (t : Lexeme) (other : List Lexeme) → takes t ≡ true → p (t ∷ other) ≡ after t other
  pub starts : (t : Lexeme) → takes t ≡ true → Starts (after t)
  pub first : Lexeme
  pub first_taken : takes first ≡ true
  pub conforms : Conforms sections takes kind

module _ {A : Type 0} {sections : List (List ℕ)} (p : Reader A) (f : Fork sections p) where
  pub fork-starts : Starts p
  fork-starts =
      let c = Completes-after {p = p} (f.first ∷ []) [] (λ other. f.followed f.first other f.first_taken) (f.starts f.first f.first_taken) in
      record { more = f.first ∷ c.more; value = c.value; again = c.again }

  stops : (bad : List Lexeme) (why : Why) → IsBarred f.takes f.kind why bad → Refuses sections p bad why bad
  stops bad why barred =
      record {
        front = [];
        split = refl;
        takes = f.takes;
        kind = f.kind;
        barred = barred;
        at_end = f.at_end;
        refused = f.refused;
        taken = λ t e. Completes-after (t ∷ []) [] (λ other. f.followed t other e) (f.starts t e);
        alive = fork-starts;
        conforms = f.conforms;
      }

  -- what it does, by what is done after the first lexeme
  pub fork-outcome : (ts : List Lexeme) → ((t : Lexeme) (rest : List Lexeme) → ts ≡ t ∷ rest → f.takes t ≡ true → Outcome sections (f.after t) rest) → Outcome sections p ts
  fork-outcome [] next = refuses (stops [] Shape refl)
  fork-outcome (t ∷ rest) next = go (f.takes t) refl
    where
      go : (b : Bool) → f.takes t ≡ b → Outcome sections p (t ∷ rest)
      go true e = Outcome-after (t ∷ []) (λ other. f.followed t other e) rest (next t rest refl e)
      go false e = refuses (stops (t ∷ rest) (f.kind t) (e, refl))

  pub fork-reader : ((t : Lexeme) → f.takes t ≡ true → IsReader sections (f.after t)) → IsReader sections p
  fork-reader reads ts = fork-outcome ts (λ t rest is e. reads t e rest)

  -- and then something else
  pub fork-then : {B : Type 0} (q : A → Reader B) → ((value : A) → Starts (q value)) → Fork sections (λ ts. and_then (p ts) q)
  unfolding and_then
  fork-then q starts =
      record {
        takes = f.takes;
        kind = f.kind;
        after = λ t ts. and_then (f.after t ts) q;
        at_end = ap (λ r. and_then r q) f.at_end;
        refused = λ t other e. ap (λ r. and_then r q) (f.refused t other e);
        followed = λ t other e. ap (λ r. and_then r q) (f.followed t other e);
        starts = λ t e. Completes-then (f.after t) q starts [] (f.starts t e);
        first = f.first;
        first_taken = f.first_taken;
        conforms = f.conforms;
      }

-- a fork that goes on by readers
pub record Branch {A : Type 0} (sections : List (List ℕ)) (p : Reader A) : Type 0 where
  pub fork : Fork sections p
  pub reads : (t : Lexeme) → fork.takes t ≡ true → IsReader sections (fork.after t)

pub branch-reader : {A : Type 0} {sections : List (List ℕ)} {p : Reader A} → Branch sections p → IsReader sections p
branch-reader {p} b = fork-reader p b.fork b.reads

pub branch-then : {A B : Type 0} {sections : List (List ℕ)} (p : Reader A) (q : A → Reader B) → Branch sections p → ((value : A) → IsReader sections (q value)) → Branch sections (λ ts. and_then (p ts) q)
unfolding fork-then
branch-then p q b further =
    record {
      fork = fork-then p b.fork q (λ value. reader-starts (further value));
      reads = λ t e. seq-reader (b.fork.after t) q (b.reads t e) further;
    }

-- a reader of one lexeme
pub single : {A : Type 0} {sections : List (List ℕ)} (p : Reader A) (takes : Lexeme → Bool) (kind : Lexeme → Why) (value : Lexeme → A) → p [] ≡ stuck Shape []
    → ((t : Lexeme) (other : List Lexeme) → p (t ∷ other) ≡ cond (takes t) (got (value t) other) (stuck (kind t) (t ∷ other))) → (first : Lexeme) → takes first ≡ true → Conforms sections takes kind → Branch sections p
single p takes kind value at_end at first first_taken conforms =
    record {
      fork = record {
        takes = takes;
        kind = kind;
        after = λ t ts. got (value t) ts;
        at_end = at_end;
        refused = λ t other e. at t other ∙ ap (λ b. cond b (got (value t) other) (stuck (kind t) (t ∷ other))) e;
        followed = λ t other e. at t other ∙ ap (λ b. cond b (got (value t) other) (stuck (kind t) (t ∷ other))) e;
        starts = λ t e. pure-starts (value t);
        first = first;
        first_taken = first_taken;
        conforms = conforms;
      };
      reads = λ t e. pure-reader (value t);
    }

-- none of these lexemes tells anything of the table: no keyword, no name that is not reserved, not the name `or`, and no gap
pub record IsAside (extra : Lexeme → Bool) : Type 0 where
  pub keywords : (text : List ℕ) (at : ℕ) → extra (keyword text at) ≡ false
  pub heads : (text : List ℕ) (at : ℕ) → is_reserved text ≡ false → extra (name text at) ≡ false
  pub or : (at : ℕ) → extra (name (codes "or") at) ≡ false
  pub gaps : (at : ℕ) → extra (gap at) ≡ false

pub neither : (a b : Bool) → (a || b) ≡ false → (a ≡ false) × (b ≡ false)
neither true b e = absurd cc
neither false b e = (refl, e)

with_more : (a b : Bool) → a ≡ false → b ≡ true → (a || b) ≡ true
with_more a b none e = rw none e

without : (a b : Bool) → a ≡ false → (a || b) ≡ true → b ≡ true
without a b none e = let same : (a || b) ≡ b = rw none refl in sym same ∙ e

-- the table says as much where such lexemes may stand too
pub Conforms-or : (sections : List (List ℕ)) (takes : Lexeme → Bool) (kind : Lexeme → Why) (extra : Lexeme → Bool) → IsAside extra → Conforms sections takes kind → Conforms sections (λ t. extra t || takes t) kind
Conforms-or sections takes kind extra aside conforms t e =
    IsKind-same (kind t)
    (IsUnsupported-same sections _ _ t (λ text at. with_more _ _ (aside.keywords text at)) (λ text at free. with_more _ _ (aside.heads text at free)) (λ at. without _ _ (aside.or at)) (λ at. with_more _ _ (aside.gaps at)))
    (IsUnsupported-same sections _ _ t (λ text at. without _ _ (aside.keywords text at)) (λ text at free. without _ _ (aside.heads text at free)) (λ at. with_more _ _ (aside.or at)) (λ at. without _ _ (aside.gaps at)))
    (conforms t (neither _ _ e).1)

-- some lexemes that are taken at first, before another reader
module _ {A : Type 0} {sections : List (List ℕ)} (p whole : Reader A) (f : Fork sections p) (extra : Lexeme → Bool) (next : Lexeme → Reader A) (aside : IsAside extra) (next-starts : (t : Lexeme) → extra t ≡ true → Starts (next t))
    (at_end : whole [] ≡ p []) (at : (t : Lexeme) (ts : List Lexeme) → whole (t ∷ ts) ≡ cond (extra t) (next t ts) (p (t ∷ ts))) where
  refused-either : (t : Lexeme) (other : List Lexeme) → (extra t || f.takes t) ≡ false → whole (t ∷ other) ≡ stuck (f.kind t) (t ∷ other)
  refused-either t other e = let none = neither _ _ e in at t other ∙ ap (λ b. cond b (next t other) (p (t ∷ other))) none.0 ∙ f.refused t other none.1

  followed-either : (t : Lexeme) (other : List Lexeme) → (extra t || f.takes t) ≡ true → whole (t ∷ other) ≡ cond (extra t) (next t other) (f.after t other)
  followed-either t other e = at t other ∙ go (extra t) refl
    where
      go : (b : Bool) → extra t ≡ b → cond b (next t other) (p (t ∷ other)) ≡ cond b (next t other) (f.after t other)
      go true is = refl
      go false is = f.followed t other (without _ _ is e)

  starts-either : (t : Lexeme) → (extra t || f.takes t) ≡ true → Starts (λ ts. cond (extra t) (next t ts) (f.after t ts))
  starts-either t e = go (extra t) refl
    where
      go : (b : Bool) → extra t ≡ b → Starts (λ ts. cond b (next t ts) (f.after t ts))
      go true is = next-starts t is
      go false is = f.starts t (without _ _ is e)

  pub fork-or : Fork sections whole
  fork-or =
      record {
        takes = λ t. extra t || f.takes t;
        kind = f.kind;
        after = λ t ts. cond (extra t) (next t ts) (f.after t ts);
        at_end = at_end ∙ f.at_end;
        refused = refused-either;
        followed = followed-either;
        starts = starts-either;
        first = f.first;
        first_taken = go (extra f.first);
        conforms = Conforms-or sections f.takes f.kind extra aside f.conforms;
      }
    where
      go : (b : Bool) → (b || f.takes f.first) ≡ true
      go true = refl
      go false = f.first_taken

  pub fork-or-reads : ((t : Lexeme) → f.takes t ≡ true → IsReader sections (f.after t)) → ((t : Lexeme) → extra t ≡ true → IsReader sections (next t)) → (t : Lexeme) → fork-or.takes t ≡ true → IsReader sections (fork-or.after t)
  unfolding fork-or
  fork-or-reads reads others t e = go (extra t) refl
    where
      go : (b : Bool) → extra t ≡ b → IsReader sections (λ ts. cond b (next t ts) (f.after t ts))
      go true is = others t is
      go false is = reads t (without _ _ is e)

pub branch-or : {A : Type 0} {sections : List (List ℕ)} (p whole : Reader A) → Branch sections p → (extra : Lexeme → Bool) (next : Lexeme → Reader A) → IsAside extra → ((t : Lexeme) → extra t ≡ true → IsReader sections (next t))
    → whole [] ≡ p [] → ((t : Lexeme) (ts : List Lexeme) → whole (t ∷ ts) ≡ cond (extra t) (next t ts) (p (t ∷ ts))) → Branch sections whole
branch-or p whole b extra next aside others at_end at =
    record {
      fork = fork-or p whole b.fork extra next aside (λ t e. reader-starts (others t e)) at_end at;
      reads = fork-or-reads p whole b.fork extra next aside (λ t e. reader-starts (others t e)) at_end at b.reads others;
    }

-- what a reader does with fewer lexemes than so many; a loop is shown so, since each of its turns takes a lexeme
abbrev pub Within : {A : Type 0} → List (List ℕ) → ℕ → Reader A → Type 0
Within sections n p = (ts : List Lexeme) → length ts < n → Outcome sections p ts

pub reader-within : {A : Type 0} {sections : List (List ℕ)} (n : ℕ) {p : Reader A} → IsReader sections p → Within sections n p
reader-within n reads ts less = reads ts

pub within-reader : {A : Type 0} {sections : List (List ℕ)} {p : Reader A} → ((n : ℕ) → Within sections n p) → IsReader sections p
within-reader within ts = within (suc (length ts)) ts (omega arith)

pub within-less : {A : Type 0} {sections : List (List ℕ)} (n : ℕ) {p : Reader A} → Within sections (suc n) p → Within sections n p
within-less n within ts less = within ts (omega (arith, less))

pub then-within : {A B : Type 0} {sections : List (List ℕ)} (n : ℕ) (p : Reader A) (q : A → Reader B) → ((value : A) → Starts (q value)) → Within sections n p → ((value : A) → Within sections n (q value)) → Within sections n (λ ts. and_then (p ts) q)
then-within n p q starts first further ts less =
    Outcome-then p q starts ts (λ value rest r. further value rest (omega (arith, ap length r.split, length-append r.front rest, less))) (first ts less)

pub fork-within : {A : Type 0} {sections : List (List ℕ)} (n : ℕ) (p : Reader A) (f : Fork sections p) → ((t : Lexeme) → f.takes t ≡ true → Within sections n (f.after t)) → Within sections (suc n) p
fork-within n p f within ts less = fork-outcome p f ts (λ t rest is e. within t e rest (omega (arith, ap length is, less)))

pub fork-then-within : {A B : Type 0} {sections : List (List ℕ)} (n : ℕ) (p : Reader A) (f : Fork sections p) (q : A → Reader B) (starts : (value : A) → Starts (q value))
    → ((t : Lexeme) → f.takes t ≡ true → Within sections n (f.after t)) → ((value : A) → Within sections n (q value)) → (t : Lexeme) → (fork-then p f q starts).takes t ≡ true → Within sections n ((fork-then p f q starts).after t)
unfolding fork-then
fork-then-within n p f q starts within further t e = then-within n (f.after t) q starts (within t e) further

pub fork-or-within : {A : Type 0} {sections : List (List ℕ)} (n : ℕ) (p whole : Reader A) (f : Fork sections p) (extra : Lexeme → Bool) (next : Lexeme → Reader A) (aside : IsAside extra) (next-starts : (t : Lexeme) → extra t ≡ true → Starts (next t))
    (at_end : whole [] ≡ p []) (at : (t : Lexeme) (ts : List Lexeme) → whole (t ∷ ts) ≡ cond (extra t) (next t ts) (p (t ∷ ts)))
    → ((t : Lexeme) → f.takes t ≡ true → Within sections n (f.after t)) → ((t : Lexeme) → extra t ≡ true → Within sections n (next t))
    → (t : Lexeme) → (fork-or p whole f extra next aside next-starts at_end at).takes t ≡ true → Within sections n ((fork-or p whole f extra next aside next-starts at_end at).after t)
unfolding fork-or
fork-or-within {sections} n p whole f extra next aside next-starts at_end at within others t e = go (extra t) refl
  where
    go : (b : Bool) → extra t ≡ b → Within sections n (λ ts. cond b (next t ts) (f.after t ts))
    go true is = others t is
    go false is = within t (without _ _ is e)

-- a right parenthesis tells nothing of the table
pub right_is_aside : IsAside (is_of RightParen)
right_is_aside = record { keywords = λ text at. refl; heads = λ text at free. refl; or = λ at. refl; gaps = λ at. refl }

-- nor does a reserved name other than `or`
pub word_is_aside : (w : List ℕ) → ((text : List ℕ) → is_reserved text ≡ false → bytes_eq text w ≡ false) → bytes_eq (codes "or") w ≡ false → IsAside (λ t. is_of Name t && bytes_eq (word_of t).text w)
word_is_aside w heads or = record { keywords = λ text at. refl; heads = λ text at. heads text; or = λ at. or; gaps = λ at. refl }

pub not_and : (text : List ℕ) → is_reserved text ≡ false → bytes_eq text (codes "and") ≡ false
not_and text e = (neither _ _ e).0

pub not_not : (text : List ℕ) → is_reserved text ≡ false → bytes_eq text (codes "not") ≡ false
not_not text e = (neither _ _ (neither _ _ e).1).0

-- items, up to the right parenthesis
module _ {A : Type 0} {sections : List (List ℕ)} (item : Reader A) (branch : Branch sections item) (shrinks : Shrinks item) where
  open branch use {fork as f, reads}

  others : A → Reader (List A)
  others value ts = before_others value (many item ts)

  next_item : (ts : List Lexeme) → comes RightParen ts ≡ false → many item ts ≡ and_then (item ts) others
  unfolding and_then others
  next_item ts stands = go (item ts) refl
    where
      go : (r : Read A) → item ts ≡ r → many item ts ≡ and_then r others
      go (got value rest) e = sym (many-next item shrinks [] ts rest value (many item ts) refl stands e)
      go (stuck why bad) e = many-err item shrinks [] ts bad (Refused why) (many item ts) refl stands e

  closes : (ts : List Lexeme) → comes RightParen ts ≡ true → many item ts ≡ got [] (drop 1 ts)
  closes ts e = many-done item shrinks [] ts (many item ts) refl e

  pub many-starts : Starts (many item)
  many-starts = record { more = right 0 ∷ []; value = []; again = λ other. closes (right 0 ∷ other) refl }

  before_others-then : (value : A) (r : Read (List A)) → before_others value r ≡ and_then r (λ items rest. got (value ∷ items) rest)
  unfolding and_then
  before_others-then value (got items rest) = refl
  before_others-then value (stuck why bad) = refl

  others-starts : (value : A) → Starts (others value)
  unfolding others
  others-starts value = let c = many-starts in record { more = c.more; value = value ∷ c.value; again = λ other. ap (before_others value) (c.again other) }

  others-outcome : (value : A) (ts : List Lexeme) → Outcome sections (many item) ts → Outcome sections (others value) ts
  unfolding others
  others-outcome value ts o =
      Outcome-same (λ us. before_others-then value (many item us)) ts
      (Outcome-then (many item) (λ items rest. got (value ∷ items) rest) (λ items. pure-starts (value ∷ items)) ts (λ items rest r. pure-reader (value ∷ items) rest) o)

  pub many-fork : Fork sections (many item)
  many-fork = fork-or (λ ts. and_then (item ts) others) (many item) (fork-then item f others others-starts) (is_of RightParen) (λ t ts. got [] ts) right_is_aside (λ t e. pure-starts []) (next_item [] refl) at
    where
      at : (t : Lexeme) (ts : List Lexeme) → many item (t ∷ ts) ≡ cond (is_of RightParen t) (got [] ts) (and_then (item (t ∷ ts)) others)
      at t ts = go (is_of RightParen t) refl
        where
          go : (b : Bool) → is_of RightParen t ≡ b → many item (t ∷ ts) ≡ cond b (got [] ts) (and_then (item (t ∷ ts)) others)
          go true e = closes (t ∷ ts) e
          go false e = next_item (t ∷ ts) e

  many-turn : (ts : List Lexeme) → ((mid : List Lexeme) → length mid < length ts → Outcome sections (many item) mid) → Outcome sections (many item) ts
  unfolding many-fork fork-or fork-then and_then
  many-turn ts again = fork-outcome (many item) many-fork ts next
    where
      next : (t : Lexeme) (rest : List Lexeme) → ts ≡ t ∷ rest → (is_of RightParen t || f.takes t) ≡ true → Outcome sections (λ us. cond (is_of RightParen t) (got [] us) (and_then (f.after t us) others)) rest
      next t rest is e = go (is_of RightParen t) refl
        where
          few : (value : A) (mid : List Lexeme) → item (t ∷ rest) ≡ got value mid → length mid < length ts
          few value mid read = omega (arith, ap length is, shrinks (t ∷ rest) mid value read)

          go : (b : Bool) → is_of RightParen t ≡ b → Outcome sections (λ us. cond b (got [] us) (and_then (f.after t us) others)) rest
          go true same = pure-reader [] rest
          go false same =
              let took = without _ _ same e in
              Outcome-then (f.after t) others others-starts rest
              (λ value mid r. others-outcome value mid (again mid (few value mid (f.followed t rest took ∙ Passes-read r))))
              (reads t took rest)

  many-outcome : (n : ℕ) (ts : List Lexeme) → length ts < n → Outcome sections (many item) ts
  many-outcome zero ts less = absurd (omega arith)
  many-outcome (suc n) ts less = many-turn ts (λ mid fewer. many-outcome n mid (omega (arith, fewer, less)))

  pub many-reader : IsReader sections (many item)
  many-reader ts = many-outcome (suc (length ts)) ts (omega arith)
