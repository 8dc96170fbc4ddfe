-- The readers of atoms and of conjunctions are exact on both sides.
use Rattle.std.proofs.Common.{◌≡◌, ℕ, zero, suc, ◌+◌, ◌-◌, Bool, true, false, cond, ◌&&◌, bytes_eq, List, [], ◌∷◌, ◌++◌, drop, codes, refl, sym, ap, ◌∙◌, arith}
use Rattle.pddl_lexer.specs.declared.lexer.Kind.TheVariants.{LeftParen, RightParen, Name}
use Rattle.pddl_forms.specs.declared.stop.Stop.TheVariants.{Refused}
use Rattle.pddl_forms.specs.declared.cursor.Start.{Start}
use Rattle.pddl_forms.specs.declared.cursor.Start.TheVariants.{Nothing, And, Other}
use Rattle.pddl_forms.specs.declared.formulas.Terms.{Terms}
use Rattle.pddl_forms.specs.declared.formulas.Terms.TheVariants.{NamesAndVariables}
use Rattle.pddl_forms.specs.declared.texts.AtomChange.TheVariants.{Added, Deleted}
use Rattle.pddl_forms.specs.Lexemes.{Lexeme, left, right, name, variable, keyword, dash, equal, gap}
use Rattle.pddl_forms.specs.Inner.Reading.{Read, got, stuck, and_then, is_of, word_of, comes, comes_as, mark, many, term, head, atom_body, atom, change_body, closed_item, in_list, before_others, start, after_start, conjuncts, conjunction}
use Rattle.pddl_forms.proofs.Exact.{term_shrinks}
use Rattle.pddl_forms.proofs.ConjunctionRules.{atom_body_stays, change_body_stays}
use Rattle.pddl_forms.proofs.Conjunctions.{Stays, turn-close, turn-nothing, turn-and, turn-item, turn-done, turn-start-err, turn-item-err}
use Rattle.pddl_forms.proofs.Readers.{Reader, Starts, Outcome-same, IsReader, pure-reader, pure-starts, seq-reader}
use Rattle.pddl_forms.proofs.Branches.{Fork, Branch, fork-then, branch-reader, branch-then, branch-or, fork-or, fork-starts, Within, reader-within, within-reader, within-less, then-within, fork-within, fork-then-within, fork-or-within, right_is_aside, word_is_aside, not_and, not_not, many-reader}
use Rattle.pddl_forms.proofs.OneLexeme.{left-branch, right-branch, term-branch, head-branch}

-- `( HEAD term* )`
pub atom_body-branch : (sections : List (List ℕ)) (terms : Terms) → Branch sections (atom_body terms)
unfolding atom_body
atom_body-branch sections terms =
    branch-then head _ (head-branch sections) (λ w. seq-reader (many (term terms)) _ (many-reader (term terms) (term-branch sections terms) (term_shrinks terms)) (λ args. pure-reader _))

pub in_list-branch : {A : Type 0} (sections : List (List ℕ)) (body : Reader A) → IsReader sections body → Branch sections (in_list body)
in_list-branch sections body reads = branch-then (mark LeftParen) (λ _. body) (left-branch sections) (λ _. reads)

pub closed-reader : {A : Type 0} (sections : List (List ℕ)) (item : Reader A) → IsReader sections item → IsReader sections (closed_item item)
closed-reader sections item reads = seq-reader item _ reads (λ value. seq-reader (mark RightParen) _ (branch-reader (right-branch sections)) (λ _. pure-reader value))

pub atom-branch : (sections : List (List ℕ)) (terms : Terms) → Branch sections (atom terms)
atom-branch sections terms = in_list-branch sections (atom_body terms) (branch-reader (atom_body-branch sections terms))

-- `not atom )`, or `HEAD term* )`
pub change_body-branch : (sections : List (List ℕ)) → Branch sections change_body
unfolding change_body
change_body-branch sections =
    branch-or (λ ts. and_then (atom_body NamesAndVariables ts) (λ a rest. got (Added a) rest)) change_body
    (branch-then (atom_body NamesAndVariables) _ (atom_body-branch sections NamesAndVariables) (λ a. pure-reader (Added a)))
    (λ t. is_of Name t && bytes_eq (word_of t).text (codes "not"))
    (λ t ts. and_then (closed_item (atom NamesAndVariables) ts) (λ a rest. got (Deleted a) rest))
    (word_is_aside (codes "not") not_not refl)
    (λ t e. seq-reader (closed_item (atom NamesAndVariables)) _ (closed-reader sections (atom NamesAndVariables) (branch-reader (atom-branch sections NamesAndVariables))) (λ a. pure-reader (Deleted a)))
    refl
    (λ t ts. refl)

-- conjunctions of items whose readers go by the first lexeme after the left parenthesis
module _ {A : Type 0} (sections : List (List ℕ)) (body : Reader A) (b : Branch sections body) (stays : Stays body) where
  others : ℕ → A → Reader (List A)
  others count item ts = before_others item (conjuncts body count ts)

  -- what stands after a left parenthesis
  no_close : ℕ → Reader (List A)
  no_close count ts = cond (comes_as Name (codes "and") ts) (conjuncts body (suc count) (drop 1 ts)) (and_then (body ts) (others count))

  within_paren : ℕ → Reader (List A)
  within_paren count ts = cond (comes RightParen ts) (conjuncts body count (drop 1 ts)) (no_close count ts)

  none_open : (ts : List Lexeme) → conjuncts body 0 ts ≡ got [] ts
  none_open ts = turn-done body stays [] 0 ts (conjuncts body 0 ts) refl refl

  one_closed : (count : ℕ) (ts : List Lexeme) → comes RightParen ts ≡ true → conjuncts body (suc count) ts ≡ conjuncts body count (drop 1 ts)
  one_closed count ts closes =
      let less : suc count - 1 ≡ count = omega arith in
      sym (turn-close body stays [] (suc count) ts (conjuncts body (suc count) ts) refl (omega arith) closes) ∙ ap (λ n. conjuncts body n (drop 1 ts)) less

  -- what a start leads to
  by_start : ℕ → List Lexeme → Read (List A)
  by_start count ts = and_then (start ts) (λ first rest. after_start body (conjuncts body) count first rest)

  one_started : (count : ℕ) (ts : List Lexeme) → comes RightParen ts ≡ false → conjuncts body (suc count) ts ≡ by_start (suc count) ts
  unfolding by_start and_then
  one_started count ts stands = go (start ts) refl
    where
      item : (mid : List Lexeme) → start ts ≡ got Other mid → (r : Read A) → body mid ≡ r → conjuncts body (suc count) ts ≡ and_then r (λ item rest. before_others item (conjuncts body (suc count) rest))
      item mid e (got value rest) d = sym (turn-item body stays [] (suc count) ts mid rest value (conjuncts body (suc count) ts) refl (omega arith) stands e d)
      item mid e (stuck why bad) d = turn-item-err body stays [] (suc count) ts mid bad (Refused why) (conjuncts body (suc count) ts) refl (omega arith) stands e d

      more : suc count + 1 ≡ suc (suc count)
      more = omega arith

      go : (r : Read Start) → start ts ≡ r → conjuncts body (suc count) ts ≡ and_then r (λ first rest. after_start body (conjuncts body) (suc count) first rest)
      go (got Nothing rest) e = sym (turn-nothing body stays [] (suc count) ts rest (conjuncts body (suc count) ts) refl (omega arith) stands e)
      go (got And rest) e = sym (turn-and body stays [] (suc count) ts rest (conjuncts body (suc count) ts) refl (omega arith) stands e) ∙ ap (λ n. conjuncts body n rest) more
      go (got Other mid) e = item mid e (body mid) refl
      go (stuck why bad) e = turn-start-err body stays [] (suc count) ts bad (Refused why) (conjuncts body (suc count) ts) refl (omega arith) stands e

  started_in_list : (count : ℕ) (ts : List Lexeme) → by_start count ts ≡ in_list (within_paren count) ts
  unfolding by_start within_paren no_close others start and_then
  started_in_list count [] = refl
  started_in_list count (left p ∷ ts) = go (comes RightParen ts) (comes_as Name (codes "and") ts)
    where
      go : (closes opens : Bool) → and_then (cond closes (got Nothing (drop 1 ts)) (cond opens (got And (drop 1 ts)) (got Other ts))) (λ first rest. after_start body (conjuncts body) count first rest)
          ≡ cond closes (conjuncts body count (drop 1 ts)) (cond opens (conjuncts body (suc count) (drop 1 ts)) (and_then (body ts) (λ item rest. before_others item (conjuncts body count rest))))
      go true opens = refl
      go false true = refl
      go false false = refl
  started_in_list count (right p ∷ ts) = refl
  started_in_list count (name text p ∷ ts) = refl
  started_in_list count (variable text p ∷ ts) = refl
  started_in_list count (keyword text p ∷ ts) = refl
  started_in_list count (dash p ∷ ts) = refl
  started_in_list count (equal p ∷ ts) = refl
  started_in_list count (gap p ∷ ts) = refl

  conjuncts-starts : (count : ℕ) → Starts (conjuncts body count)
  conjuncts-starts zero = record { more = []; value = []; again = none_open }
  conjuncts-starts (suc count) =
      let c = conjuncts-starts count in
      record { more = right 0 ∷ c.more; value = c.value; again = λ other. one_closed count (right 0 ∷ (c.more ++ other)) refl ∙ c.again other }

  others-starts : (count : ℕ) (item : A) → Starts (others count item)
  unfolding others
  others-starts count item = let c = conjuncts-starts count in record { more = c.more; value = item ∷ c.value; again = λ other. ap (before_others item) (c.again other) }

  before_others-then : (value : A) (r : Read (List A)) → before_others value r ≡ and_then r (λ items rest. got (value ∷ items) rest)
  unfolding and_then
  before_others-then value (got items rest) = refl
  before_others-then value (stuck why bad) = refl

  others-within : (n count : ℕ) (item : A) → Within sections n (conjuncts body count) → Within sections n (others count item)
  unfolding others
  others-within n count item within ts less =
      Outcome-same (λ us. before_others-then item (conjuncts body count us)) ts
      (then-within n (conjuncts body count) (λ items rest. got (item ∷ items) rest) (λ items. pure-starts (item ∷ items)) within (λ items. reader-within n (pure-reader (item ∷ items))) ts less)

  item-fork : (count : ℕ) → Fork sections (λ ts. and_then (body ts) (others count))
  item-fork count = fork-then body b.fork (others count) (others-starts count)

  no_close-fork : (count : ℕ) → Fork sections (no_close count)
  unfolding no_close
  no_close-fork count =
      fork-or (λ ts. and_then (body ts) (others count)) (no_close count) (item-fork count) (λ t. is_of Name t && bytes_eq (word_of t).text (codes "and")) (λ t ts. conjuncts body (suc count) ts)
      (word_is_aside (codes "and") not_and refl) (λ t e. conjuncts-starts (suc count)) refl (λ t ts. refl)

  within_paren-fork : (count : ℕ) → Fork sections (within_paren count)
  unfolding within_paren
  within_paren-fork count =
      fork-or (no_close count) (within_paren count) (no_close-fork count) (is_of RightParen) (λ t ts. conjuncts body count ts) right_is_aside (λ t e. conjuncts-starts count) refl (λ t ts. refl)

  within_paren-within : (n count : ℕ) → ((c : ℕ) → Within sections n (conjuncts body c)) → Within sections (suc n) (within_paren count)
  unfolding within_paren-fork no_close-fork item-fork within_paren no_close
  within_paren-within n count within =
      fork-within n (within_paren count) (within_paren-fork count)
      (fork-or-within n (no_close count) (within_paren count) (no_close-fork count) (is_of RightParen) (λ t ts. conjuncts body count ts) right_is_aside (λ t e. conjuncts-starts count) refl (λ t ts. refl)
      (fork-or-within n (λ ts. and_then (body ts) (others count)) (no_close count) (item-fork count) (λ t. is_of Name t && bytes_eq (word_of t).text (codes "and")) (λ t ts. conjuncts body (suc count) ts)
      (word_is_aside (codes "and") not_and refl) (λ t e. conjuncts-starts (suc count)) refl (λ t ts. refl)
      (fork-then-within n body b.fork (others count) (others-starts count) (λ t e. reader-within n (b.reads t e)) (λ item. others-within n count item (within count)))
      (λ t e. within (suc count)))
      (λ t e. within count))

  within_paren-starts : (count : ℕ) → Starts (within_paren count)
  within_paren-starts count = fork-starts (within_paren count) (within_paren-fork count)

  list-fork : (count : ℕ) → Fork sections (in_list (within_paren count))
  list-fork count = fork-then (mark LeftParen) (left-branch sections).fork (λ _. within_paren count) (λ _. within_paren-starts count)

  conjuncts_at : (count : ℕ) (t : Lexeme) (ts : List Lexeme) → conjuncts body (suc count) (t ∷ ts) ≡ cond (is_of RightParen t) (conjuncts body count ts) (in_list (within_paren (suc count)) (t ∷ ts))
  conjuncts_at count t ts = go (is_of RightParen t) refl
    where
      go : (c : Bool) → is_of RightParen t ≡ c → conjuncts body (suc count) (t ∷ ts) ≡ cond c (conjuncts body count ts) (in_list (within_paren (suc count)) (t ∷ ts))
      go true e = one_closed count (t ∷ ts) e
      go false e = one_started count (t ∷ ts) e ∙ started_in_list (suc count) (t ∷ ts)

  conjuncts_at_end : (count : ℕ) → conjuncts body (suc count) [] ≡ in_list (within_paren (suc count)) []
  conjuncts_at_end count = one_started count [] refl ∙ started_in_list (suc count) []

  list-within : (n count : ℕ) → Within sections n (within_paren count) → (t : Lexeme) → (list-fork count).takes t ≡ true → Within sections n ((list-fork count).after t)
  unfolding list-fork
  list-within n count within = fork-then-within n (mark LeftParen) (left-branch sections).fork (λ _. within_paren count) (λ _. within_paren-starts count) (λ t e. reader-within n ((left-branch sections).reads t e)) (λ _. within)

  conjuncts-within : (n count : ℕ) → Within sections n (conjuncts body count)
  conjuncts-within zero count ts less = absurd (omega arith)
  conjuncts-within (suc n) zero ts less = Outcome-same none_open ts (pure-reader [] ts)
  conjuncts-within (suc n) (suc count) ts less =
      fork-within n (conjuncts body (suc count))
      (fork-or (in_list (within_paren (suc count))) (conjuncts body (suc count)) (list-fork (suc count)) (is_of RightParen) (λ t ts. conjuncts body count ts) right_is_aside (λ t e. conjuncts-starts count) (conjuncts_at_end count) (conjuncts_at count))
      (fork-or-within n (in_list (within_paren (suc count))) (conjuncts body (suc count)) (list-fork (suc count)) (is_of RightParen) (λ t ts. conjuncts body count ts) right_is_aside (λ t e. conjuncts-starts count) (conjuncts_at_end count) (conjuncts_at count)
      (list-within n (suc count) (within-less n (within_paren-within n (suc count) (conjuncts-within n))))
      (λ t e. conjuncts-within n count))
      ts less

  pub conjunction-reader : IsReader sections (conjunction body)
  unfolding conjunction by_start
  conjunction-reader ts =
      Outcome-same (started_in_list 0) ts (branch-reader (in_list-branch sections (within_paren 0) (within-reader (λ n. within-less n (within_paren-within n 0 (conjuncts-within n))))) ts)

-- conjunctions of atoms, and of changes
pub formula-reader : (sections : List (List ℕ)) (terms : Terms) → IsReader sections (conjunction (atom_body terms))
formula-reader sections terms = conjunction-reader sections (atom_body terms) (atom_body-branch sections terms) (atom_body_stays terms)

pub effect-reader : (sections : List (List ℕ)) → IsReader sections (conjunction change_body)
effect-reader sections = conjunction-reader sections change_body (change_body-branch sections) change_body_stays
