-- Lists of items: how a loop reads them, and that it reads what the grammar says.
use Rattle.std.proofs.Common.{◌≡◌, ℕ, zero, suc, ◌+◌, ◌<◌, Bool, true, false, cond, List, [], ◌∷◌, ◌++◌, length, drop, Err, refl, sym, ap, ◌∙◌, arith}
use Rattle.std.proofs.lemmas.List.{append-nil}
use Rattle.pddl_lexer.specs.declared.lexer.Kind.TheVariants.{RightParen}
use Rattle.pddl_forms.specs.declared.stop.Why.{Why}
use Rattle.pddl_forms.specs.declared.stop.Stop.{Stop}
use Rattle.pddl_forms.specs.declared.stop.Stop.TheVariants.{Refused, OutOfMemory}
use Rattle.pddl_forms.specs.Lexemes.{Lexeme}
use Rattle.pddl_forms.specs.Forms.{Many, close, more}
use Rattle.pddl_forms.specs.Inner.Reading.{Read, Reads, got, stuck, and_then, comes, before_others, items_within, many}
pub use Rattle.pddl_forms.specs.Inner.Leaving.{Shrinks}
use Rattle.pddl_forms.proofs.Fronts.{and_then-cases, right_comes, same_got}

-- reading is what the grammar says
pub record Parses {A : Type 0} (Rule : List Lexeme → A → List Lexeme → Type 0) (read : List Lexeme → Read A) : Type 0 where
  pub sound : (ts rest : List Lexeme) (value : A) → read ts ≡ got value rest → Rule ts value rest
  pub complete : (ts rest : List Lexeme) (value : A) → Rule ts value rest → read ts ≡ got value rest

-- an item takes a lexeme at least, and begins with no right parenthesis
pub record IsItem {A : Type 0} (Item : List Lexeme → A → List Lexeme → Type 0) : Type 0 where
  pub shorter : (ts rest : List Lexeme) (value : A) → Item ts value rest → length rest < length ts
  pub inside : (ts rest : List Lexeme) (value : A) → Item ts value rest → comes RightParen ts ≡ false

-- some items before others, if these could be read
abbrev pub after_items : {A : Type 0} → List A → Read (List A) → Read (List A)
after_items [] read = read
after_items (item ∷ items) read = before_others item (after_items items read)

pub after_items-push : {A : Type 0} (out : List A) (value : A) (r : Read (List A)) → after_items (out ++ value ∷ []) r ≡ after_items out (before_others value r)
after_items-push [] value r = refl
after_items-push (x ∷ out) value r = ap (before_others x) (after_items-push out value r)

pub after_items-stuck : {A : Type 0} (out : List A) (why : Why) (bad : List Lexeme) → after_items out (stuck why bad) ≡ stuck why bad
after_items-stuck [] why bad = refl
after_items-stuck (x ∷ out) why bad = ap (before_others x) (after_items-stuck out why bad)

pub after_items-got : {A : Type 0} (out items : List A) (rest : List Lexeme) → after_items out (got items rest) ≡ got (out ++ items) rest
after_items-got [] items rest = refl
after_items-got (x ∷ out) items rest = ap (before_others x) (after_items-got out items rest)

pub before_others-got : {A : Type 0} (value : A) (r : Read (List A)) (all : List A) (rest : List Lexeme) → before_others value r ≡ got all rest → (items : List A) × (r ≡ got items rest) × (all ≡ value ∷ items)
before_others-got value (got items mid) all rest e = let same = same_got e in (items, ap (got items) same.1, sym same.0)
before_others-got value (stuck why bad) all rest e = absurd cc

module _ {A : Type 0} (item : List Lexeme → Read A) (shrinks : Shrinks item) where
  -- what an item leads to depends on what is left alone
  further-same : (f g : List Lexeme → Read (List A)) (ts : List Lexeme) (r : Read A) → item ts ≡ r → ((rest : List Lexeme) → length rest < length ts → f rest ≡ g rest)
      → and_then r (λ value rest. before_others value (f rest)) ≡ and_then r (λ value rest. before_others value (g rest))
  unfolding and_then
  further-same f g ts (got value rest) e same = ap (before_others value) (same rest (shrinks ts rest value e))
  further-same f g ts (stuck why bad) e same = refl

  -- more room than lexemes changes nothing
  items_within-same : (n m : ℕ) (ts : List Lexeme) → length ts < n → length ts < m → items_within item n ts ≡ items_within item m ts
  items_within-same zero m ts a b = absurd (omega arith)
  items_within-same (suc n) zero ts a b = absurd (omega arith)
  items_within-same (suc n) (suc m) ts a b =
      ap (λ r. cond (comes RightParen ts) (got [] (drop 1 ts)) r)
      (further-same (items_within item n) (items_within item m) ts (item ts) refl (λ rest less. items_within-same n m rest (omega arith) (omega arith)))

  many-step : (ts : List Lexeme) → comes RightParen ts ≡ false → many item ts ≡ and_then (item ts) (λ value rest. before_others value (many item rest))
  unfolding many
  many-step ts open_list =
      rw open_list (further-same (items_within item (length ts)) (many item) ts (item ts) refl (λ rest less. items_within-same (length ts) (suc (length rest)) rest (omega arith) (omega arith)))

  many-more : (out : List A) (ts rest : List Lexeme) (value : A) → comes RightParen ts ≡ false → item ts ≡ got value rest → after_items (out ++ value ∷ []) (many item rest) ≡ after_items out (many item ts)
  unfolding and_then
  many-more out ts rest value open_list e =
      after_items-push out value (many item rest) ∙ ap (after_items out) (sym (many-step ts open_list ∙ ap (λ r. and_then r (λ value rest. before_others value (many item rest))) e))

  many-stuck : (out : List A) (ts bad : List Lexeme) (why : Why) → comes RightParen ts ≡ false → item ts ≡ stuck why bad → after_items out (many item ts) ≡ stuck why bad
  unfolding and_then
  many-stuck out ts bad why open_list e =
      ap (after_items out) (many-step ts open_list ∙ ap (λ r. and_then r (λ value rest. before_others value (many item rest))) e) ∙ after_items-stuck out why bad

  many-close : (out : List A) (ts : List Lexeme) → comes RightParen ts ≡ true → after_items out (many item ts) ≡ got out (drop 1 ts)
  unfolding many
  many-close out ts closed = rw closed (after_items-got out [] (drop 1 ts) ∙ ap (λ l. got l (drop 1 ts)) (append-nil out))

  -- one more turn of a loop that reads items, its end, and an item that cannot be read
  pub many-next : (out : List A) (ts rest : List Lexeme) (value : A) (all : Read (List A)) → after_items out (many item ts) ≡ all → comes RightParen ts ≡ false → item ts ≡ got value rest → after_items (out ++ value ∷ []) (many item rest) ≡ all
  many-next out ts rest value all so_far open_list e = many-more out ts rest value open_list e ∙ so_far

  pub many-done : (out : List A) (ts : List Lexeme) (all : Read (List A)) → after_items out (many item ts) ≡ all → comes RightParen ts ≡ true → all ≡ got out (drop 1 ts)
  many-done out ts all so_far closed = sym so_far ∙ many-close out ts closed

  pub many-err : (out : List A) (ts bad : List Lexeme) (stop : Stop) (all : Read (List A)) → after_items out (many item ts) ≡ all → comes RightParen ts ≡ false → Reads (item ts) (Err stop) bad → Reads all (Err stop) bad
  many-err out ts bad (Refused why) all so_far open_list e = sym so_far ∙ many-stuck out ts bad why open_list e
  many-err out ts bad OutOfMemory all so_far open_list e = tt

module _ {A : Type 0} (Item : List Lexeme → A → List Lexeme → Type 0) (item : List Lexeme → Read A) (is_item : IsItem Item) (parses : Parses Item item) where
  pub item_shrinks : Shrinks item
  item_shrinks ts rest value e = is_item.shorter ts rest value (parses.sound ts rest value e)

  sound-first : (f : List Lexeme → Read (List A)) → ((mid rest : List Lexeme) (items : List A) → f mid ≡ got items rest → Many Item mid items rest)
      → (ts rest : List Lexeme) (items : List A) (closed : Bool) → comes RightParen ts ≡ closed → cond closed (got [] (drop 1 ts)) (and_then (item ts) (λ value mid. before_others value (f mid))) ≡ got items rest → Many Item ts items rest
  sound-first f sound ts rest items true closed e = let same = same_got e in let at = right_comes ts closed in rw (at.1, ← same.0, ← same.1) close
  sound-first f sound ts rest items false closed e =
      let first = and_then-cases _ _ _ _ e in
      let others = before_others-got _ _ _ _ first.3 in
      rw others.2 (more (parses.sound ts first.1 first.0 first.2) (sound first.1 rest others.0 others.1))

  items_within-sound : (n : ℕ) (ts rest : List Lexeme) (items : List A) → items_within item n ts ≡ got items rest → Many Item ts items rest
  items_within-sound zero ts rest items e = absurd cc
  items_within-sound (suc n) ts rest items e = sound-first (items_within item n) (items_within-sound n) ts rest items (comes RightParen ts) refl e

  many-complete : (ts rest : List Lexeme) (items : List A) → Many Item ts items rest → many item ts ≡ got items rest
  unfolding many and_then
  many-complete ts rest items close = refl
  many-complete ts rest items (more {mid = mid} {item = first} {items = others} d ds) =
      many-step item item_shrinks ts (is_item.inside ts mid first d) ∙ ap (λ r. and_then r (λ value rest. before_others value (many item rest))) (parses.complete ts mid first d) ∙ ap (before_others first) (many-complete mid rest others ds)

  pub parses_many : Parses (Many Item) (many item)
  unfolding many
  parses_many = record { sound = λ ts rest items e. items_within-sound (suc (length ts)) ts rest items e; complete = many-complete }

-- the items and what is left are fewer than the lexemes
pub Many-count : {A : Type 0} {Item : List Lexeme → A → List Lexeme → Type 0} → IsItem Item → (ts rest : List Lexeme) (items : List A) → Many Item ts items rest → length items + length rest < length ts
Many-count is_item ts rest items close = omega arith
Many-count is_item ts rest items (more {mid = mid} {item = first} {items = others} d ds) =
    omega (arith, is_item.shorter ts mid first d, Many-count is_item mid rest others ds)
