-- Conjunctions of items: how a loop reads them, and that it reads what the grammar says.
use Rattle.std.proofs.Common.{◌≡◌, ℕ, zero, suc, ◌+◌, ◌-◌, ◌<◌, ◌≤◌, Bool, true, false, cond, List, [], ◌∷◌, ◌++◌, length, drop, codes, Err, refl, sym, ap, ◌∙◌, subst, arith, append_assoc}
use Rattle.std.proofs.lemmas.List.{append-nil, length-append}
use Rattle.pddl_lexer.specs.declared.lexer.Kind.TheVariants.{RightParen, Name}
use Rattle.pddl_forms.specs.declared.cursor.Start.{Start}
use Rattle.pddl_forms.specs.declared.cursor.Start.TheVariants.{Nothing, And, Other}
use Rattle.pddl_forms.specs.declared.stop.Stop.{Stop}
use Rattle.pddl_forms.specs.declared.stop.Stop.TheVariants.{Refused, OutOfMemory}
use Rattle.pddl_forms.specs.Lexemes.{Lexeme, left, right, name}
use Rattle.pddl_forms.specs.Forms.{Conjunction, nothing, all_of, just, Conjuncts, finished, also}
use Rattle.pddl_forms.specs.Inner.Reading.{Read, Reads, got, stuck, and_then, comes, comes_as, in_list, before_others, start, after_start, conjuncts_within, conjuncts, conjunction}
pub use Rattle.pddl_forms.specs.Inner.Leaving.{Stays}
use Rattle.pddl_forms.proofs.Fronts.{and_then-cases, right_comes, same_got, mark-left, literal-name}
use Rattle.pddl_forms.proofs.ItemSteps.{Parses, after_items, after_items-push, after_items-stuck, after_items-got, before_others-got}

-- what a start says of the lexemes after the left parenthesis, and of what is left
abbrev Starts : List Lexeme → Start → List Lexeme → Type 0
Starts ts Nothing rest = (q : ℕ) × (ts ≡ right q ∷ rest)
Starts ts And rest = (q : ℕ) × (ts ≡ name (codes "and") q ∷ rest)
Starts ts Other rest = ts ≡ rest

record StartsAs (ts : List Lexeme) (first : Start) (rest : List Lexeme) : Type 0 where
  starts : Starts ts first rest

chosen : (ts rest : List Lexeme) (first : Start) (closes opens : Bool) → comes RightParen ts ≡ closes → comes_as Name (codes "and") ts ≡ opens
    → cond closes (got Nothing (drop 1 ts)) (cond opens (got And (drop 1 ts)) (got Other ts)) ≡ got first rest → StartsAs ts first rest
chosen ts rest first true opens c o e =
    let same = same_got e in
    let at = right_comes ts c in
    rw (← same.0, ← same.1) (record { starts = at })
chosen ts rest first false true c o e =
    let same = same_got e in
    let at = literal-name (codes "and") ts (drop 1 ts) tt (rw o refl) in
    rw (← same.0, ← same.1) (record { starts = at })
chosen ts rest first false false c o e = let same = same_got e in rw (← same.0, ← same.1) (record { starts = refl })

-- how a part started
start-sound : (ts rest : List Lexeme) (first : Start) → start ts ≡ got first rest → (p : ℕ) × (us : List Lexeme) × (ts ≡ left p ∷ us) × StartsAs us first rest
unfolding start
start-sound ts rest first e =
    let paren = and_then-cases _ _ _ _ e in
    let at = mark-left ts _ _ paren.2 in
    (at.0, paren.1, at.1, chosen _ rest first _ _ refl refl paren.3)

left_over : (us rest : List Lexeme) (first : Start) → Starts us first rest → length rest ≤ length us
left_over us rest Nothing s = rw s.1 (omega arith)
left_over us rest And s = rw s.1 (omega arith)
left_over us rest Other s = rw s (omega arith)

-- a start takes a lexeme at least
pub start_shrinks : (ts rest : List Lexeme) (first : Start) → start ts ≡ got first rest → length rest < length ts
start_shrinks ts rest first e =
    let at = start-sound ts rest first e in
    let some = left_over at.1 rest first at.3.starts in
    rw at.2 (omega arith)

-- some items before others
after_items-append : {A : Type 0} (some others : List A) (r : Read (List A)) → after_items (some ++ others) r ≡ after_items some (after_items others r)
after_items-append [] others r = refl
after_items-append (x ∷ some) others r = ap (before_others x) (after_items-append some others r)

cond-same : {A : Type 0} (b : Bool) {x y u v : A} → (b ≡ true → x ≡ u) → (b ≡ false → y ≡ v) → cond b x y ≡ cond b u v
cond-same true f g = f refl
cond-same false f g = g refl

pub passed : (ts : List Lexeme) → comes RightParen ts ≡ true → length (drop 1 ts) < length ts
passed [] e = absurd cc
passed (t ∷ ts) e = omega arith

module _ {A : Type 0} (body : List Lexeme → Read A) (stays : Stays body) where
  -- what a start leads to depends on what is left alone
  item-same : (f g : List Lexeme → Read (List A)) (ts : List Lexeme) (r : Read A) → body ts ≡ r → ((rest : List Lexeme) → length rest ≤ length ts → f rest ≡ g rest)
      → and_then r (λ value rest. before_others value (f rest)) ≡ and_then r (λ value rest. before_others value (g rest))
  unfolding and_then
  item-same f g ts (got value rest) e same = ap (before_others value) (same rest (stays ts rest value e))
  item-same f g ts (stuck why bad) e same = refl

  after_start-same : (f g : ℕ → List Lexeme → Read (List A)) (count : ℕ) (first : Start) (ts : List Lexeme) → ((n : ℕ) (rest : List Lexeme) → length rest ≤ length ts → f n rest ≡ g n rest)
      → after_start body f count first ts ≡ after_start body g count first ts
  after_start-same f g count Nothing ts same = same count ts (omega arith)
  after_start-same f g count And ts same = same (suc count) ts (omega arith)
  after_start-same f g count Other ts same = item-same (f count) (g count) ts (body ts) refl (same count)

  start-same : (f g : ℕ → List Lexeme → Read (List A)) (count : ℕ) (ts : List Lexeme) (r : Read Start) → start ts ≡ r → ((n : ℕ) (rest : List Lexeme) → length rest < length ts → f n rest ≡ g n rest)
      → and_then r (λ first rest. after_start body f count first rest) ≡ and_then r (λ first rest. after_start body g count first rest)
  unfolding and_then
  start-same f g count ts (got first rest) e same =
      after_start-same f g count first rest (λ n us few. same n us (omega (arith, start_shrinks ts rest first e)))
  start-same f g count ts (stuck why bad) e same = refl

  -- more room than lexemes changes nothing
  within-same : (n m count : ℕ) (ts : List Lexeme) → length ts < n → length ts < m → conjuncts_within body n count ts ≡ conjuncts_within body m count ts
  within-same zero m count ts a b = absurd (omega arith)
  within-same (suc n) zero count ts a b = absurd (omega arith)
  within-same (suc n) (suc m) zero ts a b = refl
  within-same (suc n) (suc m) (suc count) ts a b =
      cond-same (comes RightParen ts)
      (λ c. within-same n m count (drop 1 ts) (omega (arith, passed ts c)) (omega (arith, passed ts c)))
      (λ c. start-same (conjuncts_within body n) (conjuncts_within body m) (suc count) ts (start ts) refl (λ k rest less. within-same n m k rest (omega arith) (omega arith)))

  conjuncts-none : (ts : List Lexeme) → conjuncts body 0 ts ≡ got [] ts
  unfolding conjuncts
  conjuncts-none ts = refl

  conjuncts-close : (count : ℕ) (ts : List Lexeme) → comes RightParen ts ≡ true → conjuncts body (suc count) ts ≡ conjuncts body count (drop 1 ts)
  unfolding conjuncts
  conjuncts-close count ts closes = rw closes (within-same (length ts) (suc (length (drop 1 ts))) count (drop 1 ts) (passed ts closes) (omega arith))

  conjuncts-start : (count : ℕ) (ts : List Lexeme) → comes RightParen ts ≡ false → conjuncts body (suc count) ts ≡ and_then (start ts) (λ first rest. after_start body (conjuncts body) (suc count) first rest)
  unfolding conjuncts
  conjuncts-start count ts stands =
      rw stands (start-same (conjuncts_within body (length ts)) (conjuncts body) (suc count) ts (start ts) refl (λ n rest less. within-same (length ts) (suc (length rest)) n rest (omega arith) (omega arith)))

  started : (count : ℕ) (ts rest : List Lexeme) (first : Start) → comes RightParen ts ≡ false → start ts ≡ got first rest → conjuncts body (suc count) ts ≡ after_start body (conjuncts body) (suc count) first rest
  unfolding and_then
  started count ts rest first stands e = conjuncts-start count ts stands ∙ ap (λ r. and_then r (λ first rest. after_start body (conjuncts body) (suc count) first rest)) e

  item_read : (count : ℕ) (ts rest : List Lexeme) (value : A) → body ts ≡ got value rest → after_start body (conjuncts body) count Other ts ≡ before_others value (conjuncts body count rest)
  unfolding and_then
  item_read count ts rest value e = ap (λ r. and_then r (λ item rest. before_others item (conjuncts body count rest))) e

  -- the turns of a loop that counts the open conjunctions: a right parenthesis, `( )`, `( and`, an item, and the end
  pub turn-close : (out : List A) (count : ℕ) (ts : List Lexeme) (all : Read (List A)) → after_items out (conjuncts body count ts) ≡ all → 0 < count → comes RightParen ts ≡ true → after_items out (conjuncts body (count - 1) (drop 1 ts)) ≡ all
  turn-close out zero ts all so_far some closes = absurd (omega arith)
  turn-close out (suc count) ts all so_far some closes =
      let less : suc count - 1 ≡ count = omega arith in
      rw less (ap (after_items out) (sym (conjuncts-close count ts closes)) ∙ so_far)

  pub turn-nothing : (out : List A) (count : ℕ) (ts rest : List Lexeme) (all : Read (List A)) → after_items out (conjuncts body count ts) ≡ all → 0 < count → comes RightParen ts ≡ false → start ts ≡ got Nothing rest → after_items out (conjuncts body count rest) ≡ all
  turn-nothing out zero ts rest all so_far some stands e = absurd (omega arith)
  turn-nothing out (suc count) ts rest all so_far some stands e = ap (after_items out) (sym (started count ts rest Nothing stands e)) ∙ so_far

  pub turn-and : (out : List A) (count : ℕ) (ts rest : List Lexeme) (all : Read (List A)) → after_items out (conjuncts body count ts) ≡ all → 0 < count → comes RightParen ts ≡ false → start ts ≡ got And rest → after_items out (conjuncts body (count + 1) rest) ≡ all
  turn-and out zero ts rest all so_far some stands e = absurd (omega arith)
  turn-and out (suc count) ts rest all so_far some stands e =
      let more : suc count + 1 ≡ suc (suc count) = omega arith in
      rw more (ap (after_items out) (sym (started count ts rest And stands e)) ∙ so_far)

  pub turn-item : (out : List A) (count : ℕ) (ts mid rest : List Lexeme) (value : A) (all : Read (List A)) → after_items out (conjuncts body count ts) ≡ all → 0 < count → comes RightParen ts ≡ false → start ts ≡ got Other mid → body mid ≡ got value rest → after_items (out ++ value ∷ []) (conjuncts body count rest) ≡ all
  turn-item out zero ts mid rest value all so_far some stands e d = absurd (omega arith)
  turn-item out (suc count) ts mid rest value all so_far some stands e d =
      after_items-push out value _ ∙ ap (after_items out) (sym (started count ts mid Other stands e ∙ item_read (suc count) mid rest value d)) ∙ so_far

  pub turn-done : (out : List A) (count : ℕ) (ts : List Lexeme) (all : Read (List A)) → after_items out (conjuncts body count ts) ≡ all → count ≡ 0 → all ≡ got out ts
  turn-done out count ts all so_far none =
      sym so_far ∙ ap (λ n. after_items out (conjuncts body n ts)) none ∙ ap (after_items out) (conjuncts-none ts) ∙ after_items-got out [] ts ∙ ap (λ l. got l ts) (append-nil out)

  -- a turn that cannot be read
  pub turn-start-err : (out : List A) (count : ℕ) (ts bad : List Lexeme) (stop : Stop) (all : Read (List A)) → after_items out (conjuncts body count ts) ≡ all → 0 < count → comes RightParen ts ≡ false → Reads (start ts) (Err stop) bad → Reads all (Err stop) bad
  unfolding and_then
  turn-start-err out zero ts bad stop all so_far some stands e = absurd (omega arith)
  turn-start-err out (suc count) ts bad (Refused why) all so_far some stands e =
      sym so_far ∙ ap (after_items out) (conjuncts-start count ts stands ∙ ap (λ r. and_then r (λ first rest. after_start body (conjuncts body) (suc count) first rest)) e) ∙ after_items-stuck out why bad
  turn-start-err out (suc count) ts bad OutOfMemory all so_far some stands e = tt

  pub turn-item-err : (out : List A) (count : ℕ) (ts mid bad : List Lexeme) (stop : Stop) (all : Read (List A)) → after_items out (conjuncts body count ts) ≡ all → 0 < count → comes RightParen ts ≡ false → start ts ≡ got Other mid → Reads (body mid) (Err stop) bad → Reads all (Err stop) bad
  unfolding and_then
  turn-item-err out zero ts mid bad stop all so_far some stands e d = absurd (omega arith)
  turn-item-err out (suc count) ts mid bad (Refused why) all so_far some stands e d =
      sym so_far ∙ ap (after_items out) (started count ts mid Other stands e ∙ ap (λ r. and_then r (λ item rest. before_others item (conjuncts body (suc count) rest))) d) ∙ after_items-stuck out why bad
  turn-item-err out (suc count) ts mid bad OutOfMemory all so_far some stands e d = tt

-- an item begins with a left parenthesis, after which neither `)` nor `and` stands
pub record IsInner {A : Type 0} (Item : List Lexeme → A → List Lexeme → Type 0) : Type 0 where
  pub shorter : (ts rest : List Lexeme) (value : A) → Item ts value rest → length rest + 1 < length ts
  pub inside : (p : ℕ) (ts rest : List Lexeme) (value : A) → Item (left p ∷ ts) value rest → comes RightParen ts ≡ false
  pub free : (p : ℕ) (ts rest : List Lexeme) (value : A) → Item (left p ∷ ts) value rest → comes_as Name (codes "and") ts ≡ false

module _ {A : Type 0} (Item : List Lexeme → A → List Lexeme → Type 0) (body : List Lexeme → Read A) (is_inner : IsInner Item) (parses : Parses Item (in_list body)) where
  inner : (p : ℕ) (ts rest : List Lexeme) (value : A) → body ts ≡ got value rest → Item (left p ∷ ts) value rest
  unfolding and_then
  inner p ts rest value e = parses.sound (left p ∷ ts) rest value e

  pub body_stays : Stays body
  body_stays ts rest value e = omega (arith, is_inner.shorter (left 0 ∷ ts) rest value (inner 0 ts rest value e))

  -- the items of so many open conjunctions
  abbrev Pending : ℕ → List Lexeme → List A → List Lexeme → Type 0
  Pending zero ts items rest = (items ≡ []) × (ts ≡ rest)
  Pending (suc count) ts items rest = (some others : List A) × (mid : List Lexeme) × (items ≡ some ++ others) × Conjuncts Item ts some mid × Pending count mid others rest

  under_and : (room count : ℕ) (ts rest : List Lexeme) (items : List A) (p q : ℕ) (mid : List Lexeme) → ts ≡ left p ∷ name (codes "and") q ∷ mid → Pending (suc (suc count)) mid items rest → Pending (suc count) ts items rest
  under_and room count ts rest items p q mid is (a, bc, m, e, ca, (b, c, n, f, cb, pending)) =
      (a ++ b, c, n, e ∙ ap (λ l. a ++ l) f ∙ sym (append_assoc a b c), rw is (also (all_of {p = p} {q = q} ca) cb), pending)

  -- what a start led to
  part-sound : (room count : ℕ) (ts us mid rest : List Lexeme) (items : List A) (p : ℕ) → ts ≡ left p ∷ us → ((n : ℕ) (vs : List Lexeme) (others : List A) → conjuncts_within body room n vs ≡ got others rest → Pending n vs others rest)
      → (first : Start) → Starts us first mid → after_start body (conjuncts_within body room) (suc count) first mid ≡ got items rest → Pending (suc count) ts items rest
  part-sound room count ts us mid rest items p is further Nothing s e =
      let pending = further (suc count) mid items e in
      (pending.0, pending.1, pending.2, pending.3, rw (is, s.1) (also nothing pending.4), pending.5)
  part-sound room count ts us mid rest items p is further And s e =
      under_and room count ts rest items p s.0 mid (is ∙ ap (λ l. left p ∷ l) s.1) (further (suc (suc count)) mid items e)
  part-sound room count ts us mid rest items p is further Other s e =
      let one = and_then-cases _ _ _ _ e in
      let others = before_others-got _ _ _ _ one.3 in
      let pending = further (suc count) one.1 others.0 others.1 in
      (one.0 ∷ pending.0, pending.1, pending.2, others.2 ∙ ap (λ l. one.0 ∷ l) pending.3, rw (is, s) (also (just (inner p mid one.1 one.0 one.2)) pending.4), pending.5)

  step-sound : (room count : ℕ) (ts rest : List Lexeme) (items : List A) → ((n : ℕ) (vs : List Lexeme) (others : List A) → conjuncts_within body room n vs ≡ got others rest → Pending n vs others rest)
      → (closes : Bool) → comes RightParen ts ≡ closes → cond closes (conjuncts_within body room count (drop 1 ts)) (and_then (start ts) (λ first rest. after_start body (conjuncts_within body room) (suc count) first rest)) ≡ got items rest → Pending (suc count) ts items rest
  step-sound room count ts rest items further true c e =
      let at = right_comes ts c in
      ([], items, drop 1 ts, refl, rw at.1 finished, further count (drop 1 ts) items e)
  step-sound room count ts rest items further false c e =
      let first = and_then-cases _ _ _ _ e in
      let at = start-sound ts first.1 first.0 first.2 in
      part-sound room count ts at.1 first.1 rest items at.0 at.2 further first.0 at.3.starts first.3

  within-sound : (room count : ℕ) (ts rest : List Lexeme) (items : List A) → conjuncts_within body room count ts ≡ got items rest → Pending count ts items rest
  within-sound zero count ts rest items e = absurd cc
  within-sound (suc room) zero ts rest items e = let same = same_got e in (sym same.0, same.1)
  within-sound (suc room) (suc count) ts rest items e =
      step-sound room count ts rest items (λ n vs others. within-sound room n vs rest others) (comes RightParen ts) refl e

  just_at : (ts us mid rest : List Lexeme) (items : List A) (p : ℕ) (value : A) → ts ≡ left p ∷ us → mid ≡ rest → value ∷ [] ≡ items → Item (left p ∷ us) value mid → Conjunction Item ts items rest
  just_at ts us mid rest items p value is same one d = rw (is, ← same, ← one) (just d)

  whole-sound : (ts us mid rest : List Lexeme) (items : List A) (p : ℕ) → ts ≡ left p ∷ us → (first : Start) → Starts us first mid → after_start body (conjuncts body) 0 first mid ≡ got items rest → Conjunction Item ts items rest
  unfolding conjuncts
  whole-sound ts us mid rest items p is Nothing s e =
      let same = same_got e in
      rw (is, s.1, ← same.0, ← same.1) nothing
  whole-sound ts us mid rest items p is And s e =
      let pending = within-sound (suc (length mid)) 1 mid rest items e in
      let all = pending.3 ∙ ap (λ l. pending.0 ++ l) pending.5.0 ∙ append-nil pending.0 in
      rw (is, s.1, all) (all_of (rw pending.5.1 at pending.4))
  whole-sound ts us mid rest items p is Other s e =
      let one = and_then-cases _ _ _ _ e in
      let same = same_got one.3 in
      just_at ts mid one.1 rest items p one.0 (is ∙ ap (λ l. left p ∷ l) s) same.1 same.0 (inner p mid one.1 one.0 one.2)

  conjunction-sound : (ts rest : List Lexeme) (items : List A) → conjunction body ts ≡ got items rest → Conjunction Item ts items rest
  unfolding conjunction
  conjunction-sound ts rest items e =
      let first = and_then-cases _ _ _ _ e in
      let at = start-sound ts first.1 first.0 first.2 in
      whole-sound ts at.1 first.1 rest items at.0 at.2 first.0 at.3.starts first.3

  starts_other : (ts us : List Lexeme) (p : ℕ) → ts ≡ left p ∷ us → comes RightParen us ≡ false → comes_as Name (codes "and") us ≡ false → start ts ≡ got Other us
  unfolding start and_then
  starts_other ts us p is c o = rw (is, c, o) refl

  -- an item that is read begins with a left parenthesis, and is no conjunction
  begins : (ts rest : List Lexeme) (value : A) → Item ts value rest → (us : List Lexeme) × (start ts ≡ got Other us) × (body us ≡ got value rest)
  begins ts rest value d =
      let paren = and_then-cases _ _ _ _ (parses.complete ts rest value d) in
      let at = mark-left ts _ _ paren.2 in
      let there : Item (left at.0 ∷ paren.1) value rest = subst (λ us. Item us value rest) at.1 d in
      (paren.1, starts_other ts paren.1 at.0 at.1 (is_inner.inside at.0 paren.1 rest value there) (is_inner.free at.0 paren.1 rest value there), paren.3)

  stands : (ts rest : List Lexeme) (items : List A) → Conjunction Item ts items rest → comes RightParen ts ≡ false
  stands ts rest items nothing = refl
  stands ts rest items (all_of d) = refl
  stands ts rest items (just {item = value} d) =
      let paren = and_then-cases _ _ _ _ (parses.complete ts rest value d) in
      let at = mark-left ts _ _ paren.2 in
      rw at.1 refl

  mutual
    unfolding start and_then

    conjunction-continues : (ts rest : List Lexeme) (items : List A) (count : ℕ) → Conjunction Item ts items rest → conjuncts body (suc count) ts ≡ after_items items (conjuncts body (suc count) rest)
    conjunction-continues ts rest items count nothing = started body body_stays count ts rest Nothing refl refl
    conjunction-continues ts rest items count (all_of {ts = us} d) =
        started body body_stays count ts us And refl refl ∙ conjuncts-continues us rest items (suc count) d
    conjunction-continues ts rest items count (just {item = value} d) =
        let first = begins ts rest value d in
        started body body_stays count ts first.0 Other (stands ts rest (value ∷ []) (just d)) first.1 ∙ item_read body body_stays (suc count) first.0 rest value first.2

    conjuncts-continues : (ts rest : List Lexeme) (items : List A) (count : ℕ) → Conjuncts Item ts items rest → conjuncts body (suc count) ts ≡ after_items items (conjuncts body count rest)
    conjuncts-continues ts rest items count finished = conjuncts-close body body_stays count ts refl
    conjuncts-continues ts rest items count (also {mid = mid} {some = some} {others = others} d ds) =
        conjunction-continues ts mid some count d ∙ ap (after_items some) (conjuncts-continues mid rest others count ds) ∙ sym (after_items-append some others (conjuncts body count rest))

  conjunction-complete : (ts rest : List Lexeme) (items : List A) → Conjunction Item ts items rest → conjunction body ts ≡ got items rest
  unfolding conjunction start and_then
  conjunction-complete ts rest items nothing = conjuncts-none body body_stays rest
  conjunction-complete ts rest items (all_of {ts = us} d) =
      conjuncts-continues us rest items 0 d ∙ ap (after_items items) (conjuncts-none body body_stays rest) ∙ after_items-got items [] rest ∙ ap (λ l. got l rest) (append-nil items)
  conjunction-complete ts rest items (just {item = value} d) =
      let first = begins ts rest value d in
      rw first.1 (item_read body body_stays 0 first.0 rest value first.2 ∙ ap (before_others value) (conjuncts-none body body_stays rest))

  pub parses_conjunction : Parses (Conjunction Item) (conjunction body)
  parses_conjunction = record { sound = conjunction-sound; complete = conjunction-complete }

  -- the items and what is left are fewer than the lexemes
  mutual
    pub Conjunction-count : (ts rest : List Lexeme) (items : List A) → Conjunction Item ts items rest → length items + length rest < length ts
    Conjunction-count ts rest items nothing = omega arith
    Conjunction-count ts rest items (all_of {ts = us} d) = omega (arith, Conjuncts-count us rest items d)
    Conjunction-count ts rest items (just {item = value} d) = omega (arith, is_inner.shorter ts rest value d)

    Conjuncts-count : (ts rest : List Lexeme) (items : List A) → Conjuncts Item ts items rest → length items + length rest < length ts
    Conjuncts-count ts rest items finished = omega arith
    Conjuncts-count ts rest items (also {mid = mid} {some = some} {others = others} d ds) =
        omega (arith, length-append some others, Conjunction-count ts mid some d, Conjuncts-count mid rest others ds)
