-- Typed lists are read as the grammar says.
use Rattle.std.proofs.Common.{◌≡◌, ℕ, Bool, true, false, cond, ◌&&◌, List, [], ◌∷◌, ◌++◌, map, Some, None, refl, sym, ap, ◌∙◌, subst, append_assoc}
use Rattle.std.proofs.lemmas.List.{append-nil, map-append}
use Rattle.pddl_lexer.specs.declared.lexer.Kind.{Kind}
use Rattle.pddl_lexer.specs.declared.lexer.Kind.TheVariants.{LeftParen, RightParen, Name, Variable, Dash}
use Rattle.pddl_forms.specs.declared.stop.Why.TheVariants.{Shape}
use Rattle.pddl_forms.specs.declared.texts.Word.{Word}
use Rattle.pddl_forms.specs.declared.texts.Typed.{Typed}
use Rattle.pddl_forms.specs.Lexemes.{Lexeme, left, right, name, variable, dash, gap}
use Rattle.pddl_forms.specs.Forms.{word, Many, close, more, IsNameWord, is_name_word}
use Rattle.pddl_forms.specs.Inner.Reading.{Read, got, stuck, is_of, word_of}
use Rattle.pddl_forms.specs.Forms.{typed, IsVariableWord, is_variable_word, Group, last, with_next, TypedList, untyped_words, typed_group, open_group, IsNames, IsVariables}
use Rattle.pddl_forms.specs.Inner.TypedReading.{is_gap, some_words, why_no_type, words_of, type_of, no_type_of, typed_list}
use Rattle.pddl_forms.proofs.Fronts.{same_got}
use Rattle.pddl_forms.proofs.ItemSteps.{Parses}
use Rattle.pddl_forms.proofs.TypedReaders.{gap_found}

-- a rule that spells a word as one lexeme of a kind
pub record SpellsWord (kind : Kind) (Item : List Lexeme → Word → List Lexeme → Type 0) (spelled : Word → Lexeme) : Type 0 where
  pub item : (w : Word) (rest : List Lexeme) → Item (spelled w ∷ rest) w rest
  pub only : (ts rest : List Lexeme) (w : Word) → Item ts w rest → ts ≡ spelled w ∷ rest
  pub is_kind : (w : Word) → is_of kind (spelled w) ≡ true
  pub is_not_right : (w : Word) → is_of RightParen (spelled w) ≡ false
  pub word_is : (w : Word) → word_of (spelled w) ≡ w
  pub found : (t : Lexeme) → is_of kind t ≡ true → t ≡ spelled (word_of t)
  pub dash_not : (p : ℕ) → is_of kind (dash p) ≡ false

some_last : (ws : List Word) (w : Word) → some_words (ws ++ w ∷ []) ≡ true
some_last [] w = refl
some_last (v ∷ ws) w = refl

module _ (kind : Kind) (Item : List Lexeme → Word → List Lexeme → Type 0) (spelled : Word → Lexeme) (s : SpellsWord kind Item spelled) where
  -- a word that is read
  one_word : (done : List Typed) (waiting : List Word) (ts rest : List Lexeme) (w : Word) → Item ts w rest → words_of kind done waiting ts ≡ words_of kind done (waiting ++ w ∷ []) rest
  unfolding words_of
  one_word done waiting ts rest w d = rw (s.only ts rest w d, s.is_not_right w, s.is_kind w, s.word_is w) refl

  no_more_words : (done : List Typed) (waiting : List Word) (ts rest : List Lexeme) (ws : List Word) → Many Item ts ws rest → words_of kind done waiting ts ≡ got (done ++ map (typed None) (waiting ++ ws)) rest
  unfolding words_of
  no_more_words done waiting ts rest [] close = ap (λ l. got (done ++ map (typed None) l) rest) (sym (append-nil waiting))
  no_more_words done waiting ts rest ws (more {mid = mid} {item = w} {items = others} d ds) =
      one_word done waiting ts mid w d ∙ no_more_words done (waiting ++ w ∷ []) mid rest others ds ∙ ap (λ l. got (done ++ map (typed None) l) rest) (append_assoc waiting (w ∷ []) others)

  dash_read : (done : List Typed) (waiting : List Word) (p : ℕ) (ts : List Lexeme) → some_words waiting ≡ true → words_of kind done waiting (dash p ∷ ts) ≡ type_of kind done waiting ts
  unfolding words_of
  dash_read done waiting p ts some = rw (s.dash_not p, some) refl

  group_read : (done : List Typed) (waiting : List Word) (ts rest : List Lexeme) (ws : List Word) → Group Item ts ws rest → words_of kind done waiting ts ≡ type_of kind done (waiting ++ ws) rest
  group_read done waiting ts rest ws (last {p = p} {w = w} d) = one_word done waiting ts (dash p ∷ rest) w d ∙ dash_read done (waiting ++ w ∷ []) p rest (some_last waiting w)
  group_read done waiting ts rest ws (with_next {mid = mid} {w = w} {ws = others} d ds) =
      one_word done waiting ts mid w d ∙ group_read done (waiting ++ w ∷ []) mid rest others ds ∙ ap (λ l. type_of kind done l rest) (append_assoc waiting (w ∷ []) others)

  typed-complete : (done : List Typed) (ts rest : List Lexeme) (items : List Typed) → TypedList Item ts items rest → words_of kind done [] ts ≡ got (done ++ items) rest
  unfolding words_of
  typed-complete done ts rest items (untyped_words {ws = ws} d) = no_more_words done [] ts rest ws d
  typed-complete done ts rest items (typed_group {q = q} {text = text} {mid = mid} {ws = ws} {others = others} g d) =
      group_read done [] ts (name text q ∷ mid) ws g ∙ typed-complete (done ++ map (typed (Some (word text q))) ws) mid rest others d ∙ ap (λ l. got l rest) (append_assoc done (map (typed (Some (word text q))) ws) others)
  typed-complete done ts rest items (open_group {p = p} {q = q} {mid = mid} {ws = ws} {others = others} g d) =
      group_read done [] ts (left p ∷ gap q ∷ mid) ws g ∙ typed-complete (done ++ map (typed None) ws) mid rest others d ∙ ap (λ l. got l rest) (append_assoc done (map (typed None) ws) others)

  many_spelled : (ws : List Word) (p : ℕ) (rest : List Lexeme) → Many Item (map spelled ws ++ right p ∷ rest) ws rest
  many_spelled [] p rest = close
  many_spelled (w ∷ ws) p rest = more (s.item w _) (many_spelled ws p rest)

  group_spelled : (ws : List Word) (p : ℕ) (rest : List Lexeme) → some_words ws ≡ true → Group Item (map spelled ws ++ dash p ∷ rest) ws rest
  group_spelled [] p rest e = absurd cc
  group_spelled (w ∷ []) p rest e = last (s.item w _)
  group_spelled (w ∷ v ∷ ws) p rest e = with_next (s.item w _) (group_spelled (v ∷ ws) p rest refl)

  -- what is read is a typed list after those that are done
  abbrev IsAfter : List Typed → List Lexeme → List Lexeme → List Typed → Type 0
  IsAfter done ts rest items = (others : List Typed) × (items ≡ done ++ others) × TypedList Item ts others rest

  closed_at : (done : List Typed) (waiting : List Word) (t : Lexeme) (ts rest : List Lexeme) (items : List Typed) → is_of RightParen t ≡ true → ◌≡◌ {A = Read (List Typed)} (got (done ++ map (typed None) waiting) ts) (got items rest) → IsAfter done (map spelled waiting ++ t ∷ ts) rest items
  closed_at done waiting (right p) ts rest items is e =
      let same = same_got e in
      (map (typed None) waiting, sym same.0, untyped_words (subst (λ l. Many Item (map spelled waiting ++ right p ∷ ts) waiting l) same.1 (many_spelled waiting p ts)))
  closed_at done waiting _ ts rest items is e = absurd cc

  waits_at : (done : List Typed) (waiting : List Word) (t : Lexeme) (ts rest : List Lexeme) (items : List Typed) → is_of kind t ≡ true → IsAfter done (map spelled (waiting ++ word_of t ∷ []) ++ ts) rest items → IsAfter done (map spelled waiting ++ t ∷ ts) rest items
  waits_at done waiting t ts rest items is (others, e, d) =
      let one : map spelled (waiting ++ word_of t ∷ []) ++ ts ≡ map spelled waiting ++ t ∷ ts =
      ap (λ l. l ++ ts) (map-append spelled waiting (word_of t ∷ [])) ∙ append_assoc (map spelled waiting) (spelled (word_of t) ∷ []) ts ∙ ap (λ u. map spelled waiting ++ u ∷ ts) (sym (s.found t is)) in
      (others, e, subst (λ l. TypedList Item l others rest) one d)

  -- the same after a dash
  abbrev IsTypeAfter : List Typed → List Word → List Lexeme → List Lexeme → List Typed → Type 0
  IsTypeAfter done waiting ts rest items = (others : List Typed) × (items ≡ done ++ others) × ((p : ℕ) → TypedList Item (map spelled waiting ++ dash p ∷ ts) others rest)

  dash_at : (done : List Typed) (waiting : List Word) (t : Lexeme) (ts rest : List Lexeme) (items : List Typed) → (is_of Dash t && some_words waiting) ≡ true → IsTypeAfter done waiting ts rest items → IsAfter done (map spelled waiting ++ t ∷ ts) rest items
  dash_at done waiting (dash p) ts rest items is (others, e, d) = (others, e, d p)
  dash_at done waiting _ ts rest items is after = absurd cc

  some_at : (t : Lexeme) (waiting : List Word) → (is_of Dash t && some_words waiting) ≡ true → some_words waiting ≡ true
  some_at (dash p) waiting e = e
  some_at _ waiting e = absurd cc

  type_at : (done : List Typed) (waiting : List Word) (t : Lexeme) (ts rest : List Lexeme) (items : List Typed) → some_words waiting ≡ true → is_of Name t ≡ true → IsAfter (done ++ map (typed (Some (word_of t))) waiting) ts rest items → IsTypeAfter done waiting (t ∷ ts) rest items
  type_at done waiting (name text q) ts rest items some is (others, e, d) =
      (map (typed (Some (word text q))) waiting ++ others, e ∙ append_assoc done (map (typed (Some (word text q))) waiting) others, λ p. typed_group (group_spelled waiting p (name text q ∷ ts) some) d)
  type_at done waiting _ ts rest items some is after = absurd cc

  -- the same after a dash and a left parenthesis
  abbrev IsNoTypeAfter : List Typed → List Word → List Lexeme → List Lexeme → List Typed → Type 0
  IsNoTypeAfter done waiting ts rest items = (others : List Typed) × (items ≡ done ++ others) × ((p q : ℕ) → TypedList Item (map spelled waiting ++ dash p ∷ left q ∷ ts) others rest)

  left_at : (done : List Typed) (waiting : List Word) (t : Lexeme) (ts rest : List Lexeme) (items : List Typed) → is_of LeftParen t ≡ true → IsNoTypeAfter done waiting ts rest items → IsTypeAfter done waiting (t ∷ ts) rest items
  left_at done waiting (left q) ts rest items is (others, e, d) = (others, e, λ p. d p q)
  left_at done waiting _ ts rest items is after = absurd cc

  gap_at : (done : List Typed) (waiting : List Word) (t : Lexeme) (ts rest : List Lexeme) (items : List Typed) → some_words waiting ≡ true → (q : ℕ) → t ≡ gap q → IsAfter (done ++ map (typed None) waiting) ts rest items → IsNoTypeAfter done waiting (t ∷ ts) rest items
  gap_at done waiting t ts rest items some q is (others, e, d) = (
    map (typed None) waiting ++ others,
    e ∙ append_assoc done (map (typed None) waiting) others,
    λ p r. subst (λ u. TypedList Item (map spelled waiting ++ dash p ∷ left r ∷ u ∷ ts) (map (typed None) waiting ++ others) rest) (sym is) (open_group (group_spelled waiting p (left r ∷ gap q ∷ ts) some) d),
  )

  -- what is read of some lexemes is so
  abbrev AllWords : List Lexeme → List Lexeme → List Typed → Type 0
  AllWords ts rest items = (done : List Typed) (waiting : List Word) → words_of kind done waiting ts ≡ got items rest → IsAfter done (map spelled waiting ++ ts) rest items

  words-by : (done : List Typed) (waiting : List Word) (t : Lexeme) (ts rest : List Lexeme) (items : List Typed) → AllWords ts rest items → (some_words waiting ≡ true → type_of kind done waiting ts ≡ got items rest → IsTypeAfter done waiting ts rest items)
      → (a b c : Bool) → is_of RightParen t ≡ a → is_of kind t ≡ b → (is_of Dash t && some_words waiting) ≡ c
      → cond a (got (done ++ map (typed None) waiting) ts) (cond b (words_of kind done (waiting ++ word_of t ∷ []) ts) (cond c (type_of kind done waiting ts) (stuck Shape (t ∷ ts)))) ≡ got items rest → IsAfter done (map spelled waiting ++ t ∷ ts) rest items
  words-by done waiting t ts rest items words type true b c closes is_kind is_dash e = closed_at done waiting t ts rest items closes e
  words-by done waiting t ts rest items words type false true c closes is_kind is_dash e = waits_at done waiting t ts rest items is_kind (words done (waiting ++ word_of t ∷ []) e)
  words-by done waiting t ts rest items words type false false true closes is_kind is_dash e = dash_at done waiting t ts rest items is_dash (type (some_at t waiting is_dash) e)
  words-by done waiting t ts rest items words type false false false closes is_kind is_dash e = absurd cc

  type-by : (done : List Typed) (waiting : List Word) (t : Lexeme) (ts rest : List Lexeme) (items : List Typed) → some_words waiting ≡ true → AllWords ts rest items → (no_type_of kind done waiting ts ≡ got items rest → IsNoTypeAfter done waiting ts rest items)
      → (a b : Bool) → is_of Name t ≡ a → is_of LeftParen t ≡ b
      → cond a (words_of kind (done ++ map (typed (Some (word_of t))) waiting) [] ts) (cond b (no_type_of kind done waiting ts) (stuck Shape (t ∷ ts))) ≡ got items rest → IsTypeAfter done waiting (t ∷ ts) rest items
  type-by done waiting t ts rest items some words no_type true b is_type is_left e = type_at done waiting t ts rest items some is_type (words (done ++ map (typed (Some (word_of t))) waiting) [] e)
  type-by done waiting t ts rest items some words no_type false true is_type is_left e = left_at done waiting t ts rest items is_left (no_type e)
  type-by done waiting t ts rest items some words no_type false false is_type is_left e = absurd cc

  no_type-by : (done : List Typed) (waiting : List Word) (t : Lexeme) (ts rest : List Lexeme) (items : List Typed) → some_words waiting ≡ true → AllWords ts rest items → (a : Bool) → is_gap t ≡ a
      → cond a (words_of kind (done ++ map (typed None) waiting) [] ts) (stuck (why_no_type t) (t ∷ ts)) ≡ got items rest → IsNoTypeAfter done waiting (t ∷ ts) rest items
  no_type-by done waiting t ts rest items some words true found_gap e =
      let found = gap_found t found_gap in
      gap_at done waiting t ts rest items some found.0 found.1 (words (done ++ map (typed None) waiting) [] e)
  no_type-by done waiting t ts rest items some words false found_gap e = absurd cc

  mutual
    unfolding words_of

    words-sound : (ts rest : List Lexeme) (items : List Typed) → AllWords ts rest items
    words-sound [] rest items done waiting e = absurd cc
    words-sound (t ∷ ts) rest items done waiting e =
        words-by done waiting t ts rest items (words-sound ts rest items) (type-sound ts rest items done waiting) (is_of RightParen t) (is_of kind t) (is_of Dash t && some_words waiting) refl refl refl e

    type-sound : (ts rest : List Lexeme) (items : List Typed) (done : List Typed) (waiting : List Word) → some_words waiting ≡ true → type_of kind done waiting ts ≡ got items rest → IsTypeAfter done waiting ts rest items
    type-sound [] rest items done waiting some e = absurd cc
    type-sound (t ∷ ts) rest items done waiting some e =
        type-by done waiting t ts rest items some (words-sound ts rest items) (no_type-sound ts rest items done waiting some) (is_of Name t) (is_of LeftParen t) refl refl e

    no_type-sound : (ts rest : List Lexeme) (items : List Typed) (done : List Typed) (waiting : List Word) → some_words waiting ≡ true → no_type_of kind done waiting ts ≡ got items rest → IsNoTypeAfter done waiting ts rest items
    no_type-sound [] rest items done waiting some e = absurd cc
    no_type-sound (t ∷ ts) rest items done waiting some e = no_type-by done waiting t ts rest items some (words-sound ts rest items) (is_gap t) refl e

  pub parses_typed_list : Parses (TypedList Item) (typed_list kind)
  parses_typed_list = record { sound = sound; complete = λ ts rest items d. typed-complete [] ts rest items d }
    where
      sound : (ts rest : List Lexeme) (items : List Typed) → typed_list kind ts ≡ got items rest → TypedList Item ts items rest
      sound ts rest items e = let after = words-sound ts rest items [] [] e in subst (λ l. TypedList Item ts l rest) (sym after.1) after.2

-- names, and variables
pub spells_names : SpellsWord Name IsNameWord (λ w. name w.text w.at)
spells_names = record { item = λ w rest. is_name_word; only = only; is_kind = λ w. refl; is_not_right = λ w. refl; word_is = λ w. refl; found = found; dash_not = λ p. refl }
  where
    only : (ts rest : List Lexeme) (w : Word) → IsNameWord ts w rest → ts ≡ name w.text w.at ∷ rest
    only ts rest w is_name_word = refl

    found : (t : Lexeme) → is_of Name t ≡ true → t ≡ name (word_of t).text (word_of t).at
    found (name text at) e = refl
    found _ e = absurd cc

pub spells_variables : SpellsWord Variable IsVariableWord (λ w. variable w.text w.at)
spells_variables = record { item = λ w rest. is_variable_word; only = only; is_kind = λ w. refl; is_not_right = λ w. refl; word_is = λ w. refl; found = found; dash_not = λ p. refl }
  where
    only : (ts rest : List Lexeme) (w : Word) → IsVariableWord ts w rest → ts ≡ variable w.text w.at ∷ rest
    only ts rest w is_variable_word = refl

    found : (t : Lexeme) → is_of Variable t ≡ true → t ≡ variable (word_of t).text (word_of t).at
    found (variable text at) e = refl
    found _ e = absurd cc

pub parses_names : Parses IsNames (typed_list Name)
parses_names = parses_typed_list Name IsNameWord _ spells_names

pub parses_variables : Parses IsVariables (typed_list Variable)
parses_variables = parses_typed_list Variable IsVariableWord _ spells_variables
