-- Lexemes that show a typed list are spelled by its rule.
use Rattle.std.proofs.Common.{◌≡◌, ℕ, Bool, true, false, ◌||◌, List, [], ◌∷◌, ◌++◌, map, Option, Some, None, IfSome, codes, refl, sym, ap, subst}
use Rattle.std.specs.Prelude.{All}
use Rattle.std.specs.List.{list_any}
use Rattle.flag_rules.specs.Name.{IsName}
use Rattle.pddl_lexer.specs.declared.lexer.Kind.{Kind}
use Rattle.pddl_forms.specs.declared.texts.Word.{Word}
use Rattle.pddl_forms.specs.declared.texts.Typed.{Typed}
use Rattle.pddl_parser.specs.declared.texts.PredText.{PredText}
use Rattle.pddl_forms.specs.Lexemes.{Lexeme, lexeme, name, dash}
use Rattle.pddl_forms.specs.Forms.{word, typed, Many, close, more, last, TypedList, untyped_words, typed_group, IsVariableWord}
use Rattle.pddl_parser.specs.Grammar.{IsPredicate, is_predicate}
use Rattle.pddl_parser.specs.Spelled.{IsVariable, IsTypedSpelled, IsPredicateSpelled}
use Rattle.pddl_printer.specs.Printing.{has_type, type_words, typed_words, predicate_words}
use Rattle.pddl_printer.specs.Alike.{AlikeWord, AlikeType, AlikeTyped, AlikePredicate, AreAlike}
use Rattle.pddl_printer.proofs.Tokens.{kind-name}
use Rattle.pddl_printer.proofs.Lines.{Shown, shown}
use Rattle.pddl_printer.proofs.Nesting.{all-first, all-rest}
use Rattle.pddl_printer.proofs.Shows.{Reads, AreRead, regroup, read-head, read-variable}

neither : (a b : Bool) → (a || b) ≡ false → (a ≡ false) × (b ≡ false)
neither true b is = absurd (cc)
neither false b is = (refl, is)

-- words without types that are like a typed list
abbrev AlikeUntyped : List Typed → List Word → Type 0
AlikeUntyped names words = AreAlike AlikeTyped names (map (typed None) words)

-- a dash and a name
record IsType (type : List ℕ) (vs : List (List ℕ)) (mid : List Lexeme) : Type 0 where
  dash_at : ℕ
  type_at : ℕ
  rest : List Lexeme
  is : mid ≡ dash dash_at ∷ name type type_at ∷ rest
  shows : Shown vs rest

type-shown : (type : List ℕ) → IsName type → (vs : List (List ℕ)) (mid : List Lexeme) → Shown (codes "-" ∷ type ∷ vs) mid → IsType type vs mid
type-shown type is vs _ (shown p (shown q {ts = rest} shows)) = record { dash_at = p; type_at = q; rest = rest; is = ap (λ (k : Kind). dash p ∷ lexeme k type q ∷ rest) (kind-name type is); shows = shows }

module _ (Rule : List Lexeme → Word → List Lexeme → Type 0) (IsWord : List ℕ → Type 0) (reads : (w : Word) → IsWord w.text → AreRead Rule AlikeWord (w.text ∷ []) w) (ws : List (List ℕ)) where
  untyped-word : (t : Typed) (names : List Typed) → IsWord t.word.text → (of : Option Word) → t.of ≡ of → has_type t ≡ false → (later : Bool) → later ≡ false
      → ((rest : List Lexeme) → Shown (typed_words names ++ codes ")" ∷ ws) rest → Reads (Many Rule) (AlikeUntyped names) ws rest)
      → (ts : List Lexeme) → Shown ((t.word.text ∷ type_words t.of later ++ typed_words names) ++ codes ")" ∷ ws) ts → Reads (Many Rule) (AlikeUntyped (t ∷ names)) ws ts
  untyped-word t names is (Some type) of none later late others ts shows = absurd (cc)
  untyped-word t names is None of none true late others ts shows = absurd (cc)
  untyped-word t names is None of none false late others ts shows =
      let P : Option Word → Type 0 = λ o. Shown ((t.word.text ∷ type_words o false ++ typed_words names) ++ codes ")" ∷ ws) ts in
      let Q : Option Word → Type 0 = λ o. AlikeType o None in
      let first = reads t.word is (typed_words names ++ codes ")" ∷ ws) ts (subst P of shows) in
      let then = others first.rest first.shows in
      record { item = first.item ∷ then.item; rest = then.rest; rule = more first.rule then.rule; alike = (record { word = first.alike; of = subst Q (sym of) tt }, then.alike); shows = then.shows }

  read-untyped : (names : List Typed) → All (IsTypedSpelled IsWord) names → list_any has_type names ≡ false → (ts : List Lexeme) → Shown (typed_words names ++ codes ")" ∷ ws) ts → Reads (Many Rule) (AlikeUntyped names) ws ts
  read-untyped [] all none _ (shown at shows) = record { item = []; rest = _; rule = close; alike = tt; shows = shows }
  read-untyped (t ∷ names) all none ts shows =
      let both = neither (has_type t) (list_any has_type names) none in
      untyped-word t names (all-first (IsTypedSpelled IsWord) t names all).own t.of refl both.0 (list_any has_type names) both.1
      (read-untyped names (all-rest (IsTypedSpelled IsWord) t names all) both.1) ts shows

  -- a word with its type
  typed-word : (t : Typed) (names : List Typed) (type : List ℕ) → IsWord t.word.text → IsName type → ((at : ℕ) → AlikeType t.of (Some (word type at)))
      → ((rest : List Lexeme) → Shown (typed_words names ++ codes ")" ∷ ws) rest → Reads (TypedList Rule) (AreAlike AlikeTyped names) ws rest)
      → (ts : List Lexeme) → Shown (t.word.text ∷ codes "-" ∷ type ∷ (typed_words names ++ codes ")" ∷ ws)) ts → Reads (TypedList Rule) (AreAlike AlikeTyped (t ∷ names)) ws ts
  typed-word t names type is named like others ts shows =
      let first = reads t.word is (codes "-" ∷ type ∷ (typed_words names ++ codes ")" ∷ ws)) ts shows in
      let after = type-shown type named (typed_words names ++ codes ")" ∷ ws) first.rest first.shows in
      let then = others after.rest after.shows in
      let P : List Lexeme → Type 0 = λ mid. Rule ts first.item mid in
      record {
        item = typed (Some (word type after.type_at)) first.item ∷ then.item;
        rest = then.rest;
        rule = typed_group (last (subst P after.is first.rule)) then.rule;
        alike = (record { word = first.alike; of = like after.type_at }, then.alike);
        shows = then.shows;
      }

  pub read-typed : (names : List Typed) → All (IsTypedSpelled IsWord) names → (ts : List Lexeme) → Shown (typed_words names ++ codes ")" ∷ ws) ts → Reads (TypedList Rule) (AreAlike AlikeTyped names) ws ts
  read-typed [] all _ (shown at shows) = record { item = []; rest = _; rule = untyped_words close; alike = tt; shows = shows }
  read-typed (t ∷ names) all ts shows = by t.of refl (list_any has_type names) refl (read-typed names (all-rest (IsTypedSpelled IsWord) t names all))
    where
      spelled : IsTypedSpelled IsWord t
      spelled = all-first (IsTypedSpelled IsWord) t names all

      by : (of : Option Word) → t.of ≡ of → (later : Bool) → list_any has_type names ≡ later
          → ((rest : List Lexeme) → Shown (typed_words names ++ codes ")" ∷ ws) rest → Reads (TypedList Rule) (AreAlike AlikeTyped names) ws rest)
          → Reads (TypedList Rule) (AreAlike AlikeTyped (t ∷ names)) ws ts
      by (Some type) of later late others =
          let P : Option Word → Type 0 = λ o. Shown ((t.word.text ∷ type_words o (list_any has_type names) ++ typed_words names) ++ codes ")" ∷ ws) ts in
          let Q : Option Word → Type 0 = λ o. IfSome o (λ (w : Word). IsName w.text) in
          typed-word t names type.text spelled.own (subst Q of spelled.of) (λ at. let R : Option Word → Type 0 = λ o. AlikeType o (Some (word type.text at)) in subst R (sym of) refl) others ts (subst P of shows)
      by None of true late others =
          let P : Option Word → Type 0 = λ o. Shown ((t.word.text ∷ type_words o (list_any has_type names) ++ typed_words names) ++ codes ")" ∷ ws) ts in
          let Q : Bool → Type 0 = λ b. Shown ((t.word.text ∷ type_words None b ++ typed_words names) ++ codes ")" ∷ ws) ts in
          typed-word t names (codes "object") spelled.own refl (λ at. let R : Option Word → Type 0 = λ o. AlikeType o (Some (word (codes "object") at)) in subst R (sym of) refl) others ts (subst Q late (subst P of shows))
      by None of false late others =
          let r = read-untyped (t ∷ names) all (rw (of, late) refl) ts shows in
          record { item = map (typed None) r.item; rest = r.rest; rule = untyped_words r.rule; alike = r.alike; shows = r.shows }

pub read-predicate : (predicate : PredText) → IsPredicateSpelled predicate → AreRead IsPredicate AlikePredicate (predicate_words predicate) predicate
unfolding predicate_words
read-predicate predicate is ws _ (shown at shows) =
    let params = typed_words predicate.params in
    let head = read-head predicate.head is.head ((params ++ codes ")" ∷ []) ++ ws) _ shows in
    let variables = read-typed IsVariableWord IsVariable read-variable ws predicate.params is.params head.rest (regroup params (codes ")" ∷ []) ws head.rest head.shows) in
    record { item = record { head = head.item; params = variables.item }; rest = variables.rest; rule = is_predicate head.rule variables.rule; alike = record { head = head.alike; params = variables.alike }; shows = variables.shows }
