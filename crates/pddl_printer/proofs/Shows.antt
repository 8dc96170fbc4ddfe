-- Lexemes that show the words of some item and then others are spelled by a rule of the grammar, and the rest shows the others.
use Rattle.std.proofs.Common.{ℕ, inl, inr, List, [], ◌∷◌, ◌++◌, codes, refl, sym, subst, append_assoc}
use Rattle.std.specs.Prelude.{All}
use Rattle.std.specs.List.{flat_map}
use Rattle.std.proofs.lemmas.List.Concat.{flat_map_single}
use Rattle.flag_rules.specs.Name.{IsName}
use Rattle.pddl_forms.specs.declared.texts.Word.{Word}
use Rattle.pddl_forms.specs.declared.texts.AtomText.{AtomText}
use Rattle.pddl_forms.specs.Lexemes.{Lexeme}
use Rattle.pddl_forms.specs.Forms.{word, IsNameWord, is_name_word, IsHead, is_head, IsTerm, is_constant, is_argument, Many, close, more, IsAtom, is_atom, Conjunction, Conjuncts, finished, also, just, all_of, IsVariableWord, is_variable_word}
use Rattle.pddl_parser.specs.Grammar.{IsRequirement, is_requirement}
use Rattle.pddl_parser.specs.Spelled.{IsVariable, IsTermText, IsRequirementText, IsHeadText, IsAtomSpelled}
use Rattle.pddl_printer.specs.Printing.{texts_of, atom_words, formula_words}
use Rattle.pddl_printer.specs.Alike.{AlikeWord, AlikeAtom, AreAlike}
use Rattle.pddl_printer.proofs.Tokens.{kind-name, kind-variable}
use Rattle.pddl_printer.proofs.Lines.{Shown, shown}
use Rattle.pddl_printer.proofs.Nesting.{all-first, all-rest}

-- the first lexemes are spelled by a rule, their item is like another, and the others show these words
pub record Reads {A : Type 0} (Rule : List Lexeme → A → List Lexeme → Type 0) (Alike : A → Type 0) (ws : List (List ℕ)) (ts : List Lexeme) : Type 0 where
  pub item : A
  pub rest : List Lexeme
  pub rule : Rule ts item rest
  pub alike : Alike item
  pub shows : Shown ws rest

-- words are read by a rule as an item
abbrev pub AreRead : {A : Type 0} → (List Lexeme → A → List Lexeme → Type 0) → (A → A → Type 0) → List (List ℕ) → A → Type 0
AreRead {A} Rule Alike us item = (ws : List (List ℕ)) (ts : List Lexeme) → Shown (us ++ ws) ts → Reads Rule (Alike item) ws ts

pub read-name : (w : Word) → IsName w.text → AreRead IsNameWord AlikeWord (w.text ∷ []) w
read-name w is ws _ (shown at rest) = record { item = word w.text at; rest = _; rule = rw (kind-name w.text is) is_name_word; alike = refl; shows = rest }

pub read-variable : (w : Word) → IsVariable w.text → AreRead IsVariableWord AlikeWord (w.text ∷ []) w
read-variable w is ws _ (shown at rest) = record { item = word w.text at; rest = _; rule = rw (kind-variable w.text is) is_variable_word; alike = refl; shows = rest }

pub read-head : (w : Word) → IsHeadText w.text → AreRead IsHead AlikeWord (w.text ∷ []) w
read-head w is ws _ (shown at rest) = record { item = word w.text at; rest = _; rule = rw (kind-name w.text is.own) (is_head is.free); alike = refl; shows = rest }

pub read-term : (w : Word) → IsTermText w.text → AreRead IsTerm AlikeWord (w.text ∷ []) w
read-term w (inl is) ws _ (shown at rest) = record { item = word w.text at; rest = _; rule = rw (kind-name w.text is) is_constant; alike = refl; shows = rest }
read-term w (inr is) ws _ (shown at rest) = record { item = word w.text at; rest = _; rule = rw (kind-variable w.text is) is_argument; alike = refl; shows = rest }

pub read-requirement : (w : Word) → IsRequirementText w.text → AreRead IsRequirement AlikeWord (w.text ∷ []) w
read-requirement w (inl is) ws _ (shown at rest) = record { item = word w.text at; rest = _; rule = rw is (is_requirement refl); alike = refl; shows = rest }
read-requirement w (inr is) ws _ (shown at rest) = record { item = word w.text at; rest = _; rule = rw is (is_requirement refl); alike = refl; shows = rest }

pub regroup : (us vs ws : List (List ℕ)) (ts : List Lexeme) → Shown ((us ++ vs) ++ ws) ts → Shown (us ++ (vs ++ ws)) ts
regroup us vs ws ts shows = let P : List (List ℕ) → Type 0 = λ l. Shown l ts in subst P (append_assoc us vs ws) shows

-- items one after another
module _ {A : Type 0} (Rule : List Lexeme → A → List Lexeme → Type 0) (Alike : A → A → Type 0) (spell : A → List (List ℕ)) (IsSpelled : A → Type 0) (reads : (x : A) → IsSpelled x → AreRead Rule Alike (spell x) x) where
  pub read-many : (xs : List A) → All IsSpelled xs → (ws : List (List ℕ)) (ts : List Lexeme) → Shown (flat_map spell xs ++ codes ")" ∷ ws) ts → Reads (Many Rule) (AreAlike Alike xs) ws ts
  read-many [] all ws _ (shown at rest) = record { item = []; rest = _; rule = close; alike = tt; shows = rest }
  read-many (x ∷ xs) all ws ts shows =
      let first = reads x (all-first IsSpelled x xs all) (flat_map spell xs ++ codes ")" ∷ ws) ts (regroup (spell x) (flat_map spell xs) (codes ")" ∷ ws) ts shows) in
      let others = read-many xs (all-rest IsSpelled x xs all) ws first.rest first.shows in
      record { item = first.item ∷ others.item; rest = others.rest; rule = more first.rule others.rule; alike = (first.alike, others.alike); shows = others.shows }

  pub read-conjuncts : (xs : List A) → All IsSpelled xs → (ws : List (List ℕ)) (ts : List Lexeme) → Shown (flat_map spell xs ++ codes ")" ∷ ws) ts → Reads (Conjuncts Rule) (AreAlike Alike xs) ws ts
  read-conjuncts [] all ws _ (shown at rest) = record { item = []; rest = _; rule = finished; alike = tt; shows = rest }
  read-conjuncts (x ∷ xs) all ws ts shows =
      let first = reads x (all-first IsSpelled x xs all) (flat_map spell xs ++ codes ")" ∷ ws) ts (regroup (spell x) (flat_map spell xs) (codes ")" ∷ ws) ts shows) in
      let others = read-conjuncts xs (all-rest IsSpelled x xs all) ws first.rest first.shows in
      record { item = first.item ∷ others.item; rest = others.rest; rule = also (just first.rule) others.rule; alike = (first.alike, others.alike); shows = others.shows }

-- words one after another
pub read-words : (Rule : List Lexeme → Word → List Lexeme → Type 0) (IsWord : List ℕ → Type 0) → ((w : Word) → IsWord w.text → AreRead Rule AlikeWord (w.text ∷ []) w) → (words : List Word) → All (λ (w : Word). IsWord w.text) words → (ws : List (List ℕ)) (ts : List Lexeme) → Shown (texts_of words ++ codes ")" ∷ ws) ts → Reads (Many Rule) (AreAlike AlikeWord words) ws ts
read-words Rule IsWord reads words all ws ts shows =
    let text : Word → List ℕ = λ (w : Word). w.text in
    let P : List (List ℕ) → Type 0 = λ us. Shown (us ++ codes ")" ∷ ws) ts in
    read-many Rule AlikeWord (λ (w : Word). text w ∷ []) (λ (w : Word). IsWord w.text) reads words all ws ts (subst P (sym (flat_map_single text words)) shows)

pub read-atom : (Term : List Lexeme → Word → List Lexeme → Type 0) (IsWord : List ℕ → Type 0) → ((w : Word) → IsWord w.text → AreRead Term AlikeWord (w.text ∷ []) w) → (atom : AtomText) → IsAtomSpelled IsWord atom → AreRead (IsAtom Term) AlikeAtom (atom_words atom) atom
unfolding atom_words
read-atom Term IsWord reads atom is ws _ (shown at shows) =
    let head = read-head atom.head is.head ((texts_of atom.args ++ codes ")" ∷ []) ++ ws) _ shows in
    let args = read-words Term IsWord reads atom.args is.args ws head.rest (regroup (texts_of atom.args) (codes ")" ∷ []) ws head.rest head.shows) in
    record { item = record { head = head.item; args = args.item }; rest = args.rest; rule = is_atom head.rule args.rule; alike = record { head = head.alike; args = args.alike }; shows = args.shows }

pub read-formula : (Term : List Lexeme → Word → List Lexeme → Type 0) (IsWord : List ℕ → Type 0) → ((w : Word) → IsWord w.text → AreRead Term AlikeWord (w.text ∷ []) w) → (atoms : List AtomText) → All (IsAtomSpelled IsWord) atoms → AreRead (Conjunction (IsAtom Term)) (AreAlike AlikeAtom) (formula_words atoms) atoms
unfolding formula_words
read-formula Term IsWord reads atoms all ws _ (shown at (shown at_and shows)) =
    let inner = read-conjuncts (IsAtom Term) AlikeAtom atom_words (IsAtomSpelled IsWord) (read-atom Term IsWord reads) atoms all ws _ (regroup (flat_map atom_words atoms) (codes ")" ∷ []) ws _ shows) in
    record { item = inner.item; rest = inner.rest; rule = all_of inner.rule; alike = inner.alike; shows = inner.shows }
