-- Lexemes that show an action are spelled by its rule.
use Rattle.std.proofs.Common.{◌≡◌, ℕ, List, [], ◌∷◌, ◌++◌, Some, codes, refl, sym, subst, append_assoc}
use Rattle.std.specs.Prelude.{All}
use Rattle.std.specs.List.{flat_map}
use Rattle.pddl_forms.specs.declared.texts.Typed.{Typed}
use Rattle.pddl_forms.specs.declared.texts.AtomText.{AtomText}
use Rattle.pddl_parser.specs.declared.texts.ActionText.{ActionText}
use Rattle.pddl_forms.specs.declared.texts.AtomChange.{AtomChange}
use Rattle.pddl_forms.specs.declared.texts.AtomChange.TheVariants.{Added, Deleted}
use Rattle.pddl_parser.specs.Sections.{ActionParts}
use Rattle.pddl_forms.specs.Lexemes.{Lexeme, right}
use Rattle.pddl_forms.specs.Forms.{IsTerm, IsLiftedAtom, Closed, closed, IsChange, is_added, is_deleted, added, deleted, Conjunction, Conjuncts, finished, also, just, all_of, IsVariables, IsVariableWord}
use Rattle.pddl_parser.specs.Grammar.{IsSection, is_section, IsPart, is_part, Opened, opened, no_parts, IsParts, no_more_parts, parameters, precondition, effect, action_of, IsAction, is_action}
use Rattle.pddl_parser.specs.Spelled.{IsVariable, IsTermText, IsAtomSpelled, IsActionSpelled}
use Rattle.pddl_printer.specs.Printing.{typed_words, atom_words, deleted_words, formula_words, effect_words, part_words, action_words}
use Rattle.pddl_printer.specs.Alike.{AlikeTyped, AlikeAtom, AlikeAction, AreAlike}
use Rattle.pddl_printer.proofs.Lines.{Shown, shown}
use Rattle.pddl_printer.proofs.Nesting.{all-first, all-rest}
use Rattle.pddl_printer.proofs.Shows.{Reads, AreRead, regroup, read-name, read-variable, read-term, read-atom, read-formula}
use Rattle.pddl_printer.proofs.TypedShows.{read-typed}

-- a right parenthesis
pub record IsClosing (ws : List (List ℕ)) (mid : List Lexeme) : Type 0 where
  pub place : ℕ
  pub rest : List Lexeme
  pub is : mid ≡ right place ∷ rest
  pub shows : Shown ws rest

pub closing : (ws : List (List ℕ)) (mid : List Lexeme) → Shown (codes ")" ∷ ws) mid → IsClosing ws mid
closing ws _ (shown p {ts = rest} shows) = record { place = p; rest = rest; is = refl; shows = shows }

-- an item and the right parenthesis after it
pub read-closed : {A : Type 0} (Rule : List Lexeme → A → List Lexeme → Type 0) (Alike : A → Type 0) (ws : List (List ℕ)) (ts : List Lexeme) → Reads Rule Alike (codes ")" ∷ ws) ts → Reads (Closed Rule) Alike ws ts
read-closed Rule Alike ws ts reads =
    let end = closing ws reads.rest reads.shows in
    let P : List Lexeme → Type 0 = λ mid. Rule ts reads.item mid in
    record { item = reads.item; rest = end.rest; rule = closed (subst P end.is reads.rule); alike = reads.alike; shows = end.shows }

-- a keyword and what follows it
pub read-part : {A : Type 0} (Body : List Lexeme → A → List Lexeme → Type 0) (Alike : A → Type 0) (key : List ℕ) (us ws : List (List ℕ)) → ((ts : List Lexeme) → Shown us ts → Reads Body Alike ws ts) → (ts : List Lexeme) → Shown ((58 ∷ key) ∷ us) ts → Reads (IsPart (58 ∷ key) Body) Alike ws ts
read-part Body Alike key us ws reads _ (shown p {ts = rest} shows) =
    let r = reads rest shows in
    record { item = r.item; rest = r.rest; rule = is_part r.rule; alike = r.alike; shows = r.shows }

-- a section
pub read-section : {A : Type 0} (Body : List Lexeme → A → List Lexeme → Type 0) (Alike : A → Type 0) (key : List ℕ) (us ws : List (List ℕ)) → ((ts : List Lexeme) → Shown us ts → Reads Body Alike ws ts) → (ts : List Lexeme) → Shown (codes "(" ∷ (58 ∷ key) ∷ us) ts → Reads (IsSection (58 ∷ key) Body) Alike ws ts
read-section Body Alike key us ws reads _ (shown p (shown q {ts = rest} shows)) =
    let r = reads rest shows in
    record { item = r.item; rest = r.rest; rule = is_section r.rule; alike = r.alike; shows = r.shows }

-- changes that add and delete atoms like these
abbrev AlikeChanges : List AtomText → List AtomText → List AtomChange → Type 0
AlikeChanges add del changes = AreAlike AlikeAtom add (added changes) × AreAlike AlikeAtom del (deleted changes)

abbrev IsDeletion : List Lexeme → AtomText → List Lexeme → Type 0
IsDeletion ts atom rest = IsChange ts (Deleted atom) rest

read-deletion : (atom : AtomText) → IsAtomSpelled IsTermText atom → AreRead IsDeletion AlikeAtom (deleted_words atom) atom
unfolding deleted_words
read-deletion atom is ws _ (shown p (shown q {ts = rest} shows)) =
    let inner = read-atom IsTerm IsTermText read-term atom is (codes ")" ∷ ws) rest (regroup (atom_words atom) (codes ")" ∷ []) ws rest shows) in
    let r = read-closed IsLiftedAtom (AlikeAtom atom) ws rest inner in
    record { item = r.item; rest = r.rest; rule = is_deleted r.rule; alike = r.alike; shows = r.shows }

read-deletions : (del : List AtomText) → All (IsAtomSpelled IsTermText) del → (ws : List (List ℕ)) (ts : List Lexeme) → Shown (flat_map deleted_words del ++ codes ")" ∷ ws) ts → Reads (Conjuncts IsChange) (AlikeChanges [] del) ws ts
read-deletions [] all ws _ (shown p {ts = rest} shows) = record { item = []; rest = rest; rule = finished; alike = (tt, tt); shows = shows }
read-deletions (atom ∷ del) all ws ts shows =
    let first = read-deletion atom (all-first (IsAtomSpelled IsTermText) atom del all) (flat_map deleted_words del ++ codes ")" ∷ ws) ts (regroup (deleted_words atom) (flat_map deleted_words del) (codes ")" ∷ ws) ts shows) in
    let others = read-deletions del (all-rest (IsAtomSpelled IsTermText) atom del all) ws first.rest first.shows in
    record {
      item = Deleted first.item ∷ others.item;
      rest = others.rest;
      rule = also (just first.rule) others.rule;
      alike = (others.alike.0, (first.alike, others.alike.1));
      shows = others.shows;
    }

read-changes : (add del : List AtomText) → All (IsAtomSpelled IsTermText) add → All (IsAtomSpelled IsTermText) del → (ws : List (List ℕ)) (ts : List Lexeme) → Shown ((flat_map atom_words add ++ flat_map deleted_words del) ++ codes ")" ∷ ws) ts → Reads (Conjuncts IsChange) (AlikeChanges add del) ws ts
read-changes [] del adds dels ws ts shows = read-deletions del dels ws ts shows
read-changes (atom ∷ add) del adds dels ws ts shows =
    let own = atom_words atom in
    let more = flat_map atom_words add in
    let last = flat_map deleted_words del in
    let P : List (List ℕ) → Type 0 = λ l. Shown (l ++ codes ")" ∷ ws) ts in
    let apart = regroup own (more ++ last) (codes ")" ∷ ws) ts (subst P (append_assoc own more last) shows) in
    let first = read-atom IsTerm IsTermText read-term atom (all-first (IsAtomSpelled IsTermText) atom add adds) ((more ++ last) ++ codes ")" ∷ ws) ts apart in
    let others = read-changes add del (all-rest (IsAtomSpelled IsTermText) atom add adds) dels ws first.rest first.shows in
    record {
      item = Added first.item ∷ others.item;
      rest = others.rest;
      rule = also (just (is_added first.rule)) others.rule;
      alike = ((first.alike, others.alike.0), others.alike.1);
      shows = others.shows;
    }

read-effect : (add del : List AtomText) → All (IsAtomSpelled IsTermText) add → All (IsAtomSpelled IsTermText) del → (ws : List (List ℕ)) (ts : List Lexeme) → Shown (effect_words add del ++ ws) ts → Reads (Conjunction IsChange) (AlikeChanges add del) ws ts
unfolding effect_words
read-effect add del adds dels ws _ (shown p (shown q {ts = rest} shows)) =
    let r = read-changes add del adds dels ws rest (regroup (flat_map atom_words add ++ flat_map deleted_words del) (codes ")" ∷ []) ws rest shows) in
    record { item = r.item; rest = r.rest; rule = all_of r.rule; alike = r.alike; shows = r.shows }

read-opened : {A : Type 0} (Body : List Lexeme → A → List Lexeme → Type 0) (Alike : A → Type 0) (us ws : List (List ℕ)) → ((ts : List Lexeme) → Shown us ts → Reads Body Alike ws ts) → (ts : List Lexeme) → Shown (codes "(" ∷ us) ts → Reads (Opened Body) Alike ws ts
read-opened Body Alike us ws reads _ (shown p {ts = rest} shows) =
    let r = reads rest shows in
    record { item = r.item; rest = r.rest; rule = opened r.rule; alike = r.alike; shows = r.shows }

-- the parts of an action, one after another
record ReadsParts (action : ActionText) (ws : List (List ℕ)) (ts : List Lexeme) : Type 0 where
  params : List Typed
  pre : List AtomText
  changes : List AtomChange
  rest : List Lexeme
  rule : IsParts no_parts ts (record { params = Some params; pre = Some pre; changes = Some changes }) rest
  params_alike : AreAlike AlikeTyped action.params params
  pre_alike : AreAlike AlikeAtom action.pre pre
  changes_alike : AlikeChanges action.add action.del changes
  shows : Shown ws rest

parts-apart : (close key last : List ℕ) (params pre changes ws : List (List ℕ)) → ((((params ++ close ∷ []) ++ (key ∷ pre)) ++ (last ∷ changes)) ++ close ∷ []) ++ ws ≡ params ++ (close ∷ key ∷ (pre ++ (last ∷ (changes ++ close ∷ ws))))
parts-apart close key last params pre changes ws = simp append_assoc

read-parts : (action : ActionText) → IsActionSpelled action → (ws : List (List ℕ)) (ts : List Lexeme) → Shown ((part_words action ++ codes ")" ∷ []) ++ ws) ts → ReadsParts action ws ts
unfolding part_words
read-parts action is ws ts shows =
    let params = typed_words action.params in
    let pre = formula_words action.pre in
    let changes = effect_words action.add action.del in
    let P : List (List ℕ) → Type 0 = λ l. Shown (codes ":parameters" ∷ codes "(" ∷ l) ts in
    let apart = subst P (parts-apart (codes ")") (codes ":precondition") (codes ":effect") params pre changes ws) shows in
    let after_pre = codes ":effect" ∷ (changes ++ codes ")" ∷ ws) in
    let after_params = codes ":precondition" ∷ (pre ++ after_pre) in
    let all_params = params ++ codes ")" ∷ after_params in
    let one = read-part (Opened IsVariables) (AreAlike AlikeTyped action.params) (codes "parameters") (codes "(" ∷ all_params) after_params
    (read-opened IsVariables (AreAlike AlikeTyped action.params) all_params after_params (read-typed IsVariableWord IsVariable read-variable after_params action.params is.params)) ts apart in
    let two = read-part (Conjunction IsLiftedAtom) (AreAlike AlikeAtom action.pre) (codes "precondition") (pre ++ after_pre) after_pre
    (read-formula IsTerm IsTermText read-term action.pre is.pre after_pre) one.rest one.shows in
    let three = read-part (Conjunction IsChange) (AlikeChanges action.add action.del) (codes "effect") (changes ++ codes ")" ∷ ws) (codes ")" ∷ ws)
    (read-effect action.add action.del is.add is.del (codes ")" ∷ ws)) two.rest two.shows in
    let end = closing ws three.rest three.shows in
    let all : ActionParts = record { params = Some one.item; pre = Some two.item; changes = Some three.item } in
    let Q : List Lexeme → Type 0 = λ mid. IsParts all mid all end.rest in
    record {
      params = one.item;
      pre = two.item;
      changes = three.item;
      rest = end.rest;
      rule = parameters refl one.rule (precondition refl two.rule (effect refl three.rule (subst Q (sym end.is) no_more_parts)));
      params_alike = one.alike;
      pre_alike = two.alike;
      changes_alike = three.alike;
      shows = end.shows;
    }

read-body : (action : ActionText) → IsActionSpelled action → (ws : List (List ℕ)) (ts : List Lexeme) → Shown (action.name.text ∷ ((part_words action ++ codes ")" ∷ []) ++ ws)) ts → Reads IsAction (AlikeAction action) ws ts
read-body action is ws ts shows =
    let own = read-name action.name is.own ((part_words action ++ codes ")" ∷ []) ++ ws) ts shows in
    let parts = read-parts action is ws own.rest own.shows in
    let all : ActionParts = record { params = Some parts.params; pre = Some parts.pre; changes = Some parts.changes } in
    record { item = action_of own.item all; rest = parts.rest; rule = is_action own.rule parts.rule; alike = record { name = own.alike; params = parts.params_alike; pre = parts.pre_alike; add = parts.changes_alike.0; del = parts.changes_alike.1 }; shows = parts.shows }

pub read-action : (action : ActionText) → IsActionSpelled action → AreRead (IsSection (codes ":action") IsAction) AlikeAction (action_words action) action
unfolding action_words
read-action action is ws ts shows =
    read-section IsAction (AlikeAction action) (codes "action") (action.name.text ∷ ((part_words action ++ codes ")" ∷ []) ++ ws)) ws (read-body action is ws) ts shows
