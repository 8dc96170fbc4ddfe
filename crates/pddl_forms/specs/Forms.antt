-- The grammar of the forms that the sections of a text are made of: words, typed lists, atoms, formulas and effects, one
-- relation for each rule. `Rule lexemes value rest` says that the first lexemes are spelled by the rule and have this value,
-- and that the others are the rest. A rule that stands within a list carries the right parenthesis that closes the list. NAME
-- is any name, VARIABLE any variable, and HEAD a name that is not reserved.
--
--     names     = (NAME+ - NAME)* NAME*                  vars = (VARIABLE+ - NAME)* VARIABLE*
--     formula   = ( ) | ( and formula* ) | atom
--     effect    = ( ) | ( and effect* ) | change         change = atom | ( not atom )
--     atom      = ( HEAD term* )                         term = NAME | VARIABLE
--     gformula  = ( ) | ( and gformula* ) | gatom
--     gatom     = ( HEAD NAME* )
--
-- In `names` and `vars` the round brackets only group.
--
-- One rule more has no text of bytes: in `names` and `vars` a group may end with `- (` and a gap in place of its type. It
-- is there for the places of refusals alone.
use Rattle.std.specs.Prelude.{◌≡◌, ℕ, Bool, false, List, [], ◌∷◌, ◌++◌, map, Option, Some, None, codes, bytes_eq}
use Rattle.std.specs.List.{list_any}
use Rattle.pddl_forms.specs.declared.texts.Word.{Word}
use Rattle.pddl_forms.specs.declared.texts.Typed.{Typed}
use Rattle.pddl_forms.specs.declared.texts.AtomText.{AtomText}
use Rattle.pddl_forms.specs.declared.texts.AtomChange.{AtomChange}
use Rattle.pddl_forms.specs.declared.texts.AtomChange.TheVariants.{Added, Deleted}
use Rattle.pddl_forms.specs.Lexemes.{Lexeme, left, right, name, variable, dash, gap}

-- one of some words
abbrev pub is_one_of : List (List ℕ) → List ℕ → Bool
is_one_of words text = list_any (bytes_eq text) words

-- the names that head no atom and no predicate
abbrev pub reserved_heads : List (List ℕ)
reserved_heads =
    codes "and" ∷ codes "not" ∷ codes "or" ∷ codes "imply" ∷ codes "forall" ∷ codes "exists" ∷ codes "when" ∷ codes "either" ∷
    codes "increase" ∷ codes "decrease" ∷ codes "assign" ∷ codes "scale-up" ∷ codes "scale-down" ∷ []

-- the name may not head an atom or a predicate
abbrev pub is_reserved : List ℕ → Bool
is_reserved text = is_one_of reserved_heads text

-- a word with its text and its place
abbrev pub word : List ℕ → ℕ → Word
word text at = record { text = text; at = at }

-- NAME
pub data IsNameWord : List Lexeme → Word → List Lexeme → Type 0 where
  is_name_word : {text : List ℕ} {at : ℕ} {rest : List Lexeme} → IsNameWord (name text at ∷ rest) (word text at) rest

-- HEAD
pub data IsHead : List Lexeme → Word → List Lexeme → Type 0 where
  is_head : {text : List ℕ} {at : ℕ} {rest : List Lexeme} → is_reserved text ≡ false → IsHead (name text at ∷ rest) (word text at) rest

-- term = NAME | VARIABLE
pub data IsTerm : List Lexeme → Word → List Lexeme → Type 0 where
  is_constant : {text : List ℕ} {at : ℕ} {rest : List Lexeme} → IsTerm (name text at ∷ rest) (word text at) rest
  is_argument : {text : List ℕ} {at : ℕ} {rest : List Lexeme} → IsTerm (variable text at ∷ rest) (word text at) rest

-- item* )
pub data Many {A : Type 0} (Item : List Lexeme → A → List Lexeme → Type 0) : List Lexeme → List A → List Lexeme → Type 0 where
  close : {p : ℕ} {rest : List Lexeme} → Many Item (right p ∷ rest) [] rest
  more : {ts mid rest : List Lexeme} {item : A} {items : List A} → Item ts item mid → Many Item mid items rest → Many Item ts (item ∷ items) rest

-- item )
pub data Closed {A : Type 0} (Item : List Lexeme → A → List Lexeme → Type 0) : List Lexeme → A → List Lexeme → Type 0 where
  closed : {p : ℕ} {ts rest : List Lexeme} {item : A} → Item ts item (right p ∷ rest) → Closed Item ts item rest

-- ( HEAD term* ), with terms of some kind
pub data IsAtom (Term : List Lexeme → Word → List Lexeme → Type 0) : List Lexeme → AtomText → List Lexeme → Type 0 where
  is_atom : {p : ℕ} {ts mid rest : List Lexeme} {head : Word} {args : List Word} → IsHead ts head mid → Many Term mid args rest → IsAtom Term (left p ∷ ts) (record { head = head; args = args }) rest

-- gatom = ( HEAD NAME* )
abbrev pub IsGroundAtom : List Lexeme → AtomText → List Lexeme → Type 0
IsGroundAtom = IsAtom IsNameWord

-- atom = ( HEAD term* )
abbrev pub IsLiftedAtom : List Lexeme → AtomText → List Lexeme → Type 0
IsLiftedAtom = IsAtom IsTerm

mutual
  -- conjunction = ( ) | ( and conjunction* ) | item, with its items in order of the text
  pub data Conjunction {A : Type 0} (Item : List Lexeme → A → List Lexeme → Type 0) : List Lexeme → List A → List Lexeme → Type 0 where
    nothing : {p q : ℕ} {rest : List Lexeme} → Conjunction Item (left p ∷ right q ∷ rest) [] rest
    all_of : {p q : ℕ} {ts rest : List Lexeme} {items : List A} → Conjuncts Item ts items rest → Conjunction Item (left p ∷ name (codes "and") q ∷ ts) items rest
    just : {ts rest : List Lexeme} {item : A} → Item ts item rest → Conjunction Item ts (item ∷ []) rest

  -- conjunction* )
  pub data Conjuncts {A : Type 0} (Item : List Lexeme → A → List Lexeme → Type 0) : List Lexeme → List A → List Lexeme → Type 0 where
    finished : {p : ℕ} {rest : List Lexeme} → Conjuncts Item (right p ∷ rest) [] rest
    also : {ts mid rest : List Lexeme} {some others : List A} → Conjunction Item ts some mid → Conjuncts Item mid others rest → Conjuncts Item ts (some ++ others) rest

-- change = atom | ( not atom )
pub data IsChange : List Lexeme → AtomChange → List Lexeme → Type 0 where
  is_added : {ts rest : List Lexeme} {atom : AtomText} → IsLiftedAtom ts atom rest → IsChange ts (Added atom) rest
  is_deleted : {p q : ℕ} {ts rest : List Lexeme} {atom : AtomText} → Closed IsLiftedAtom ts atom rest → IsChange (left p ∷ name (codes "not") q ∷ ts) (Deleted atom) rest

-- the atoms that some changes add
abbrev pub added : List AtomChange → List AtomText
added [] = []
added (Added atom ∷ changes) = atom ∷ added changes
added (Deleted atom ∷ changes) = added changes

-- the atoms that some changes delete
abbrev pub deleted : List AtomChange → List AtomText
deleted [] = []
deleted (Added atom ∷ changes) = deleted changes
deleted (Deleted atom ∷ changes) = atom ∷ deleted changes

-- VARIABLE
pub data IsVariableWord : List Lexeme → Word → List Lexeme → Type 0 where
  is_variable_word : {text : List ℕ} {at : ℕ} {rest : List Lexeme} → IsVariableWord (variable text at ∷ rest) (word text at) rest

-- a word to which its list gives this type, or none
abbrev pub typed : Option Word → Word → Typed
typed of w = record { word = w; of = of }

-- item+ - : one or more words, and the dash after them
pub data Group (Item : List Lexeme → Word → List Lexeme → Type 0) : List Lexeme → List Word → List Lexeme → Type 0 where
  last : {p : ℕ} {ts rest : List Lexeme} {w : Word} → Item ts w (dash p ∷ rest) → Group Item ts (w ∷ []) rest
  with_next : {ts mid rest : List Lexeme} {w : Word} {ws : List Word} → Item ts w mid → Group Item mid ws rest → Group Item ts (w ∷ ws) rest

-- (item+ - NAME)* item* ), or with a gap after `- (` in the place of a type
pub data TypedList (Item : List Lexeme → Word → List Lexeme → Type 0) : List Lexeme → List Typed → List Lexeme → Type 0 where
  untyped_words : {ts rest : List Lexeme} {ws : List Word} → Many Item ts ws rest → TypedList Item ts (map (typed None) ws) rest
  typed_group : {q : ℕ} {text : List ℕ} {ts mid rest : List Lexeme} {ws : List Word} {others : List Typed}
      → Group Item ts ws (name text q ∷ mid) → TypedList Item mid others rest → TypedList Item ts (map (typed (Some (word text q))) ws ++ others) rest
  open_group : {p q : ℕ} {ts mid rest : List Lexeme} {ws : List Word} {others : List Typed}
      → Group Item ts ws (left p ∷ gap q ∷ mid) → TypedList Item mid others rest → TypedList Item ts (map (typed None) ws ++ others) rest

-- names )
abbrev pub IsNames : List Lexeme → List Typed → List Lexeme → Type 0
IsNames = TypedList IsNameWord

-- vars )
abbrev pub IsVariables : List Lexeme → List Typed → List Lexeme → Type 0
IsVariables = TypedList IsVariableWord
