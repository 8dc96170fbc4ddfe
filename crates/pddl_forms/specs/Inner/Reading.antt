-- The contract of the code: reading lexeme by lexeme, which gives a part of a text, or tells why it is none and where.
use Rattle.std.specs.Prelude.{◌≡◌, ℕ, zero, suc, Bool, true, false, ◌||◌, ◌&&◌, List, [], ◌∷◌, length, drop, Result, Ok, Err, codes, bytes_eq, if◌then◌else◌}
use Rattle.std.specs.List.{list_any}
use Rattle.pddl_lexer.specs.declared.lexer.Kind.{Kind}
use Rattle.pddl_lexer.specs.declared.lexer.Kind.TheVariants.{LeftParen, RightParen, Name, Variable, Keyword, Dash, Equal}
use Rattle.pddl_forms.specs.declared.stop.Why.{Why}
use Rattle.pddl_forms.specs.declared.stop.Why.TheVariants.{Shape, Unsupported}
use Rattle.pddl_forms.specs.declared.stop.Stop.{Stop}
use Rattle.pddl_forms.specs.declared.stop.Stop.TheVariants.{Refused, OutOfMemory}
use Rattle.pddl_forms.specs.declared.texts.Word.{Word}
use Rattle.pddl_forms.specs.declared.texts.AtomText.{AtomText}
use Rattle.pddl_forms.specs.declared.cursor.Start.{Start}
use Rattle.pddl_forms.specs.declared.cursor.Start.TheVariants.{Nothing, And, Other}
use Rattle.pddl_forms.specs.declared.formulas.Terms.{Terms}
use Rattle.pddl_forms.specs.declared.formulas.Terms.TheVariants.{Names, NamesAndVariables}
use Rattle.pddl_forms.specs.declared.texts.AtomChange.{AtomChange}
use Rattle.pddl_forms.specs.declared.texts.AtomChange.TheVariants.{Added, Deleted}
use Rattle.pddl_forms.specs.Lexemes.{Lexeme, left, right, name, variable, keyword, dash, equal}
use Rattle.pddl_forms.specs.Forms.{word, reserved_heads}

-- a value and the lexemes after it, or the kind of fault and the lexemes from the offending one on
pub data Read (A : Type 0) : Type 0 where
  got : A → List Lexeme → Read A
  stuck : Why → List Lexeme → Read A

-- one part, and then what is read of the rest
unfoldable pub and_then : {A B : Type 0} → Read A → (A → List Lexeme → Read B) → Read B
and_then (got value rest) further = further value rest
and_then (stuck why bad) further = stuck why bad

-- the lexeme is of this kind
abbrev pub is_of : Kind → Lexeme → Bool
is_of LeftParen (left at) = true
is_of RightParen (right at) = true
is_of Name (name text at) = true
is_of Variable (variable text at) = true
is_of Keyword (keyword text at) = true
is_of Dash (dash at) = true
is_of Equal (equal at) = true
is_of _ _ = false

-- the kinds of tokens that are words
abbrev pub is_word : Kind → Bool
is_word Name = true
is_word Variable = true
is_word Keyword = true
is_word _ = false

-- the word of a lexeme; a mark has none
abbrev pub word_of : Lexeme → Word
word_of (name text at) = word text at
word_of (variable text at) = word text at
word_of (keyword text at) = word text at
word_of _ = word [] 0

-- a lexeme of this kind comes first
abbrev pub comes : Kind → List Lexeme → Bool
comes kind [] = false
comes kind (t ∷ ts) = is_of kind t

-- a word of this kind comes first, with this text
abbrev pub comes_as : Kind → List ℕ → List Lexeme → Bool
comes_as kind text [] = false
comes_as kind text (t ∷ ts) = is_of kind t && bytes_eq (word_of t).text text

-- what may not head an atom comes first
abbrev pub comes_reserved : List Lexeme → Bool
comes_reserved ts = comes Equal ts || list_any (λ text. comes_as Name text ts) reserved_heads

-- the first word
abbrev pub first_word : List Lexeme → Word
first_word [] = word [] 0
first_word (t ∷ ts) = word_of t

-- a lexeme that was looked for, if it is there
abbrev pub passing : {A : Type 0} → Bool → A → List Lexeme → Read A
passing found value ts = if found then got value (drop 1 ts) else stuck Shape ts

-- a lexeme of a kind
abbrev pub mark : Kind → List Lexeme → Read (Unit {0})
mark kind ts = passing (comes kind ts) tt ts

-- a given word
abbrev pub literal : Kind → List ℕ → List Lexeme → Read (Unit {0})
literal kind text ts = passing (comes_as kind text ts) tt ts

-- any word of a kind
abbrev pub any_word : Kind → List Lexeme → Read Word
any_word kind ts = passing (comes kind ts) (first_word ts) ts

-- a name that is not reserved
abbrev pub head : List Lexeme → Read Word
head ts = if comes_reserved ts then stuck Unsupported ts else any_word Name ts

-- an item before others, if these could be read
abbrev pub before_others : {A : Type 0} → A → Read (List A) → Read (List A)
before_others item (got items rest) = got (item ∷ items) rest
before_others item (stuck why bad) = stuck why bad

-- at most so many items, up to the right parenthesis
abbrev pub items_within : {A : Type 0} → (List Lexeme → Read A) → ℕ → List Lexeme → Read (List A)
items_within item zero ts = stuck Shape ts
items_within item (suc room) ts =
    if comes RightParen ts then got [] (drop 1 ts)
    else and_then (item ts) (λ value rest. before_others value (items_within item room rest))

-- items, one after another, up to the right parenthesis. Each takes a lexeme, so there is room for all
unfoldable pub many : {A : Type 0} → (List Lexeme → Read A) → List Lexeme → Read (List A)
many item ts = items_within item (suc (length ts)) ts

-- ( body, where the body carries the right parenthesis
abbrev pub in_list : {A : Type 0} → (List Lexeme → Read A) → List Lexeme → Read A
in_list body ts = and_then (mark LeftParen ts) (λ _ ts. body ts)

-- an argument of an atom
abbrev pub term : Terms → List Lexeme → Read Word
term Names ts = any_word Name ts
term NamesAndVariables ts = if comes Variable ts then any_word Variable ts else any_word Name ts

-- HEAD term* )
unfoldable pub atom_body : Terms → List Lexeme → Read AtomText
atom_body terms ts =
    and_then (head ts) (λ head ts. and_then (many (term terms) ts) (λ args rest.
    got (record { head = head; args = args }) rest))

-- ( HEAD term* )
abbrev pub atom : Terms → List Lexeme → Read AtomText
atom terms ts = in_list (atom_body terms) ts

-- an item and a right parenthesis
abbrev pub closed_item : {A : Type 0} → (List Lexeme → Read A) → List Lexeme → Read A
closed_item item ts = and_then (item ts) (λ value ts. and_then (mark RightParen ts) (λ _ rest. got value rest))

-- not atom ), or HEAD term* )
unfoldable pub change_body : List Lexeme → Read AtomChange
change_body ts =
    if comes_as Name (codes "not") ts then and_then (closed_item (atom NamesAndVariables) (drop 1 ts)) (λ atom rest. got (Deleted atom) rest)
    else and_then (atom_body NamesAndVariables ts) (λ atom rest. got (Added atom) rest)

-- how a part of a conjunction starts: ( ), or ( and, or the left parenthesis of an item
unfoldable pub start : List Lexeme → Read Start
start ts =
    and_then (mark LeftParen ts) (λ _ ts.
    if comes RightParen ts then got Nothing (drop 1 ts)
    else (if comes_as Name (codes "and") ts then got And (drop 1 ts)
    else got Other ts))

-- what a start leads to, where so many conjunctions are open, and items are read on by `further`
abbrev pub after_start : {A : Type 0} → (List Lexeme → Read A) → (ℕ → List Lexeme → Read (List A)) → ℕ → Start → List Lexeme → Read (List A)
after_start body further count Nothing ts = further count ts
after_start body further count And ts = further (suc count) ts
after_start body further count Other ts = and_then (body ts) (λ item rest. before_others item (further count rest))

-- the items up to the right parentheses of so many open conjunctions, in at most so many steps
abbrev pub conjuncts_within : {A : Type 0} → (List Lexeme → Read A) → ℕ → ℕ → List Lexeme → Read (List A)
conjuncts_within body zero count ts = stuck Shape ts
conjuncts_within body (suc room) zero ts = got [] ts
conjuncts_within body (suc room) (suc count) ts =
    if comes RightParen ts then conjuncts_within body room count (drop 1 ts)
    else and_then (start ts) (λ first rest. after_start body (conjuncts_within body room) (suc count) first rest)

-- the items up to the right parentheses of so many open conjunctions. Each step takes a lexeme, so there is room for all
unfoldable pub conjuncts : {A : Type 0} → (List Lexeme → Read A) → ℕ → List Lexeme → Read (List A)
conjuncts body count ts = conjuncts_within body (suc (length ts)) count ts

-- ( ), or ( and conjunction* ), or an item
unfoldable pub conjunction : {A : Type 0} → (List Lexeme → Read A) → List Lexeme → Read (List A)
conjunction body ts = and_then (start ts) (λ first rest. after_start body (conjuncts body) 0 first rest)

-- nothing is left
abbrev pub end : List Lexeme → Read (Unit {0})
end [] = got tt []
end (t ∷ ts) = stuck Shape (t ∷ ts)

-- a call answered what is read, and left the rest, or the lexemes from the offending one on; want of memory says nothing
abbrev pub Reads : {A : Type 0} → Read A → Result A Stop → List Lexeme → Type 0
Reads read (Ok value) rest = read ≡ got value rest
Reads read (Err (Refused why)) rest = read ≡ stuck why rest
Reads read (Err OutOfMemory) rest = Unit {0}
