-- The types of a domain: their names, numbers and parents.
use Rattle.std.specs.Prelude.{ℕ, List, [], ◌∷◌, if◌then◌else◌, map, find, flat_map, unwrap_or, option_map, bytes_eq, codes}
use Rattle.pddl_forms.specs.declared.texts.Word.{Word}
use Rattle.pddl_forms.specs.declared.texts.Typed.{Typed}
use Rattle.ground_state.specs.declared.parts.TypeEntry.{TypeEntry}
use Rattle.pddl_task.specs.Names.{with_names, number_of}

-- the name of the root of all types
abbrev pub root : List ℕ
root = codes "object"

-- the text of a word
abbrev pub text_of : Word → List ℕ
text_of word = word.text

-- the word of an item of a typed list
abbrev pub word_of : Typed → Word
word_of typed = typed.word

-- the names of a typed list
abbrev pub names_of : List Typed → List (List ℕ)
names_of list = map text_of (map word_of list)

-- the type that a typed list gives to a word, which is `object` where it gives none
abbrev pub type_of : Typed → List ℕ
type_of typed = unwrap_or (option_map text_of typed.of) root

-- a word of `:types`, and then its parent
abbrev pub mentioned : Typed → List (List ℕ)
mentioned typed = typed.word.text ∷ type_of typed ∷ []

-- the names of types by their numbers: `object`, and then the words of `:types` and the parents there, by first appearance
abbrev pub type_names : List Typed → List (List ℕ)
type_names types = with_names (root ∷ []) (flat_map mentioned types)

-- the number of the type that a typed list gives to a word, where types have these names
abbrev pub type_number : List (List ℕ) → Typed → ℕ
type_number types typed = number_of types (type_of typed)

-- the parent that `:types` gives to a name where it stands first, which is `object` where it stands nowhere
abbrev pub given_parent : List Typed → List ℕ → List ℕ
given_parent types name = unwrap_or (option_map type_of (find (λ (typed : Typed). bytes_eq name typed.word.text) types)) root

-- the parent of a type, which for `object` is `object` itself
abbrev pub parent_of : List Typed → List ℕ → List ℕ
parent_of types name = if bytes_eq name root then root else given_parent types name

-- a type of the task
abbrev pub entry_of : List Typed → List ℕ → TypeEntry
entry_of types name = record { name = name; parent = number_of (type_names types) (parent_of types name) }

-- the types of the task
abbrev pub types_of : List Typed → List TypeEntry
types_of types = map (entry_of types) (type_names types)
