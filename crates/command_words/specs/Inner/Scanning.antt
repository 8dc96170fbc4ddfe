-- Words, cut into the uses of options that they begin with and the names after them.
use Rattle.std.specs.Prelude.{◌≡◌, ◌≢◌, ℕ, Bool, List, ◌++◌, All, EachIndex, slice_index}
use Rattle.std.specs.List.{list_any}
use Rattle.std.specs.Str.{bytes_eq}
use Rattle.command_words.specs.declared.matching.Command.{Command}
use Rattle.command_words.specs.declared.scanning.OptionUse.{OptionUse}
use Rattle.command_words.specs.Words.{Use, AreWordsOf, AreUsesThen}
use Rattle.command_words.specs.Inner.Matching.{options_of}

-- the byte of `=`
abbrev pub EQUALS : ℕ
EQUALS = 61

abbrev pub use_of : OptionUse → Use
use_of used = record { name = used.name.now; value = used.value.now }

-- no byte of a name is `=`
abbrev pub HasNoEquals : List ℕ → Type 0
HasNoEquals name = EachIndex name (λ i. slice_index name i ≢ EQUALS)

-- the words begin with a use of an option, which is cut at the first `=`, and then come the others
pub record BeginsWith (used : Use) (others words : List (List ℕ)) : Type 0 where
  pub front : List (List ℕ)
  pub are_words : AreWordsOf used front
  pub begins : words ≡ front ++ others
  pub first_equals : HasNoEquals used.name

-- the words begin with no use of an option
abbrev pub BeginsWithNoUse : List (List ℕ) → Type 0
BeginsWithNoUse words = (used : Use) (others : List (List ℕ)) → BeginsWith used others words → ⊥

-- the words are those of these uses, and then come names, which begin with no further use
pub record AreCutInto (uses : List Use) (names words : List (List ℕ)) : Type 0 where
  pub spelled : AreUsesThen uses names words
  pub first_equals : All (λ used. HasNoEquals used.name) uses
  pub no_more : BeginsWithNoUse names

-- a command has an option of this name
abbrev pub has_option : Command → List ℕ → Bool
has_option command name = list_any (λ option. bytes_eq option name) (options_of command)

-- an option of this name is used
abbrev pub is_used : List OptionUse → List ℕ → Bool
is_used uses name = list_any (λ used. bytes_eq used.name.now name) uses
