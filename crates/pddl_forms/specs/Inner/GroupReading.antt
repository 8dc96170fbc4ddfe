-- The contract of the code for the type of a group of words: reading it lexeme by lexeme, within their typed list.
use Rattle.std.specs.Prelude.{◌≡◌, false, List, [], ◌++◌, map, Some, Result, Ok, Err}
use Rattle.pddl_lexer.specs.declared.lexer.Kind.{Kind}
use Rattle.pddl_lexer.specs.declared.lexer.Kind.TheVariants.{RightParen}
use Rattle.pddl_forms.specs.declared.stop.Why.{Why}
use Rattle.pddl_forms.specs.declared.stop.Stop.{Stop}
use Rattle.pddl_forms.specs.declared.texts.Word.{Word}
use Rattle.pddl_forms.specs.declared.texts.Typed.{Typed}
use Rattle.pddl_forms.specs.Lexemes.{Lexeme}
use Rattle.pddl_forms.specs.Forms.{typed}
use Rattle.pddl_forms.specs.Inner.Reading.{Read, Reads, stuck, comes}
use Rattle.pddl_forms.specs.Inner.TypedReading.{words_of, type_of, no_type_of}

-- a call answered the type of the words that wait, with which their typed list is read on; or it stopped where the list does
abbrev pub GivesType : Kind → List Typed → List Word → Read (List Typed) → Result Word Stop → List Lexeme → Type 0
GivesType kind done waiting list (Ok of) rest = list ≡ words_of kind (done ++ map (typed (Some of)) waiting) [] rest
GivesType kind done waiting list (Err stop) rest = Reads list (Err stop) rest

-- a call read the type after a dash, whatever the words are
abbrev pub ReadsType : List Lexeme → Result Word Stop → List Lexeme → Type 0
ReadsType ts result rest = (kind : Kind) (done : List Typed) (waiting : List Word) → GivesType kind done waiting (type_of kind done waiting ts) result rest

-- a call read what follows words that wait, where neither another word nor a right parenthesis does
abbrev pub ReadsGroupType : List Word → List Lexeme → Result Word Stop → List Lexeme → Type 0
ReadsGroupType waiting ts result rest =
    (kind : Kind) (done : List Typed) → comes RightParen ts ≡ false → comes kind ts ≡ false → GivesType kind done waiting (words_of kind done waiting ts) result rest

-- after a dash and a left parenthesis nothing is read, whatever the words are
abbrev pub IsWhyNoType : List Lexeme → Why → Type 0
IsWhyNoType ts why = (kind : Kind) (done : List Typed) (waiting : List Word) → no_type_of kind done waiting ts ≡ stuck why ts
