-- What bytes say: an answer, or at which line they are no document.
use Rattle.std.specs.Prelude.{◌≡◌, ℕ, ◌+◌, List, [], ◌∷◌, ◌++◌, length, Result, Ok, Err}
use Rattle.flag_rules.specs.Line.{line, lines_of}
use Rattle.refutation_tree.specs.declared.evidence.Answer.{Answer}
use Rattle.answer_reader.specs.declared.refusal.AnswerRefusal.{AnswerRefusal}
use Rattle.answer_reader.specs.declared.refusal.AnswerRefusal.TheVariants.{Line, OutOfMemory}
use Rattle.answer_writer.specs.Document.{document_lines, document}
use Rattle.refutation_tree.specs.Grammar.{IsGrammatical}

-- the bytes are the document of an answer of the grammar, where these are the texts of the operations
abbrev pub IsDocument : List (List ℕ) → List ℕ → Answer → Type 0
IsDocument texts bytes a = IsGrammatical (length texts) a × (bytes ≡ document texts a)

-- with more lines after them the lines are those of a document
abbrev pub Begins : List (List ℕ) → List (List ℕ) → Type 0
Begins texts front = (more : List (List ℕ)) × (a : Answer) × IsGrammatical (length texts) a × (front ++ more ≡ document_lines texts a)

-- The bytes are no document, and this is the number, from 1, of the first line such that the lines up to it begin none. It may be
-- a line that lacks its line feed, which no document has, or the one that is missing where a document stops early.
pub record IsAstray (texts : List (List ℕ)) (bytes : List ℕ) (number : ℕ) : Type 0 where
  pub before : List (List ℕ)
  pub rest : List ℕ
  pub cut : bytes ≡ lines_of before ++ rest
  pub number_is : number ≡ length before + 1
  pub begins : Begins texts before
  pub astray : (text after : List ℕ) → rest ≡ line text ++ after → Begins texts (before ++ text ∷ []) → ⊥
  pub no_document : (a : Answer) → IsDocument texts bytes a → ⊥

-- what bytes say, where these are the texts of the operations
abbrev pub Reads : List (List ℕ) → List ℕ → Result Answer AnswerRefusal → Type 0
Reads texts bytes (Ok a) = IsDocument texts bytes a
Reads texts bytes (Err (Line number)) = IsAstray texts bytes number
Reads texts bytes (Err OutOfMemory) = Unit {0}
