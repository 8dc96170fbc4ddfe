-- Orders of evaluations, and how their texts are read.
use Rattle.std.specs.Prelude.{◌≡◌, ◌≢◌, ℕ, ◌<◌, ◌==◌, List, take, map, length, slice_get, AllPairs, Contains, Some, codes, Result, Ok, Err}
use Rattle.std.specs.List.{join_with_byte, slice_split}
use Rattle.evaluations.specs.declared.evaluation.Evaluation.{Evaluation}
use Rattle.evaluations.specs.declared.evaluation.Evaluation.TheVariants.{Jumps, UndefinedLines, RepeatedInstructions, LinesBehind, MissingAtoms, Steps}
use Rattle.evaluations.specs.declared.refusal.OrderRefusal.{OrderRefusal}
use Rattle.evaluations.specs.declared.refusal.OrderRefusal.TheVariants.{Empty, Name, Repeated}

-- the byte of `,`
abbrev pub COMMA : ℕ
COMMA = 44

abbrev pub name_of : Evaluation → List ℕ
name_of Jumps = codes "e1"
name_of UndefinedLines = codes "e2"
name_of RepeatedInstructions = codes "e3"
name_of LinesBehind = codes "e4"
name_of MissingAtoms = codes "e5"
name_of Steps = codes "e6"

-- the text of an order: the names of its evaluations, with a comma between each two
abbrev pub order_text : List Evaluation → List ℕ
order_text order = join_with_byte COMMA (map name_of order)

-- an order has an evaluation at least, and none twice
pub record IsOrder (order : List Evaluation) : Type 0 where
  pub some : 0 < length order
  pub different : AllPairs (λ a b. a ≢ b) order

-- what stands between the commas of a text
abbrev pub entries_of : List ℕ → List (List ℕ)
entries_of text = slice_split (λ byte. byte == COMMA) text

-- the entries of a text before a place are the names of these evaluations, which are different
pub record AreEntriesBefore (text : List ℕ) (place : ℕ) (earlier : List Evaluation) : Type 0 where
  pub count : length earlier ≡ place
  pub named : take place (entries_of text) ≡ map name_of earlier
  pub different : AllPairs (λ a b. a ≢ b) earlier

-- the entry at a place is no name, and those before it are the names of different evaluations
pub record IsNoName (text : List ℕ) (place : ℕ) : Type 0 where
  pub earlier : List Evaluation
  pub before : AreEntriesBefore text place earlier
  pub entry : List ℕ
  pub here : slice_get (entries_of text) place ≡ Some entry
  pub no_name : (evaluation : Evaluation) → name_of evaluation ≢ entry

-- the entry at a place is a name that stands before it, and those before it are the names of different evaluations
pub record IsRepeatedName (text : List ℕ) (place : ℕ) : Type 0 where
  pub earlier : List Evaluation
  pub before : AreEntriesBefore text place earlier
  pub evaluation : Evaluation
  pub here : slice_get (entries_of text) place ≡ Some (name_of evaluation)
  pub repeated : Contains earlier evaluation

-- a text is read as the order that it is the text of; else it is empty, or an entry is the first that is no name or was there before
abbrev pub IsReadOrder : List ℕ → Result (List Evaluation) OrderRefusal → Type 0
IsReadOrder text (Ok order) = IsOrder order × (text ≡ order_text order)
IsReadOrder text (Err Empty) = text ≡ codes ""
IsReadOrder text (Err (Name place)) = (text ≢ codes "") × IsNoName text place
IsReadOrder text (Err (Repeated place)) = (text ≢ codes "") × IsRepeatedName text place
