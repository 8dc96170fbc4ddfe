-- The numbers of parameters of predicates by their names, as the checks keep them.
use Rattle.std.specs.Prelude.{ℕ, ◌≡◌, List, Option, length, slice_get}
use Rattle.pddl_parser.specs.declared.texts.PredText.{PredText}
use Rattle.pddl_task.specs.declared.arities.Arities.{Arities}
use Rattle.pddl_task.specs.Names.{number_of}
use Rattle.pddl_task.specs.Faults.{arity_named}

-- what the table has at a name
abbrev pub arity_in : Arities → List ℕ → Option ℕ
arity_in table name = slice_get table.counts.items (number_of table.heads name)

-- the table is that of some predicates
pub record AreAritiesOf (predicates : List PredText) (table : Arities) : Type 0 where
  pub counted : length table.heads ≡ length table.counts.items
  pub named : (name : List ℕ) → arity_in table name ≡ arity_named predicates name
