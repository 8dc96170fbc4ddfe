-- What an action has to be before it is numbered.
use Rattle.std.specs.Prelude.{◌≤◌, length}
use Rattle.pddl_parser.specs.declared.texts.ActionText.{ActionText}
use Rattle.ground_state.specs.declared.parts.TheConstants.{MAX_PARAMETERS}
use Rattle.pddl_task.specs.Types.{names_of}
use Rattle.pddl_task.specs.Inner.Names.{AreApart}

-- the text of an action whose parameters differ and are few
pub record IsSchemaText (action : ActionText) : Type 0 where
  pub apart : AreApart (names_of action.params)
  pub few : length action.params ≤ MAX_PARAMETERS
