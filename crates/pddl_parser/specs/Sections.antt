-- What stands in any order and at most once: the parts of an action, and the sections of a domain and of a problem. `None`
-- is one that does not stand, or not yet.
use Rattle.std.specs.Prelude.{List, Option}
use Rattle.pddl_forms.specs.declared.texts.Word.{Word}
use Rattle.pddl_forms.specs.declared.texts.Typed.{Typed}
use Rattle.pddl_forms.specs.declared.texts.AtomText.{AtomText}
use Rattle.pddl_forms.specs.declared.texts.AtomChange.{AtomChange}
use Rattle.pddl_parser.specs.declared.texts.PredText.{PredText}
use Rattle.pddl_parser.specs.declared.texts.ActionText.{ActionText}

-- the parts of an action: its parameters, its precondition, and the changes of its effect
pub record ActionParts : Type 0 where
  pub params : Option (List Typed)
  pub pre : Option (List AtomText)
  pub changes : Option (List AtomChange)

-- the sections of a domain, of which actions may stand any number of times
pub record DomainSections : Type 0 where
  pub requirements : Option (List Word)
  pub types : Option (List Typed)
  pub constants : Option (List Typed)
  pub predicates : Option (List PredText)
  pub actions : List ActionText

-- the sections of a problem
pub record ProblemSections : Type 0 where
  pub domain : Option Word
  pub requirements : Option (List Word)
  pub objects : Option (List Typed)
  pub init : Option (List AtomText)
  pub goal : Option (List AtomText)
