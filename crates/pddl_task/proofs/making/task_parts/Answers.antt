use Rattle.std.proofs.Common.{refl}
use Rattle.pddl_task.specs.Types.{names_of}
use Rattle.pddl_task.specs.Parts.{heads_of}
use Rattle.pddl_task.proofs.Apart.{different_apart}
use Rattle.pddl_task.proofs.Bounds.{types_few, heads_few, constants_few, domain_limits, schema_texts}
use Rattle.pddl_task.proofs.Faultless.{sound_domain}
use Rattle.pddl_task.proofs.making.task_parts.Goals as goal

pub constants_of-requires : goal.constants_of-requires
constants_of-requires c = rw (c.in_ok-scope.ensures.types, c.requires.types) (types_few c.args.domain.now c.requires.read)

pub predicates_of-requires : goal.predicates_of-requires
predicates_of-requires c = rw c.as_slice.ensures ((domain_limits c.args.domain.now c.requires.within).arities)

pub schemas_of-requires-clause-types : goal.schemas_of-requires-clause-types
schemas_of-requires-clause-types c = rw (c.in_ok-scope.ensures.types, c.requires.types) (types_few c.args.domain.now c.requires.read)

pub schemas_of-requires-clause-heads : goal.schemas_of-requires-clause-heads
schemas_of-requires-clause-heads c = rw c.in_ok-scope.ensures.heads (heads_few c.args.domain.now c.requires.read)

pub schemas_of-requires-clause-constants : goal.schemas_of-requires-clause-constants
schemas_of-requires-clause-constants c = rw c.in_ok-scope.ensures.constants (constants_few c.args.domain.now c.requires.within)

pub schemas_of-requires-clause-fit : goal.schemas_of-requires-clause-fit
schemas_of-requires-clause-fit c = rw c.as_slice-2.ensures (schema_texts c.args.domain.now c.requires.faultless c.requires.within)

pub returns : goal.returns
returns c =
    let sound = sound_domain c.args.domain.now c.requires.faultless in
    rw (
      c.requires.entries,
      c.in_ok-constants.ensures,
      c.in_ok-predicates.ensures,
      c.in_ok-schemas.ensures,
      c.as_slice.ensures,
      c.as_slice-2.ensures,
      c.in_ok-scope.ensures.types,
      c.in_ok-scope.ensures.heads,
      c.in_ok-scope.ensures.constants,
      c.requires.types,
      different_apart (heads_of c.args.domain.now.predicates) sound.heads,
      different_apart (names_of c.args.domain.now.constants) sound.constants,
    ) refl
