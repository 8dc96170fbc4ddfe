use Rattle.std.proofs.Common.{◌++◌, refl}
use Rattle.pddl_task.specs.Types.{names_of}
use Rattle.pddl_task.specs.Parts.{heads_of}
use Rattle.pddl_task.proofs.Apart.{different_apart}
use Rattle.pddl_task.proofs.Bounds.{types_few, heads_few, names_over_few}
use Rattle.pddl_task.proofs.Faultless.{sound_domain, sound_problem}
use Rattle.pddl_task.proofs.making.instance_parts.Goals as goal

pub objects_of-requires : goal.objects_of-requires
objects_of-requires c = rw c.requires.types (types_few c.args.domain.now c.requires.read)

pub facts_of-requires-clause-heads : goal.facts_of-requires-clause-heads
facts_of-requires-clause-heads c = rw (c.in_ok-heads.ensures, c.as_slice.ensures) (heads_few c.args.domain.now c.requires.read)

pub facts_of-requires-clause-objects : goal.facts_of-requires-clause-objects
facts_of-requires-clause-objects c = rw c.in_ok-names.ensures (names_over_few c.args.domain.now c.args.problem.now c.requires.within)

pub facts_of-requires-2-clause-heads : goal.facts_of-requires-2-clause-heads
facts_of-requires-2-clause-heads c = rw (c.in_ok-heads.ensures, c.as_slice.ensures) (heads_few c.args.domain.now c.requires.read)

pub facts_of-requires-2-clause-objects : goal.facts_of-requires-2-clause-objects
facts_of-requires-2-clause-objects c = rw c.in_ok-names.ensures (names_over_few c.args.domain.now c.args.problem.now c.requires.within)

pub returns : goal.returns
returns c =
    let sound = sound_problem c.args.domain.now c.args.problem.now c.requires.domain_faultless c.requires.faultless in
    rw (
      c.in_ok-objects.ensures,
      c.requires.types,
      c.in_ok-init.ensures,
      c.in_ok-goal.ensures,
      c.as_slice-2.ensures,
      c.as_slice-3.ensures,
      c.in_ok-heads.ensures,
      c.as_slice.ensures,
      c.in_ok-names.ensures,
      different_apart (heads_of c.args.domain.now.predicates) (sound_domain c.args.domain.now c.requires.domain_faultless).heads,
      different_apart (names_of (c.args.domain.now.constants ++ c.args.problem.now.objects)) sound.objects,
    ) refl
