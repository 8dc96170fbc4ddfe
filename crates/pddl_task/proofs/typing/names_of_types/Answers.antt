use Rattle.std.proofs.Common.{◌∙◌, [], ◌∷◌, flat_map, ap, arith}
use Rattle.std.proofs.lemmas.List.{take_all}
use Rattle.pddl_task.specs.Names.{with_name, with_names}
use Rattle.pddl_task.specs.Types.{root, mentioned}
use Rattle.pddl_task.proofs.typing.names_of_types.Goals as goal

pub loop-place-init : goal.loop-place-init
loop-place-init c = c.in_ok-add.ensures.names ∙ ap (λ names. with_name names root) c.new-names.ensures

pub returns : goal.returns
returns c = c.loop-place.invariant ∙ ap (λ types. with_names (root ∷ []) (flat_map mentioned types)) (take_all c.loop-place.place c.args.types.now (omega arith))
