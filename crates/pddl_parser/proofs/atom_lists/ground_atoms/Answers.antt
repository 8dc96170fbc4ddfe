use Rattle.pddl_forms.specs.declared.formulas.Terms.TheVariants.{Names}
use Rattle.pddl_forms.proofs.Exact.{atom_shrinks}
use Rattle.pddl_parser.proofs.atom_lists.ground_atoms.Goals as goal

pub items-requires : goal.items-requires
items-requires c = atom_shrinks Names
