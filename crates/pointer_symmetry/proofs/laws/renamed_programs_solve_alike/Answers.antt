use Rattle.pointer_symmetry.proofs.RenamedRuns.{solves_alike}
use Rattle.pointer_symmetry.proofs.laws.renamed_programs_solve_alike.Goals as goal

pub returns : goal.returns
returns g c = λ by program t renaming is_program within.
    solves_alike (g.M.Machine.semantics c.args.machine.now) (g.M.Machine.belongs c.args.machine.now) by c.treats_pointers_alike.ensures renaming t within program is_program.is_partial
