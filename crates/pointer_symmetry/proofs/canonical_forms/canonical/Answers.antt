use Rattle.std.proofs.Common.{◌≤◌, sym, subst, arith}
use Rattle.program_model.specs.declared.machine.TheConstants.{MAX_POINTERS}
use Rattle.program_model.specs.Renaming.{IsRenamingOf}
use Rattle.pointer_symmetry.specs.Used.{has}
use Rattle.pointer_symmetry.proofs.CanonicalForms.{canonical_is_renaming}
use Rattle.pointer_symmetry.proofs.canonical_forms.canonical.Goals as goal

pub rename-requires-clause-by : goal.rename-requires-clause-by
rename-requires-clause-by g c =
    let m = g.M.Machine.semantics c.args.machine.now in
    let few : m.pointers ≤ MAX_POINTERS = omega (arith, c.pointers-few.ensures) in
    subst (IsRenamingOf m.pointers) (sym c.canonical_renaming.ensures)
    (canonical_is_renaming (has c.args.used) m.pointers (m.pointers_of c.args.op) (c.treats_pointers_alike.ensures.pointers c.args.op c.requires) few)
