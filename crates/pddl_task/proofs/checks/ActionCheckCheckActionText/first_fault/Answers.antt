use Rattle.std.proofs.Common.{List, [], ◌++◌, map, Option}
use Rattle.std.specs.Prelude.{Any}
use Rattle.pddl_forms.specs.declared.texts.AtomText.{AtomText}
use Rattle.pddl_task.specs.declared.fault.Fault.{Fault}
use Rattle.pddl_task.specs.Inner.Arities.{arity_in}
use Rattle.pddl_task.specs.Types.{word_of, names_of}
use Rattle.pddl_task.specs.Faults.{IsTwice, IsUnknownType, IsAtomFault}
use Rattle.pddl_task.specs.Inner.Names.{different}
use Rattle.pddl_task.proofs.Alike.{alike_different, alike_itself, alike_joined, first_of_atoms_over}
use Rattle.pddl_task.proofs.Wholes.{first_of_rows}
use Rattle.pddl_task.proofs.checks.ActionCheckCheckActionText.first_fault.Goals as goal

pub returns : goal.returns
returns c =
    let check = c.args.self.now in
    let action = c.args.action.now in
    let params = names_of action.params in
    let alike = alike_joined (different params) params check.constants.now check.constants.now (alike_different params) (alike_itself check.constants.now) in
    let over = λ (atoms : List AtomText) (o : Option Fault). first_of_atoms_over (arity_in check.arities.now) (different params ++ check.constants.now) (params ++ check.constants.now) atoms o alike in
    rw (c.earlier-3.ensures, c.earlier-2.ensures, c.earlier-of_atoms.ensures, c.earlier.ensures)
    (first_of_rows (IsTwice [] (map word_of action.params)) (λ f. Any (IsUnknownType check.types.now f) action.params)
    (IsAtomFault (arity_in check.arities.now) (params ++ check.constants.now))
    action.pre action.add action.del c.in_ok-again.again c.first_unknown_type-of_types.result c.in_ok-of_pre.of_pre c.in_ok-of_add.of_add c.in_ok-of_del.of_del
    (rw (c.new.ensures, c.as_slice-params.ensures) at c.in_ok-again.ensures)
    c.first_unknown_type-of_types.ensures
    (over action.pre c.in_ok-of_pre.of_pre (rw (c.in_ok-names.ensures, c.as_slice-params.ensures, c.as_slice.ensures) at c.in_ok-of_pre.ensures))
    (over action.add c.in_ok-of_add.of_add (rw (c.in_ok-names.ensures, c.as_slice-params.ensures, c.as_slice-2.ensures) at c.in_ok-of_add.ensures))
    (over action.del c.in_ok-of_del.of_del (rw (c.in_ok-names.ensures, c.as_slice-params.ensures, c.as_slice-3.ensures) at c.in_ok-of_del.ensures)))
