use Rattle.std.proofs.Common.{◌∙◌, ℕ, List, length, map, set, sym, ap, arith}
use Rattle.std.proofs.lemmas.List.{length-map}
use Rattle.pddl_forms.specs.declared.texts.Typed.{Typed}
use Rattle.pddl_task.specs.Names.{number_of}
use Rattle.pddl_task.specs.Types.{type_names, type_number, given_parent}
use Rattle.pddl_task.proofs.ParentNumbers.{given_numbers, some_types, root_written}
use Rattle.pddl_task.proofs.typing.parent_numbers.Goals as goal

pub given_parents-requires-clause-all : goal.given_parents-requires-clause-all
given_parents-requires-clause-all c = c.requires.all ∙ ap type_names (sym c.as_slice.ensures)

pub given_parents-requires-clause-given : goal.given_parents-requires-clause-given
given_parents-requires-clause-given c = c.as_slice-2.ensures ∙ c.in_ok-given.ensures ∙ ap (map (type_number c.args.names.now)) (sym c.as_slice.ensures)

pub index_mut-requires : goal.index_mut-requires
index_mut-requires c =
    let long = ap length c.in_ok-parents.ensures ∙ length-map c.args.names.now (λ (name : List ℕ). number_of c.args.names.now (given_parent c.as_slice.result.now name)) ∙ ap length c.requires.all in
    omega (arith, long, some_types c.args.types.now, c.in_ok-parents.parents.ok.0)

pub returns : goal.returns
returns c =
    ap (λ l. set l 0 0) c.in_ok-parents.ensures
    ∙ ap (λ (types : List Typed). set (given_numbers c.args.names.now types) 0 0) c.as_slice.ensures
    ∙ root_written c.args.types.now c.args.names.now c.requires.all
