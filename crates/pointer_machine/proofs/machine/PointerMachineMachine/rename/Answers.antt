use Rattle.std.proofs.Common.{◌≡◌, Some, ◌∙◌, sym, rules}
use Rattle.std.proofs.lemmas.Option.{same_Some}
use Rattle.pointer_machine.proofs.RenamedForms.{rename, renamed_found, rename_low}
use Rattle.pointer_machine.proofs.machine.PointerMachineMachine.rename.Goals as goal
use Rattle.pointer_machine.proofs.machine.PointerMachineMachine.rename.Goals.{After-op_of}

-- the search finds the number of the renamed operation
found : (c : After-op_of) → c.op_of.result ≡ Some (rename c.self.inside.task c.self.inside.pointers c.args.by.now c.args.op)
found c =
    renamed_found c.self.inside.task c.self.inside.pointers c.args.by.now c.args.op c.form.result.now c.op_of.result c.self.invariant.0.few_pointers (rw (← c.self.view_is) at c.requires.by) (rw (← c.self.view_is) at c.form.ensures) (rw (← c.self.view_is, c.renamed-renamed.ensures) at c.op_of.ensures)

pub unwrap-requires : goal.unwrap-requires
unwrap-requires c = rw (found (goal.at.unwrap-requires c).After-op_of) (search rules)

pub returns-clause-value : goal.returns-clause-value
returns-clause-value c =
    rw (← c.self.view_is) (same_Some _ _ (sym c.unwrap.ensures ∙ found (goal.at.returns-clause-value c).After-op_of))

pub returns-clause-within : goal.returns-clause-within
returns-clause-within c =
    let number = same_Some _ _ (sym c.unwrap.ensures ∙ found (goal.at.returns-clause-within c).After-op_of) in
    rw (← c.self.view_is, number) (rename_low c.self.inside.task c.self.inside.pointers c.args.by.now c.args.op c.form.result.now c.self.invariant.0.few_pointers (rw (← c.self.view_is) at c.requires.by) (rw (← c.self.view_is) at c.form.ensures))
