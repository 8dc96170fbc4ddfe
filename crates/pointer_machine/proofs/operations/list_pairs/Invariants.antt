use Rattle.std.proofs.Common.{◌≡◌, ℕ, ◌++◌, map, take}
use Rattle.pointer_machine.specs.declared.form.Form.TheVariants.{Set, Cmp}
use Rattle.pointer_machine.proofs.operations.list_pairs.Given as goal

abbrev pub invariant-sets : goal.invariant-sets
invariant-sets l = l.listed.items ≡ l.initial.listed.items ++ map (λ (pair : ℕ × ℕ). Set pair.0 pair.1) (take l.pointer-index l.pointer-items)

abbrev pub invariant-cmps : goal.invariant-cmps
invariant-cmps l = l.listed.items ≡ l.initial.listed.items ++ map (λ (pair : ℕ × ℕ). Cmp pair.0 pair.1) (take l.pointer-index l.pointer-items)
