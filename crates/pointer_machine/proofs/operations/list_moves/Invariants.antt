use Rattle.std.proofs.Common.{◌≡◌, ◌++◌, map}
use Rattle.std.specs.List.{range_with_len}
use Rattle.pointer_machine.specs.declared.form.Form.TheVariants.{Inc, Dec, Clear}
use Rattle.pointer_machine.proofs.operations.list_moves.Given as goal

abbrev pub invariant-incs : goal.invariant-incs
invariant-incs l = l.listed.items ≡ l.initial.listed.items ++ map Inc (range_with_len 0 l.pointer)

abbrev pub invariant-decs : goal.invariant-decs
invariant-decs l = l.listed.items ≡ l.initial.listed.items ++ map Dec (range_with_len 0 l.pointer)

abbrev pub invariant-clears : goal.invariant-clears
invariant-clears l = l.listed.items ≡ l.initial.listed.items ++ map Clear (range_with_len 0 l.pointer)
