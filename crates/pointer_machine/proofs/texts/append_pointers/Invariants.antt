use Rattle.std.proofs.Common.{◌≡◌, ◌++◌, drop, flat_map}
use Rattle.pointer_machine.specs.Texts.{then_pointer}
use Rattle.pointer_machine.proofs.texts.append_pointers.Given as goal

abbrev pub invariant-loop-pointer : goal.invariant-loop-pointer
invariant-loop-pointer l = l.text ++ flat_map then_pointer (drop l.pointer-index l.pointers) ≡ l.fn.text ++ flat_map then_pointer l.pointers
