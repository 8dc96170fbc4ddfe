use Rattle.std.proofs.Common.{◌≡◌, map, take}
use Rattle.pointer_machine.specs.Texts.{form_text}
use Rattle.pointer_machine.proofs.texts.texts_of.Given as goal

abbrev pub invariant-loop-form : goal.invariant-loop-form
invariant-loop-form l = l.texts ≡ map (form_text l.task) (take l.form-index l.forms)
