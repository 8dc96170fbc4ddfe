use Rattle.std.proofs.Common.{◌∙◌}
use Rattle.pointer_machine.proofs.Forms.{forms_of}
use Rattle.pointer_machine.proofs.machine.PointerMachine.op_texts.Goals as goal

pub texts_of-requires : goal.texts_of-requires
texts_of-requires c =
    rw (c.as_slice.ensures.value ∙ c.self.invariant.1) (forms_of c.self.inside.task c.self.inside.pointers 4 c.self.invariant.0.few_pointers)
