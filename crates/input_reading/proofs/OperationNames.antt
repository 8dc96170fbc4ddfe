-- The texts of the operations of a machine are names, in which programs are written.
use Rattle.std.proofs.Common.{ℕ, ◌<◌, ◌≤◌, arith}
use Rattle.ground_state.specs.declared.parts.TaskParts.{TaskParts}
use Rattle.ground_state.specs.Task.{IsTask}
use Rattle.program_model.specs.declared.alphabet.TheConstants.{MAX_OPS}
use Rattle.program_model.specs.declared.machine.TheConstants.{MAX_POINTERS}
use Rattle.pointer_machine.specs.Operations.{operation_count}
use Rattle.pointer_machine.specs.Texts.{operation_texts}
use Rattle.pointer_machine.proofs.OperationTexts.{length-operation_texts, texts-worded, texts-apart, texts-no_end, texts-no_jump}
use Rattle.program_text.specs.Names.{AreNames}

pub operations-named : (task : TaskParts) (pointers : ℕ) → IsTask task → 0 < pointers → pointers ≤ MAX_POINTERS → operation_count task pointers ≤ MAX_OPS → AreNames (operation_texts task pointers)
operations-named task pointers is some few count =
    let many = length-operation_texts task pointers in
    record {
      some = omega (arith, many, some);
      few = omega (arith, many, count);
      each = λ place default within.
          let worded = texts-worded task pointers is place default within in
          record {
            words = record { words = worded.0; some = worded.1; each = worded.2; joined = worded.3 };
            no_end = texts-no_end task pointers place default within;
            no_jump = texts-no_jump task pointers place default within;
          };
      apart = texts-apart task pointers is few;
    }
