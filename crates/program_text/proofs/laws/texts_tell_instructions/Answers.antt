use Rattle.program_text.proofs.Apart.{same_instr_of_lines}
use Rattle.program_text.proofs.laws.texts_tell_instructions.Goals as goal

pub returns : goal.returns
returns c = same_instr_of_lines
