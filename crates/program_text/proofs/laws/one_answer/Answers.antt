use Rattle.program_text.specs.Lines.{instruction_lines}
use Rattle.program_text.proofs.Apart.{says_one}
use Rattle.program_text.proofs.laws.one_answer.Goals as goal

pub returns : goal.returns
returns c = λ texts bytes. says_one texts (instruction_lines bytes)
