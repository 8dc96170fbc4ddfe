use Rattle.program_text.proofs.Spelled.{program_as_written}
use Rattle.program_text.proofs.laws.written_programs_read_back.Goals as goal

pub returns : goal.returns
returns c = program_as_written
