use Rattle.input_reading.proofs.program_reading.program_of.Goals as goal

pub build-requires : goal.build-requires
build-requires c = rw c.in_ok-texts.ensures c.requires.names
