use Rattle.written_length.proofs.Files.{operations_short}
use Rattle.written_length.proofs.laws.operation_texts_are_short.Goals as goal

pub returns : goal.returns
returns c = operations_short
