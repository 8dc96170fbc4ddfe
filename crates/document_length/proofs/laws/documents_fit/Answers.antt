use Rattle.document_length.proofs.Sizes.{document_fits}
use Rattle.document_length.proofs.laws.documents_fit.Goals as goal

pub returns : goal.returns
returns c = document_fits
