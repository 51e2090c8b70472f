use Rattle.synthetic_source.proofs.Labels.{cells_of_documents_fit}
use Rattle.synthetic_source.proofs.laws.cells_of_documents_fit.Goals as goal

pub returns : goal.returns
returns c = cells_of_documents_fit
