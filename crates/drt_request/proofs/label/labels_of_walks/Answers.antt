use Rattle.drt_request.proofs.Walks.{label_walks}
use Rattle.drt_request.proofs.label.labels_of_walks.Goals as goal

pub returns : goal.returns
returns c = label_walks
