-- The labels of walks are made by opening and extension.
use Rattle.drt_demand.proofs.WalkLabels.{walk_labels}
use Rattle.drt_demand.proofs.walks.labels_of_walks.Goals as goal

pub returns : goal.returns
returns c = walk_labels
