use Rattle.std.proofs.Common.{length, arith}
use Rattle.drt_releases.proofs.Walks.{all_in_range}
use Rattle.drt_releases.proofs.laws.releases_are_in_range.Goals as goal

pub returns : goal.returns
returns c tasks walks t graphs are due near = all_in_range tasks walks t graphs are due near (length tasks) (omega arith)
