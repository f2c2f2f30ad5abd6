use Rattle.drt_check.specs.Claimed.{KeepsRatioRule}
use Rattle.drt_check.proofs.Lists.{from_start}
use Rattle.drt_check.proofs.claimed.all_keep.Goals as goal

pub tasks-init : goal.tasks-init
tasks-init c = from_start (KeepsRatioRule c.args.rule) c.args.graphs.now c.args.ratios.now
