use Rattle.drt_timeline.proofs.LatenessLemmas.{need_small}
use Rattle.drt_timeline.proofs.lateness.needs_are_small.Goals as goal

pub returns : goal.returns
returns c = need_small c.args.set.now.version c.args.set.now.tasks c.keep_limits.ensures c.args.releases.now c.requires
