use Rattle.drt_graph.proofs.Rests.{rest_starts}
use Rattle.drt_graph.proofs.cycles.is_cycle.Goals as goal

pub steps-init : goal.steps-init
steps-init c = rest_starts c.args.graph.now c.args.cycle.now c.requires
