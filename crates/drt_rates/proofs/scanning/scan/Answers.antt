use Rattle.std.proofs.Common.{◌<◌}
use Rattle.drt_sweep.specs.DueWorks.{works_of}
use Rattle.drt_sweep.proofs.Lists.{are_of_tasks}
use Rattle.drt_sweep.proofs.Thinned.{all_among, excess_among}
use Rattle.drt_graph.specs.FrontEntry.{due}
use Rattle.drt_rates.proofs.Fronts.{found}
use Rattle.drt_rates.proofs.scanning.scan.Goals as goal

pub first_excess-requires : goal.first_excess-requires
first_excess-requires c =
    let all = works_of due (λ x. x.work) 0 c.args.graphs.now c.args.fronts.now in
    all_among (λ w. w.task < 32) all c.in_ok-works.works.items c.in_ok-works.ensures (are_of_tasks due (λ x. x.work) c.args.graphs.now c.args.fronts.now c.keep_limits.ensures.few)

pub returns : goal.returns
returns c =
    let all = works_of due (λ x. x.work) 0 c.args.graphs.now c.args.fronts.now in
    found c.args.graphs.now c.args.fronts.now c.args.bound c.first_excess.result c.keep_limits.ensures.few c.requires.fronts (excess_among all c.in_ok-works.works.items c.first_excess.result c.in_ok-works.ensures c.first_excess.ensures)
