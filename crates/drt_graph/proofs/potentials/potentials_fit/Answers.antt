use Rattle.drt_graph.proofs.Allowed.{fits_allow, allow_fits}
use Rattle.drt_graph.proofs.potentials.potentials_fit.Goals as goal

pub returns : goal.returns
returns c =
    let all = c.allow_all.ensures in
    let sound = c.keep_limits.ensures in (
      λ h. allow_fits c.args.graph.now c.args.num c.args.den c.args.potentials.now sound (all.0 h),
      λ k. all.1 (fits_allow c.args.graph.now c.args.num c.args.den c.args.potentials.now sound k),
    )
