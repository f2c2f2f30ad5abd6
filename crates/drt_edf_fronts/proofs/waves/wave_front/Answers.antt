use Rattle.std.proofs.Common.{ℕ, sym, subst}
use Rattle.drt_model.specs.Digraph.{Digraph, IsSoundGraph, IsConstrainedGraph}
use Rattle.drt_edf_fronts.specs.LabelFronts.{IsLabelFront}
use Rattle.drt_edf_fronts.proofs.WaveFronts.{wave_front_is}
use Rattle.drt_edf_fronts.proofs.waves.wave_front.Goals as goal

pub returns-clause-front : goal.returns-clause-front
returns-clause-front g c =
    let e = c.in_ok-works.ensures in let f = c.in_ok-front.ensures in let front = c.in_ok-front.front in
    let sound = subst IsSoundGraph (sym e.graph) c.keep_limits.ensures in
    let con = subst IsConstrainedGraph (sym e.graph) c.requires.constrained in
    let made = wave_front_is _ _ sound front f.ordered (f.exact con) (f.covers_walks con) in
    subst (λ (q : Digraph × ℕ). IsLabelFront q.0 q.1 front) (λ i. (e.graph i, e.bound i)) made
