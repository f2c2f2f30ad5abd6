use Rattle.std.proofs.Common.{◌≡◌, ◌∙◌, length, ap, sym, subst, arith}
use Rattle.drt_model.specs.Digraph.{vertex_count}
use Rattle.drt_wave.specs.Greatest.{IsRangeEntry}
use Rattle.drt_wave.specs.Fronts.{IsWalkEntry, IsFrontOf, IsExactFront, CoversAll}
use Rattle.drt_wave.specs.Gathered.{AreCellsGathered}
use Rattle.drt_wave.proofs.Kept.{gathered_front, gathered_covers, constrained_front, constrained_covers}
use Rattle.drt_wave.proofs.dense.DenseFront.front.Goals as goal

-- The entries are gathered up to the end.
gathered : (c : goal.After-from_vec) → AreCellsGathered c.args.self.now (vertex_count c.args.self.now.plan.graph) 0 c.vertices.front.items
gathered c =
    let d = c.args.self.now in
    let count : c.vertex_count-count.result ≡ vertex_count d.plan.graph = c.vertex_count-count.ensures.count ∙ ap vertex_count c.graph.ensures in
    let end : c.vertices.vertex ≡ vertex_count d.plan.graph = omega (arith, count, c.vertices-test.false, c.vertices.auto.vertex-end) in
    subst (λ n. AreCellsGathered d n 0 c.vertices.front.items) end c.vertices.invariant

pub returns-clause-non_dominated : goal.returns-clause-non_dominated
returns-clause-non_dominated c =
    let d = c.args.self.now in let k = c.keeps_best.ensures in
    subst (IsFrontOf (IsRangeEntry d.plan.graph d.plan.bound)) (sym c.from_vec.ensures) (gathered_front d k.planned k.best c.vertices.front.items (gathered c))

pub returns-clause-covers : goal.returns-clause-covers
returns-clause-covers c =
    let d = c.args.self.now in let k = c.keeps_best.ensures in
    subst (CoversAll (IsRangeEntry d.plan.graph d.plan.bound)) (sym c.from_vec.ensures) (gathered_covers d k.planned k.best c.vertices.front.items (gathered c))

pub returns-clause-exact : goal.returns-clause-exact
returns-clause-exact c =
    let d = c.args.self.now in let k = c.keeps_best.ensures in let entries = c.vertices.front.items in
    λ con. subst (IsExactFront d.plan.bound d.plan.graph) (sym c.from_vec.ensures) (constrained_front d k.planned k.best entries (gathered_front d k.planned k.best entries (gathered c)) con)

pub returns-clause-covers_walks : goal.returns-clause-covers_walks
returns-clause-covers_walks c =
    let d = c.args.self.now in let k = c.keeps_best.ensures in let entries = c.vertices.front.items in
    λ con. subst (CoversAll (IsWalkEntry d.plan.graph d.plan.bound)) (sym c.from_vec.ensures) (constrained_covers d k.planned k.best entries
    (gathered_covers d k.planned k.best entries (gathered c)) con)

pub returns-clause-few : goal.returns-clause-few
returns-clause-few c =
    let few = (gathered c).few in
    omega (arith, few, ap length c.from_vec.ensures)
