use Rattle.std.proofs.Common.{◌≡◌, ◌-◌, sym, ap, ◌∙◌, subst, arith, reverse}
use Rattle.drt_model.specs.Digraph.{vertex_count}
use Rattle.drt_graph.specs.declared.front.FrontEntry.{FrontEntry}
use Rattle.drt_demand.specs.Demand.{demand_algebra}
use Rattle.drt_table.specs.Machine.{Setting}
use Rattle.drt_table.specs.View.{View, IsTable, setting_of, state_of}
use Rattle.drt_table.specs.Cover.{IsFront}
use Rattle.drt_edf_fronts.specs.Falling.{AreFalling, IsFromVertex}
use Rattle.drt_edf_fronts.specs.LabelFronts.{IsLabelFront}
use Rattle.drt_edf_fronts.proofs.Falling.{falling_none, falling_reversed}
use Rattle.drt_edf_fronts.proofs.FrontLists.{finished_front, label_front}
use Rattle.drt_edf_fronts.proofs.fronts.front_of.Goals as goal

pub vertices-init : goal.vertices-init
vertices-init c =
    let v : View FrontEntry = c.args.table.now in
    let is : IsTable demand_algebra v = c.keep_run.ensures in
    let front : IsFront demand_algebra (setting_of v) (state_of v).nodes = finished_front v is c.requires.finished c.over_every_interleaving.ensures.front in
    let same = ap vertex_count c.requires.graph in
    subst (AreFalling (setting_of v) (IsFromVertex (vertex_count c.args.graph.now - 0))) (sym c.new-front.ensures.items)
    (falling_none (setting_of v) is.sound (state_of v).nodes front (vertex_count c.args.graph.now - 0) (omega (arith, same)))

pub add_labels-requires-clause-finished : goal.add_labels-requires-clause-finished
add_labels-requires-clause-finished c = finished_front c.args.table.now c.keep_run.ensures c.requires.finished c.over_every_interleaving.ensures.front

pub returns-clause-front : goal.returns-clause-front
returns-clause-front c =
    let v : View FrontEntry = c.args.table.now in
    let t : Setting = setting_of v in
    let is : IsTable demand_algebra v = c.keep_run.ensures in
    let front : IsFront demand_algebra t (state_of v).nodes = finished_front v is c.requires.finished c.over_every_interleaving.ensures.front in
    let all : vertex_count c.args.graph.now - c.vertices.later ≡ 0 = omega (arith, c.vertices-test.false, c.vertex_count-count.ensures.count) in
    let falling : AreFalling t (IsFromVertex 0) c.vertices.front.items = subst (λ u. AreFalling t (IsFromVertex u) c.vertices.front.items) all c.vertices.invariant in
    let made : IsLabelFront v.graph v.bound (reverse c.vertices.front.items) = label_front t is.sound c.requires.constrained (state_of v).nodes front
    (reverse c.vertices.front.items) (falling_reversed t c.vertices.front.items falling) in
    subst (IsLabelFront v.graph v.bound) (sym (c.from_vec.ensures ∙ c.reverse.ensures.items)) made
