use Rattle.std.proofs.Common.{◌≡◌, false, sym, subst, ap, ◌∙◌}
use Rattle.drt_model.specs.Digraph.{IsConstrainedGraph}
use Rattle.drt_demand.specs.Demand.{demand_algebra}
use Rattle.drt_table.specs.Machine.{Setting, is_finished}
use Rattle.drt_table.specs.View.{setting_of, state_of}
use Rattle.drt_edf_fronts.proofs.Searched.{full_search}
use Rattle.drt_edf_fronts.proofs.search.drive_task.Goals as goal

pub returns-then-not-finished : goal.returns-then-not-finished
returns-then-not-finished c =
    let setting = c.in_ok-table.ensures.setting in
    let unfinished : is_finished demand_algebra (setting_of c.in_ok-table.table) (state_of c.in_ok-table.table) ≡ false = cc (c.finished.ensures.finished, c.if-not-finished.true) in
    let s = full_search c.over_every_interleaving.ensures.short c.over_every_interleaving.ensures.slots c.args.graph.now c.args.bound c.args.effort.budget
    c.in_ok-table.table c.in_ok-table._reply setting c.keep_run.ensures c.in_ok-table.ensures.stops unfinished in
    let same : c.from_vec.result ≡ c.in_ok-table.table.log = c.from_vec.ensures ∙ c.into_log.ensures in
    rw same s

pub front_of-requires-clause-graph : goal.front_of-requires-clause-graph
front_of-requires-clause-graph c = sym (ap (λ (t : Setting). t.graph) c.in_ok-table.ensures.setting)

pub front_of-requires-clause-constrained : goal.front_of-requires-clause-constrained
front_of-requires-clause-constrained c = subst IsConstrainedGraph (sym (ap (λ (t : Setting). t.graph) c.in_ok-table.ensures.setting)) c.requires.constrained
