use Rattle.std.proofs.Common.{◌≡◌, ◌+◌, List, length, sym, ap, ◌∙◌}
use Rattle.drt_model.specs.Digraph.{Digraph, IsSoundGraph}
use Rattle.drt_table.specs.Machine.{Setting, shortest, opening_state}
use Rattle.drt_table.specs.Node.{NodeOf}
use Rattle.drt_table.specs.View.{View, setting_of}
use Rattle.drt_table.specs.declared.step.Entry.{Entry}
use Rattle.drt_table.proofs.Arranged.{same_le}
use Rattle.drt_table.proofs.Start.{table_starts}
use Rattle.drt_table.proofs.table.Table.start.Goals as goal

pub invariant_of-result : goal.invariant_of-result
invariant_of-result g c =
    let graph : c.in_ok-own.own ≡ c.args.graph.now = c.in_ok-own.ensures in
    let sound : IsSoundGraph c.args.graph.now = c.keep_limits.ensures in
    let t : Setting = record { graph = c.args.graph.now; bound = c.args.bound; budget = c.args.budget } in
    let v : View _ = record { graph = c.in_ok-own.own; bound = c.args.bound; budget = c.args.budget; nodes = c.in_ok-arena.arena.nodes; log = c.in_ok-log.log.items } in
    let set : setting_of v ≡ t = ap (λ (x : Digraph). record { graph = x; bound = c.args.bound; budget = c.args.budget }) graph in (
      table_starts g.L.Label.algebra v t set sound c.requires.bound c.requires.budget.1 c.in_ok-arena.ensures.nodes c.in_ok-log.ensures.items,
      c.in_ok-arena.ensures.vertices ∙ sym (ap (λ (x : Digraph). length x.vertices) graph),
      same_le _ _ (ap (λ (x : Digraph). length x.vertices + c.args.budget) graph ∙ sym c.in_ok-arena.ensures.room),
      c.in_ok-log.ensures.capacity,
      c.shortest-shortest.ensures ∙ ap (λ (x : Digraph). shortest x.out) (sym graph),
    )

pub returns-clause-setting : goal.returns-clause-setting
returns-clause-setting g c = ap (λ (x : Digraph). record { graph = x; bound = c.args.bound; budget = c.args.budget }) c.in_ok-own.ensures

pub returns-clause-state : goal.returns-clause-state
returns-clause-state g c =
    let t : Setting = record { graph = c.args.graph.now; bound = c.args.bound; budget = c.args.budget } in
    ap (λ (ns : List (NodeOf _)). record { nodes = ns; log = c.in_ok-log.log.items }) c.in_ok-arena.ensures.nodes
    ∙ ap (λ (es : List Entry). record { nodes = (opening_state g.L.Label.algebra t).nodes; log = es }) c.in_ok-log.ensures.items

pub returns-clause-spares : goal.returns-clause-spares
returns-clause-spares g c = c.in_ok-arena.ensures.spares
