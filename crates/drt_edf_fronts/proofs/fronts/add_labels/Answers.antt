use Rattle.std.proofs.Common.{◌≡◌, ◌<◌, ◌++◌, ◌∷◌, [], Some, List, sym, ap, ◌∙◌, subst, arith}
use Rattle.std.specs.Prelude.{slice_get, option_map}
use Rattle.std.proofs.lemmas.List.{length-map}
use Rattle.std.proofs.lemmas.Option.{same_Some, slice_get-map, slice_get_within}
use Rattle.drt_graph.specs.declared.front.FrontEntry.{FrontEntry}
use Rattle.drt_demand.specs.Demand.{demand_algebra}
use Rattle.drt_table.specs.KeptOrder.{IsKeptOf, IsNextKept, left_from}
use Rattle.drt_table.specs.Node.{NodeOf}
use Rattle.drt_table.specs.View.{View, setting_of, state_of}
use Rattle.drt_table.proofs.KeptOrder.{less_left}
use Rattle.drt_edf_fronts.specs.Falling.{AreFalling, IsEntryPassed}
use Rattle.drt_edf_fronts.proofs.Falling.{falling_start, falling_more, falling_end, first_stands, next_stands}
use Rattle.drt_edf_fronts.proofs.fronts.add_labels.Goals as goal

pub nodes-init : goal.nodes-init
nodes-init c =
    let v : View FrontEntry = c.args.table.now in
    let nodes = (state_of v).nodes in
    record {
      passed = falling_start (setting_of v) c.requires.sound nodes c.requires.finished c.args.vertex c.first_kept-next.result c.args.front.now.items c.first_kept-next.ensures c.requires.later;
      stands = first_stands nodes c.args.vertex c.first_kept-next.result c.first_kept-next.ensures;
    }

pub nodes-preserved : goal.nodes-preserved
nodes-preserved c =
    let v : View FrontEntry = c.args.table.now in
    let nodes : List (NodeOf FrontEntry) = (state_of v).nodes in
    let id = c.in-Some.id in
    let here : (n : NodeOf FrontEntry) × IsKeptOf demand_algebra nodes c.args.vertex id n = c.nodes.invariant.stands id c.in-Some.is in
    let next : IsNextKept demand_algebra nodes c.args.vertex id here.0 c.next_kept-next.result =
    subst (λ u. IsNextKept demand_algebra nodes u id here.0 c.next_kept-next.result) here.1.vertex (c.next_kept-next.ensures here.0 here.1.at) in
    let at : slice_get nodes id ≡ Some c.node.result.now.node = slice_get-map (λ h. h.node) v.nodes id ∙ ap (λ o. option_map (λ h. h.node) o) c.node.ensures in
    let label : c.entry_of.result ≡ here.0.label =
    c.entry_of.ensures ∙ c.label.ensures ∙ ap (λ (n : NodeOf FrontEntry). n.label) (same_Some c.node.result.now.node here.0 (sym at ∙ here.1.at)) in
    let pushed : c.push.new.self.items ≡ c.nodes.front.items ++ here.0.label ∷ [] = c.in_ok-push.ensures.items ∙ ap (λ l. c.nodes.front.items ++ l ∷ []) label in
    let old : AreFalling (setting_of v) (IsEntryPassed nodes c.args.vertex (Some id)) c.nodes.front.items =
    subst (λ o. AreFalling (setting_of v) (IsEntryPassed nodes c.args.vertex o) c.nodes.front.items) c.in-Some.is c.nodes.invariant.passed in
    record {
      passed = falling_more (setting_of v) c.requires.sound nodes c.requires.finished c.args.vertex id here.0 here.1 c.next_kept-next.result next c.nodes.front.items
          c.push.new.self.items pushed old;
      stands = next_stands nodes c.args.vertex id here.0 c.next_kept-next.result next;
    }

pub nodes-smaller : goal.nodes-smaller
nodes-smaller c =
    let nodes : List (NodeOf FrontEntry) = (state_of c.args.table.now).nodes in
    let here : (n : NodeOf FrontEntry) × IsKeptOf demand_algebra nodes c.args.vertex c.in-Some.id n = c.nodes.invariant.stands c.in-Some.id c.in-Some.is in
    subst (λ o. left_from demand_algebra nodes c.next_kept-next.result < left_from demand_algebra nodes o) (sym c.in-Some.is)
    (less_left demand_algebra nodes here.0.label.vertex c.in-Some.id here.0 c.next_kept-next.result here.1.at (c.next_kept-next.ensures here.0 here.1.at))

pub next_kept-next-requires-after_bounds : goal.next_kept-next-requires-after_bounds
next_kept-next-requires-after_bounds c κs =
    let here = c.nodes.invariant.stands c.in-Some.id c.in-Some.is in
    (here.0, here.1.at, here.1.kept)

pub node-requires-after_bounds : goal.node-requires-after_bounds
node-requires-after_bounds c κs =
    let nodes : List (NodeOf FrontEntry) = (state_of c.args.table.now).nodes in
    let here = c.nodes.invariant.stands c.in-Some.id c.in-Some.is in
    let l = slice_get_within nodes c.in-Some.id here.0 here.1.at in
    let e = length-map c.args.table.now.nodes (λ h. h.node) in
    omega (arith, l, e)

pub returns : goal.returns
returns c =
    let v : View FrontEntry = c.args.table.now in
    let nodes : List (NodeOf FrontEntry) = (state_of v).nodes in
    let none = subst (λ o. AreFalling (setting_of v) (IsEntryPassed nodes c.args.vertex o) c.nodes.front.items) c.in_default.is c.nodes.invariant.passed in
    falling_end (setting_of v) c.requires.sound nodes c.requires.finished c.args.vertex c.nodes.front.items none
