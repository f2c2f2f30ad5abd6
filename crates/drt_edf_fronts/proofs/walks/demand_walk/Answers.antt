use Rattle.std.proofs.Common.{ℕ, List, Some, sym, ◌∙◌, subst}
use Rattle.std.specs.Prelude.{Result, Ok, Err, IfOk}
use Rattle.drt_model.specs.Digraph.{Digraph}
use Rattle.drt_graph.specs.declared.front.FrontEntry.{FrontEntry}
use Rattle.drt_edf_fronts.specs.DemandWalk.{IsGreatestDue, IsDemandWalkTo}
use Rattle.drt_edf_fronts.specs.LabelFronts.{IsDemandWalk}
use Rattle.drt_edf_fronts.proofs.DemandWalks.{some_walk, no_walk}
use Rattle.drt_edf_fronts.proofs.walks.demand_walk.Goals as goal

-- The walk, where there was memory for it.
walk_if : {E : Type 0} (g : Digraph) (front : List FrontEntry) (t : ℕ) (last : FrontEntry) → IsGreatestDue g front t (Some last) → (r : Result (List ℕ) E) → IfOk r (IsDemandWalkTo g last)
    → IfOk r (IsDemandWalk g front t)
walk_if g front t last is (Ok walk) w = some_walk g front t last is walk w
walk_if g front t last is (Err e) w = tt

pub returns-in-Some : goal.returns-in-Some
returns-in-Some c = walk_if c.args.graph.now c.args.front.now c.args.t c.in-Some.last c.in-Some.ensures c.walk_to.result c.walk_to.ensures

pub returns-in-None : goal.returns-in-None
returns-in-None c = subst (IsDemandWalk c.args.graph.now c.args.front.now c.args.t) (sym (c.from_vec.ensures ∙ c.new.ensures.items))
    (no_walk c.args.graph.now c.args.front.now c.args.t c.in-None.ensures)
