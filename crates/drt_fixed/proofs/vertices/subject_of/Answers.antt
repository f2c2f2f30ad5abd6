-- The first places of what all searches are given.
use Rattle.std.proofs.Common.{◌<◌, List, length, ap, arith, subst, sym, take}
use Rattle.std.proofs.lemmas.Grind.{common_steps}
use Rattle.std.proofs.lemmas.List.Elements.{All-take}
use Rattle.drt_check_states.specs.Crests.{IsCrest}
use Rattle.drt_check_states.specs.Curves.{HasRisingCurves}
use Rattle.drt_check_states.specs.Places.{AreTasks, graphs_at}
use Rattle.drt_model.specs.Digraph.{Digraph}
use Rattle.drt_fixed.proofs.Prefixes.{zip_take}
use Rattle.drt_fixed.proofs.vertices.subject_of.Goals as goal

pub returns-clause-graphs : goal.returns-clause-graphs
returns-clause-graphs c = ap (λ gs. graphs_at gs (take c.args.vertex.place c.args.given.order.now)) c.graphs-graphs.ensures.graphs

pub returns-clause-subject : goal.returns-clause-subject
returns-clause-subject c = record {
  order = All-take (λ k. k < length c.graphs-graphs.result.now) c.args.vertex.place c.args.given.order.now
      (subst (λ (gs : List Digraph). AreTasks gs c.args.given.order.now) (sym c.graphs-graphs.ensures.graphs) c.requires.given.order);
  tails = All-take HasRisingCurves c.args.vertex.place c.args.given.tails.now c.requires.given.tails;
  crests = zip_take IsCrest c.args.vertex.place c.args.given.tails.now c.args.given.crests.now c.requires.given.crests;
  few = grind (arith, common_steps);
  wcet = grind (arith, common_steps);
  some = grind (arith, common_steps);
  most = grind (arith, common_steps);
}
