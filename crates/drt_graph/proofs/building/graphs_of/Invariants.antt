use Rattle.std.proofs.Common.{◌≡◌, take, map}
use Rattle.drt_model.specs.Digraph.{digraph_of}
use Rattle.drt_graph.proofs.building.graphs_of.Given as goal

abbrev pub invariant-loop-task : goal.invariant-loop-task
invariant-loop-task l = l.graphs.items ≡ map digraph_of (take l.task-index l.tasks)
