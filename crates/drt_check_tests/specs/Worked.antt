-- A task and trees that were worked by hand.
use Rattle.std.specs.Prelude.{List, [], ◌∷◌}
use Rattle.drt_model.specs.declared.tasks.Edge.{Edge}
use Rattle.drt_model.specs.declared.tasks.Task.{Task}
use Rattle.drt_model.specs.declared.tasks.Vertex.{Vertex}
use Rattle.drt_model.specs.Digraph.{Digraph, digraph_of}
use Rattle.drt_claims.specs.declared.evidence.Pair.{Pair}
use Rattle.drt_claims.specs.declared.evidence.TreeClaim.{TreeClaim}

-- The task of x, with the execution time 3 and the deadline 5, and y, with 2 and 4: an edge from x to itself with the separation
-- 20, and one from y to itself with 4.
abbrev pub task : Task
task = record {
  name = 84 ∷ [];
  priority = 1;
  vertices = record { name = 120 ∷ []; wcet = 3; deadline = 5 } ∷ record { name = 121 ∷ []; wcet = 2; deadline = 4 } ∷ [];
  edges = record { from = 0; to = 0; sep = 20 } ∷ record { from = 1; to = 1; sep = 4 } ∷ [];
}

-- Its graph.
abbrev pub task_graph : Digraph
task_graph = digraph_of task

-- The walks y, x and y y, the pair of the first two, and the pair of that and the third.
abbrev pub tree : TreeClaim
tree = record {
  walks = (1 ∷ []) ∷ (0 ∷ []) ∷ (1 ∷ 1 ∷ []) ∷ [];
  pairs = record { left = 0; right = 1 } ∷ record { left = 3; right = 2 } ∷ [];
}

-- The walks y y, y, x and y y, and pairs that each take one walk more.
abbrev pub chain : TreeClaim
chain = record {
  walks = (1 ∷ 1 ∷ []) ∷ (1 ∷ []) ∷ (0 ∷ []) ∷ (1 ∷ 1 ∷ []) ∷ [];
  pairs = record { left = 1; right = 0 } ∷ record { left = 4; right = 3 } ∷ record { left = 2; right = 5 } ∷ [];
}
