-- The sets and the releases of the worked examples of docs/DEFINITIONS.md.
use Rattle.std.specs.Prelude.{ℕ, List, [], ◌∷◌, codes}
use Rattle.drt_model.specs.declared.jobs.Release.{Release}
use Rattle.drt_model.specs.declared.tasks.Edge.{Edge}
use Rattle.drt_model.specs.declared.tasks.Task.{Task}
use Rattle.drt_model.specs.declared.tasks.Vertex.{Vertex}

abbrev pub vertex : List ℕ → ℕ → ℕ → Vertex
vertex name wcet deadline = record { name = name; wcet = wcet; deadline = deadline }

abbrev pub edge : ℕ → ℕ → ℕ → Edge
edge from to sep = record { from = from; to = to; sep = sep }

abbrev pub release : ℕ → ℕ → ℕ → ℕ → Release
release task vertex time need = record { task = task; vertex = vertex; time = time; need = need }

-- A task with one vertex and a loop.
abbrev pub looped : List ℕ → ℕ → ℕ → ℕ → ℕ → Task
looped name priority wcet deadline sep =
    record { name = name; priority = priority; vertices = vertex (codes "a") wcet deadline ∷ []; edges = edge 0 0 sep ∷ [] }

-- A task with one vertex and no edge.
abbrev pub lone : List ℕ → ℕ → ℕ → ℕ → Task
lone name priority wcet deadline =
    record { name = name; priority = priority; vertices = vertex (codes "a") wcet deadline ∷ []; edges = [] }

-- Task a has one vertex (2, 4) with a loop of 4, and task b, below it, one vertex (3, 6) with a loop of 6.
abbrev pub task_a : Task
task_a = looped (codes "a") 1 2 4 4

abbrev pub task_b : Task
task_b = looped (codes "b") 2 3 6 6

abbrev pub two_tasks : List Task
two_tasks = task_a ∷ task_b ∷ []

-- Task a releases at 0 and at 4, task b at 0, each with its execution time.
abbrev pub worked : List Release
worked = release 0 0 0 2 ∷ release 0 0 4 2 ∷ release 1 0 0 3 ∷ []

-- One vertex (2, 5) with a loop of 5.
abbrev pub short : Task
short = looped (codes "T") 1 2 5 5

-- One vertex (1, 2) with a loop of 2.
abbrev pub half : Task
half = looped (codes "T") 1 1 2 2

-- One vertex (6, 5), without an edge and with a loop of 5.
abbrev pub too_long : Task
too_long = lone (codes "T") 1 6 5

abbrev pub too_long_again : Task
too_long_again = looped (codes "T") 1 6 5 5

-- Vertices a (1, 2) and b (4, 6) with the edges a-b 2, b-a 8 and a-a 5.
abbrev pub two_vertices : Task
two_vertices = record {
  name = codes "T1";
  priority = 1;
  vertices = vertex (codes "a") 1 2 ∷ vertex (codes "b") 4 6 ∷ [];
  edges = edge 0 1 2 ∷ edge 1 0 8 ∷ edge 0 0 5 ∷ [];
}

-- One vertex c with a loop of 10: (3, 4), and (2, 4).
abbrev pub three_of_ten : Task
three_of_ten = looped (codes "T2") 2 3 4 10

abbrev pub two_of_ten : Task
two_of_ten = looped (codes "T2") 2 2 4 10

-- Vertices x (100, 1000), alone, and y (1, 1) with a loop of 2.
abbrev pub apart : Task
apart = record {
  name = codes "T";
  priority = 1;
  vertices = vertex (codes "x") 100 1000 ∷ vertex (codes "y") 1 1 ∷ [];
  edges = edge 1 1 2 ∷ [];
}

-- An engine's controller, a bus and a log.
abbrev pub engine : Task
engine = record {
  name = codes "engine";
  priority = 1;
  vertices = vertex (codes "slow") 12 60 ∷ vertex (codes "mid") 8 30 ∷ vertex (codes "fast") 4 15 ∷ [];
  edges = edge 0 0 60 ∷ edge 0 1 60 ∷ edge 1 0 30 ∷ edge 1 1 30 ∷ edge 1 2 30 ∷ edge 2 2 15 ∷ edge 2 1 15 ∷ [];
}

abbrev pub engine_set : List Task
engine_set = engine ∷ looped (codes "can") 2 10 50 50 ∷ looped (codes "log") 3 20 100 200 ∷ []
