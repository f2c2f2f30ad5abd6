-- The first task that the generator draws for the number 1, worked draw after draw by the formulas and apart from the program. The first
-- state is 7806831264735756412; divided by 2^33 and modulo 8 it is 6, so that the period is 400. The next 24 draws give each vertex its
-- execution time, 1 and a draw among 400 / 15 = 26, and its deadline, 400 less a draw among 200. The last 36 give each vertex the separation of its
-- edge on the ring, a target and the separation of the edge to it, each 400 or 800. The target of v9 is v10, to which the ring leads already.
use Rattle.std.proofs.Common.{◌≡◌, List, [], ◌∷◌, length, Some, codes, slice_get, get_or, refl}
use Rattle.std.specs.Fmt.{digits}
use Rattle.drt_model.specs.declared.tasks.Edge.{Edge}
use Rattle.drt_model.specs.declared.tasks.Task.{Task}
use Rattle.drt_model.specs.declared.tasks.Vertex.{Vertex}
use Rattle.drt_gen.specs.Draws.{state_after}
use Rattle.drt_gen.specs.Generated.{drawn_edges, drawn_period, drawn_task, drawn_vertex, generated}
use Rattle.drt_rows.proofs.Sets.{edge, vertex}

abbrev pub vertices : List Vertex
vertices =
    vertex (codes "v0") 4 204 ∷ vertex (codes "v1") 19 366 ∷ vertex (codes "v2") 4 270 ∷ vertex (codes "v3") 11 311
    ∷ vertex (codes "v4") 13 277 ∷ vertex (codes "v5") 19 348 ∷ vertex (codes "v6") 15 366 ∷ vertex (codes "v7") 3 310
    ∷ vertex (codes "v8") 14 268 ∷ vertex (codes "v9") 22 373 ∷ vertex (codes "v10") 24 274 ∷ vertex (codes "v11") 7 331 ∷ []

abbrev pub edges : List Edge
edges =
    edge 0 1 400 ∷ edge 0 0 400 ∷ edge 1 2 800 ∷ edge 1 4 800 ∷ edge 2 3 400 ∷ edge 2 0 800
    ∷ edge 3 4 400 ∷ edge 3 6 400 ∷ edge 4 5 400 ∷ edge 4 4 800 ∷ edge 5 6 800 ∷ edge 5 4 400
    ∷ edge 6 7 400 ∷ edge 6 9 400 ∷ edge 7 8 400 ∷ edge 7 9 800 ∷ edge 8 9 400 ∷ edge 8 6 400
    ∷ edge 9 10 400 ∷ edge 10 11 400 ∷ edge 10 2 800 ∷ edge 11 0 800 ∷ edge 11 10 800 ∷ []

abbrev pub first_task : Task
first_task = record { name = codes "t0"; priority = 1; vertices = vertices; edges = edges }

pub first_of_1 : slice_get (generated 1).tasks 0 ≡ Some first_task
unfolding digits generated drawn_task drawn_period drawn_vertex drawn_edges state_after
first_of_1 = refl

-- There are 12 tasks. The second one's draws come after these 61: its period is 400 again, and its first vertex (7, 259).
pub twelve_tasks : length (generated 1).tasks ≡ 12
unfolding generated
twelve_tasks = refl

pub second_of_1 : slice_get (get_or (generated 1).tasks 1 first_task).vertices 0 ≡ Some (vertex (codes "v0") 7 259)
unfolding digits generated drawn_task drawn_period drawn_vertex state_after
second_of_1 = refl
