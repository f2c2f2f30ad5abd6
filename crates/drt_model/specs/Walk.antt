-- Edges, walks and cycles of a graph (Stigge, Ekberg, Guan and Yi, RTAS 2011). A walk is its first vertex and the list of the
-- vertices after it.
use Rattle.std.specs.Prelude.{◌≡◌, ℕ, ◌+◌, ◌==◌, List, [], ◌∷◌, Option, Some, None, if◌then◌else◌, nat_lt, ◌<◌}
use Rattle.drt_model.specs.declared.tasks.Edge.{Edge}
use Rattle.drt_model.specs.Digraph.{Digraph, vertex_of, out_edges, vertex_count}

-- The separation of the first of some edges that leads to v.
unfoldable pub sep_in : List Edge → ℕ → Option ℕ
sep_in [] v = None
sep_in (e ∷ edges) v = if e.to == v then Some e.sep else sep_in edges v

-- The separation of the edge from u to v, if there is one.
abbrev pub sep : Digraph → ℕ → ℕ → Option ℕ
sep g u v = sep_in (out_edges g u) v

-- The number, or 0 where there is none.
unfoldable pub or_zero : Option ℕ → ℕ
or_zero None = 0
or_zero (Some p) = p

-- The separation of the edge from u to v, or 0 where there is none.
abbrev pub gap : Digraph → ℕ → ℕ → ℕ
gap g u v = or_zero (sep g u v)

-- An edge leads from u to v.
abbrev pub IsEdge : Digraph → ℕ → ℕ → Type 0
IsEdge g u v = sep g u v ≡ Some (gap g u v)

-- The execution time of vertex v.
abbrev pub wcet : Digraph → ℕ → ℕ
wcet g v = (vertex_of g v).wcet

-- The relative deadline of vertex v.
abbrev pub deadline : Digraph → ℕ → ℕ
deadline g v = (vertex_of g v).deadline

-- An edge leads from u to the first vertex of the list, and from each of the list to the next.
abbrev pub IsPath : Digraph → ℕ → List ℕ → Type 0
IsPath g u [] = Unit {0}
IsPath g u (v ∷ vs) = IsEdge g u v × IsPath g v vs

-- The last vertex of the walk that starts at u.
abbrev pub last_of : ℕ → List ℕ → ℕ
last_of u [] = u
last_of u (v ∷ vs) = last_of v vs

-- The work of some vertices: the sum of their execution times.
unfoldable pub work : Digraph → List ℕ → ℕ
work g [] = 0
work g (v ∷ vs) = wcet g v + work g vs

-- The span of the walk that starts at u: the sum of its separations.
unfoldable pub span : Digraph → ℕ → List ℕ → ℕ
span g u [] = 0
span g u (v ∷ vs) = gap g u v + span g v vs

-- A cycle has at least one vertex, and an edge leads from each to the next and from the last to the first: it is the path from
-- its last vertex through all of it.
abbrev pub IsCycle : Digraph → List ℕ → Type 0
IsCycle g [] = ⊥
IsCycle g (v ∷ vs) = IsPath g (last_of v vs) (v ∷ vs)

-- The sum of the separations of a cycle, the closing edge included.
abbrev pub cycle_span : Digraph → List ℕ → ℕ
cycle_span g [] = 0
cycle_span g (v ∷ vs) = span g (last_of v vs) (v ∷ vs)

-- What a walk's releases ask for before t, the first release at the given offset at vertex u and each next one as early as its
-- separation allows: a release counts where its offset is below t.
unfoldable pub requested_from : Digraph → ℕ → ℕ → List ℕ → ℕ → ℕ
requested_from g offset u [] t = if nat_lt offset t then wcet g u else 0
requested_from g offset u (v ∷ vs) t = (if nat_lt offset t then wcet g u else 0) + requested_from g (offset + gap g u v) v vs t

-- The request function of the walk that starts at u: the execution times of its releases with an offset below t.
abbrev pub request : Digraph → ℕ → List ℕ → ℕ → ℕ
request g u vs t = requested_from g 0 u vs t

-- The list is a walk of the graph: its first vertex is one of the graph's, and an edge leads from each to the next.
abbrev pub IsWalk : Digraph → List ℕ → Type 0
IsWalk g [] = Unit {0}
IsWalk g (u ∷ vs) = (u < vertex_count g) × IsPath g u vs

-- The last deadline of a walk whose releases are as early as they may be: its span and the deadline of its last vertex.
abbrev pub due_of : Digraph → List ℕ → ℕ
due_of g [] = 0
due_of g (u ∷ vs) = span g u vs + deadline g (last_of u vs)

-- What the walk's releases ask for before t, the first one released at 0.
abbrev pub request_of : Digraph → List ℕ → ℕ → ℕ
request_of g [] t = 0
request_of g (u ∷ vs) t = request g u vs t

-- The span of a walk.
abbrev pub span_of : Digraph → List ℕ → ℕ
span_of g [] = 0
span_of g (u ∷ vs) = span g u vs
