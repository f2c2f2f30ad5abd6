-- A cycle of edges gives one of vertices with the same sums, and back.
use Rattle.std.proofs.Common.{◌≡◌, ℕ, ◌+◌, eqb, List, [], ◌∷◌, ◌++◌, map, Some, All, refl, sym, ap, ◌∙◌, subst, arith}
use Rattle.std.specs.Prelude.{slice_index}
use Rattle.std.specs.List.{Contains}
use Rattle.std.proofs.Math.ListN.{get_or-map}
use Rattle.std.proofs.lemmas.List.Elements.{All-head, All-tail, All-nil, All-cons, All-filter, All-contains_itself}
use Rattle.std.proofs.lemmas.List.Sums.{sum_by-cons}
use Rattle.drt_model.specs.Digraph.{digraph_of, edge_of, no_edge, no_vertex, out_edges}
use Rattle.drt_model.specs.Legal.{AllNeighbours}
use Rattle.drt_model.specs.Limits.{IsTask}
use Rattle.drt_model.specs.Walk.{cycle_span, gap, sep, IsCycle, IsEdge, IsPath, last_of, span, wcet, work}
use Rattle.drt_model.specs.declared.tasks.Edge.{Edge}
use Rattle.drt_model.specs.declared.tasks.Task.{Task}
use Rattle.drt_model.proofs.Neighbours.{AllNeighbours-one, AllNeighbours-cons, AllNeighbours-head, AllNeighbours-tail}
use Rattle.drt_graph.proofs.Edges.{edge_of_sep, gap_of, source_of}
use Rattle.drt_graph.proofs.Paths.{path_cycle}
use Rattle.drt_graph.proofs.Soundness.{sound_of}
use Rattle.drt_busy.proofs.PartWalk.{edge_found, out_is}
use Rattle.drt_command_files.specs.AtOne.{IsCycleOf, need_of, time_of}

-- The vertices that some edges lead to.
abbrev pub ends_of : List Edge → List ℕ
ends_of es = map (λ e. e.to) es

-- An edge ends where the next one begins.
abbrev Joins : Edge → Edge → Type 0
Joins e f = e.to ≡ f.from

-- The edges are some of the task, the first begins at u, and each next one where the one before it ends.
abbrev AreSteps : Task → ℕ → List Edge → Type 0
AreSteps t u [] = Unit {0}
AreSteps t u (e ∷ es) = Contains t.edges e × (e.from ≡ u) × AreSteps t e.to es

-- Edges that join are steps, and end where the one behind them begins.
steps_of : (t : Task) (e : Edge) (es : List Edge) (f : Edge) → All (Contains t.edges) (e ∷ es) → AllNeighbours Joins (e ∷ (es ++ f ∷ []))
    → AreSteps t e.from (e ∷ es) × (last_of e.to (ends_of es) ≡ f.from)
steps_of t e [] f are join = ((All-head (Contains t.edges) e [] are, refl, tt), AllNeighbours-head Joins e f [] join)
steps_of t e (d ∷ ds) f are join =
    let rest = steps_of t d ds f (All-tail (Contains t.edges) e (d ∷ ds) are) (AllNeighbours-tail Joins e (d ∷ (ds ++ f ∷ [])) join) in
    let met : e.to ≡ d.from = AllNeighbours-head Joins e d (ds ++ f ∷ []) join in
    ((All-head (Contains t.edges) e (d ∷ ds) are, refl, (rest.0.0, sym met, rest.0.2)), rest.1)

-- And back.
joined_of : (t : Task) (u : ℕ) (e : Edge) (es : List Edge) (f : Edge) → AreSteps t u (e ∷ es) → last_of e.to (ends_of es) ≡ f.from
    → All (Contains t.edges) (e ∷ es) × AllNeighbours Joins (e ∷ (es ++ f ∷ []))
joined_of t u e [] f steps back =
    (All-cons (Contains t.edges) e [] steps.0 (All-nil (Contains t.edges)), AllNeighbours-cons Joins e f [] back (AllNeighbours-one Joins f))
joined_of t u e (d ∷ ds) f steps back =
    let rest = joined_of t e.to d ds f steps.2 back in
    (All-cons (Contains t.edges) e (d ∷ ds) steps.0 rest.0, AllNeighbours-cons Joins e d (ds ++ f ∷ []) (sym steps.2.1) rest.1)

-- The vertices are a cycle that has the sums of the edges.
pub record HasSums (t : Task) (es : List Edge) (vs : List ℕ) : Type 0 where
  pub is : IsCycle (digraph_of t) vs
  pub work : work (digraph_of t) vs ≡ need_of t es
  pub span : cycle_span (digraph_of t) vs ≡ time_of es

module _ (version : ℕ) (t : Task) (ok : IsTask version t) where
  -- An edge of the task is one of its graph.
  step_sep : (u : ℕ) (e : Edge) → Contains t.edges e → e.from ≡ u → sep (digraph_of t) u e.to ≡ Some e.sep
  step_sep u e is from = subst (λ x. sep (digraph_of t) x e.to ≡ Some e.sep) from (edge_found version t ok is.0 e is.1 is.2).2

  path_of : (u : ℕ) (es : List Edge) → AreSteps t u es → IsPath (digraph_of t) u (ends_of es)
  path_of u [] steps = tt
  path_of u (e ∷ es) steps = ((gap_of (digraph_of t) u e.to e.sep (step_sep u e steps.0 steps.1)).1, path_of e.to es steps.2)

  span_is : (u : ℕ) (es : List Edge) → AreSteps t u es → span (digraph_of t) u (ends_of es) ≡ time_of es
  unfolding span
  span_is u [] steps = refl
  span_is u (e ∷ es) steps =
      let first = (gap_of (digraph_of t) u e.to e.sep (step_sep u e steps.0 steps.1)).0 in
      omega (arith, first, span_is e.to es steps.2, sum_by-cons (λ (x : Edge). x.sep) e es)

  wcet_is : (u : ℕ) → slice_index (map (λ v. v.wcet) t.vertices) u ≡ wcet (digraph_of t) u
  wcet_is u = get_or-map (λ v. v.wcet) t.vertices u no_vertex

  work_is : (u : ℕ) (es : List Edge) → AreSteps t u es
      → work (digraph_of t) (ends_of es) + wcet (digraph_of t) u ≡ need_of t es + wcet (digraph_of t) (last_of u (ends_of es))
  unfolding work
  work_is u [] steps = refl
  work_is u (e ∷ es) steps =
      let begins = wcet_is e.from ∙ ap (wcet (digraph_of t)) steps.1 in
      omega (arith, begins, work_is e.to es steps.2, sum_by-cons (λ (x : Edge). slice_index (map (λ v. v.wcet) t.vertices) x.from) e es)

  -- A cycle of edges leads through one of vertices.
  pub vertices_of : (e : Edge) (es : List Edge) → IsCycleOf t (e ∷ es) → HasSums t (e ∷ es) (e.to ∷ ends_of es)
  vertices_of e es is =
      let s = steps_of t e es e is.0 is.1 in
      let c = path_cycle (digraph_of t) e.from e.to (ends_of es) (path_of e.from (e ∷ es) s.0) s.1 in
      record {
        is = c.0;
        work = omega (arith, work_is e.from (e ∷ es) s.0, ap (wcet (digraph_of t)) s.1);
        span = c.1 ∙ span_is e.from (e ∷ es) s.0;
      }

  -- An edge of the graph is one of the task.
  step_of : (u v : ℕ) → IsEdge (digraph_of t) u v → (e : Edge) × Contains t.edges e × (e.from ≡ u) × (e.to ≡ v)
  step_of u v is =
      let g = digraph_of t in
      let k = edge_of_sep g u v (gap g u v) is in
      let sound = sound_of version t ok in
      let within = source_of g sound u v (gap g u v) is in
      let all : All (Contains t.edges) (out_edges g u) = subst (All (Contains t.edges)) (sym (out_is version t ok u within))
      (All-filter (λ (x : Edge). eqb x.from u) (Contains t.edges) t.edges (All-contains_itself t.edges)) in
      (edge_of g u k.0, all k.0 no_edge k.1, sound.from u k.0 within k.1, k.2)

  steps_along : (u : ℕ) (vs : List ℕ) → IsPath (digraph_of t) u vs → (es : List Edge) × AreSteps t u es × (ends_of es ≡ vs)
  steps_along u [] is = ([], tt, refl)
  steps_along u (v ∷ vs) is =
      let s = step_of u v is.0 in
      let rest = steps_along v vs is.1 in (
        s.0 ∷ rest.0,
        (s.1, s.2, subst (λ x. AreSteps t x rest.0) (sym s.3) rest.1),
        ap (λ x. x ∷ ends_of rest.0) s.3 ∙ ap (λ xs. v ∷ xs) rest.2,
      )

  -- A cycle of vertices runs along one of edges.
  pub edges_of : (v : ℕ) (vs : List ℕ) → IsCycle (digraph_of t) (v ∷ vs)
      → (e : Edge) × (es : List Edge) × IsCycleOf t (e ∷ es) × HasSums t (e ∷ es) (v ∷ vs)
  edges_of v vs is =
      let s = step_of (last_of v vs) v is.0 in
      let rest = steps_along v vs is.1 in
      let steps : AreSteps t (last_of v vs) (s.0 ∷ rest.0) = (s.1, s.2, subst (λ x. AreSteps t x rest.0) (sym s.3) rest.1) in
      let back : last_of s.0.to (ends_of rest.0) ≡ s.0.from =
      ap (λ x. last_of x (ends_of rest.0)) s.3 ∙ ap (last_of v) rest.2 ∙ sym s.2 in
      let cycle : IsCycleOf t (s.0 ∷ rest.0) = joined_of t (last_of v vs) s.0 rest.0 s.0 steps back in
      let same : s.0.to ∷ ends_of rest.0 ≡ v ∷ vs = ap (λ x. x ∷ ends_of rest.0) s.3 ∙ ap (λ xs. v ∷ xs) rest.2 in
      (s.0, rest.0, cycle, subst (HasSums t (s.0 ∷ rest.0)) same (vertices_of s.0 rest.0 cycle))
