-- The walk over one edge reaches the cell in which it ends.
use Rattle.std.proofs.Common.{◌≡◌, ℕ, ◌+◌, ◌*◌, ◌<◌, ◌≤◌, [], ◌∷◌, refl, sym, ap, subst, arith}
use Rattle.drt_model.specs.declared.tasks.Edge.{Edge}
use Rattle.drt_model.specs.declared.tasks.Vertex.{Vertex}
use Rattle.drt_model.specs.Digraph.{vertex_count, vertex_of, out_degree, edge_of}
use Rattle.drt_model.specs.Walk.{wcet, deadline}
use Rattle.drt_wave.specs.declared.plan.Plan.{Plan}
use Rattle.drt_wave.specs.Net.{Reached}
use Rattle.drt_wave.specs.Cells.{net_of, width, IsWavePlan, WalkTo}
use Rattle.drt_wave.proofs.Cells.{of_walk}

-- e is edge number k out of vertex u, which is v, and leads to w
pub one_edge : (p : Plan) → IsWavePlan p → (u k : ℕ) (e : Edge) (v w : Vertex) → u < vertex_count p.graph → k < out_degree p.graph u → e ≡ edge_of p.graph u k → v ≡ vertex_of p.graph u
    → w ≡ vertex_of p.graph e.to → v.deadline ≤ p.bound → e.sep + w.deadline ≤ p.bound → Reached (net_of p) (e.to * width p + e.sep) (v.wcet + w.wcet)
one_edge p plan u k e v w ltu ltk is_e is_v is_w due late =
    let g = p.graph in
    let first : WalkTo p u [] 0 v.wcet = (ltu, refl, ap (λ z. z.wcet) is_v, subst (λ z. z.deadline ≤ p.bound) is_v due) in
    let sep : e.sep ≡ (edge_of g u k).sep = ap (λ z. z.sep) is_e in
    let work : w.wcet ≡ wcet g e.to = ap (λ z. z.wcet) is_w in
    let end : e.sep + deadline g e.to ≤ p.bound = subst (λ z. e.sep + z.deadline ≤ p.bound) is_w late in
    let walk : WalkTo p e.to (u ∷ []) e.sep (v.wcet + w.wcet) =
    (k, 0, v.wcet, first, ltk, sym (ap (λ z. z.to) is_e), omega (arith, sep), omega (arith, work), end) in
    (of_walk p plan e.to (u ∷ []) e.sep (v.wcet + w.wcet) walk).2
