-- A set with an edge whose separation is below its source's deadline isn't constrained.
use Rattle.std.proofs.Common.{◌≡◌, ℕ, ◌<◌, ◌≤◌, List, All, get_or, refl, arith, subst, Option, Some, None, IfSome, IsSomeAnd, slice_get}
use Rattle.std.proofs.lemmas.Option.{slice_get_within, get_or_from_slice_get}
use Rattle.drt_model.specs.Constrained.{AreConstrained, IsConstrainedEdge}
use Rattle.drt_model.specs.Digraph.{no_edge}
use Rattle.drt_model.specs.declared.tasks.Task.{Task}
use Rattle.drt_model.specs.declared.tasks.Vertex.{Vertex}
use Rattle.drt_graph.specs.Past.{IsFirstPast, IsFirstPastEdge}

-- an edge isn't past and constrained at once
pub clash : (o : Option Vertex) (s : ℕ) → IsSomeAnd o (λ v. s < v.deadline) → IfSome o (λ v. v.deadline ≤ s) → ⊥
clash None s h k = absurd h
clash (Some v) s h k = omega (arith, h, k)

pub edge_past : (t : Task) (k : ℕ) → IsFirstPastEdge t k → All (IsConstrainedEdge t) t.edges → ⊥
edge_past t k h all =
    let e = get_or t.edges k no_edge in
    clash (slice_get t.vertices e.from) e.sep h.past (all k no_edge h.there)

task_past : (tasks : List Task) (i k : ℕ) (o : Option Task) → slice_get tasks i ≡ o → IsSomeAnd o (λ t. IsFirstPastEdge t k) → AreConstrained tasks → ⊥
task_past tasks i k None e h all = absurd h
task_past tasks i k (Some t) e h all =
    let is : get_or tasks i t ≡ t = get_or_from_slice_get tasks i t t e in
    edge_past t k h (subst (λ x. All (IsConstrainedEdge x) x.edges) is (all i t (slice_get_within tasks i t e)))

pub past_breaks : (tasks : List Task) (i k : ℕ) → IsFirstPast tasks i k → AreConstrained tasks → ⊥
past_breaks tasks i k h all = task_past tasks i k (slice_get tasks i) refl h.edge all
