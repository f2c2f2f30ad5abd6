-- What a tree is asked for, for all points at once.
use Rattle.std.proofs.Common.{◌≡◌, ℕ, ◌<◌, ◌≤◌, List, length, map, get_or, sym, ap, subst, ◌∙◌, arith}
use Rattle.std.specs.Prelude.{All, Err, IfOk, Ok, Result, Some, slice_get}
use Rattle.std.specs.List.{AllByRecursion}
use Rattle.std.proofs.lemmas.List.{length-map, length-take}
use Rattle.drt_model.specs.declared.tasks.Task.{Task}
use Rattle.drt_model.specs.Digraph.{digraph_of}
use Rattle.drt_model.specs.Limits.{IsTask}
use Rattle.drt_claims.specs.Proofs.{HasShape}
use Rattle.drt_claims.specs.Trees.{IsTree}
use Rattle.drt_claims.specs.Sorting.{by_priority, sorted_graphs}
use Rattle.drt_claims.specs.declared.evidence.ProofClaim.{ProofClaim}
use Rattle.drt_claims.specs.declared.evidence.TreeClaim.{TreeClaim}
use Rattle.drt_check_values.specs.declared.query.Query.{Query}
use Rattle.drt_check_proofs.specs.Passing.{all_queries}
use Rattle.drt_check_proofs.specs.Points.{IsTimely, Point, marks, points, query}
use Rattle.drt_check_proofs.proofs.PointLaws.{marks_points, queries_points}
use Rattle.drt_check_proofs.proofs.RoomLaws.{AreReady}
use Rattle.drt_check_proofs.proofs.Withins.{points_short}

-- The questions that were made are those of the points.
pub asked_is : (tasks ts : List Task) (trees : List TreeClaim) (i : ℕ) (tree : TreeClaim) (proofs : List ProofClaim) (qs items : List Query) → qs ≡ items → items ≡ all_queries ts tree i proofs
    → ts ≡ tasks → slice_get trees i ≡ Some tree → All (HasShape tasks trees) proofs → qs ≡ map (query i) (points tasks trees proofs)
asked_is tasks ts trees i tree proofs qs items e f same at shapes =
    e ∙ (f ∙ (ap (λ (us : List Task). all_queries us tree i proofs) same ∙ queries_points tasks trees i tree at proofs shapes))

-- There are as many questions as points.
pub as_many : (i : ℕ) (ps : List Point) (qs : List Query) → qs ≡ map (query i) ps → length qs ≡ length ps
as_many i ps qs asked = ap length asked ∙ length-map ps (query i)

-- Points whose marks are in time are ready.
pub ready_is : (version : ℕ) (tasks : List Task) (trees : List TreeClaim) (proofs : List ProofClaim) → All (HasShape tasks trees) proofs → All (IsTask version) tasks
    → AllByRecursion IsTimely (marks tasks proofs) → AreReady (points tasks trees proofs)
ready_is version tasks trees proofs shapes limits timely = record {
  timely = rw (marks_points tasks trees proofs shapes) at timely;
  short = points_short tasks trees proofs version limits;
}

-- The tree that was read is one.
pub tree_is : (trees : List TreeClaim) (i : ℕ) (tree : TreeClaim) → All IsTree trees → i < length trees → tree ≡ get_or trees i tree → IsTree tree
tree_is trees i tree all l is = subst (λ (t : TreeClaim). IsTree t) (sym is) (all i tree l)

-- There are at most as many graphs of trees as trees.
pub graphs_few : (tasks : List Task) (trees : List TreeClaim) (i : ℕ) → length trees ≤ i → length (sorted_graphs tasks trees) ≤ i
graphs_few tasks trees i l = (let e = length-take (length trees) (map digraph_of (by_priority tasks)) in omega (arith, e))

-- What follows from what a clause says of an answer.
pub ok_then : {T E : Type 0} (r : Result T E) (P Q : T → Type 0) → ((x : T) → P x → Q x) → IfOk r P → IfOk r Q
ok_then (Ok x) P Q f h = f x h
ok_then (Err e) P Q f h = h
