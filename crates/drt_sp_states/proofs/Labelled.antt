-- Walks with their labels, vertex by vertex.
use Rattle.std.proofs.Common.{◌≡◌, ℕ, ◌<◌, List, [], ◌∷◌, ◌++◌, Some, length, sym, ap, ◌∙◌, arith}
use Rattle.std.specs.Prelude.{IsTrue, nat_lt}
use Rattle.std.proofs.lemmas.Bool.Decides.{nat_tests}
use Rattle.drt_model.specs.Limits.{IsTime}
use Rattle.drt_graph.proofs.Edges.{gap_of, target_of}
use Rattle.drt_graph.proofs.Paths.{path_both}
use Rattle.drt_model.specs.Digraph.{Digraph, IsSoundGraph, vertex_count}
use Rattle.drt_model.specs.Walk.{last_of, sep, wcet}
use Rattle.drt_request.specs.Request.{request_algebra}
use Rattle.drt_request.specs.Walk.{LabelWalks}
use Rattle.drt_sp_states.specs.Walks.{IsMadeWalk}
use Rattle.drt_sp_states.specs.declared.walks.Made.{Made}

-- The walk of one vertex.
pub begun : (g : Digraph) (bound v w : ℕ) (made : Made) → LabelWalks g bound → v < vertex_count g → w ≡ wcet g v
    → made.walk.items ≡ v ∷ [] → made.label ≡ request_algebra.opening v w bound → IsMadeWalk g bound made
begun g bound v w made laws lt is walk label = record {
  first = v;
  rest = [];
  walk_is = walk;
  vertex = lt;
  path = tt;
  label_is = rw (label, is) (laws.opening v);
}

-- The walk with a further vertex.
pub extended : (g : Digraph) (bound v s w : ℕ) (made longer : Made) → LabelWalks g bound → IsMadeWalk g bound made
    → sep g made.label.vertex v ≡ Some s → w ≡ wcet g v
    → longer.walk.items ≡ made.walk.items ++ v ∷ [] → longer.label ≡ request_algebra.extend made.label s v w → IsMadeWalk g bound longer
extended g bound v s w made longer laws m has is walk label =
    let here : sep g (last_of m.first m.rest) v ≡ Some s = ap (λ u. sep g u v) (sym m.label_is.vertex) ∙ has in
    let edge = gap_of g (last_of m.first m.rest) v s here in
    record {
      first = m.first;
      rest = m.rest ++ v ∷ [];
      walk_is = walk ∙ ap (λ (xs : List ℕ). xs ++ v ∷ []) m.walk_is;
      vertex = m.vertex;
      path = path_both g m.first m.rest (v ∷ []) m.path (edge.1, tt);
      label_is = rw (label, sym edge.0, is) (laws.extended m.first m.rest v made.label m.label_is);
    }

-- A label whose offset is below the bound may go on.
pub extendable : (g : Digraph) (bound : ℕ) (made : Made) → IsMadeWalk g bound made → made.label.offset < bound → IsTrue (nat_lt made.label.offset (length made.label.values))
extendable g bound made m lt = let e : length made.label.values ≡ bound = m.label_is.long in grind (arith, nat_tests)

-- A separation is a time.
pub timely : (g : Digraph) → IsSoundGraph g → (u v s : ℕ) → sep g u v ≡ Some s → IsTime s
timely g sound u v s e = let t = target_of g sound u v s e in (t.1, t.2)
