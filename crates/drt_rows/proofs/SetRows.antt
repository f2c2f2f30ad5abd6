-- Task sets that keep the limits of their version, and some that don't; constrained deadlines.
use Rattle.std.proofs.Common.{◌≡◌, ℕ, zero, suc, ◌+◌, ◌≤◌, inl, inr, [], ◌∷◌, Some, slice_get, refl, sym, ap, lit<, lit≤, arith}
use Rattle.std.specs.Prelude.{codes, All}
use Rattle.std.proofs.lemmas.Option.{none-some, same_Some}
use Rattle.std.proofs.lemmas.List.Elements.{All-nil, All-cons}
use Rattle.drt_model.specs.Constrained.{AreConstrained, IsConstrainedEdge}
use Rattle.drt_model.specs.Limits.{IsName, IsNameByte, IsTask, IsTaskSet, IsVertex, IsEdgeAmong}
use Rattle.drt_model.specs.declared.tasks.Task.{Task}
use Rattle.drt_rows.proofs.Sets.{vertex, edge, looped, task_a, task_b, short}

-- The names T and a.
name_T : IsName (codes "T")
name_T = record { not_empty = lit≤ tt; at_most_32 = lit≤ tt; bytes = All-cons IsNameByte 84 [] (inl (inl (inr (lit≤ tt, lit≤ tt)))) (All-nil IsNameByte) }

pub name_a : IsName (codes "a")
name_a = record { not_empty = lit≤ tt; at_most_32 = lit≤ tt; bytes = All-cons IsNameByte 97 [] (inl (inr (lit≤ tt, lit≤ tt))) (All-nil IsNameByte) }

pub short_is_task : IsTask 1 short
short_is_task = record {
  name = name_T;
  priority = (lit≤ tt, lit≤ tt);
  has_vertex = lit≤ tt;
  few_vertices = lit≤ tt;
  vertices = All-cons IsVertex (vertex (codes "a") 2 5) [] (record { name = name_a; wcet = (lit≤ tt, lit≤ tt); deadline = (lit≤ tt, lit≤ tt) }) (All-nil IsVertex);
  distinct_names = λ i j d l m. absurd (omega arith);
  at_most_256_edges = lit≤ tt;
  edges = All-cons (IsEdgeAmong 1) (edge 0 0 5) [] (record { from = lit< tt; to = lit< tt; sep = (lit≤ tt, lit≤ tt) }) (All-nil (IsEdgeAmong 1));
  one_edge_each_way = λ i j d l m. absurd (omega arith);
}

-- The set of one task T with one vertex (2, 5) and a loop of 5 keeps the limits of version 1.
pub short_is_set : IsTaskSet 1 (short ∷ [])
short_is_set = record {
  known = inl refl;
  has_task = lit≤ tt;
  few_tasks = lit≤ tt;
  each = All-cons (IsTask 1) short [] short_is_task (All-nil (IsTask 1));
  distinct_names = λ i j d l m. absurd (omega arith);
  distinct_priorities = λ i j d l m. absurd (omega arith);
  in_order = λ v. in_order;
}
  where
    in_order : (i : ℕ) (t : Task) → slice_get (short ∷ []) i ≡ Some t → t.priority ≡ i + 1
    in_order zero t at = ap (λ x. x.priority) (same_Some t short (sym at))
    in_order (suc i) t at = absurd (none-some t at)

-- Its deadlines are constrained: 5 is at most 5.
pub short_is_constrained : AreConstrained (short ∷ [])
short_is_constrained =
    All-cons (λ t. All (IsConstrainedEdge t) t.edges) short []
    (All-cons (IsConstrainedEdge short) (edge 0 0 5) [] (lit≤ tt) (All-nil (IsConstrainedEdge short)))
    (All-nil (λ t. All (IsConstrainedEdge t) t.edges))

-- With a deadline of 6 they aren't: the edge's separation is 5.
pub late_is_not_constrained : ¬ AreConstrained (looped (codes "T") 1 2 6 5 ∷ [])
late_is_not_constrained c = let h : 6 ≤ 5 = c 0 short (lit< tt) 0 (edge 0 0 5) (lit< tt) in absurd (omega (arith, h))

-- In version 1 the first task has the priority 1.
pub other_order_is_no_set : ¬ IsTaskSet 1 (task_b ∷ task_a ∷ [])
other_order_is_no_set s = let h : 2 ≡ 1 = s.in_order refl 0 task_b refl in absurd (omega (arith, h))

-- In version 2 two tasks have different priorities.
pub equal_priorities_are_no_set : ¬ IsTaskSet 2 (task_a ∷ looped (codes "b") 1 3 6 6 ∷ [])
equal_priorities_are_no_set s = s.distinct_priorities 0 1 task_a (lit< tt) (lit< tt) refl

-- An execution time is at least 1.
pub no_time_is_no_set : ¬ IsTaskSet 1 (looped (codes "T") 1 0 5 5 ∷ [])
no_time_is_no_set s = let h : 1 ≤ 0 = ((s.each 0 short (lit< tt)).vertices 0 (vertex (codes "a") 2 5) (lit< tt)).wcet.0 in absurd (omega (arith, h))
