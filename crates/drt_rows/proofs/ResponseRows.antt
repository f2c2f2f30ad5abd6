-- Greatest responses under fixed priorities: T (2, 5) with a loop of 5 and, below it, L (1, 5) with a loop of 5. Whatever the releases, a job of T
-- finishes within 2 ticks of its release, and one of L within 3; and some releases reach that.
use Rattle.std.proofs.Common.{◌≡◌, ◌≢◌, ℕ, zero, suc, ◌+◌, ◌<◌, ◌≤◌, inl, inr, List, []}
use Rattle.std.proofs.Common.{◌∷◌, Some, slice_get, get_or, false, ltb, refl, sym, ap, ◌∙◌, lit<, lit≤, arith}
use Rattle.std.specs.Prelude.{codes, All, AllPairs}
use Rattle.std.proofs.lemmas.Bool.{le-ltb}
use Rattle.std.proofs.lemmas.Option.{none-some, same_Some}
use Rattle.std.proofs.lemmas.List.Elements.{All-nil, All-cons}
use Rattle.drt_model.specs.Constrained.{AreConstrained, IsConstrainedEdge}
use Rattle.drt_model.specs.Digraph.{Digraph, digraph_of}
use Rattle.drt_model.specs.Limits.{IsName, IsNameByte, IsTask, IsTaskSet, IsVertex, IsEdgeAmong}
use Rattle.drt_model.specs.Walk.{sep_in, or_zero, gap, deadline, IsEdge, IsWalk, requested_from, request_of}
use Rattle.drt_model.specs.declared.tasks.Task.{Task}
use Rattle.drt_busy.specs.Choice.{AreWalks, graph_at, requests}
use Rattle.drt_busy.specs.Response.{FitsWithin, IsGreatestResponse, IsLeastFit, MeetsDeadlines, load}
use Rattle.drt_busy.proofs.FixedWalks.{times_suffice_for_task}
use Rattle.drt_busy.proofs.Response.{response_decides}
use Rattle.drt_rows.proofs.PotentialRows.{other_edge}
use Rattle.drt_rows.proofs.Sets.{edge, looped, short, vertex}
use Rattle.drt_rows.proofs.SetRows.{name_a, short_is_task}

abbrev pub lower : Task
lower = looped (codes "L") 2 1 5 5

abbrev pub tasks : List Task
tasks = short ∷ lower ∷ []

-- The set keeps the limits of version 1, and its deadlines are constrained.
name_L : IsName (codes "L")
name_L = record {
  not_empty = lit≤ tt;
  at_most_32 = lit≤ tt;
  bytes = All-cons IsNameByte 76 [] (inl (inl (inr (lit≤ tt, lit≤ tt)))) (All-nil IsNameByte);
}

lower_vertex : IsVertex (vertex (codes "a") 1 5)
lower_vertex = record { name = name_a; wcet = (lit≤ tt, lit≤ tt); deadline = (lit≤ tt, lit≤ tt) }

lower_edge : IsEdgeAmong 1 (edge 0 0 5)
lower_edge = record { from = lit< tt; to = lit< tt; sep = (lit≤ tt, lit≤ tt) }

lower_is_task : IsTask 1 lower
lower_is_task = record {
  name = name_L;
  priority = (lit≤ tt, lit≤ tt);
  has_vertex = lit≤ tt;
  few_vertices = lit≤ tt;
  vertices = All-cons IsVertex (vertex (codes "a") 1 5) [] lower_vertex (All-nil IsVertex);
  distinct_names = λ i j d l m. absurd (omega arith);
  at_most_256_edges = lit≤ tt;
  edges = All-cons (IsEdgeAmong 1) (edge 0 0 5) [] lower_edge (All-nil (IsEdgeAmong 1));
  one_edge_each_way = λ i j d l m. absurd (omega arith);
}

-- Of two tasks the only pair is the first and the second.
only_pair : (R : Task → Task → Type 0) (s t : Task) → R s t → AllPairs R (s ∷ t ∷ [])
only_pair R s t h zero zero d l m = absurd (omega (arith, l))
only_pair R s t h zero (suc zero) d l m = h
only_pair R s t h zero (suc (suc j)) d l m = absurd (omega (arith, m))
only_pair R s t h (suc i) zero d l m = absurd (omega (arith, l))
only_pair R s t h (suc i) (suc j) d l m = absurd (omega (arith, l, m))

tasks_are_set : IsTaskSet 1 tasks
tasks_are_set = record {
  known = inl refl;
  has_task = lit≤ tt;
  few_tasks = lit≤ tt;
  each = All-cons (IsTask 1) short (lower ∷ []) short_is_task (All-cons (IsTask 1) lower [] lower_is_task (All-nil (IsTask 1)));
  distinct_names = only_pair (λ s t. s.name ≢ t.name) short lower (λ e. let h : 84 ≡ 76 = ap (λ name. get_or name 0 0) e in omega (arith, h));
  distinct_priorities = only_pair (λ s t. s.priority ≢ t.priority) short lower (λ e. let h : 1 ≡ 2 = e in omega (arith, h));
  in_order = λ v. in_order;
}
  where
    in_order : (i : ℕ) (t : Task) → slice_get tasks i ≡ Some t → t.priority ≡ i + 1
    in_order zero t at = ap (λ x. x.priority) (same_Some t short (sym at))
    in_order (suc zero) t at = ap (λ x. x.priority) (same_Some t lower (sym at))
    in_order (suc (suc i)) t at = absurd (none-some t at)

abbrev AreConstrainedEdges : Task → Type 0
AreConstrainedEdges t = All (IsConstrainedEdge t) t.edges

one_edge : (t : Task) → IsConstrainedEdge t (edge 0 0 5) → All (IsConstrainedEdge t) (edge 0 0 5 ∷ [])
one_edge t h = All-cons (IsConstrainedEdge t) (edge 0 0 5) [] h (All-nil (IsConstrainedEdge t))

tasks_are_constrained : AreConstrained tasks
tasks_are_constrained =
    All-cons AreConstrainedEdges short (lower ∷ []) (one_edge short (lit≤ tt))
    (All-cons AreConstrainedEdges lower [] (one_edge lower (lit≤ tt)) (All-nil AreConstrainedEdges))

-- Before 5 a walk of T asks for at most the 2 ticks of its first job: the loop's separation is 5, and releases at 5 or later ask for nothing then.
abbrev upper_graph : Digraph
upper_graph = digraph_of short

asks_late : (t x u : ℕ) (vs : List ℕ) → t ≤ x → requested_from upper_graph x u vs t ≡ 0
unfolding requested_from
asks_late t x u [] h = let late : ltb x t ≡ false = le-ltb x t h in rw late refl
asks_late t x u (v ∷ vs) h =
    let late : ltb x t ≡ false = le-ltb x t h in
    let more : requested_from upper_graph (x + gap upper_graph u v) v vs t ≡ 0 = asks_late t (x + gap upper_graph u v) v vs (omega arith) in
    rw (late, more) refl

spans_5 : (v : ℕ) → IsEdge upper_graph 0 v → gap upper_graph 0 v ≡ 5
unfolding sep_in or_zero
spans_5 zero e = refl
spans_5 (suc v) e = absurd (none-some (gap upper_graph 0 (suc v)) (sym (other_edge 0 0 5 [] (suc v) (λ h. omega (arith, h))) ∙ e))

asks_at_most_2 : (walk : List ℕ) → IsWalk upper_graph walk → request_of upper_graph walk 3 ≤ 2
unfolding requested_from
asks_at_most_2 [] w = lit≤ tt
asks_at_most_2 (zero ∷ []) w = lit≤ tt
asks_at_most_2 (zero ∷ v ∷ vs) w =
    let s = spans_5 v w.1.0 in
    let late : requested_from upper_graph (0 + gap upper_graph 0 v) v vs 3 ≡ 0 = asks_late 3 (0 + gap upper_graph 0 v) v vs (omega (arith, s)) in
    omega (arith, late)
asks_at_most_2 (suc u ∷ vs) w = absurd (omega (arith, w.0))

-- Above T there is no task, so that 2 has room for its 2 ticks; 3 has room for L's 1 tick and for those of T.
upper_fits : (walks : ℕ → List ℕ) → AreWalks tasks walks → FitsWithin tasks walks 0 0 2
unfolding requests
upper_fits walks are = (2, lit≤ tt, lit≤ tt, lit≤ tt)

lower_fits : (walks : ℕ → List ℕ) → AreWalks tasks walks → FitsWithin tasks walks 1 0 3
unfolding requests
lower_fits walks are = (3, lit≤ tt, lit≤ tt, let h = asks_at_most_2 (walks 0) (are 0 (lit< tt)) in omega (arith, h))

-- So each job of either meets its deadline of 5.
upper_meets : MeetsDeadlines tasks 0
upper_meets rs legal j h is = times_suffice_for_task 1 tasks tasks_are_set tasks_are_constrained 0 fits rs legal j h is
  where
    fits : (v : ℕ) → v < 1 → (walks : ℕ → List ℕ) → AreWalks tasks walks → FitsWithin tasks walks 0 v (deadline (graph_at tasks 0) v)
    fits zero h walks are = let f = upper_fits walks are in (f.0, f.1, omega (arith, f.2), f.3)
    fits (suc v) h walks are = absurd (omega (arith, h))

lower_meets : MeetsDeadlines tasks 1
lower_meets rs legal j h is = times_suffice_for_task 1 tasks tasks_are_set tasks_are_constrained 1 fits rs legal j h is
  where
    fits : (v : ℕ) → v < 1 → (walks : ℕ → List ℕ) → AreWalks tasks walks → FitsWithin tasks walks 1 v (deadline (graph_at tasks 1) v)
    fits zero h walks are = let f = lower_fits walks are in (f.0, f.1, omega (arith, f.2), f.3)
    fits (suc v) h walks are = absurd (omega (arith, h))

-- The walks of one release each. Without a task above it T needs 2 of the first t ticks, and with T's release at 0 above it L needs 3.
abbrev single_walks : ℕ → List ℕ
single_walks k = 0 ∷ []

are_walks : AreWalks tasks single_walks
are_walks zero h = (lit< tt, tt)
are_walks (suc zero) h = (lit< tt, tt)
are_walks (suc (suc k)) h = absurd (omega (arith, h))

upper_least : IsLeastFit tasks single_walks 0 0 2
unfolding requests requested_from
upper_least = record { from = lit≤ tt; fits = lit≤ tt; least = least }
  where
    least : (t : ℕ) → 1 ≤ t → load tasks single_walks 0 0 t ≤ t → 2 ≤ t
    least zero l f = absurd (omega (arith, l))
    least (suc zero) l f = absurd (omega (arith, f))
    least (suc (suc t)) l f = omega arith

lower_least : IsLeastFit tasks single_walks 1 0 3
unfolding requests requested_from
lower_least = record { from = lit≤ tt; fits = lit≤ tt; least = least }
  where
    least : (t : ℕ) → 1 ≤ t → load tasks single_walks 1 0 t ≤ t → 3 ≤ t
    least zero l f = absurd (omega (arith, l))
    least (suc zero) l f = absurd (omega (arith, f))
    least (suc (suc zero)) l f = absurd (omega (arith, f))
    least (suc (suc (suc t))) l f = omega arith

-- The greatest responses, over all legal releases: 2 of T's vertex, and 3 of L's.
pub upper_response : IsGreatestResponse tasks 0 0 2
upper_response =
    (response_decides 1 tasks tasks_are_set tasks_are_constrained 0 0 (lit< tt) (lit< tt) upper_meets 2).1
    (record { walks = single_walks; are = are_walks; least = upper_least; most = upper_fits })

pub lower_response : IsGreatestResponse tasks 1 0 3
lower_response =
    (response_decides 1 tasks tasks_are_set tasks_are_constrained 1 0 (lit< tt) (lit< tt) lower_meets 3).1
    (record { walks = single_walks; are = are_walks; least = lower_least; most = lower_fits })
