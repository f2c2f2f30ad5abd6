-- A worked set of two tasks, the lower one first in the file: one tree says yes of a vertex of the lower task, and no of a longer one.
use Rattle.std.proofs.Common.{inl, inr, ◌≡◌, ℕ, zero, suc, ◌+◌, ◌<◌, ◌≤◌, cond, ltb, List, [], ◌∷◌, get_or, All, None, refl, sym, ap, ◌∙◌, subst, lit<, lit≤, arith}
use Rattle.std.specs.Prelude.{codes}
use Rattle.std.proofs.lemmas.Bool.{cases_Bool, ne_eqb}
use Rattle.std.proofs.lemmas.List.Elements.{All-nil, All-cons}
use Rattle.std.proofs.lemmas.Option.{same_Some}
use Rattle.drt_model.specs.declared.jobs.Policy.TheVariants.{Fixed}
use Rattle.drt_model.specs.declared.jobs.Release.{Release}
use Rattle.drt_model.specs.declared.tasks.Edge.{Edge}
use Rattle.drt_model.specs.declared.tasks.Task.{Task}
use Rattle.drt_model.specs.declared.tasks.Vertex.{Vertex}
use Rattle.drt_model.specs.Constrained.{AreConstrained, IsConstrainedEdge}
use Rattle.drt_model.specs.Digraph.{digraph_of, vertex_count}
use Rattle.drt_model.specs.Legal.{IsLegal}
use Rattle.drt_model.specs.Limits.{IsEdgeAmong, IsName, IsNameByte, IsTask, IsTaskSet, IsVertex}
use Rattle.drt_model.specs.Misses.{IsLeastMiss}
use Rattle.drt_model.specs.Schedulable.{jobs_of}
use Rattle.drt_model.specs.Walk.{IsPath, gap, or_zero, sep_in, requested_from, IsWalk, request_of}
use Rattle.drt_busy.specs.Choice.{graph_at, requests, task_at}
use Rattle.drt_busy.specs.WalkReleases.{all_releases, releases_from, with_job}
use Rattle.drt_busy.proofs.Decide.{requests_miss}
use Rattle.drt_busy.proofs.FixedWalks.{times_suffice_for_task}
use Rattle.drt_steps.specs.Values.{value_at}
use Rattle.drt_tree.specs.Tree.{IsUnder, Plain, plain, node_values_in, walk}
use Rattle.drt_refine.specs.Below.{AreBelow}
use Rattle.drt_sp.specs.Choices.{FirstPass, StandsFor, VertexPasses, chosen}
use Rattle.drt_check_trees.specs.Order.{IsOrder}
use Rattle.drt_busy.specs.Response.{cut, cut_from}
use Rattle.drt_sp.specs.ChoiceLaws.{IsPosed, PassesAt, no_releases}
use Rattle.drt_sp.proofs.Covered.{leaves_pass}
use Rattle.drt_sp.proofs.Cuts.{none_before}
use Rattle.drt_sp.proofs.Missed.{leaves_miss}

abbrev pub vertex : ℕ → Vertex
vertex wcet = record { name = codes "a"; wcet = wcet; deadline = 4 }

-- Task b has priority 2 and one vertex, due after 4 ticks; task a has priority 1 and one vertex (1, 4) with a loop of 4.
abbrev pub lower : ℕ → Task
lower wcet = record { name = codes "b"; priority = 2; vertices = vertex wcet ∷ []; edges = [] }

abbrev pub loop : Edge
loop = record { from = 0; to = 0; sep = 4 }

abbrev pub higher : Task
higher = record { name = codes "a"; priority = 1; vertices = vertex 1 ∷ []; edges = loop ∷ [] }

abbrev pub tasks : ℕ → List Task
tasks wcet = lower wcet ∷ higher ∷ []

-- In order of priority: the second task, then the first one.
abbrev pub order : List ℕ
order = 1 ∷ 0 ∷ []

-- The tree of the second task up to 4 is one leaf: a walk of two releases, which asks for 1 at each time.
abbrev pub tree : Plain
tree = plain (record { children = None; leaves = 1; walk = 0 ∷ 0 ∷ [] } ∷ []) ((1 ∷ 1 ∷ 1 ∷ 1 ∷ []) ∷ [])

-- With offsets below 4 its first release is left, with offsets below 5 both are.
pub cut_at_4 : cut (digraph_of higher) 4 (walk tree 0) ≡ 0 ∷ []
unfolding cut_from sep_in or_zero
cut_at_4 = refl

pub cut_at_5 : cut (digraph_of higher) 5 (walk tree 0) ≡ 0 ∷ 0 ∷ []
unfolding cut_from sep_in or_zero
cut_at_5 = refl

-- The releases for a vertex of the first task: it at 0, and the second task's one release.
abbrev pub release : ℕ → ℕ → Release
release task need = record { task = task; vertex = 0; time = 0; need = need }

pub releases : no_releases (tasks 4) tree order (0 ∷ []) 0 0 ≡ release 0 4 ∷ release 1 1 ∷ []
unfolding all_releases releases_from with_job chosen cut_from sep_in or_zero
releases = refl

-- The set keeps the limits, its deadlines are constrained, and the order is one.
name : (c : ℕ) → IsNameByte c → IsName (c ∷ [])
name c is = record { not_empty = lit≤ tt; at_most_32 = lit≤ tt; bytes = All-cons IsNameByte c [] is (All-nil IsNameByte) }

small : (c : ℕ) → 97 ≤ c → c ≤ 122 → IsNameByte c
small c low high = inl (inr (low, high))

vertex_is : (wcet : ℕ) → 1 ≤ wcet → wcet ≤ 4 → IsVertex (vertex wcet)
vertex_is wcet low high = record { name = name 97 (small 97 (lit≤ tt) (lit≤ tt)); wcet = (low, omega arith); deadline = (lit≤ tt, lit≤ tt) }

module _ (wcet : ℕ) (low : 1 ≤ wcet) (high : wcet ≤ 4) where
  lower_is : IsTask 2 (lower wcet)
  lower_is = record {
    name = name 98 (small 98 (lit≤ tt) (lit≤ tt));
    priority = (lit≤ tt, lit≤ tt);
    has_vertex = lit≤ tt;
    few_vertices = lit≤ tt;
    vertices = All-cons IsVertex (vertex wcet) [] (vertex_is wcet low high) (All-nil IsVertex);
    distinct_names = λ i j d l m. absurd (omega arith);
    at_most_256_edges = lit≤ tt;
    edges = All-nil (IsEdgeAmong 1);
    one_edge_each_way = λ i j d l m. absurd (omega arith);
  }

  higher_is : IsTask 2 higher
  higher_is = record {
    name = name 97 (small 97 (lit≤ tt) (lit≤ tt));
    priority = (lit≤ tt, lit≤ tt);
    has_vertex = lit≤ tt;
    few_vertices = lit≤ tt;
    vertices = All-cons IsVertex (vertex 1) [] (vertex_is 1 (lit≤ tt) (lit≤ tt)) (All-nil IsVertex);
    distinct_names = λ i j d l m. absurd (omega arith);
    at_most_256_edges = lit≤ tt;
    edges = All-cons (IsEdgeAmong 1) loop [] (record { from = lit< tt; to = lit< tt; sep = (lit≤ tt, lit≤ tt) }) (All-nil (IsEdgeAmong 1));
    one_edge_each_way = λ i j d l m. absurd (omega arith);
  }

  is_set : IsTaskSet 2 (tasks wcet)
  is_set = record {
    known = inr refl;
    has_task = lit≤ tt;
    few_tasks = lit≤ tt;
    each = All-cons (IsTask 2) (lower wcet) (higher ∷ []) lower_is (All-cons (IsTask 2) higher [] higher_is (All-nil (IsTask 2)));
    distinct_names = pairs (λ s t. s.name ≡ t.name → ⊥) (λ e. let h : 98 ≡ 97 = ap (λ xs. get_or xs 0 0) e in absurd (omega (arith, h)));
    distinct_priorities = pairs (λ s t. s.priority ≡ t.priority → ⊥) (λ e. absurd (omega (arith, e)));
    in_order = λ e. absurd (omega (arith, e));
  }
    where
      pairs : (R : Task → Task → Type 0) → R (lower wcet) higher → (i j : ℕ) (d : Task) → i < j → j < 2 → R (get_or (tasks wcet) i d) (get_or (tasks wcet) j d)
      pairs R r i zero d l m = absurd (omega arith)
      pairs R r zero (suc zero) d l m = r
      pairs R r (suc i) (suc zero) d l m = absurd (omega arith)
      pairs R r i (suc (suc j)) d l m = absurd (omega arith)

  is_constrained : AreConstrained (tasks wcet)
  is_constrained =
      All-cons (λ t. All (IsConstrainedEdge t) t.edges) (lower wcet) (higher ∷ []) (All-nil (IsConstrainedEdge (lower wcet)))
      (All-cons (λ t. All (IsConstrainedEdge t) t.edges) higher []
      (All-cons (IsConstrainedEdge higher) loop [] (lit≤ tt) (All-nil (IsConstrainedEdge higher)))
      (All-nil (λ t. All (IsConstrainedEdge t) t.edges)))

  is_order : IsOrder (tasks wcet) order
  is_order = record { permutation = record { moves = (0, 1) ∷ []; below = (lit< tt, lit< tt, tt); is = refl }; rising = rising }
    where
      rising : (i j d : ℕ) → i < j → j < 2 → (task_at (tasks wcet) (get_or order i d)).priority < (task_at (tasks wcet) (get_or order j d)).priority
      rising i zero d l m = absurd (omega arith)
      rising zero (suc zero) d l m = lit< tt
      rising (suc i) (suc zero) d l m = absurd (omega arith)
      rising i (suc (suc j)) d l m = absurd (omega arith)

-- each of the times 1 to 4
each_time : (P : ℕ → Type 0) → P 1 → P 2 → P 3 → P 4 → (t : ℕ) → 1 ≤ t → t ≤ 4 → P t
each_time P a b c d zero one by = absurd (omega arith)
each_time P a b c d (suc zero) one by = a
each_time P a b c d (suc (suc zero)) one by = b
each_time P a b c d (suc (suc (suc zero))) one by = c
each_time P a b c d (suc (suc (suc (suc zero)))) one by = d
each_time P a b c d (suc (suc (suc (suc (suc t))))) one by = absurd (omega arith)

-- the tree asks for 1 at each of them
value_is : (t : ℕ) → 1 ≤ t → t ≤ 4 → value_at (node_values_in tree 0) t ≡ 1
unfolding value_at
value_is t one by = each_time (λ n. value_at (node_values_in tree 0) n ≡ 1) refl refl refl refl t one by

leaf_asks : (t : ℕ) → 1 ≤ t → t ≤ 4 → request_of (digraph_of higher) (walk tree 0) t ≡ 1
unfolding requested_from sep_in or_zero
leaf_asks t one by = each_time (λ n. request_of (digraph_of higher) (walk tree 0) n ≡ 1) refl refl refl refl t one by

leaf_walk : IsWalk (digraph_of higher) (walk tree 0)
unfolding sep_in or_zero
leaf_walk = (lit< tt, (refl, tt))

-- its one leaf is the root
one_leaf : (leaf : ℕ) → IsUnder tree leaf 0 → 0 ≡ leaf
one_leaf leaf ([], is) = is.0
one_leaf leaf (b ∷ turns, (l, r, pair, rest)) = absurd (cc)

-- no walk of the second task asks for more than 1 up to 4
no_edge : (v : ℕ) → IsPath (digraph_of higher) 0 (suc v ∷ []) → ⊥
unfolding sep_in
no_edge v path = let none = rw (ne_eqb 0 (suc v) (λ e. omega (arith, e))) at path.0 in absurd (cc)

loop_gap : gap (digraph_of higher) 0 0 ≡ 4
unfolding sep_in or_zero
loop_gap = refl

first_asks : (t : ℕ) → cond (ltb 0 t) 1 0 ≤ 1
first_asks t = elim (cases_Bool (ltb 0 t)) [ inl t0 ↦ rw t0 (omega arith) | inr t0 ↦ rw t0 (omega arith) ]

at_most_one : (w : List ℕ) → IsWalk (digraph_of higher) w → (t : ℕ) → t ≤ 4 → request_of (digraph_of higher) w t ≤ 1
unfolding requested_from
at_most_one [] is t by = omega arith
at_most_one (suc u ∷ vs) is t by = absurd (omega (arith, is.0))
at_most_one (zero ∷ []) is t by = first_asks t
at_most_one (zero ∷ (suc v ∷ vs)) is t by = absurd (no_edge v (is.1.0, tt))
at_most_one (zero ∷ (zero ∷ vs)) is t by =
    omega (arith, first_asks t, none_before (digraph_of higher) (0 + gap (digraph_of higher) 0 0) 0 vs t (omega (arith, loop_gap)))

-- The tree stands for the walks of the second task.
pub stands : StandsFor (digraph_of higher) 4 tree 0
stands = record {
  covers = λ w is. (0, ([], (refl, refl)), λ t one by. omega (arith, at_most_one w is t by, value_is t one by));
  walks = λ leaf under. subst (λ n. IsWalk (digraph_of higher) (walk tree n)) (one_leaf leaf under) leaf_walk;
  asks = λ leaf t under one by. subst (λ n. value_at (node_values_in tree n) t ≡ request_of (digraph_of higher) (walk tree n) t) (one_leaf leaf under) (value_is t one by ∙ sym (leaf_asks t one by));
}

-- The first task's vertex is posed, with the one tree.
pub posed : (wcet : ℕ) → 1 ≤ wcet → wcet ≤ 4 → IsPosed 2 (tasks wcet) order 4 tree (0 ∷ []) 0 0
posed wcet low high = record {
  limits = is_set wcet low high;
  order_is = is_order wcet low high;
  trees = (stands, tt);
  subject = record { at = refl; vertex = lit< tt; near = lit≤ tt };
}

below : (tuple : List ℕ) → AreBelow tree tuple (0 ∷ []) → tuple ≡ 0 ∷ []
below [] is = absurd is
below (leaf ∷ []) is = ap (λ n. n ∷ []) (sym (one_leaf leaf is.0))
below (leaf ∷ (other ∷ tuple)) is = absurd is.1

-- With 2 ticks the vertex passes at 3, after one tick of the second task.
pub short_passes : VertexPasses (tasks 2) 0 0
short_passes = leaves_pass 2 (tasks 2) order 4 tree (0 ∷ []) 0 0 (posed 2 (lit≤ tt) (lit≤ tt))
    (λ tuple is. (3, subst (λ ks. PassesAt (tasks 2) tree ks 0 0 3) (sym (below tuple is)) at_3))
  where
    at_3 : PassesAt (tasks 2) tree (0 ∷ []) 0 0 3
    at_3 = record { from = lit≤ tt; to = lit≤ tt; passes = omega (arith, value_is 3 (lit≤ tt) (lit≤ tt)) }

none_above : (wcet : ℕ) (walks : ℕ → List ℕ) → requests (tasks wcet) walks 1 2 1 ≡ 0
unfolding requests
none_above wcet walks = refl

higher_passes : (wcet : ℕ) → FirstPass (tasks wcet) order 1
higher_passes wcet zero k v lt at h = subst (λ n. v < vertex_count (graph_at (tasks wcet) n) → VertexPasses (tasks wcet) n v) (same_Some 1 k at) (at_1 v) h
  where
    at_1 : (u : ℕ) → u < 1 → VertexPasses (tasks wcet) 1 u
    at_1 zero l walks are = (1, lit≤ tt, lit≤ tt, omega (arith, none_above wcet walks))
    at_1 (suc u) l walks are = absurd (omega arith)
higher_passes wcet (suc i) k v lt at h = absurd (omega arith)

-- With 4 ticks no time passes: its job misses at 4, and no job misses before.
pub long_misses : IsLegal (tasks 4) (release 0 4 ∷ release 1 1 ∷ [])
    × IsLeastMiss Fixed (jobs_of (tasks 4) (release 0 4 ∷ release 1 1 ∷ [])) (record { task = 0; index = 0; deadline = 4 })
long_misses = subst (λ rs. IsLegal (tasks 4) rs × IsLeastMiss Fixed (jobs_of (tasks 4) rs) (record { task = 0; index = 0; deadline = 4 })) releases
    (leaves_miss requests_miss times_suffice_for_task 2 (tasks 4) order 4 tree (0 ∷ []) 0 0 (posed 4 (lit≤ tt) (lit≤ tt)) (is_constrained 4 (lit≤ tt) (lit≤ tt)) (higher_passes 4)
    (0 ∷ []) (([], (refl, refl)), tt) (λ t p. omega (arith, p.passes, p.to, value_is t p.from p.to)))
