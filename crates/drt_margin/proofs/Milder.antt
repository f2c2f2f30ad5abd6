-- Graphs that differ at most in their execution times: walks, spans and deadlines are the same, and works and requests keep the order.
use Rattle.std.proofs.Common.{◌≡◌, ℕ, zero, suc, ◌+◌, ◌<◌, ◌≤◌, Bool, true, false, cond, List, [], ◌∷◌, length, get_or, map, Some, ◌⊎◌, inl, inr, refl, sym, ap, subst, ◌∙◌, arith}
use Rattle.std.specs.Prelude.{nat_lt}
use Rattle.std.specs.List.{range_with_len}
use Rattle.std.proofs.lemmas.Bool.{cases_eq}
use Rattle.std.proofs.lemmas.List.{length-set, get_or-set_same, get_or-set_other}
use Rattle.drt_model.specs.Digraph.{Digraph, digraph_of, edges_from, no_vertex, vertex_count}
use Rattle.drt_model.specs.Walk.{IsPath, deadline, gap, last_of, or_zero, sep_in, span, wcet, work, requested_from, IsWalk, due_of, request_of}
use Rattle.drt_model.specs.declared.tasks.Edge.{Edge}
use Rattle.drt_model.specs.declared.tasks.Task.{Task}
use Rattle.drt_model.specs.declared.tasks.Vertex.{Vertex}
use Rattle.drt_busy.specs.Choice.{AreDueBy, AreWalks, efforts, graph_at, requests, task_at}
use Rattle.drt_margin.specs.Margin.{timed, timed_task, timed_tasks}
use Rattle.drt_margin.proofs.Timed.{timed_elsewhere, timed_length, timed_there}

-- The second graph is the first with execution times that are no less.
pub record IsMilder (g h : Digraph) : Type 0 where
  pub out : g.out ≡ h.out
  pub count : vertex_count g ≡ vertex_count h
  pub deadlines : (u : ℕ) → deadline g u ≡ deadline h u
  pub times : (u : ℕ) → wcet g u ≤ wcet h u

-- A graph is milder than itself.
pub milder_same : (g h : Digraph) → g ≡ h → IsMilder g h
milder_same g h e = subst (IsMilder g) e (record { out = refl; count = refl; deadlines = λ u. refl; times = λ u. omega arith })

-- A graph with a lesser execution time of a vertex is milder.
pub milder_task : (t : Task) (v e f : ℕ) → v < length t.vertices → e ≤ f → IsMilder (digraph_of (timed_task t v e)) (digraph_of (timed_task t v f))
milder_task t v e f l m =
    let x = get_or t.vertices v no_vertex in
    let count : length (timed_task t v e).vertices ≡ length (timed_task t v f).vertices = length-set t.vertices v (timed x e) ∙ sym (length-set t.vertices v (timed x f)) in
    record {
      out = ap (λ n. map (edges_from t.edges) (range_with_len 0 n)) count;
      count = count;
      deadlines = λ u. same u (cases_eq u v);
      times = λ u. less u (cases_eq u v);
    }
  where
    there : (c : ℕ) → get_or (timed_task t v c).vertices v no_vertex ≡ timed (get_or t.vertices v no_vertex) c
    there c = get_or-set_same t.vertices v (timed (get_or t.vertices v no_vertex) c) no_vertex l

    elsewhere : (c u : ℕ) → (u ≡ v → ⊥) → get_or (timed_task t v c).vertices u no_vertex ≡ get_or t.vertices u no_vertex
    elsewhere c u other = get_or-set_other t.vertices v u (timed (get_or t.vertices v no_vertex) c) no_vertex other

    same : (u : ℕ) → (u ≡ v) ⊎ (u ≡ v → ⊥) → deadline (digraph_of (timed_task t v e)) u ≡ deadline (digraph_of (timed_task t v f)) u
    same u (inl is) = subst (λ w. deadline (digraph_of (timed_task t v e)) w ≡ deadline (digraph_of (timed_task t v f)) w) (sym is)
        (ap (λ (x : Vertex). x.deadline) (there e) ∙ sym (ap (λ (x : Vertex). x.deadline) (there f)))
    same u (inr other) = ap (λ (x : Vertex). x.deadline) (elsewhere e u other ∙ sym (elsewhere f u other))

    less : (u : ℕ) → (u ≡ v) ⊎ (u ≡ v → ⊥) → wcet (digraph_of (timed_task t v e)) u ≤ wcet (digraph_of (timed_task t v f)) u
    less u (inl is) =
        subst (λ w. wcet (digraph_of (timed_task t v e)) w ≤ wcet (digraph_of (timed_task t v f)) w) (sym is)
        (omega (arith, ap (λ (x : Vertex). x.wcet) (there e), ap (λ (x : Vertex). x.wcet) (there f)))
    less u (inr other) = omega (arith, ap (λ (x : Vertex). x.wcet) (elsewhere e u other), ap (λ (x : Vertex). x.wcet) (elsewhere f u other))

module _ (g h : Digraph) (m : IsMilder g h) where
  pub gap_same : (u v : ℕ) → gap g u v ≡ gap h u v
  gap_same u v = ap (λ (out : List (List Edge)). or_zero (sep_in (get_or out u []) v)) m.out

  pub path_same : (u : ℕ) (vs : List ℕ) → IsPath g u vs → IsPath h u vs
  path_same u [] p = tt
  path_same u (v ∷ vs) p =
      (subst (λ (out : List (List Edge)). sep_in (get_or out u []) v ≡ Some (or_zero (sep_in (get_or out u []) v))) m.out p.0, path_same v vs p.1)

  pub path_back : (u : ℕ) (vs : List ℕ) → IsPath h u vs → IsPath g u vs
  path_back u [] p = tt
  path_back u (v ∷ vs) p =
      (subst (λ (out : List (List Edge)). sep_in (get_or out u []) v ≡ Some (or_zero (sep_in (get_or out u []) v))) (sym m.out) p.0, path_back v vs p.1)

  pub span_same : (u : ℕ) (vs : List ℕ) → span g u vs ≡ span h u vs
  unfolding span
  span_same u [] = refl
  span_same u (v ∷ vs) = omega (arith, gap_same u v, span_same v vs)

  pub work_less : (vs : List ℕ) → work g vs ≤ work h vs
  unfolding work
  work_less [] = omega arith
  work_less (v ∷ vs) = omega (arith, m.times v, work_less vs)

  pub walk_same : (vs : List ℕ) → IsWalk g vs → IsWalk h vs
  walk_same [] p = tt
  walk_same (u ∷ vs) p = (omega (arith, p.0, m.count), path_same u vs p.1)

  pub due_same : (vs : List ℕ) → due_of g vs ≡ due_of h vs
  due_same [] = refl
  due_same (u ∷ vs) = omega (arith, span_same u vs, m.deadlines (last_of u vs))

  if_less : (b : Bool) (u : ℕ) → cond b (wcet g u) 0 ≤ cond b (wcet h u) 0
  if_less true u = m.times u
  if_less false u = omega arith

  pub requested_less : (offset u : ℕ) (vs : List ℕ) (t : ℕ) → requested_from g offset u vs t ≤ requested_from h offset u vs t
  unfolding requested_from
  requested_less offset u [] t = if_less (nat_lt offset t) u
  requested_less offset u (v ∷ vs) t =
      let e = gap_same u v in
      let rest : requested_from g (offset + gap g u v) v vs t ≤ requested_from h (offset + gap h u v) v vs t =
      subst (λ n. requested_from g (offset + gap g u v) v vs t ≤ requested_from h (offset + n) v vs t) e (requested_less (offset + gap g u v) v vs t) in
      omega (arith, if_less (nat_lt offset t) u, rest)

  pub request_less : (vs : List ℕ) (t : ℕ) → request_of g vs t ≤ request_of h vs t
  request_less [] t = omega arith
  request_less (u ∷ vs) t = requested_less 0 u vs t

-- The second tasks are the first with execution times that are no less.
pub record AreMilder (fast slow : List Task) : Type 0 where
  pub count : length fast ≡ length slow
  pub priorities : (i : ℕ) → (task_at fast i).priority ≡ (task_at slow i).priority
  pub graphs : (i : ℕ) → IsMilder (graph_at fast i) (graph_at slow i)

-- Tasks with a lesser execution time of a vertex are milder.
pub timed_milder : (tasks : List Task) (k v e f : ℕ) → k < length tasks → v < vertex_count (graph_at tasks k) → e ≤ f → AreMilder (timed_tasks tasks k v e) (timed_tasks tasks k v f)
timed_milder tasks k v e f l m less = record {
  count = timed_length tasks k v e ∙ sym (timed_length tasks k v f);
  priorities = λ i. priority i (cases_eq i k);
  graphs = λ i. graph i (cases_eq i k);
}
  where
    priority : (i : ℕ) → (i ≡ k) ⊎ (i ≡ k → ⊥) → (task_at (timed_tasks tasks k v e) i).priority ≡ (task_at (timed_tasks tasks k v f) i).priority
    priority i (inl is) = rw (is, timed_there tasks k v e l, timed_there tasks k v f l) refl
    priority i (inr other) = rw (timed_elsewhere tasks k v e i other, timed_elsewhere tasks k v f i other) refl

    graph : (i : ℕ) → (i ≡ k) ⊎ (i ≡ k → ⊥) → IsMilder (graph_at (timed_tasks tasks k v e) i) (graph_at (timed_tasks tasks k v f) i)
    graph i (inl is) =
        subst (λ (j : ℕ). IsMilder (graph_at (timed_tasks tasks k v e) j) (graph_at (timed_tasks tasks k v f) j)) (sym is)
        (subst (λ (s : Task). IsMilder (digraph_of s) (graph_at (timed_tasks tasks k v f) k)) (sym (timed_there tasks k v e l))
        (subst (λ (s : Task). IsMilder (digraph_of (timed_task (task_at tasks k) v e)) (digraph_of s)) (sym (timed_there tasks k v f l)) (milder_task (task_at tasks k) v e f m less)))
    graph i (inr other) = milder_same _ _ (ap digraph_of (timed_elsewhere tasks k v e i other ∙ sym (timed_elsewhere tasks k v f i other)))

module _ (fast slow : List Task) (m : AreMilder fast slow) where
  pub walks_same : (walks : ℕ → List ℕ) → AreWalks fast walks → AreWalks slow walks
  walks_same walks are i l = walk_same (graph_at fast i) (graph_at slow i) (m.graphs i) (walks i) (are i (omega (arith, m.count)))

  pub dues_same : (walks : ℕ → List ℕ) (t : ℕ) → AreDueBy fast walks t → AreDueBy slow walks t
  dues_same walks t are i l = omega (arith, due_same (graph_at fast i) (graph_at slow i) (m.graphs i) (walks i), are i (omega (arith, m.count)))

  pub efforts_less : (walks : ℕ → List ℕ) (n : ℕ) → efforts fast walks n ≤ efforts slow walks n
  unfolding efforts
  efforts_less walks zero = omega arith
  efforts_less walks (suc i) = omega (arith, efforts_less walks i, work_less (graph_at fast i) (graph_at slow i) (m.graphs i) (walks i))

  pub requests_less : (walks : ℕ → List ℕ) (p n t : ℕ) → requests fast walks p n t ≤ requests slow walks p n t
  unfolding requests
  requests_less walks p zero t = omega arith
  requests_less walks p (suc i) t = omega (arith, requests_less walks p i t, one (nat_lt (task_at fast i).priority p) (nat_lt (task_at slow i).priority p) (ap (λ n. nat_lt n p) (m.priorities i)))
    where
      one : (b c : Bool) → b ≡ c → cond b (request_of (graph_at fast i) (walks i) t) 0 ≤ cond c (request_of (graph_at slow i) (walks i) t) 0
      one true true e = request_less (graph_at fast i) (graph_at slow i) (m.graphs i) (walks i) t
      one false false e = omega arith
      one true false e = absurd (cc)
      one false true e = absurd (cc)
