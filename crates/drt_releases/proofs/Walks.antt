-- The releases of walks, one after another.
use Rattle.std.proofs.Common.{◌≡◌, ℕ, zero, suc, ◌+◌, ◌<◌, ◌≤◌, List, [], ◌∷◌, ◌++◌, length, drop, All, get_or, refl, sym, ap, subst, arith, ◌∙◌}
use Rattle.std.proofs.Math.Numerals.{add-one}
use Rattle.std.proofs.lemmas.List.{append_assoc, get_or-map, length-map}
use Rattle.std.proofs.lemmas.List.Elements.{All-nil, All-cons, All-append}
use Rattle.drt_model.specs.declared.jobs.Release.{Release}
use Rattle.drt_model.specs.declared.tasks.Task.{Task}
use Rattle.drt_model.specs.Digraph.{Digraph, IsSoundGraph, digraph_of, vertex_count}
use Rattle.drt_model.specs.Walk.{gap, IsPath, deadline, last_of, span, IsWalk, due_of}
use Rattle.drt_graph.specs.Graphs.{AreGraphs, graph_of, no_graph}
use Rattle.drt_graph.proofs.Edges.{target_of}
use Rattle.drt_graph.proofs.Paths.{span_cons}
use Rattle.drt_busy.specs.Choice.{AreDueBy, AreWalks, graph_at, no_task}
use Rattle.drt_busy.specs.WalkReleases.{all_releases, release_at, releases_from, releases_of}
use Rattle.drt_claims.specs.Claims.{graphs_of}
use Rattle.drt_claims.specs.Ranges.{IsInRangeRelease}
use Rattle.drt_releases.specs.Walks.{AreDueWalks}

-- The releases after the first of a walk.
abbrev pub after : Digraph → ℕ → ℕ → ℕ → List ℕ → List Release
after g k x u [] = []
after g k x u (v ∷ vs) = releases_from g k (x + gap g u v) v vs

first_release : (g : Digraph) (k x u : ℕ) (vs : List ℕ) → releases_from g k x u vs ≡ release_at g k x u ∷ after g k x u vs
unfolding releases_from
first_release g k x u [] = refl
first_release g k x u (v ∷ vs) = refl

-- The releases so far of a walk that is due by t, the last of them of vertex u at x, and the walk after it.
pub record IsStep (g : Digraph) (k t : ℕ) (whole items : List Release) (x u : ℕ) (rest : List ℕ) : Type 0 where
  pub here : u < vertex_count g
  pub path : IsPath g u rest
  pub due : x + (span g u rest + deadline g (last_of u rest)) ≤ t
  pub built : items ++ after g k x u rest ≡ whole

-- The first step.
pub started : (g : Digraph) (k t : ℕ) (items : List Release) (u : ℕ) (walk : List ℕ) → IsWalk g walk → due_of g walk ≤ t → 0 < length walk → u ≡ get_or walk 0 u
    → IsStep g k t (items ++ releases_of g k walk) (items ++ release_at g k 0 u ∷ []) 0 u (drop 1 walk)
started g k t items u [] is due some at = absurd (omega arith)
started g k t items u (v ∷ vs) is due some at =
    subst (λ w. IsStep g k t (items ++ releases_from g k 0 v vs) (items ++ release_at g k 0 w ∷ []) 0 w vs) (sym at) (record {
      here = is.0;
      path = is.1;
      due = omega (arith, due);
      built = append_assoc items (release_at g k 0 v ∷ []) (after g k 0 v vs) ∙ ap (λ rs. items ++ rs) (sym (first_release g k 0 v vs));
    })

-- The next one.
pub stepped : (g : Digraph) → IsSoundGraph g → (k t : ℕ) (whole items : List Release) (x u v : ℕ) (rest : List ℕ) → IsStep g k t whole items x u (v ∷ rest)
    → IsStep g k t whole (items ++ release_at g k (x + gap g u v) v ∷ []) (x + gap g u v) v rest
stepped g sound k t whole items x u v rest step =
    let y = x + gap g u v in
    record {
      here = (target_of g sound u v (gap g u v) step.path.0).0;
      path = step.path.1;
      due = omega (arith, step.due, span_cons g u v rest);
      built = append_assoc items (release_at g k y v ∷ []) (after g k y v rest) ∙ (ap (λ rs. items ++ rs) (sym (first_release g k y v rest)) ∙ step.built);
    }

-- One more task.
pub all_more : (tasks : List Task) (walks : ℕ → List ℕ) (n : ℕ) → all_releases tasks walks (n + 1) ≡ all_releases tasks walks n ++ releases_of (graph_at tasks n) n (walks n)
unfolding all_releases
all_more tasks walks n = ap (all_releases tasks walks) (add-one n)

-- No task.
pub all_none : (tasks : List Task) (walks : ℕ → List ℕ) → all_releases tasks walks 0 ≡ []
unfolding all_releases
all_none tasks walks = refl

-- The graph of a task.
pub graph_same : (tasks : List Task) (k : ℕ) → k < length tasks → graph_of (graphs_of tasks) k ≡ graph_at tasks k
graph_same tasks k l = get_or-map digraph_of tasks k no_task no_graph l

-- The walks of a set, by its graphs.
pub due_walks : (tasks : List Task) (graphs : List Digraph) (walks : ℕ → List ℕ) (t : ℕ) → graphs ≡ graphs_of tasks → AreWalks tasks walks → AreDueBy tasks walks t → AreDueWalks graphs walks t
due_walks tasks graphs walks t same are due k l =
    let m : k < length tasks = omega (arith, ap length same, length-map tasks digraph_of) in
    let e : graph_of graphs k ≡ graph_at tasks k = ap (λ gs. graph_of gs k) same ∙ graph_same tasks k m in
    subst (λ g. IsWalk g (walks k) × (due_of g (walks k) ≤ t)) (sym e) (are k m, due k m)

module _ (g : Digraph) (sound : IsSoundGraph g) (k t : ℕ) (few : k ≤ 4294967295) (near : t ≤ 1000000000000000000) where
  one_in_range : (x u : ℕ) → u < vertex_count g → x ≤ t → IsInRangeRelease (release_at g k x u)
  one_in_range x u here le = record { task = few; vertex = omega (arith, sound.few); time = omega arith; need = omega (arith, (sound.wcet u here).1) }

  from_in_range : (x u : ℕ) (vs : List ℕ) → u < vertex_count g → IsPath g u vs → x + (span g u vs + deadline g (last_of u vs)) ≤ t → All IsInRangeRelease (releases_from g k x u vs)
  unfolding releases_from
  from_in_range x u [] here path due = All-cons IsInRangeRelease (release_at g k x u) [] (one_in_range x u here (omega arith)) (All-nil IsInRangeRelease)
  from_in_range x u (v ∷ vs) here path due =
      let to = target_of g sound u v (gap g u v) path.0 in
      let rest = from_in_range (x + gap g u v) v vs to.0 path.1 (omega (arith, span_cons g u v vs)) in
      All-cons IsInRangeRelease (release_at g k x u) (releases_from g k (x + gap g u v) v vs) (one_in_range x u here (omega arith)) rest

  walk_in_range : (walk : List ℕ) → IsWalk g walk → due_of g walk ≤ t → All IsInRangeRelease (releases_of g k walk)
  walk_in_range [] is due = All-nil IsInRangeRelease
  walk_in_range (u ∷ vs) is due = from_in_range 0 u vs is.0 is.1 (omega arith)

-- The releases of walks that are due by t are in range.
pub all_in_range : (tasks : List Task) (walks : ℕ → List ℕ) (t : ℕ) → AreGraphs (graphs_of tasks) → AreWalks tasks walks → AreDueBy tasks walks t
    → t ≤ 1000000000000000000 → (n : ℕ) → n ≤ length tasks → All IsInRangeRelease (all_releases tasks walks n)
unfolding all_releases
all_in_range tasks walks t graphs are due near zero l = All-nil IsInRangeRelease
all_in_range tasks walks t graphs are due near (suc n) l =
    let few : n ≤ 4294967295 = omega (arith, graphs.few, length-map tasks digraph_of) in
    let sound : IsSoundGraph (graph_at tasks n) = subst IsSoundGraph (graph_same tasks n l) (graphs.sound n no_graph (omega (arith, length-map tasks digraph_of))) in
    All-append IsInRangeRelease (all_releases tasks walks n) (releases_of (graph_at tasks n) n (walks n))
    (all_in_range tasks walks t graphs are due near n (omega arith))
    (walk_in_range (graph_at tasks n) sound n t few near (walks n) (are n l) (due n l))
