-- The search of a vertex: what its subject keeps, and what its answer says of the walks of the tasks.
use Rattle.std.proofs.Common.{◌≡◌, ℕ, ◌+◌, ◌<◌, ◌≤◌, Bool, true, false, cond, eqb, List, [], ◌∷◌, ◌++◌, length, map, take, get_or, Result, Ok, Err, IfOk, sym, ap, ◌∙◌, subst, arith}
use Rattle.std.specs.List.{All, AllByRecursion, AllZip}
use Rattle.std.proofs.lemmas.List.{length-map, map-append, take_more}
use Rattle.std.proofs.lemmas.List.Elements.{All-from_recursion, All-weaker}
use Rattle.drt_model.specs.declared.tasks.Task.{Task}
use Rattle.drt_model.specs.Digraph.{Digraph, digraph_of}
use Rattle.drt_model.specs.Limits.{IsTaskSet}
use Rattle.drt_model.specs.Walk.{deadline, wcet}
use Rattle.drt_graph.specs.Graphs.{graph_of}
use Rattle.drt_busy.specs.Choice.{graph_at, task_at}
use Rattle.drt_claims.specs.Claims.{graphs_of}
use Rattle.drt_states.specs.declared.claims.TailClaim.{TailClaim}
use Rattle.drt_states.specs.Tails.{BoundsWalks, IsCurve, IsTail}
use Rattle.drt_states_laws.specs.Laws.{StatesPass}
use Rattle.drt_check_states.specs.Curves.{HasRisingCurves, IsRising}
use Rattle.drt_check_states.specs.Places.{AreTasks, graphs_at}
use Rattle.drt_sp_states.specs.Answers.{IsSearchedAnswer}
use Rattle.drt_sp_states.specs.declared.search.Searched.{Searched}
use Rattle.drt_sp_states.specs.declared.search.Searched.TheVariants.{Passes, Misses, Spent}
use Rattle.drt_fixed_task.specs.Answers.{IsSearched}
use Rattle.drt_fixed_task.specs.Higher.{higher_tasks}
use Rattle.drt_fixed_task.specs.Tails.{AreTails}
use Rattle.drt_fixed_task.proofs.HigherTasks.{higher_all, higher_fewer}
use Rattle.drt_fixed_task.proofs.Lists.{zip_push}
use Rattle.drt_fixed_task.proofs.Passing.{vertex_passes}
use Rattle.drt_fixed_task.proofs.Placed.{placed_are, placed_asked}

-- What follows of an Ok follows of the result.
pub if_ok_more : {A E : Type 0} (P Q : A → Type 0) (r : Result A E) → ((x : A) → P x → Q x) → IfOk r P → IfOk r Q
if_ok_more P Q (Ok x) more is = more x is
if_ok_more P Q (Err e) more is = is

rise : (bound : ℕ) (gs : List Digraph) (tails : List TailClaim) → AllZip (IsTail bound) gs tails → AllByRecursion HasRisingCurves tails
rise bound [] [] all = tt
rise bound [] (tail ∷ tails) all = absurd all
rise bound (g ∷ gs) [] all = absurd all
rise bound (g ∷ gs) (tail ∷ tails) all = (All-weaker (IsCurve bound) IsRising (λ jumps curve. curve.rising) tail.curves all.0.each, rise bound gs tails all.1)

-- The functions of tails rise.
pub tails_rise : (bound : ℕ) (gs : List Digraph) (tails : List TailClaim) → AreTails bound gs tails → All HasRisingCurves tails
tails_rise bound gs tails are = All-from_recursion HasRisingCurves tails (rise bound gs tails are.rising)

-- One tail more.
pub tails_next : (bound : ℕ) (graphs : List Digraph) (tasks : List ℕ) (n : ℕ) (tails more : List TailClaim) (tail : TailClaim) (g : Digraph) → n < length tasks
    → AreTails bound (graphs_at graphs (take n tasks)) tails → g ≡ graph_of graphs (get_or tasks n 0) → IsTail bound g tail → BoundsWalks bound g tail → more ≡ tails ++ tail ∷ []
    → AreTails bound (graphs_at graphs (take (n + 1) tasks)) more
tails_next bound graphs tasks n tails more tail g l are here is bounds push =
    let gs : List Digraph = graphs_at graphs (take n tasks) in
    let x : ℕ = get_or tasks n 0 in
    let both : AreTails bound (gs ++ g ∷ []) (tails ++ tail ∷ []) = record {
      rising = zip_push (IsTail bound) gs tails g tail are.rising is;
      bounding = zip_push (BoundsWalks bound) gs tails g tail are.bounding bounds;
    } in
    let same : graphs_at graphs (take (n + 1) tasks) ≡ gs ++ g ∷ []
    = ap (λ (xs : List ℕ). graphs_at graphs xs) (take_more tasks n 0 l) ∙ (map-append (λ k. graph_of graphs k) (take n tasks) (x ∷ []) ∙ ap (λ (h : Digraph). gs ++ h ∷ []) (sym here)) in
    subst (λ (hs : List Digraph). AreTails bound hs more) (sym same) (subst (λ (ts : List TailClaim). AreTails bound (gs ++ g ∷ []) ts) (sym push) both)

-- The tasks of higher priority have graphs.
pub higher_counted : (tasks : List Task) (k : ℕ) (graphs : List Digraph) (higher : List ℕ) → graphs ≡ graphs_of tasks → higher ≡ higher_tasks tasks k → AreTasks graphs higher
higher_counted tasks k graphs higher same is =
    let long : length graphs ≡ length tasks = ap length same ∙ length-map tasks digraph_of in
    let all : All (λ i. i < length graphs) (higher_tasks tasks k) = higher_all tasks (task_at tasks k).priority (λ i. i < length graphs) (length tasks) (λ i l high. omega (arith, long, l)) in
    subst (λ xs. All (λ i. i < length graphs) xs) (sym is) all

-- They are at most 31.
pub higher_most : (version : ℕ) (tasks : List Task) → IsTaskSet version tasks → (k : ℕ) → k < length tasks → length (higher_tasks tasks k) ≤ 31
higher_most version tasks limits k task = go (eqb version 1) limits.few_tasks
  where
    fewer : length (higher_tasks tasks k) < length tasks
    fewer = higher_fewer tasks (task_at tasks k).priority (length tasks) k task (omega arith)

    go : (b : Bool) → length tasks ≤ cond b 16 32 → length (higher_tasks tasks k) ≤ 31
    go true few = omega (arith, few, fewer)
    go false few = omega (arith, few, fewer)

module _ (version : ℕ) (tasks : List Task) (limits : IsTaskSet version tasks) (k v bound : ℕ) (tails : List TailClaim) where
  answer_says : StatesPass → AreTails bound (map (graph_at tasks) (higher_tasks tasks k)) tails → deadline (graph_at tasks k) v ≤ bound → (answer : Searched)
      → IsSearchedAnswer (map (graph_at tasks) (higher_tasks tasks k)) tails (wcet (graph_at tasks k) v) (deadline (graph_at tasks k) v) answer → IsSearched tasks k v answer
  answer_says pass are near (Passes states) is = vertex_passes version tasks limits k v bound tails are pass states near is.are is.times is.children
  answer_says pass are near (Misses walks) is =
      let p : ℕ = (task_at tasks k).priority in
      record {
        are = placed_are tasks p walks is.each;
        none = λ t one by. omega (arith, is.none t one by, placed_asked tasks p walks is.each t);
      }
  answer_says pass are near Spent is = tt

  -- An answer to a search over the graphs and tails of the tasks of higher priority, for the job of the vertex.
  pub searched : StatesPass → (gs : List Digraph) (w d : ℕ) → gs ≡ map (graph_at tasks) (higher_tasks tasks k) → w ≡ wcet (graph_at tasks k) v → d ≡ deadline (graph_at tasks k) v
      → AreTails bound gs tails → deadline (graph_at tasks k) v ≤ bound → (answer : Searched) → IsSearchedAnswer gs tails w d answer → IsSearched tasks k v answer
  searched pass gs w d same_graphs same_wcet same_deadline are near answer is =
      let all : List Digraph = map (graph_at tasks) (higher_tasks tasks k) in
      let a = subst (λ (hs : List Digraph). IsSearchedAnswer hs tails w d answer) same_graphs is in
      let b = subst (λ (x : ℕ). IsSearchedAnswer all tails x d answer) same_wcet a in
      let c = subst (λ (x : ℕ). IsSearchedAnswer all tails (wcet (graph_at tasks k) v) x answer) same_deadline b in
      answer_says pass (subst (λ (hs : List Digraph). AreTails bound hs tails) same_graphs are) near answer c
