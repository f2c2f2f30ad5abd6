-- A vertex whose states keep the rules of a search passes for all walks.
use Rattle.std.proofs.Common.{◌≡◌, ℕ, ◌+◌, ◌≤◌, List, [], ◌∷◌, length, map, refl, sym, ap, subst, arith}
use Rattle.std.specs.List.{All, AllByRecursion, AllZip}
use Rattle.std.proofs.lemmas.List.Elements.{All-from_recursion, All-map, recursion_from_All}
use Rattle.drt_model.specs.declared.tasks.Task.{Task}
use Rattle.drt_model.specs.Digraph.{Digraph, IsSoundGraph}
use Rattle.drt_model.specs.Limits.{IsTaskSet}
use Rattle.drt_model.specs.Walk.{deadline, wcet, IsWalk}
use Rattle.drt_graph.proofs.Soundness.{all_sound}
use Rattle.drt_busy.specs.Choice.{graph_at, no_task, task_at}
use Rattle.drt_states.specs.declared.claims.StateClaim.{StateClaim}
use Rattle.drt_states.specs.declared.claims.TailClaim.{TailClaim}
use Rattle.drt_states.specs.States.{AreStates, HaveDominatedChildren, HavePassingTimes}
use Rattle.drt_states.specs.Tails.{BoundsWalks, EachTail, IsTail, Place, graphs_of_places}
use Rattle.drt_states_laws.specs.Laws.{AreWalksOf, StatesPass, asked_together}
use Rattle.drt_sp.specs.Choices.{VertexPasses}
use Rattle.drt_fixed_task.specs.Higher.{higher_tasks}
use Rattle.drt_fixed_task.specs.Tails.{AreTails}
use Rattle.drt_fixed_task.proofs.HigherTasks.{asked_is, higher_all}
use Rattle.drt_fixed_task.proofs.Lists.{each_zip}

module _ (bound : ℕ) where
  -- Graphs as places with one bound.
  abbrev places_of : List Digraph → List Place
  places_of gs = map (λ g. record { graph = g; bound = bound }) gs

  places_graphs : (gs : List Digraph) → graphs_of_places (places_of gs) ≡ gs
  places_graphs [] = refl
  places_graphs (g ∷ gs) = ap (λ hs. g ∷ hs) (places_graphs gs)

  places_sound : (gs : List Digraph) → AllByRecursion IsSoundGraph gs → AllByRecursion (λ (p : Place). IsSoundGraph p.graph) (places_of gs)
  places_sound [] all = tt
  places_sound (g ∷ gs) all = (all.0, places_sound gs all.1)

  places_near : (d : ℕ) → d ≤ bound → (gs : List Digraph) → AllByRecursion (λ (p : Place). d ≤ p.bound) (places_of gs)
  places_near d near [] = tt
  places_near d near (g ∷ gs) = (near, places_near d near gs)

  places_tails : (R : ℕ → Digraph → TailClaim → Type 0) (gs : List Digraph) (tails : List TailClaim) → AllZip (R bound) gs tails → EachTail R (places_of gs) tails
  places_tails R [] [] all = tt
  places_tails R [] (tail ∷ tails) all = absurd all
  places_tails R (g ∷ gs) [] all = absurd all
  places_tails R (g ∷ gs) (tail ∷ tails) all = (all.0, places_tails R gs tails all.1)

  places_walks : (gs : List Digraph) (walks : List (List ℕ)) → AllZip IsWalk gs walks → AreWalksOf (places_of gs) walks
  places_walks [] [] all = tt
  places_walks [] (w ∷ walks) all = absurd all
  places_walks (g ∷ gs) [] all = absurd all
  places_walks (g ∷ gs) (w ∷ walks) all = (all.0, places_walks gs walks all.1)

-- Some time up to d has room for so much and for what the walks ask for before it.
abbrev HasTime : List Digraph → List (List ℕ) → ℕ → ℕ → Type 0
HasTime gs walks wcet d = (t : ℕ) × (1 ≤ t) × (t ≤ d) × (wcet + asked_together gs walks t ≤ t)

module _ (bound : ℕ) (gs : List Digraph) (tails : List TailClaim) (are : AreTails bound gs tails) (sound : All IsSoundGraph gs) where
  -- Where the states keep their rules, there is such a time for all walks of the graphs.
  graphs_pass : StatesPass → (wcet d : ℕ) (states : List StateClaim) → d ≤ bound → AreStates gs states → HavePassingTimes d wcet tails states → HaveDominatedChildren gs d states
      → (walks : List (List ℕ)) → AllZip IsWalk gs walks → HasTime gs walks wcet d
  graphs_pass pass wcet d states near opens times children walks each =
      let ps : List Place = places_of bound gs in
      let same : graphs_of_places ps ≡ gs = places_graphs bound gs in
      let sounds : All (λ (p : Place). IsSoundGraph p.graph) ps = All-from_recursion (λ (p : Place). IsSoundGraph p.graph) ps (places_sound bound gs (recursion_from_All IsSoundGraph gs sound)) in
      let nears : All (λ (p : Place). d ≤ p.bound) ps = All-from_recursion (λ (p : Place). d ≤ p.bound) ps (places_near bound d near gs) in
      let found : HasTime (graphs_of_places ps) walks wcet d =
      pass ps tails wcet d d states sounds nears (places_tails bound IsTail gs tails are.rising) (places_tails bound BoundsWalks gs tails are.bounding)
      (subst (λ hs. AreStates hs states) (sym same) opens) (omega arith) times (subst (λ hs. HaveDominatedChildren hs d states) (sym same) children)
      walks (places_walks bound gs walks each) in
      subst (λ hs. HasTime hs walks wcet d) same found

module _ (version : ℕ) (tasks : List Task) (limits : IsTaskSet version tasks) (k v bound : ℕ) (tails : List TailClaim)
    (are : AreTails bound (map (graph_at tasks) (higher_tasks tasks k)) tails) where
  abbrev higher_of : List ℕ
  higher_of = higher_tasks tasks k

  abbrev graphs_above : List Digraph
  graphs_above = map (graph_at tasks) higher_of

  graphs_sound : All IsSoundGraph graphs_above
  graphs_sound =
      let HasSound : ℕ → Type 0 = λ i. IsSoundGraph (graph_at tasks i) in
      let all : All HasSound higher_of = higher_all tasks (task_at tasks k).priority HasSound (length tasks) (λ i l high. all_sound version tasks limits i no_task l) in
      All-map IsSoundGraph (graph_at tasks) higher_of all

  -- So does the vertex.
  pub vertex_passes : StatesPass → (states : List StateClaim) → deadline (graph_at tasks k) v ≤ bound → AreStates graphs_above states
      → HavePassingTimes (deadline (graph_at tasks k) v) (wcet (graph_at tasks k) v) tails states → HaveDominatedChildren graphs_above (deadline (graph_at tasks k) v) states
      → VertexPasses tasks k v
  vertex_passes pass states near opens times children walks walked =
      let p : ℕ = (task_at tasks k).priority in
      let IsOne : ℕ → Type 0 = λ i. IsWalk (graph_at tasks i) (walks i) in
      let all : All IsOne higher_of = higher_all tasks p IsOne (length tasks) (λ i l high. walked i l) in
      let found = graphs_pass bound graphs_above tails are graphs_sound pass (wcet (graph_at tasks k) v) (deadline (graph_at tasks k) v) states near opens times children
      (map walks higher_of) (each_zip IsWalk (graph_at tasks) walks higher_of (recursion_from_All IsOne higher_of all)) in
      let fits = found.3 in
      (found.0, found.1, found.2, omega (arith, fits, asked_is tasks p walks (length tasks) found.0))
