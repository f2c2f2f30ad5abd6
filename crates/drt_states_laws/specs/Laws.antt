-- What claimed tails and states say of the walks of the tasks of higher priority.
use Rattle.std.specs.Prelude.{ℕ, ◌+◌, ◌<◌, ◌≤◌, List, [], ◌∷◌, All}
use Rattle.std.specs.List.{AllZip}
use Rattle.drt_model.specs.Digraph.{Digraph, IsSoundGraph, vertex_count}
use Rattle.drt_model.specs.Walk.{IsPath, request, IsWalk, request_of}
use Rattle.drt_states.specs.declared.claims.StateClaim.{StateClaim}
use Rattle.drt_states.specs.declared.claims.TailClaim.{TailClaim}
use Rattle.drt_states.specs.States.{AreStates, HaveDominatedChildren, HavePassingTimes}
use Rattle.drt_states.specs.Tails.{BoundsWalks, EachTail, IsTail, Place, curve_of, graphs_of_places, value_before}

-- What walks, one of each graph, ask for before t together, each first release at 0.
unfoldable pub asked_together : List Digraph → List (List ℕ) → ℕ → ℕ
asked_together [] walks t = 0
asked_together (g ∷ graphs) [] t = 0
asked_together (g ∷ graphs) (walk ∷ walks) t = request_of g walk t + asked_together graphs walks t

-- Where a tail of a graph keeps its rules up to a bound, the function of each vertex is, up to the bound, no less than what a walk
-- that starts there asks for.
abbrev pub TailsBound : Type 0
TailsBound =
    (bound : ℕ) (g : Digraph) (tail : TailClaim) → IsSoundGraph g → IsTail bound g tail → BoundsWalks bound g tail
    → (u : ℕ) (vs : List ℕ) (t : ℕ) → u < vertex_count g → IsPath g u vs → 1 ≤ t → t ≤ bound
    → request g u vs t ≤ value_before (curve_of tail u) t

-- There is one walk of each place's graph. (The empty list stands for no walk.)
abbrev pub AreWalksOf : List Place → List (List ℕ) → Type 0
AreWalksOf places walks = AllZip (λ p walk. IsWalk p.graph walk) places walks

-- Where the tails of some places keep their rules, up to the deadline at least, and states over them keep theirs, for a job that
-- needs so much and times up to n: for all walks, one of each place's graph, some t up to n has room for the job and for what the
-- walks ask for before t.
abbrev pub StatesPass : Type 0
StatesPass =
    (places : List Place) (tails : List TailClaim) (wcet deadline n : ℕ) (states : List StateClaim)
    → All (λ p. IsSoundGraph p.graph) places → All (λ p. deadline ≤ p.bound) places
    → EachTail IsTail places tails → EachTail BoundsWalks places tails
    → AreStates (graphs_of_places places) states → n ≤ deadline
    → HavePassingTimes n wcet tails states → HaveDominatedChildren (graphs_of_places places) deadline states
    → (walks : List (List ℕ)) → AreWalksOf places walks
    → (t : ℕ) × (1 ≤ t) × (t ≤ n) × (wcet + asked_together (graphs_of_places places) walks t ≤ t)
