-- What the search of a task's walks gives: a front.
use Rattle.std.specs.Prelude.{◌≡◌, ℕ, ◌≤◌, List, [], ◌∷◌, Any}
use Rattle.drt_model.specs.Digraph.{Digraph}
use Rattle.drt_model.specs.Walk.{work, IsWalk, due_of}
use Rattle.drt_graph.specs.declared.front.FrontEntry.{FrontEntry}
use Rattle.drt_demand.specs.Dbf.{dbf_at}
use Rattle.drt_claims.specs.Fronts.{IsOrdered}
use Rattle.drt_graph.specs.FrontEntry.{Covers}
use Rattle.drt_wave.specs.Fronts.{IsWalkEntry, IsExactFront}

-- The labels stand in order, are exactly those that no other label of a walk due within the bound covers, and cover each such walk.
pub record IsLabelFront (g : Digraph) (bound : ℕ) (front : List FrontEntry) : Type 0 where
  pub ordered : IsOrdered bound g front
  pub exact : IsExactFront bound g front
  pub covers : (e : FrontEntry) → IsWalkEntry g bound e → Any (Covers e.vertex e.offset e.work) front

-- Such a front for each graph, in order.
abbrev pub AreLabelFronts : ℕ → List Digraph → List (List FrontEntry) → Type 0
AreLabelFronts bound [] fronts = fronts ≡ []
AreLabelFronts bound (g ∷ graphs) [] = ⊥
AreLabelFronts bound (g ∷ graphs) (f ∷ fronts) = IsLabelFront g bound f × AreLabelFronts bound graphs fronts

-- A walk of the graph, as the list of its vertices, that is due by t and has all the demand of t; empty where there is none.
pub record IsDemandWalk (g : Digraph) (front : List FrontEntry) (t : ℕ) (walk : List ℕ) : Type 0 where
  pub walk_is : IsWalk g walk
  pub due : due_of g walk ≤ t
  pub all : work g walk ≡ dbf_at g front t

-- Such a walk for each graph, in order.
abbrev pub AreDemandWalks : List Digraph → List (List FrontEntry) → ℕ → List (List ℕ) → Type 0
AreDemandWalks [] fronts t walks = walks ≡ []
AreDemandWalks (g ∷ graphs) [] t walks = ⊥
AreDemandWalks (g ∷ graphs) (f ∷ fronts) t [] = ⊥
AreDemandWalks (g ∷ graphs) (f ∷ fronts) t (w ∷ walks) = IsDemandWalk g f t w × AreDemandWalks graphs fronts t walks
