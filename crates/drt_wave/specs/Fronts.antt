-- Fronts: the labels of walks that no other label covers.
use Rattle.std.specs.Prelude.{◌≡◌, ℕ, ◌≤◌, ◌↔◌, List, Any, Contains}
use Rattle.drt_model.specs.Digraph.{Digraph}
use Rattle.drt_graph.specs.declared.front.FrontEntry.{FrontEntry}
use Rattle.drt_graph.specs.FrontEntry.{due, Covers}
use Rattle.drt_graph.specs.WalkLabel.{IsLabelOf}

-- The entry is the label of a walk whose last job is due within the bound.
pub record IsWalkEntry (g : Digraph) (bound : ℕ) (e : FrontEntry) : Type 0 where
  pub first : ℕ
  pub others : List ℕ
  pub label : IsLabelOf g first others e
  pub within : due g e ≤ bound

-- The entry is one of some labels, and no other of them covers it: none of its vertex has at most its offset and at least its work.
pub record IsNonDominatedEntry (IsLabel : FrontEntry → Type 0) (e : FrontEntry) : Type 0 where
  pub label : IsLabel e
  pub alone : (d : FrontEntry) → IsLabel d → Covers e.vertex e.offset e.work d → d ≡ e

-- The front has exactly those of some labels that no other one covers.
abbrev pub IsFrontOf : (FrontEntry → Type 0) → List FrontEntry → Type 0
IsFrontOf IsLabel front = (e : FrontEntry) → Contains front e ↔ IsNonDominatedEntry IsLabel e

-- The front has exactly the labels, of walks whose last job is due within the bound, that no other one covers.
abbrev pub IsExactFront : ℕ → Digraph → List FrontEntry → Type 0
IsExactFront bound g front = IsFrontOf (IsWalkEntry g bound) front

-- Each of some labels is covered by an entry of the front.
abbrev pub CoversAll : (FrontEntry → Type 0) → List FrontEntry → Type 0
CoversAll IsLabel front = (e : FrontEntry) → IsLabel e → Any (Covers e.vertex e.offset e.work) front
