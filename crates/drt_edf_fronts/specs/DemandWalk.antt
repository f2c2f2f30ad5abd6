-- The walk of an entry of a front, found backwards over the front.
use Rattle.std.specs.Prelude.{◌≡◌, ℕ, ◌+◌, ◌≤◌, List, [], ◌∷◌, Option, Some, None, Contains, Bool, nat_lt, ◌==◌, ◌&&◌, ◌||◌}
use Rattle.drt_model.specs.Digraph.{Digraph}
use Rattle.drt_model.specs.Walk.{IsEdge, gap, wcet}
use Rattle.drt_graph.specs.declared.front.FrontEntry.{FrontEntry}
use Rattle.drt_graph.specs.FrontEntry.{due}
use Rattle.drt_graph.specs.WalkLabel.{IsLabelOf}
use Rattle.drt_demand.specs.Dbf.{dbf_at}

-- An entry that is due by t and has all the demand of t; none where that is 0.
abbrev pub IsGreatestDue : Digraph → List FrontEntry → ℕ → Option FrontEntry → Type 0
IsGreatestDue g front t None = dbf_at g front t ≡ 0
IsGreatestDue g front t (Some e) = Contains front e × (due g e ≤ t) × (e.work ≡ dbf_at g front t)

-- An edge leads from the vertex of d to that of e, and a walk with the label d that goes on by it has the label e.
pub record IsPrefixLabel (g : Digraph) (d e : FrontEntry) : Type 0 where
  pub edge : IsEdge g d.vertex e.vertex
  pub offset : d.offset + gap g d.vertex e.vertex ≡ e.offset
  pub work : d.work + wcet g e.vertex ≡ e.work

-- The label of vertex u from which an edge leads so to e; none where there is no such label.
abbrev pub IsLabelBefore : Digraph → FrontEntry → ℕ → Option FrontEntry → Type 0
IsLabelBefore g e u None = (d : FrontEntry) → d.vertex ≡ u → IsPrefixLabel g d e → ⊥
IsLabelBefore g e u (Some d) = (d.vertex ≡ u) × IsPrefixLabel g d e

-- The entry of vertex u in the front from which an edge leads so to e; none where there is no such entry.
abbrev pub IsPrefixOf : Digraph → List FrontEntry → FrontEntry → ℕ → Option FrontEntry → Type 0
IsPrefixOf g front e u None = (d : FrontEntry) → Contains front d → d.vertex ≡ u → IsPrefixLabel g d e → ⊥
IsPrefixOf g front e u (Some d) = Contains front d × IsPrefixLabel g d e

-- The list is a walk of the graph that has the label.
abbrev pub IsDemandWalkTo : Digraph → FrontEntry → List ℕ → Type 0
IsDemandWalkTo g e [] = ⊥
IsDemandWalkTo g e (u ∷ others) = IsLabelOf g u others e

-- The entry stands below another place of a front: its vertex is less, or the same and its offset less.
abbrev pub is_below : FrontEntry → ℕ → ℕ → Bool
is_below x v o = nat_lt x.vertex v || (x.vertex == v && nat_lt x.offset o)
