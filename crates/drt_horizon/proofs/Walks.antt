-- The walks behind the demands of fronts.
use Rattle.std.proofs.Common.{◌≡◌, ℕ, suc, ◌+◌, ◌<◌, ◌≤◌, Bool, true, false, cond, List, [], ◌∷◌, All, ◌⊎◌, inl, inr, refl, sym, ap, arith, ◌∙◌}
use Rattle.std.specs.Prelude.{max, nat_le, Ok}
use Rattle.std.proofs.lemmas.Bool.{cases_lt, leb-true}
use Rattle.drt_model.specs.Digraph.{Digraph}
use Rattle.drt_model.specs.Walk.{work, deadline}
use Rattle.drt_graph.specs.Graphs.{AreGraphs}
use Rattle.drt_graph.specs.declared.front.FrontEntry.{FrontEntry}
use Rattle.drt_graph.specs.FrontEntry.{due}
use Rattle.drt_graph.specs.WalkLabel.{demand_of}
use Rattle.drt_graph.proofs.WalkLabels.{parts_of}
use Rattle.drt_sweep.specs.Dues.{sum_due}
use Rattle.drt_demand.specs.Dbf.{dbf_at}
use Rattle.drt_rates.specs.declared.ratio_claim.RatioClaim.{RatioClaim}
use Rattle.drt_graph.proofs.Paths.{work_none}
use Rattle.drt_horizon.specs.declared.answers.Horizon.TheVariants.{Under}
use Rattle.drt_horizon.specs.Given.{AreGiven}
use Rattle.drt_horizon.specs.Plans.{IsHorizonPlan}
use Rattle.drt_rates.specs.Demands.{demands}
use Rattle.drt_horizon.specs.Laws.{IsDue, AreDue, efforts_together, IsWalkLabel, AreWalkFronts}
use Rattle.drt_horizon.proofs.Horizons.{horizon_holds}

-- A walk of a graph that is due by t and has that work.
abbrev pub HasDueWalk : Digraph → ℕ → ℕ → Type 0
HasDueWalk g t n = (w : List ℕ) × IsDue g t w × (work g w ≡ n)

label_walk : (g : Digraph) (t r : ℕ) (x : FrontEntry) → IsWalkLabel g x → HasDueWalk g t r → (b : Bool) → nat_le (x.offset + deadline g x.vertex) t ≡ b → HasDueWalk g t (max (cond b x.work 0) r)
label_walk g t r x is rest false e = (rest.0, rest.1, rest.2 ∙ plain r)
  where
    plain : (n : ℕ) → n ≡ max 0 n
    plain n = grind arith
label_walk g t r x is rest true e = go (cases_lt x.work r)
  where
    near : due g x ≤ t
    near = leb-true (x.offset + deadline g x.vertex) t e

    less : (a b : ℕ) → a < b → b ≡ max a b
    less a b l = grind arith

    more : (a b : ℕ) → b ≤ a → a ≡ max a b
    more a b l = grind arith

    go : (x.work < r) ⊎ (r ≤ x.work) → HasDueWalk g t (max x.work r)
    go (inl l) = (rest.0, rest.1, rest.2 ∙ less x.work r l)
    go (inr l) =
        let label = is.2 in
        let same : due g x ≡ due g (demand_of g is.0 is.1) = ap (due g) label.is in
        (is.0 ∷ is.1, ((label.is_vertex, label.path), omega (arith, near, same)), sym (parts_of label).works ∙ more x.work r l)

front_walk : (g : Digraph) (t : ℕ) (front : List FrontEntry) → All (IsWalkLabel g) front → HasDueWalk g t (dbf_at g front t)
front_walk g t [] all = ([], (tt, omega arith), work_none g)
front_walk g t (x ∷ front) all =
    label_walk g t (dbf_at g front t) x (all 0 x (omega arith)) (front_walk g t front (λ k d l. all (suc k) d (omega arith))) (nat_le (x.offset + deadline g x.vertex) t) refl

front_walks : (graphs : List Digraph) (fronts : List (List FrontEntry)) (t : ℕ) → AreWalkFronts graphs fronts → (walks : List (List ℕ)) × AreDue t graphs walks
    × (efforts_together graphs walks ≡ demands graphs fronts t)
unfolding efforts_together sum_due
front_walks [] [] t are = ([], tt, refl)
front_walks [] (f ∷ fronts) t are = absurd are
front_walks (g ∷ graphs) [] t are = absurd are
front_walks (g ∷ graphs) (f ∷ fronts) t are =
    let w = front_walk g t f are.0 in
    let r = front_walks graphs fronts t are.1 in
    (w.0 ∷ r.0, (w.1, r.1), omega (arith, w.2, r.2))

-- A time with too much demand is within the horizon.
pub demands_within : (graphs : List Digraph) (proofs : List RatioClaim) → AreGraphs graphs → AreGiven graphs proofs → (bound : ℕ)
    → IsHorizonPlan graphs proofs (Ok (Under bound)) → (fronts : List (List FrontEntry)) → AreWalkFronts graphs fronts → (t : ℕ) → t < demands graphs fronts t → t ≤ bound
demands_within graphs proofs are given bound plan fronts is t over =
    let w = front_walks graphs fronts t is in
    horizon_holds graphs proofs are given bound plan t w.0 w.1 (omega (arith, w.2, over))
