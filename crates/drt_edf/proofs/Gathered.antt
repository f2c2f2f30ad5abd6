-- Fronts and walks of demand, task by task.
use Rattle.std.proofs.Common.{◌≡◌, ℕ, zero, suc, ◌<◌, List, [], ◌∷◌, ◌++◌, length, get_or, take, refl, ap, arith}
use Rattle.drt_model.specs.Digraph.{Digraph}
use Rattle.drt_graph.specs.Graphs.{graph_of}
use Rattle.drt_graph.specs.declared.front.FrontEntry.{FrontEntry}
use Rattle.drt_sweep.specs.Dues.{sum_due}
use Rattle.drt_rates.specs.Demands.{AreFronts, demands}
use Rattle.drt_horizon.specs.Laws.{AreDue, efforts_together}
use Rattle.drt_edf_fronts.specs.LabelFronts.{IsLabelFront, AreLabelFronts, IsDemandWalk, AreDemandWalks}

-- As many of two lists of one length.
pub taken_count : {A B : Type 0} (xs : List A) (ys : List B) (k : ℕ) → length xs ≡ length ys → length (take k xs) ≡ length (take k ys)
taken_count [] [] zero e = refl
taken_count [] [] (suc k) e = refl
taken_count [] (y ∷ ys) k e = absurd (omega arith)
taken_count (x ∷ xs) [] k e = absurd (omega arith)
taken_count (x ∷ xs) (y ∷ ys) zero e = refl
taken_count (x ∷ xs) (y ∷ ys) (suc k) e = ap suc (taken_count xs ys k (omega arith))

-- One more front.
pub fronts_push : (bound : ℕ) (graphs : List Digraph) (fronts : List (List FrontEntry)) (g : Digraph) (f : List FrontEntry)
    → AreLabelFronts bound graphs fronts → IsLabelFront g bound f → AreLabelFronts bound (graphs ++ g ∷ []) (fronts ++ f ∷ [])
fronts_push bound [] [] g f are is = (is, refl)
fronts_push bound [] (x ∷ fronts) g f are is = absurd (let h = ap length are in omega (arith, h))
fronts_push bound (h ∷ graphs) [] g f are is = absurd are
fronts_push bound (h ∷ graphs) (x ∷ fronts) g f are is = (are.0, fronts_push bound graphs fronts g f are.1 is)

-- The front of the graph of number k.
pub front_at : (bound : ℕ) (graphs : List Digraph) (fronts : List (List FrontEntry)) → AreLabelFronts bound graphs fronts
    → (k : ℕ) → k < length graphs → IsLabelFront (graph_of graphs k) bound (get_or fronts k [])
front_at bound [] fronts are k l = absurd (omega arith)
front_at bound (g ∷ graphs) [] are k l = absurd are
front_at bound (g ∷ graphs) (f ∷ fronts) are zero l = are.0
front_at bound (g ∷ graphs) (f ∷ fronts) are (suc k) l = front_at bound graphs fronts are.1 k (omega arith)

-- There is one for each graph.
pub fronts_count : (bound : ℕ) (graphs : List Digraph) (fronts : List (List FrontEntry)) → AreLabelFronts bound graphs fronts → length fronts ≡ length graphs
fronts_count bound [] fronts are = ap length are
fronts_count bound (g ∷ graphs) [] are = absurd are
fronts_count bound (g ∷ graphs) (f ∷ fronts) are = ap suc (fronts_count bound graphs fronts are.1)

-- One more walk of demand.
pub walks_push : (graphs : List Digraph) (fronts : List (List FrontEntry)) (t : ℕ) (walks : List (List ℕ)) (g : Digraph) (f : List FrontEntry) (w : List ℕ)
    → length fronts ≡ length graphs → AreDemandWalks graphs fronts t walks → IsDemandWalk g f t w → AreDemandWalks (graphs ++ g ∷ []) (fronts ++ f ∷ []) t (walks ++ w ∷ [])
walks_push [] [] t [] g f w e are is = (is, refl)
walks_push [] [] t (x ∷ walks) g f w e are is = absurd (let h = ap length are in omega (arith, h))
walks_push [] (x ∷ fronts) t walks g f w e are is = absurd (omega arith)
walks_push (h ∷ graphs) [] t walks g f w e are is = absurd are
walks_push (h ∷ graphs) (x ∷ fronts) t [] g f w e are is = absurd are
walks_push (h ∷ graphs) (x ∷ fronts) t (y ∷ walks) g f w e are is = (are.0, walks_push graphs fronts t walks g f w (omega arith) are.1 is)

-- Walks of demand are due by the time, and have together the demands of it.
pub walks_due : (graphs : List Digraph) (fronts : List (List FrontEntry)) (t : ℕ) (walks : List (List ℕ)) → AreDemandWalks graphs fronts t walks → AreDue t graphs walks
walks_due [] fronts t [] are = tt
walks_due [] fronts t (w ∷ walks) are = absurd (let h = ap length are in omega (arith, h))
walks_due (g ∷ graphs) [] t walks are = absurd are
walks_due (g ∷ graphs) (f ∷ fronts) t [] are = absurd are
walks_due (g ∷ graphs) (f ∷ fronts) t (w ∷ walks) are = ((are.0.walk_is, are.0.due), walks_due graphs fronts t walks are.1)

pub walks_work : (graphs : List Digraph) (fronts : List (List FrontEntry)) (t : ℕ) (walks : List (List ℕ)) → AreDemandWalks graphs fronts t walks
    → efforts_together graphs walks ≡ demands graphs fronts t
unfolding efforts_together sum_due
walks_work [] fronts t walks are = refl
walks_work (g ∷ graphs) [] t walks are = absurd are
walks_work (g ∷ graphs) (f ∷ fronts) t [] are = absurd are
walks_work (g ∷ graphs) (f ∷ fronts) t (w ∷ walks) are =
    let h = walks_work graphs fronts t walks are.1 in
    omega (arith, h, are.0.all)

-- The fronts are within the bound.
pub fronts_within : (graphs : List Digraph) (bound : ℕ) (fronts : List (List FrontEntry)) → AreLabelFronts bound graphs fronts → AreFronts bound graphs fronts
fronts_within [] bound [] are = tt
fronts_within [] bound (f ∷ fronts) are = absurd (let h = ap length are in omega (arith, h))
fronts_within (g ∷ graphs) bound [] are = absurd are
fronts_within (g ∷ graphs) bound (f ∷ fronts) are = (are.0.ordered.0, fronts_within graphs bound fronts are.1)
