-- What fronts of labels say of all walks that are due by a time within the bound.
use Rattle.std.proofs.Common.{◌≡◌, ℕ, zero, suc, ◌+◌, ◌<◌, ◌≤◌, Bool, true, false, cond, List, [], ◌∷◌, length, get_or, ap, arith}
use Rattle.std.specs.Prelude.{max, nat_le}
use Rattle.std.proofs.Math.Nat.{le-max_left, le-max_right}
use Rattle.std.proofs.lemmas.Bool.{le-leb}
use Rattle.drt_model.specs.Digraph.{Digraph}
use Rattle.drt_model.specs.Walk.{last_of, work, deadline}
use Rattle.drt_graph.specs.declared.front.FrontEntry.{FrontEntry}
use Rattle.drt_demand.specs.Dbf.{dbf_at}
use Rattle.drt_graph.proofs.Paths.{work_none}
use Rattle.drt_sweep.specs.Dues.{sum_due}
use Rattle.drt_rates.specs.Demands.{demands}
use Rattle.drt_horizon.specs.Laws.{IsDue, AreDue, efforts_together}
use Rattle.drt_graph.specs.FrontEntry.{due}
use Rattle.drt_graph.specs.WalkLabel.{demand_of}
use Rattle.drt_edf_fronts.specs.LabelFronts.{IsLabelFront, AreLabelFronts}
use Rattle.drt_edf_fronts.proofs.WalkEntries.{walk_entry_is}

most_here : (b : Bool) (w r n : ℕ) → b ≡ true → n ≤ w → n ≤ max (cond b w 0) r
most_here true w r n e l = omega (arith, le-max_left w r)
most_here false w r n e l = absurd (cc)

-- A label that is due by t has at most the demand of t.
pub label_within : (g : Digraph) (front : List FrontEntry) (t n k : ℕ) (e : FrontEntry) → k < length front → get_or front k e ≡ e → due g e ≤ t → n ≤ e.work → n ≤ dbf_at g front t
label_within g [] t n k e l at d m = absurd (omega arith)
label_within g (x ∷ front) t n zero e l at d m =
    let f : x.offset + deadline g x.vertex ≡ due g e = ap (λ y. due g y) at in
    let w : x.work ≡ e.work = ap (λ y. y.work) at in
    most_here (nat_le (x.offset + deadline g x.vertex) t) x.work (dbf_at g front t) n (le-leb (x.offset + deadline g x.vertex) t (omega (arith, f, d))) (omega (arith, w, m))
label_within g (x ∷ front) t n (suc k) e l at d m =
    let h = label_within g front t n k e (omega arith) at d m in
    let r = le-max_right (cond (nat_le (x.offset + deadline g x.vertex) t) x.work 0) (dbf_at g front t) in
    omega (arith, h, r)

-- So has a walk that is due by t.
pub walk_within : (g : Digraph) (bound t : ℕ) (front : List FrontEntry) → IsLabelFront g bound front → t ≤ bound → (w : List ℕ) → IsDue g t w → work g w ≤ dbf_at g front t
walk_within g bound t front is l [] d = rw work_none (omega arith)
walk_within g bound t front is l (u ∷ vs) d =
    let near = d.1 in
    let c = is.covers (demand_of g u vs) (walk_entry_is g bound u vs d.0.0 d.0.1 (omega (arith, near, l))) in
    let same : deadline g c.1.vertex ≡ deadline g (last_of u vs) = ap (deadline g) c.4.0 in
    label_within g front t (work g (u ∷ vs)) c.0 c.1 c.2 c.3 (omega (arith, same, c.4.1, near)) c.4.2

-- Walks of the graphs that are due by t have together at most the demands of t.
pub all_within : (graphs : List Digraph) (bound t : ℕ) (fronts : List (List FrontEntry)) (walks : List (List ℕ))
    → AreLabelFronts bound graphs fronts → t ≤ bound → AreDue t graphs walks → efforts_together graphs walks ≤ demands graphs fronts t
unfolding efforts_together sum_due
all_within [] bound t fronts walks are l d = omega arith
all_within (g ∷ graphs) bound t [] walks are l d = absurd are
all_within (g ∷ graphs) bound t (f ∷ fronts) [] are l d = omega arith
all_within (g ∷ graphs) bound t (f ∷ fronts) (w ∷ walks) are l d =
    let h = walk_within g bound t f are.0 l w d.0 in
    let r = all_within graphs bound t fronts walks are.1 l d.1 in
    omega (arith, h, r)
