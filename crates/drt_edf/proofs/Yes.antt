-- A yes: fronts without a time of too much demand, within the horizon.
use Rattle.std.proofs.Common.{ℕ, suc, ◌+◌, ◌*◌, ◌<◌, ◌≤◌, List, [], ◌∷◌, All, length, get_or, ◌⊎◌, inl, inr, ap, arith}
use Rattle.std.specs.Prelude.{Ok, ◌^◌}
use Rattle.std.proofs.lemmas.Bool.{cases_lt}
use Rattle.std.proofs.lemmas.List.{get_or_default}
use Rattle.drt_model.specs.declared.tasks.Task.{Task}
use Rattle.drt_model.specs.declared.jobs.Policy.TheVariants.{Edf}
use Rattle.drt_model.specs.Constrained.{AreConstrained}
use Rattle.drt_model.specs.Digraph.{Digraph, IsSoundGraph, vertex_count, out_degree, edge_of}
use Rattle.drt_model.specs.Limits.{IsTaskSet}
use Rattle.drt_model.specs.Schedulable.{Schedulable}
use Rattle.drt_model.specs.Walk.{wcet, deadline, work, span}
use Rattle.drt_busy.specs.Choice.{AreWalks, AreDueBy, efforts}
use Rattle.drt_busy.specs.Decide.{DeadlinesDecide}
use Rattle.drt_graph.specs.Graphs.{AreGraphs}
use Rattle.drt_graph.proofs.Edges.{sep_of_edge, gap_of}
use Rattle.drt_graph.specs.declared.front.FrontEntry.{FrontEntry}
use Rattle.drt_rates.specs.declared.ratio_claim.RatioClaim.{RatioClaim}
use Rattle.drt_ratio.proofs.Optima.{path_sums}
use Rattle.drt_graph.proofs.Paths.{work_cons}
use Rattle.drt_graph.proofs.WalkLabels.{more, parts_of, label_one, label_vertex}
use Rattle.drt_horizon.specs.declared.answers.Horizon.TheVariants.{Under}
use Rattle.drt_rates.specs.Demands.{demands}
use Rattle.drt_horizon.specs.Given.{AreGiven}
use Rattle.drt_horizon.specs.Laws.{HorizonHolds}
use Rattle.drt_horizon.specs.Plans.{IsHorizonPlan}
use Rattle.drt_claims.specs.Claims.{graphs_of}
use Rattle.drt_graph.specs.FrontEntry.{due}
use Rattle.drt_claims.specs.Fronts.{IsOrdered, HasOpenings, IsExtended, IsClosedFront, works_due, HaveRoom}
use Rattle.drt_claims.specs.Ranges.{IsInRangeEntry}
use Rattle.drt_claims.proofs.Accepting.{AreFrontClaims, yes_accepted}
use Rattle.drt_edf.specs.Answers.{IsExactEdfYes}
use Rattle.drt_edf_fronts.specs.LabelFronts.{IsLabelFront, AreLabelFronts}
use Rattle.drt_edf.specs.Walks.{IsWalkEntry, IsExactFront}
use Rattle.drt_edf_fronts.proofs.Prefixes.{walk_more}
use Rattle.drt_edf.proofs.Covered.{all_within}
use Rattle.drt_edf.proofs.Planned.{claims_kept, claims_below, planned_below}
use Rattle.drt_edf.proofs.RatioClaims.{head_of, tail_of}
use Rattle.drt_edf.proofs.Suffixes.{listed, efforts_listed, due_listed}
use Rattle.drt_model.specs.Each.{Each}
use Rattle.drt_model.specs.Numbers.{most_time, most_horizon}

-- The demand has room at each time up to the bound.
abbrev pub HasRoom : List Digraph → List (List FrontEntry) → ℕ → Type 0
HasRoom graphs fronts bound = (s : ℕ) → s ≤ bound → demands graphs fronts s ≤ s

-- The set is schedulable.
pub schedulable : HorizonHolds → DeadlinesDecide → (version : ℕ) (tasks : List Task) → IsTaskSet version tasks → AreConstrained tasks → AreGraphs (graphs_of tasks)
    → (proofs : List RatioClaim) → AreGiven (graphs_of tasks) proofs → (bound : ℕ) → IsHorizonPlan (graphs_of tasks) proofs (Ok (Under bound)) → (fronts : List (List FrontEntry))
    → AreLabelFronts bound (graphs_of tasks) fronts → HasRoom (graphs_of tasks) fronts bound → Schedulable tasks Edf
schedulable holds decide version tasks is constrained graphs proofs given bound plan fronts are room = (decide version tasks is constrained).1 fits
  where
    fits : (t : ℕ) (walks : ℕ → List ℕ) → AreWalks tasks walks → AreDueBy tasks walks t → efforts tasks walks (length tasks) ≤ t
    fits t walks walk due_by = go (cases_lt t (efforts tasks walks (length tasks)))
      where
        near : t < efforts tasks walks (length tasks) → ⊥
        near over =
            let e = efforts_listed tasks walks in
            let d = due_listed tasks walks t walk due_by in
            let l = holds (graphs_of tasks) proofs graphs given bound plan t (listed walks 0 tasks) d (omega (arith, e, over)) in
            let h = all_within (graphs_of tasks) bound t fronts (listed walks 0 tasks) are l d in
            let r = room t l in
            omega (arith, e, over, h, r)

        go : (t < efforts tasks walks (length tasks)) ⊎ (efforts tasks walks (length tasks) ≤ t) → efforts tasks walks (length tasks) ≤ t
        go (inl over) = absurd (near over)
        go (inr l) = l

-- What holds of each front holds of all.
pub each_front : (R : Digraph → List FrontEntry → Type 0) (bound : ℕ) → ((g : Digraph) (f : List FrontEntry) → IsSoundGraph g → IsLabelFront g bound f → R g f)
    → (graphs : List Digraph) (fronts : List (List FrontEntry)) → All IsSoundGraph graphs → AreLabelFronts bound graphs fronts → Each R graphs fronts
each_front R bound h [] [] sound are = tt
each_front R bound h [] (f ∷ fronts) sound are = absurd (let e = ap length are in omega (arith, e))
each_front R bound h (g ∷ graphs) [] sound are = absurd are
each_front R bound h (g ∷ graphs) (f ∷ fronts) sound are =
    (h g f (head_of IsSoundGraph g graphs sound) are.0, each_front R bound h graphs fronts (tail_of IsSoundGraph g graphs sound) are.1)

-- The walk of one vertex is covered.
openings : (bound : ℕ) (g : Digraph) (f : List FrontEntry) → IsSoundGraph g → IsLabelFront g bound f → HasOpenings bound g f
openings bound g f sound is v l near =
    is.covers (record { vertex = v; offset = 0; work = wcet g v }) record { first = v; others = []; label = label_one g v l; within = omega (arith, near) }

-- A walk that goes on by an edge is covered, or due past the bound.
extended : (bound : ℕ) (g : Digraph) (f : List FrontEntry) → IsSoundGraph g → IsLabelFront g bound f → (e : FrontEntry) → IsWalkEntry g bound e → (k : ℕ) → k < out_degree g e.vertex
    → IsExtended bound g f e k
extended bound g f sound is e walk k l = go (cases_lt bound (e.offset + (edge_of g e.vertex k).sep + deadline g (edge_of g e.vertex k).to))
  where
    go : (bound < e.offset + (edge_of g e.vertex k).sep + deadline g (edge_of g e.vertex k).to) ⊎ (e.offset + (edge_of g e.vertex k).sep + deadline g (edge_of g e.vertex k).to ≤ bound)
        → IsExtended bound g f e k
    go (inl far) = inl far
    go (inr near) =
        let v = (edge_of g e.vertex k).to in
        let in_graph : e.vertex < vertex_count g = label_vertex g walk.first walk.others e sound walk.label in
        let q = gap_of g e.vertex v (edge_of g e.vertex k).sep (sep_of_edge g sound e.vertex k in_graph l) in
        let gaps = q.0 in
        let c = is.covers (more g e v) (walk_more g bound e walk v q.1 (omega (arith, gaps, near))) in
        inr (c.0, c.1, c.2, c.3, (c.4.0, omega (arith, gaps, c.4.1), c.4.2))

entry_walk : (bound : ℕ) (g : Digraph) (f : List FrontEntry) → IsLabelFront g bound f → All (IsWalkEntry g bound) f
entry_walk bound g f is k d l = ((is.exact (get_or f k d)).0 (k, l, get_or_default f k (get_or f k d) d l)).label

closed : (bound : ℕ) (g : Digraph) (f : List FrontEntry) → IsSoundGraph g → IsLabelFront g bound f → IsClosedFront bound g f
closed bound g f sound is k d l j m = extended bound g f sound is (get_or f k d) (entry_walk bound g f is k d l) j m

-- At each time at which an entry is due there is room.
has_room : (graphs : List Digraph) (fronts : List (List FrontEntry)) (bound : ℕ) → HasRoom graphs fronts bound → All IsSoundGraph graphs → AreLabelFronts bound graphs fronts → HaveRoom graphs fronts
has_room graphs fronts bound room sound are = each_front (λ g front. All (λ e. works_due graphs fronts (due g e) ≤ due g e) front) bound fits graphs fronts sound are
  where
    fits : (g : Digraph) (f : List FrontEntry) → IsSoundGraph g → IsLabelFront g bound f → All (λ e. works_due graphs fronts (due g e) ≤ due g e) f
    fits g f s is k d l =
        let w = is.ordered.0 k d l in
        let t = due g (get_or f k d) in
        let h = room (due g (get_or f k d)) w.1 in
        h

-- The fronts keep the rules of fronts.
pub fronts_kept : (tasks : List Task) (bound : ℕ) (fronts : List (List FrontEntry)) → AreGraphs (graphs_of tasks) → bound ≤ 2 ^ 40 → AreLabelFronts bound (graphs_of tasks) fronts
    → HasRoom (graphs_of tasks) fronts bound → AreFrontClaims tasks bound fronts
fronts_kept tasks bound fronts graphs near are room = record {
  near = near;
  ordered = each_front (IsOrdered bound) bound (λ g f s is. is.ordered) (graphs_of tasks) fronts graphs.sound are;
  openings = each_front (HasOpenings bound) bound (openings bound) (graphs_of tasks) fronts graphs.sound are;
  closed = each_front (IsClosedFront bound) bound (closed bound) (graphs_of tasks) fronts graphs.sound are;
  room = has_room (graphs_of tasks) fronts bound room graphs.sound are;
}

-- A yes.
pub is_yes : HorizonHolds → DeadlinesDecide → (version : ℕ) (tasks : List Task) → IsTaskSet version tasks → AreConstrained tasks → AreGraphs (graphs_of tasks)
    → (proofs : List RatioClaim) → AreGiven (graphs_of tasks) proofs → (bound : ℕ) → IsHorizonPlan (graphs_of tasks) proofs (Ok (Under bound)) → (fronts : List (List FrontEntry))
    → AreLabelFronts bound (graphs_of tasks) fronts → HasRoom (graphs_of tasks) fronts bound → IsExactEdfYes tasks proofs fronts
is_yes holds decide version tasks is constrained graphs proofs given bound plan fronts are room =
    let below = claims_below proofs (graphs_of tasks) bound plan in
    record {
      schedulable = schedulable holds decide version tasks is constrained graphs proofs given bound plan fronts are room;
      accepted = λ version. yes_accepted (record { version = version; tasks = tasks }) proofs fronts constrained (record {
        claims = claims_kept tasks proofs given plan.0 plan.1 plan.2.0;
        below = below.0;
        bound = bound;
        is_bound = below.1;
        fronts_are = fronts_kept tasks bound fronts graphs (omega (arith, plan.2.2, plan.2.3)) are room;
      });
      bound = bound;
      below = planned_below tasks proofs given bound plan;
      is_bound = below.1;
      exact = each_front (IsExactFront bound) bound (λ g f s is. is.exact) (graphs_of tasks) fronts graphs.sound are;
    }

-- In plain numbers: the work of a walk that is short in time.
short_work : (count spans work : ℕ) → spans ≤ most_horizon → count ≤ spans → work ≤ suc count * most_time → work ≤ 2000000000000000000
short_work count spans work l m n = omega arith

entry_in_range : (g : Digraph) (bound : ℕ) (e : FrontEntry) → IsSoundGraph g → bound ≤ most_horizon → IsWalkEntry g bound e → IsInRangeEntry e
entry_in_range g bound e sound near walk =
    let label = walk.label in
    let parts = parts_of label in
    let in_graph = label_vertex g walk.first walk.others e sound label in
    let sums = path_sums g sound walk.first walk.others label.path in
    let w = work_cons g walk.first walk.others in
    let one = sound.wcet walk.first label.is_vertex in
    record {
      vertex = omega (arith, in_graph, sound.few);
      offset = omega (arith, walk.within, near);
      work = short_work (length walk.others) (span g walk.first walk.others) e.work (omega (arith, walk.within, parts.offset, near)) sums.span_least
          (omega (arith, w, parts.works, sums.work_most, one.1));
    }

-- The entries of a front are in range.
pub front_in_range : (g : Digraph) (bound : ℕ) (f : List FrontEntry) → IsSoundGraph g → bound ≤ most_horizon → IsLabelFront g bound f → All IsInRangeEntry f
front_in_range g bound f sound near is k d l = entry_in_range g bound (get_or f k d) sound near (entry_walk bound g f is k d l)
