-- A yes of EDF: walks with more work than time would be due within the horizon, and there the fronts have room for all.
use Rattle.std.proofs.Common.{ℕ, ◌<◌, ◌≤◌, List, length, ◌⊎◌, inl, inr, ◌∙◌, arith}
use Rattle.std.proofs.lemmas.Bool.{cases_lt}
use Rattle.std.proofs.lemmas.List.{length-map}
use Rattle.drt_model.specs.Constrained.{AreConstrained}
use Rattle.drt_model.specs.Digraph.{digraph_of}
use Rattle.drt_model.specs.Limits.{IsTaskSet}
use Rattle.drt_model.specs.Schedulable.{Schedulable}
use Rattle.drt_model.specs.declared.jobs.Policy.TheVariants.{Edf}
use Rattle.drt_model.specs.declared.tasks.Task.{Task}
use Rattle.drt_busy.specs.Choice.{AreDueBy, AreWalks, efforts}
use Rattle.drt_busy.specs.Decide.{DeadlinesDecide}
use Rattle.drt_graph.proofs.Soundness.{are_graphs}
use Rattle.drt_claims.specs.Claims.{graphs_of}
use Rattle.drt_claims.specs.Fronts.{HasOpenings}
use Rattle.drt_graph.specs.declared.front.FrontEntry.{FrontEntry}
use Rattle.drt_rates.specs.declared.ratio_claim.RatioClaim.{RatioClaim}
use Rattle.drt_claims.proofs.Accepting.{IsEdfYes}
use Rattle.drt_check_fronts.proofs.Eachs.{each_count}
use Rattle.drt_check.proofs.SoundFronts.{all_within}
use Rattle.drt_check.proofs.SoundHorizon.{within_horizon}
use Rattle.drt_check_fronts.proofs.SoundRoom.{room_at}

-- Claimed ratios below one and fronts that are closed and have room within the horizon imply schedulability under EDF.
pub yes_is_sound : DeadlinesDecide → (version : ℕ) (tasks : List Task) → IsTaskSet version tasks → AreConstrained tasks
    → (ratios : List RatioClaim) (fronts : List (List FrontEntry)) → IsEdfYes tasks ratios fronts → Schedulable tasks Edf
yes_is_sound decide version tasks is constrained ratios fronts accepted = (decide version tasks is constrained).1 fits
  where
    fits : (t : ℕ) (walks : ℕ → List ℕ) → AreWalks tasks walks → AreDueBy tasks walks t → efforts tasks walks (length tasks) ≤ t
    fits t walks walk by = go (cases_lt t (efforts tasks walks (length tasks)))
      where
        no_more : t < efforts tasks walks (length tasks) → ⊥
        no_more over =
            let graphs = are_graphs version tasks is constrained in
            let count = each_count (HasOpenings accepted.bound) (graphs_of tasks) fronts accepted.fronts_are.openings ∙ length-map tasks digraph_of in
            let near = within_horizon tasks ratios accepted.bound graphs.sound accepted.claims.per_task accepted.claims.fits accepted.below accepted.is_bound t walks walk by over in
            let within = all_within tasks graphs.sound graphs.constrained accepted.bound t fronts count accepted.fronts_are.openings accepted.fronts_are.closed near walks walk by in
            let room = room_at (graphs_of tasks) fronts accepted.fronts_are.room t in
            omega (arith, over, within, room)

        go : (t < efforts tasks walks (length tasks)) ⊎ (efforts tasks walks (length tasks) ≤ t) → efforts tasks walks (length tasks) ≤ t
        go (inl over) = absurd (no_more over)
        go (inr l) = l
