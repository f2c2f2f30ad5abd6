-- How the searches of the tasks' walks end.
use Rattle.std.proofs.Common.{◌≡◌, ℕ, ◌<◌, false, length, sym, ap, arith, ◌∙◌, subst}
use Rattle.drt_model.specs.Digraph.{Digraph}
use Rattle.drt_graph.specs.declared.front.FrontEntry.{FrontEntry}
use Rattle.drt_demand.specs.Demand.{demand_algebra}
use Rattle.drt_table.specs.Drive.{StopsAt}
use Rattle.drt_table.specs.Machine.{IsRun, is_finished, replay, search_of}
use Rattle.drt_table.specs.View.{View, IsTable, setting_of, state_of}
use Rattle.drt_table.specs.declared.step.TableReply.{TableReply}
use Rattle.drt_table.specs.declared.step.TableReply.TheVariants.{Taken, Busy, Finished, Added, Dominated, OutOfRange, Closed, Spent}
use Rattle.drt_edf_fronts.specs.Ends.{IsFull}
use Rattle.drt_edf_fronts.specs.Needs.{table_need}
use Rattle.drt_edf_fronts.proofs.Bounded.{AreShort, AreFew, unfinished_short}

-- A driver that stops before the search is finished has spent the budget.
stops_full : (v : View FrontEntry) (reply : TableReply) → StopsAt demand_algebra v reply → is_finished demand_algebra (setting_of v) (state_of v) ≡ false → length v.log ≡ v.budget
stops_full v (Taken k) stops unfinished = absurd stops
stops_full v (Busy k) stops unfinished = absurd stops
stops_full v Finished stops unfinished = absurd (cc)
stops_full v (Added k) stops unfinished = absurd stops
stops_full v (Dominated k) stops unfinished = absurd stops
stops_full v OutOfRange stops unfinished = absurd stops
stops_full v Closed stops unfinished = absurd stops
stops_full v Spent stops unfinished = sym stops.0

-- The search of a graph that has no wave table spent its budget.
pub full_search : AreShort → AreFew → (g : Digraph) (bound budget : ℕ) (v : View FrontEntry) (reply : TableReply) → setting_of v ≡ search_of g bound budget → IsTable demand_algebra v
    → StopsAt demand_algebra v reply → is_finished demand_algebra (setting_of v) (state_of v) ≡ false → IsFull g bound budget v.log
full_search short few g bound budget v reply setting is stops unfinished =
    let n = unfinished_short short few v is unfinished in
    let u : is_finished demand_algebra (setting_of v) (replay demand_algebra (setting_of v) v.log) ≡ false = ap (λ x. is_finished demand_algebra (setting_of v) x) (sym is.state) ∙ unfinished in
    let full : length v.log ≡ budget = stops_full v reply stops unfinished ∙ ap (λ t. t.budget) setting in
    let need : table_need v.graph v.bound ≡ table_need g bound = ap (λ t. table_need t.graph t.bound) setting in
    let below : budget < table_need g bound = omega (arith, n, full, need) in
    record {
      run = subst (λ t. IsRun demand_algebra t v.log) setting is.run;
      spent = full;
      unfinished = subst (λ t. is_finished demand_algebra t (replay demand_algebra t v.log) ≡ false) setting u;
      short = below;
      shared = λ w. (let enough = w.1 in omega (arith, enough, below));
    }
