-- A frontier that is finished shows a time for each tuple.
use Rattle.std.proofs.Common.{◌≡◌, ℕ, sym, subst}
use Rattle.std.specs.Prelude.{IsTrue}
use Rattle.drt_steps.specs.Time.{Passes}
use Rattle.drt_refine.specs.Below.{AreBelow}
use Rattle.drt_refine.specs.Drive.{StopsAt}
use Rattle.drt_refine.specs.Machine.{FrontierSetting, FrontierState, is_finished, replay}
use Rattle.drt_refine.specs.View.{setting_of, state_of}
use Rattle.drt_response_tests.proofs.searches.all_pass.Goals as goal

pub returns-in-Finished : goal.returns-in-Finished
returns-in-Finished g c answers tuple below =
    let f = c.args.forest.now in
    let v = c.in_ok-_frontier._frontier in
    let t : FrontierSetting = record { forest = f; roots = c.args.roots.now; wcet = c.args.wcet; deadline = c.args.deadline; budget = c.with-one.result.effort.budget } in
    let s : FrontierSetting = setting_of f v in
    let same : s ≡ t = c.in_ok-_frontier.ensures.setting in
    let front = c.in_ok-_frontier.ensures.frontier in
    let stops : IsTrue (is_finished s (state_of v)) = subst (λ r. StopsAt s (state_of v) r) c.in-Finished.is c.in_ok-_frontier.ensures.stops in
    let finished : IsTrue (is_finished s (replay s v.log)) = subst (λ (x : FrontierState). IsTrue (is_finished s x)) front.state stops in
    let passed = c.over_every_interleaving.ensures.finished s v.log front.forest front.roots front.run finished tuple
    (subst (λ (x : FrontierSetting). AreBelow x.forest tuple x.roots) (sym same) below) in
    subst (λ (x : FrontierSetting). (n : ℕ) × Passes x.wcet x.deadline x.forest.pool tuple n) same (passed.time, passed.tuple_passes)
