-- Where the frontier came to an end.
use Rattle.std.proofs.Common.{◌≡◌, Some, refl, sym, subst}
use Rattle.std.specs.Prelude.{slice_get, IsTrue}
use Rattle.drt_worklist.specs.Places.{first}
use Rattle.drt_refine.specs.Combination.{Combination, is_failed}
use Rattle.drt_refine.specs.Drive.{StopsAt}
use Rattle.drt_refine.specs.Machine.{FrontierState, IsHopeless, is_finished, replay}
use Rattle.drt_refine.specs.Settled.{AreSettled}
use Rattle.drt_refine.specs.View.{setting_of, state_of}
use Rattle.drt_sp.proofs.VertexProofs.{proof_of, failure_of, failed_within}
use Rattle.drt_sp.proofs.proving.settle.Goals as goal

pub returns-in_ok-items_of-in-Finished : goal.returns-in_ok-items_of-in-Finished
returns-in_ok-items_of-in-Finished c budget =
    let f = c.args.forest.now in
    let v = c.args.frontier.now in
    let front = c.requires.frontier in
    let stops : IsTrue (is_finished (setting_of f v) (state_of v)) = subst (λ r. StopsAt (setting_of f v) (state_of v) r) c.in-Finished.is c.requires.stops in
    let finished : IsTrue (is_finished (setting_of f v) (replay (setting_of f v) v.log)) = subst (λ (s : FrontierState). IsTrue (is_finished (setting_of f v) s)) front.state stops in (
      proof_of (setting_of f v) (setting_of f v) (replay (setting_of f v) v.log).combinations c.in_ok-items_of-in-Finished.field-0 refl c.in_ok-items_of-in-Finished.ensures.are
          (λ tuple below. c.over_every_interleaving.ensures.finished (setting_of f v) v.log front.forest front.roots front.run finished tuple below),
      c.in_ok-items_of-in-Finished.ensures.in_range.0,
      c.in_ok-items_of-in-Finished.ensures.in_range.1,
    )

pub tuple_of-requires : goal.tuple_of-requires
tuple_of-requires c =
    let f = c.args.forest.now in
    let v = c.args.frontier.now in
    failed_within v.combinations c.in-Failed.id (subst (λ r. StopsAt (setting_of f v) (state_of v) r) c.in-Failed.is c.requires.stops)

pub returns-in_ok-tuple_of-in-Failed : goal.returns-in_ok-tuple_of-in-Failed
returns-in_ok-tuple_of-in-Failed c budget =
    let f = c.args.forest.now in
    let v = c.args.frontier.now in
    let s = setting_of f v in
    let front = c.requires.frontier in
    let settled : AreSettled s (replay s v.log).combinations = c.eager_settles.ensures.settled s v.log front.run c.requires.eager in
    let stops : first is_failed v.combinations ≡ Some c.in-Failed.id = subst (λ r. StopsAt s (state_of v) r) c.in-Failed.is c.requires.stops in
    let failed : first is_failed (replay s v.log).combinations ≡ Some c.in-Failed.id = subst (λ (x : FrontierState). first is_failed x.combinations ≡ Some c.in-Failed.id) front.state stops in
    let x : (x : Combination) × (slice_get (replay s v.log).combinations c.in-Failed.id ≡ Some x) × IsHopeless s x.nodes
    = c.over_every_interleaving.ensures.failed s v.log c.in-Failed.id front.forest front.roots front.run failed in
    failure_of s s (replay s v.log).combinations c.in-Failed.id x.0 c.in_ok-tuple_of-in-Failed.field-0 refl settled x.1 x.2
    (c.in_ok-tuple_of-in-Failed.ensures x.0 (subst (λ (y : FrontierState). slice_get y.combinations c.in-Failed.id ≡ Some x.0) (sym front.state) x.1))
