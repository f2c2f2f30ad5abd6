use Rattle.std.proofs.Common.{◌≡◌, sym, subst}
use Rattle.drt_model.specs.Misses.{IsJob}
use Rattle.drt_replay.specs.Board.{Shown, IsFinishSoFar}
use Rattle.drt_replay.proofs.board.Board.finish_time.Goals as goal

pub returns : goal.returns
returns c =
    let b = c.self.inside in
    let shown : Shown = record { policy = b.policy; jobs = b.jobs; ticks = b.ticks } in
    let is : shown ≡ c.args.self.now = c.self.view_is in
    λ j h.
    let e = c.place_of.ensures.only j (subst (λ s. IsJob s.jobs c.args.task c.args.index j) (sym is) h) in
    subst (λ k. IsFinishSoFar c.args.self.now.policy c.args.self.now.jobs c.args.self.now.ticks k c.finish_at.result) (sym e) c.finish_at.ensures
