use Rattle.std.proofs.Common.{◌≡◌, ◌<◌, ◌≤◌, length, get_or, sym, subst, arith}
use Rattle.std.proofs.lemmas.List.{get_or_read}
use Rattle.drt_model.specs.Trace.{IsFinish}
use Rattle.drt_replay.specs.Board.{Shown}
use Rattle.drt_replay.proofs.board.Board.finish_at.Goals as goal

pub returns : goal.returns
returns c =
    let b = c.self.inside in
    let j = c.args.j in
    let end = c.index-2.result.now in
    let shown : Shown = record { policy = b.policy; jobs = b.jobs; ticks = b.ticks } in
    let is : shown ≡ c.args.self.now = c.self.view_is in
    let here : j < length b.jobs = subst (λ s. j < length s.jobs) (sym is) c.requires in
    let left : c.index.result.now ≡ get_or b.progress.left.items j 0 = get_or_read b.progress.left.items j c.index.result.now (omega (arith, here, c.self.invariant.left.as_many)) c.index.ensures 0 in
    let ends : end ≡ get_or b.progress.finishes.items j 0 = get_or_read b.progress.finishes.items j end (omega (arith, here, c.self.invariant.finishes.as_many)) c.index-2.ensures 0 in
    let fact = c.self.invariant.finishes.each j here (omega (arith, left, c.if-index-gt0.false)) in
    subst (λ s. IsFinish s.policy s.jobs j end × (end ≤ s.ticks)) is (subst (λ n. IsFinish b.policy b.jobs j n × (n ≤ b.ticks)) (sym ends) fact)
