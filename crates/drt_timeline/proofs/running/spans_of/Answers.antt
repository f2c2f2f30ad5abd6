-- The spans grow by the ticks of the job that ran.
use Rattle.std.proofs.Common.{◌≡◌, ℕ, ◌<◌, ◌≤◌, Some, length, sym, ap, ◌∙◌, subst, arith}
use Rattle.drt_model.specs.Trace.{pick}
use Rattle.drt_model.proofs.MachineLemmas.{in_range, pick_pending}
use Rattle.drt_replay.specs.Board.{Shown}
use Rattle.drt_timeline.specs.Joining.{IsSpanGrown}
use Rattle.drt_timeline.specs.Spans.{AreSpans}
use Rattle.drt_timeline.proofs.SpanLemmas.{spans_grown}
use Rattle.drt_timeline.proofs.running.spans_of.Goals as goal

pub loop-board-preserved-in-Continue-1 : goal.loop-board-preserved-in-Continue-1
loop-board-preserved-in-Continue-1 c =
    let b : Shown = c.loop-board.board in
    let after : Shown = c.run_to_change.new.self in
    let m = after.ticks in
    let j = c.in-Some.job in
    let spans = c.loop-board.spans.items in
    let new = c.push_span.new.spans.items in
    let kept : after ≡ record b { ticks = m } = c.in-Some.ensures.kept in
    let forward : b.ticks < m = c.in-Some.ensures.forward in
    let ran : (i : ℕ) → b.ticks ≤ i → i < m → pick b.policy b.jobs i ≡ Some j = c.in-Some.ensures.ran in
    let here : j < length b.jobs = in_range b.policy b.jobs b.ticks j (pick_pending b.policy b.jobs b.ticks j (ran b.ticks (omega arith) forward)) in
    let grown : IsSpanGrown spans (record { start = b.ticks; end = m; job = j }) new
    = subst (λ e. IsSpanGrown spans (record { start = b.ticks; end = e; job = j }) new) c.ticks-end.ensures
    (subst (λ s. IsSpanGrown spans (record { start = s; end = c.ticks-end.result; job = j }) new) c.ticks-start.ensures c.in_ok-push_span.ensures) in
    let are = spans_grown b.policy b.jobs b.ticks m j forward here ran spans c.loop-board.invariant.spans new grown in
    record {
      policy = ap (λ (s : Shown). s.policy) kept ∙ c.loop-board.invariant.policy;
      jobs = ap (λ (s : Shown). s.jobs) kept ∙ c.loop-board.invariant.jobs;
      in_time = c.in-Some.ensures.in_time;
      spans = subst (λ (s : Shown). AreSpans s.policy s.jobs s.ticks new) (sym kept) are;
    }
