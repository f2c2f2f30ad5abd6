-- The spans are those of the ticks so far.
use Rattle.std.proofs.Common.{◌≡◌, ◌-◌, ◌≤◌}
use Rattle.drt_timeline.specs.Spans.{AreSpans}
use Rattle.drt_timeline.proofs.running.spans_of.Given as goal

abbrev pub invariant-loop-board : goal.invariant-loop-board
invariant-loop-board l = record {
  policy : l.board.policy ≡ l.initial.board.policy;
  jobs : l.board.jobs ≡ l.initial.board.jobs;
  in_time : l.board.ticks ≤ l.until;
  spans : AreSpans l.board.policy l.board.jobs l.board.ticks l.spans.items;
}

abbrev pub decreases-loop-board : goal.decreases-loop-board
decreases-loop-board l = l.until - l.board.ticks
