-- One more span is printed, behind the events up to its start.
use Rattle.std.proofs.Common.{◌≡◌, ◌++◌, drop, arith}
use Rattle.std.proofs.lemmas.List.{drop_more}
use Rattle.std.proofs.lemmas.Result.{on_ok_weaker}
use Rattle.drt_file.specs.trusted.Canonical.{written}
use Rattle.drt_timeline.specs.Joining.{span_at}
use Rattle.drt_timeline.specs.Text.{event_lines}
use Rattle.drt_timeline.proofs.PrintLemmas.{span_step, spans_end}
use Rattle.drt_timeline.proofs.text.push_lines.Goals as goal

pub loop-span-preserved : goal.loop-span-preserved
loop-span-preserved c =
    let spans = c.args.spans.now in
    let i = c.loop-span.span-index in
    record {
      within = c.in_ok-next.ensures.within;
      printed = span_step c.args.names.now.tasks c.args.names.now.releases spans i (span_at spans i) (drop_more spans i _ c.loop-span-test.true)
          (drop c.loop-span.next c.args.events.now) (drop c.in_ok-next.next c.args.events.now) c.in_ok-next.ensures.printed.rest
          c.loop-span.text.items c.push_events_until.new.text.items c.push_span.new.text.items _ c.in_ok-next.ensures.printed.text c.in_ok-push_span.ensures c.loop-span.invariant.printed;
    }

pub returns : goal.returns
returns c =
    let tasks = c.args.names.now.tasks in
    let releases = c.args.names.now.releases in
    let rest = drop c.loop-span.next c.args.events.now in
    on_ok_weaker c.push_events_from.result
    (λ (p : c.push_events_from.new.text.items ≡ c.loop-span.text.items ++ written (event_lines tasks releases rest)).
    spans_end tasks releases c.args.spans.now c.loop-span.span-index (omega arith) rest c.loop-span.text.items c.push_events_from.new.text.items _ p c.loop-span.invariant.printed)
    c.push_events_from.ensures
