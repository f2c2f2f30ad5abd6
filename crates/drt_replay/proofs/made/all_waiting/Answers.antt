use Rattle.std.proofs.Common.{arith}
use Rattle.drt_replay.proofs.Stretches.{waiting_more}
use Rattle.drt_replay.proofs.made.all_waiting.Goals as goal

pub loop-next-preserved : goal.loop-next-preserved
loop-next-preserved c =
    let more = waiting_more c.args.jobs.now c.loop-next.next c.stretch_end-end.result c.loop-next.waiting.items c.stretch_end-end.ensures.some
    c.stretch_end-end.ensures.within c.stretch_end-end.ensures.ascend c.loop-next.invariant.so_far in
    record {
      within = omega (arith, c.stretch_end-end.ensures.within, c.count-count.ensures);
      so_far = rw c.in_ok-push.ensures.items more;
    }
