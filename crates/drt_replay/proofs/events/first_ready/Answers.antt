use Rattle.std.proofs.Common.{◌≡◌, ◌<◌, length, arith, get_or}
use Rattle.drt_replay.proofs.QueueEvents.{clear_popped, cleared_here}
use Rattle.drt_replay.proofs.events.first_ready.Goals as goal

pub offset_bounds-left-j : goal.offset_bounds-left-j
offset_bounds-left-j c =
    let here : c.in-Some.entry.now.0.place < length c.args.left.now = cleared_here c.args.left.now c.args.ready.now c.loop-entry.ready (length c.args.left.now)
    c.loop-entry.invariant c.requires c.in-Some.entry.now.0 c.in-Some.ensures in
    omega arith

pub bounds-left-j : goal.bounds-left-j
bounds-left-j c = cleared_here c.args.left.now c.args.ready.now c.loop-entry.ready (length c.args.left.now) c.loop-entry.invariant c.requires c.in-Some.entry.now.0 c.in-Some.ensures

pub loop-entry-smaller : goal.loop-entry-smaller
loop-entry-smaller c =
    let over : get_or c.args.left.now c.in-Some.entry.now.0.place 0 ≡ 0 = omega arith in
    (clear_popped c.args.left.now c.args.ready.now c.loop-entry.ready c.pop.new.self c.loop-entry.invariant c.in-Some.entry.now.0 c.in-Some.ensures over c.pop.result c.pop.ensures).1

pub loop-entry-preserved : goal.loop-entry-preserved
loop-entry-preserved c =
    let over : get_or c.args.left.now c.in-Some.entry.now.0.place 0 ≡ 0 = omega arith in
    (clear_popped c.args.left.now c.args.ready.now c.loop-entry.ready c.pop.new.self c.loop-entry.invariant c.in-Some.entry.now.0 c.in-Some.ensures over c.pop.result c.pop.ensures).0
