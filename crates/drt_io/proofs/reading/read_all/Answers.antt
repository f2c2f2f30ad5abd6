use Rattle.std.proofs.Common.{arith}
use Rattle.std.proofs.lemmas.List.{length-take}
use Rattle.drt_io.proofs.Taking.{takes_over, takes_more_few}
use Rattle.drt_io.proofs.reading.read_all.Goals as goal

pub returns-then-count-room-clause-taken : goal.returns-then-count-room-clause-taken
returns-then-count-room-clause-taken g c =
    takes_over c.args.limit c.in-Ok.count (g.S.Source.left c.args.source.now) (g.S.Source.left c.loop-count.source) (g.S.Source.left c.read.new.self) c.loop-count.bytes.items c.read.new.into
    c.loop-count.invariant.taken c.in-Ok.ensures.bytes.0 c.loop-count.invariant.few (omega (arith, c.in-Ok.ensures.bound))
    (omega (arith, c.in-Ok.ensures.bound, c.read.auto.into, length-take c.min-most.result c.loop-count.buffer, c.min-most.ensures, c.saturating_add.ensures, c.len.ensures, c.loop-count.bytes.ok.0))
    (omega (arith, c.if-count-room.true, c.len.ensures, c.loop-count.bytes.ok.0))

pub returns-then-is_err-clause-taken : goal.returns-then-is_err-clause-taken
returns-then-is_err-clause-taken g c =
    takes_more_few c.args.limit c.in-Ok.count (g.S.Source.left c.args.source.now) (g.S.Source.left c.loop-count.source) (g.S.Source.left c.read.new.self) c.loop-count.bytes.items c.read.new.into
    c.loop-count.invariant.taken c.in-Ok.ensures.bytes.0 c.loop-count.invariant.few (omega (arith, c.in-Ok.ensures.bound))
    (omega (arith, c.if-count-room.false, c.len.ensures, c.loop-count.bytes.ok.0))
