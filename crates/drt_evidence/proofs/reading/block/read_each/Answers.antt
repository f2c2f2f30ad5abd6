use Rattle.std.proofs.Common.{rules, sym, subst, ◌+◌}
use Rattle.drt_evidence.specs.Blocks.{AreSoMany, ReadsBlock, in_turn}
use Rattle.drt_evidence.proofs.Blocks.{each_more, each_stop}
use Rattle.drt_evidence.proofs.reading.block.read_each.Goals as goal

pub returns-in_err-block-clause-stops : goal.returns-in_err-block-clause-stops
returns-in_err-block-clause-stops g c =
    let some = g.met.B.Block.some in
    let h = each_stop c.args.count c.loop-test.true some.0 some.1 c.loop.invariant c.in_err-block.ensures.stops in
    search rules

pub loop-preserved : goal.loop-preserved
loop-preserved g c =
    let h = each_more c.loop.invariant c.in_ok-block.ensures.read in
    subst (λ xs. ReadsBlock (in_turn g.B.Block.block) (AreSoMany (c.loop.counter + 1) g.B.Block.is_stated) c.args.text.now.rest.now xs c.read.new.text.rest.now) (sym c.in_ok-push.ensures.items) h
