use Rattle.std.proofs.Common.{rules, sym, subst}
use Rattle.drt_evidence.specs.Blocks.{ReadsBlock, count_and_blocks}
use Rattle.drt_evidence.specs.LineForms.{AreItemsCounted}
use Rattle.drt_evidence.proofs.Blocks.{count_stop, counted_stop, counted_read}
use Rattle.drt_evidence.proofs.reading.block.read_counted.Goals as goal

pub returns-in_err-count-clause-stops : goal.returns-in_err-count-clause-stops
returns-in_err-count-clause-stops g c =
    let some = g.met.B.Block.some in
    let h = count_stop g.B.Block.block g.B.Block.is_stated c.args.word.now some.0 some.1 c.in_err-count.ensures.stops in
    search rules

pub returns-in_err-blocks-clause-stops : goal.returns-in_err-blocks-clause-stops
returns-in_err-blocks-clause-stops g c =
    let h = counted_stop g.B.Block.block g.B.Block.is_stated c.args.word.now c.in_ok-count.ensures.read c.in_err-blocks.ensures.stops in
    search rules

pub returns-clause-read : goal.returns-clause-read
returns-clause-read g c =
    let h = counted_read g.B.Block.block g.B.Block.is_stated c.args.word.now c.in_ok-count.ensures.read c.in_ok-blocks.ensures.read in
    subst (λ xs. ReadsBlock (count_and_blocks c.args.word.now g.B.Block.block) (AreItemsCounted g.B.Block.is_stated) c.args.text.now.rest.now xs
    c.read_each.new.text.rest.now) (sym c.from_vec.ensures) h
