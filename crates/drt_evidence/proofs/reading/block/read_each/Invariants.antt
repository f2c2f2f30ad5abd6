use Rattle.drt_evidence.specs.Blocks.{AreSoMany, ReadsBlock, in_turn}
use Rattle.drt_evidence.proofs.reading.block.read_each.Given as goal

abbrev pub invariant-loop : goal.invariant-loop
invariant-loop g l = ReadsBlock (in_turn g.B.Block.block) (AreSoMany l.counter g.B.Block.is_stated) l.initial.text.rest.now l.blocks.items l.text.rest.now
