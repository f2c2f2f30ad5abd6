use Rattle.std.proofs.Common.{rules, refl}
use Rattle.std.specs.Prelude.{codes}
use Rattle.drt_evidence.proofs.Leaves.{plain_word}
use Rattle.drt_evidence.proofs.Parts.{two_first, two_second, two_read}
use Rattle.drt_evidence.proofs.Records.{tree_parts}
use Rattle.drt_evidence.proofs.reading.blocks.read_tree.Goals as goal

pub read_counted-requires : goal.read_counted-requires
read_counted-requires c = plain_word (codes "tree") refl

pub read_counted-requires-2 : goal.read_counted-requires-2
read_counted-requires-2 c = plain_word (codes "pairs") refl

pub returns-in_err-walks-clause-stops : goal.returns-in_err-walks-clause-stops
returns-in_err-walks-clause-stops c = let h = two_first tree_parts c.in_err-walks.ensures.stops in search rules

pub returns-in_err-pairs-clause-stops : goal.returns-in_err-pairs-clause-stops
returns-in_err-pairs-clause-stops c = let h = two_second tree_parts c.in_ok-walks.ensures.read c.in_err-pairs.ensures.stops in search rules

pub returns-clause-read : goal.returns-clause-read
returns-clause-read c = two_read tree_parts c.in_ok-walks.ensures.read c.in_ok-pairs.ensures.read
