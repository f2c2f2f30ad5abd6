use Rattle.std.proofs.Common.{arith}
use Rattle.drt_merge.proofs.Entries.{none_gathered, gathered_all}
use Rattle.drt_merge.proofs.gathering.entries_of.Goals as goal

pub vertices-init : goal.vertices-init
vertices-init c = none_gathered c.args.lists.now c.in_ok-entries.entries.items c.in_ok-entries.ensures.items

pub returns : goal.returns
returns c = gathered_all c.args.lists.now c.vertices.vertex c.vertices.entries.items (omega arith) c.vertices.invariant
