use Rattle.std.proofs.Common.{arith}
use Rattle.drt_worst.specs.Splitting.{search_for}
use Rattle.drt_worst.proofs.Ends.{parts_at}
use Rattle.drt_worst.proofs.Places.{part_take}
use Rattle.drt_worst.proofs.search.deal.Goals.{else-loop-test, then-loop-test+in_ok-split_first+then-not-branch}
use Rattle.drt_worst.proofs.search.deal.Goals as goal

pub split_first-requires-clause-nodes : goal.split_first-requires-clause-nodes
split_first-requires-clause-nodes c k combination at =
    let f = c.args.forest.now in
    let take = part_take f c.requires.take.0 c.args.roots.now combination c.requires.forest
    (parts_at (search_for f 0 0) c.args.roots.now c.loop.dealt.items k combination c.loop.invariant.0.parts at) c.requires.take.1 in
    (take.nodes_are, take.few)

pub loop-preserved : goal.loop-preserved
loop-preserved c = (c.in_ok-split_first.ensures.dealt c.args.roots.now c.loop.invariant.0, omega (arith, c.in_ok-split_first.ensures.few, c.loop.invariant.1))

pub returns-clause-dealt : goal.returns-clause-dealt
returns-clause-dealt c =
    elim c.loop-test.branch [
      | else-loop-test w ↦ rw (w.dealt-is) c.loop.invariant.0
      | then-loop-test+in_ok-split_first+then-not-branch w ↦ rw (w.dealt-is) (w.in_ok-split_first.ensures.dealt c.args.roots.now c.loop.invariant.0)
    ]
