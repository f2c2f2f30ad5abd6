use Rattle.drt_check_trees.proofs.Dominators.{short_within}
use Rattle.drt_check_trees.proofs.entries.entry_of.Goals as goal

pub measure-extent-requires-clause-within : goal.measure-extent-requires-clause-within
measure-extent-requires-clause-within c =
    short_within c.args.bounded.now.graph.now c.keep_limits.ensures c.args.bounded.now.bound c.args.walk.now c.requires.bounded.bound c.requires.short

pub digest_of-requires-clause-within : goal.digest_of-requires-clause-within
digest_of-requires-clause-within c =
    short_within c.args.bounded.now.graph.now c.keep_limits.ensures c.args.bounded.now.bound c.args.walk.now c.requires.bounded.bound c.requires.short
