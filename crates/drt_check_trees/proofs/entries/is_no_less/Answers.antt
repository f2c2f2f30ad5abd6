use Rattle.std.proofs.Common.{List, ℕ, [], subst, sym}
use Rattle.drt_claims.specs.Trees.{IsShortWalk}
use Rattle.drt_check_trees.proofs.Dominators.{short_within}
use Rattle.drt_check_trees.proofs.entries.is_no_less.Goals as goal

pub asks_no_less-requires-clause-walk : goal.asks_no_less-requires-clause-walk
asks_no_less-requires-clause-walk c =
    let bound = c.args.bounded.now.bound in
    let g = c.args.bounded.now.graph.now in
    let here : IsShortWalk bound g c.walk_at-walk.result.now
    = subst (λ (w : List ℕ). IsShortWalk bound g w) (sym c.walk_at-walk.ensures) (c.requires.short c.args.entry.number [] c.requires.entry.number) in
    short_within g c.keep_limits.ensures bound c.walk_at-walk.result.now c.requires.bounded.bound here

pub asks_no_less-requires-clause-other : goal.asks_no_less-requires-clause-other
asks_no_less-requires-clause-other c =
    short_within c.args.bounded.now.graph.now c.keep_limits.ensures c.args.bounded.now.bound c.args.other.now c.requires.bounded.bound c.requires.other
