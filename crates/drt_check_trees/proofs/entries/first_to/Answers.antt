use Rattle.std.proofs.Common.{arith, rules}
use Rattle.std.specs.Prelude.{nat_lt}
use Rattle.std.proofs.lemmas.Bool.{ltb-false, ltb-true}
use Rattle.std.proofs.lemmas.List.Sorted.{IsPartitionPoint-from_clause}
use Rattle.drt_check_trees.proofs.Dominators.{lower_first}
use Rattle.drt_check_trees.proofs.entries.first_to.Goals as goal

pub returns-clause-before : goal.returns-clause-before
returns-clause-before c =
    let point = IsPartitionPoint-from_clause (λ e. nat_lt e.last c.args.last) _ _ c.partition_point.ensures.partitioned
    (lower_first c.args.entries.now c.args.last c.requires) (λ a r q k. search rules) in
    λ k d l. ltb-true _ _ (point.0 k d (omega arith) l)

pub returns-clause-after : goal.returns-clause-after
returns-clause-after c =
    let point = IsPartitionPoint-from_clause (λ e. nat_lt e.last c.args.last) _ _ c.partition_point.ensures.partitioned
    (lower_first c.args.entries.now c.args.last c.requires) (λ a r q k. search rules) in
    λ k d l m. ltb-false _ _ (point.1 k d l m)
