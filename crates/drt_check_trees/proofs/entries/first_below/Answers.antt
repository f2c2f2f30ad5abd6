use Rattle.std.proofs.Common.{◌≡◌, inl, inr, true, false, arith, get_or, rules}
use Rattle.std.proofs.lemmas.Bool.{cases_lt}
use Rattle.std.proofs.lemmas.List.Sorted.{IsPartitionPoint-from_clause}
use Rattle.drt_check_trees.specs.Entries.{is_up_to}
use Rattle.drt_check_trees.proofs.Dominators.{more_first, up_to_of, up_to_parts}
use Rattle.drt_check_trees.proofs.entries.first_below.Goals as goal

pub returns-clause-before : goal.returns-clause-before
returns-clause-before c =
    let point = IsPartitionPoint-from_clause (is_up_to c.args.last c.args.work) _ _ c.partition_point.ensures.partitioned
    (more_first c.args.entries.now c.args.last c.args.work c.requires) (λ a r q k. search rules) in
    λ k d l. (up_to_parts c.args.last c.args.work (get_or c.args.entries.now k d) (point.0 k d (omega arith) l)).0

pub returns-clause-after : goal.returns-clause-after
returns-clause-after c =
    let point = IsPartitionPoint-from_clause (is_up_to c.args.last c.args.work) _ _ c.partition_point.ensures.partitioned
    (more_first c.args.entries.now c.args.last c.args.work c.requires) (λ a r q k. search rules) in
    λ k d l m same.
    elim (cases_lt (get_or c.args.entries.now k d).work.0 c.args.work) [
      | inl less ↦ less
      | inr more ↦ (
          let yes : is_up_to c.args.last c.args.work (get_or c.args.entries.now k d) ≡ true
          = up_to_of c.args.last c.args.work (get_or c.args.entries.now k d) (omega (arith, same)) (λ f. more) in
          let no : is_up_to c.args.last c.args.work (get_or c.args.entries.now k d) ≡ false = point.1 k d l m in
          absurd (cc))
    ]
