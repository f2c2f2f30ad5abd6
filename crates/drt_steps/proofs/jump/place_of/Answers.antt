use Rattle.std.proofs.Common.{◌≡◌, ℕ, ◌<◌, ◌≤◌, true, false, List, length, ltb, ltb-true, ltb-false, arith, subst, rules}
use Rattle.std.specs.Prelude.{slice_index_or}
use Rattle.std.specs.List.Sorted.{IsPartitionPoint}
use Rattle.std.proofs.lemmas.List.Sorted.{IsPartitionPoint-from_clause, IsPartitionedBy-ltb}
use Rattle.std.proofs.lemmas.Option.{get_or_from_slice_get, slice_get_within}
use Rattle.drt_steps.specs.declared.jump.Jump.{Jump}
use Rattle.drt_steps.proofs.Places.{in_order}
use Rattle.drt_steps.proofs.jump.place_of.Goals as goal

pub returns : goal.returns
returns c =
    let js : List Jump = c.args.jumps.now in
    let i : ℕ = c.partition_point.result in
    let parted = IsPartitionedBy-ltb (λ (j : Jump). j.after) js c.args.t (in_order js c.requires) in
    let point : IsPartitionPoint (λ (y : Jump). ltb y.after c.args.t ≡ true) (λ (y : Jump). ltb y.after c.args.t ≡ false) js i = IsPartitionPoint-from_clause
    (λ (j : Jump). ltb j.after c.args.t) js i c.partition_point.ensures.partitioned parted (λ a r q k. search rules) in
    let bound : i ≤ length js = c.partition_point.ensures.bound in
    record {
      reached = record {
        within = bound;
        before = λ k j e at.
            let w : k < length js = omega arith in
            let is : slice_index_or js k j ≡ j = get_or_from_slice_get js k j j at in
            ltb-true j.after c.args.t (subst (λ (y : Jump). ltb y.after c.args.t ≡ true) is (point.0 k j (omega arith) (omega arith)));
      };
      later = λ j at.
          ltb-false j.after c.args.t (subst (λ (y : Jump). ltb y.after c.args.t ≡ false) (get_or_from_slice_get js i j j at) (point.1 i j (omega arith) (slice_get_within js i j at)));
    }
