use Rattle.std.proofs.Common.{◌≡◌, length, min, refl}
use Rattle.std.specs.Prelude.{Some, slice_get}
use Rattle.std.proofs.lemmas.Bool.{both_ways}
use Rattle.std.proofs.lemmas.Option.{slice_get_read}
use Rattle.drt_claims.specs.Trees.{higher_count}
use Rattle.drt_check_proofs.proofs.Replays.{has_shape_decides}
use Rattle.drt_check_proofs.proofs.shapes.has_shape.Goals as goal

pub returns-in_ok-can_take_below : goal.returns-in_ok-can_take_below
returns-in_ok-can_take_below c =
    let t = c.index-tasks-proof.result in
    let at : slice_get c.args.tasks.now c.args.proof.now.task ≡ Some t = slice_get_read c.args.tasks.now (length c.args.tasks.now) c.args.proof.now.task t refl
    c.if-proof-tasks.false c.index-tasks-proof.is in
    let width : c.min-width.result ≡ min (higher_count c.args.tasks.now t.priority) (length c.args.trees.now) = cc in
    let decides = has_shape_decides c.args.tasks.now c.args.trees.now c.args.proof.now t c.min-width.result at width in
    let closed = rw c.as_slice-items.ensures at (c.is_closed.ensures.0 c.if-is_closed.true) in
    let below = rw c.as_slice-items.ensures at c.in_ok-can_take_below.ensures in
    (λ e. decides.1 (closed, below.0 e), λ has. below.1 (decides.0 has).1)

pub returns-else-is_closed : goal.returns-else-is_closed
returns-else-is_closed c =
    let t = c.index-tasks-proof.result in
    let at : slice_get c.args.tasks.now c.args.proof.now.task ≡ Some t = slice_get_read c.args.tasks.now (length c.args.tasks.now) c.args.proof.now.task t refl
    c.if-proof-tasks.false c.index-tasks-proof.is in
    let width : c.min-width.result ≡ min (higher_count c.args.tasks.now t.priority) (length c.args.trees.now) = cc in
    let decides = has_shape_decides c.args.tasks.now c.args.trees.now c.args.proof.now t c.min-width.result at width in
    let closed = rw c.as_slice-items.ensures at c.is_closed.ensures in
    (λ e. absurd (both_ways c.is_closed.result c.if-is_closed.false e), λ has. closed.1 (decides.0 has).0)
