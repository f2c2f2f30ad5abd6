use Rattle.std.proofs.Common.{◌≤◌, ap, subst, length, vec_capacity}
use Rattle.drt_wave.proofs.table.WaveTable.room.Goals as goal

pub returns : goal.returns
returns c =
    let e = c.in_ok-with_capacity.ensures in
    (e.items, subst (λ n. n ≤ vec_capacity c.in_ok-with_capacity.field-0) (ap length c.as_slice.ensures) e.capacity)
