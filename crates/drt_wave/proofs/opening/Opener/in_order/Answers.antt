use Rattle.std.proofs.Common.{rules, ◌≡◌, ◌+◌, length, ap, ◌∙◌, arith, length-append}
use Rattle.drt_wave.proofs.OpenedLanes.{opened_more}
use Rattle.drt_wave.proofs.opening.Opener.in_order.Goals as goal

pub vertices-preserved : goal.vertices-preserved
vertices-preserved c =
    let p = c.args.plan.now in let old = c.vertices.invariant in let lanes = c.vertices.lanes.items in
    let begun : 0 + length lanes ≡ c.vertices.vertex = omega (arith, old.count) in
    record {
      opener = c.lane_at.ensures.opener;
      count = ap length c.push_reserved.ensures.items ∙ (length-append lanes _ ∙ ap (λ n. n + 1) old.count);
      room = search (rules, old.room);
      opened = opened_more p 0 _ lanes _ c.vertices.seats.items _ c.in_ok-lane.lane c.in_ok-lane.seat c.push_reserved.ensures.items c.push_reserved-in-vertices.ensures.items old.opened begun
          c.in_ok-lane.ensures.lane c.in_ok-lane.ensures.seat c.in_ok-lane.ensures.fresh;
    }
