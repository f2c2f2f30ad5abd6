use Rattle.std.proofs.lemmas.Bool.{eqb-true, eq-eqb, leb-true, le-leb}
use Rattle.drt_check_fronts.proofs.Orders.{none_before, last_covers, covers_last}
use Rattle.drt_check_fronts.proofs.covering.is_covered.Goals as goal

pub returns-then-after-eq0 : goal.returns-then-after-eq0
returns-then-after-eq0 c =
    let place = c.place_from-after.ensures in
    (λ e. absurd (cc), λ any. absurd (none_before c.args.front.now c.args.vertex c.args.offset c.args.work c.place_from-after.result place.1 c.if-after-eq0.true any))

pub returns-then-last-vertex : goal.returns-then-last-vertex
returns-then-last-vertex c =
    let place = c.place_from-after.ensures in (
      λ e. last_covers c.args.front.now c.args.vertex c.args.offset c.args.work c.place_from-after.result _ place.1 place.0 c.if-after-eq0.false c.if-last-vertex.true (leb-true _ _ e),
      λ any. le-leb _ _ (covers_last c.args.front.now c.requires c.args.vertex c.args.offset c.args.work c.place_from-after.result _ place.1 place.0 any).1,
    )

pub returns-else-last-vertex : goal.returns-else-last-vertex
returns-else-last-vertex c =
    let place = c.place_from-after.ensures in (
      λ e. absurd (c.if-last-vertex.false (eqb-true _ _ e)),
      λ any. eq-eqb _ _ (covers_last c.args.front.now c.requires c.args.vertex c.args.offset c.args.work c.place_from-after.result _ place.1 place.0 any).0,
    )
