use Rattle.std.proofs.Common.{sym, subst, arith}
use Rattle.drt_picture.specs.Scale.{IsInArea}
use Rattle.drt_picture.proofs.ScaleLemmas.{x_left, x_right}
use Rattle.drt_picture.proofs.scale.x_of.Goals as goal

pub overflow_cast-result : goal.overflow_cast-result
overflow_cast-result c =
    omega (arith, c.wide_x_of-place.ensures, x_right c.args.scale.now c.args.time c.requires.scale c.requires.in_time, c.requires.scale.on_page)

pub returns-clause-in_area : goal.returns-clause-in_area
returns-clause-in_area c =
    subst (IsInArea c.args.scale.now) (sym c.wide_x_of-place.ensures)
    (x_left c.args.scale.now c.args.time, x_right c.args.scale.now c.args.time c.requires.scale c.requires.in_time)
