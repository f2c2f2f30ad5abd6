use Rattle.std.proofs.Common.{refl}
use Rattle.drt_model.specs.Digraph.{vertex_count}
use Rattle.drt_model.specs.Utilisation.{AreDistinct}
use Rattle.drt_ratio.specs.Levels.{IsRepeat}
use Rattle.drt_ratio.proofs.Loops.{gain_found, must_repeat}
use Rattle.drt_ratio.proofs.traces.gaining.Goals as goal

pub unreachable-requires : goal.unreachable-requires
unreachable-requires c =
    let sound = c.keep_limits.ensures in
    let distinct : AreDistinct c.in_ok-walk.walk.items = rw c.as_slice.ensures.value at c.in_default-repeat.ensures in
    must_repeat c.args.graph.now c.args.a c.args.b c.args.levels.now (vertex_count c.args.graph.now) c.in-Some.v c.in_ok-walk.walk.items sound c.requires.tower
    c.requires.count refl sound.some c.in-Some.ensures.0 c.in-Some.ensures.1 c.in_ok-walk.ensures distinct

pub returns : goal.returns
returns c =
    let sound = c.keep_limits.ensures in
    let again : IsRepeat c.in_ok-walk.walk.items c.in-Some-repeat.i c.in-Some-repeat.j = rw c.as_slice.ensures.value at c.in-Some-repeat.ensures in
    rw (c.in_ok-cycle.ensures.items, c.as_slice-2.ensures.value)
    (gain_found c.args.graph.now c.args.a c.args.b c.args.levels.now (vertex_count c.args.graph.now) c.in-Some.v c.in-Some-repeat.i c.in-Some-repeat.j
    c.in_ok-walk.walk.items sound c.requires.tower c.requires.count refl sound.some c.in-Some.ensures.0 c.in-Some.ensures.1 c.in_ok-walk.ensures again)
