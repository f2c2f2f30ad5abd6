use Rattle.std.proofs.Common.{◌<◌, arith, subst}
use Rattle.drt_steps.specs.declared.jump.Jump.{Jump}
use Rattle.drt_steps.proofs.Places.{place_level, front_is, front_before}
use Rattle.drt_steps.proofs.jump.level_since.Goals as goal

pub returns-then-place-eq0-clause-level : goal.returns-then-place-eq0-clause-level
returns-then-place-eq0-clause-level c s late le =
    place_level c.args.jumps.now s c.args.t c.place_of-place.result c.requires.order c.place_of-place.ensures le (λ k j e at. absurd (omega (arith, e, c.if-place-eq0.true)))

pub returns-clause-before : goal.returns-clause-before
returns-clause-before c = front_before c.args.jumps.now c.args.t c.place_of-place.result c.place_of-place.ensures.reached c.if-place-eq0.false

pub returns-clause-level : goal.returns-clause-level
returns-clause-level c s late le =
    place_level c.args.jumps.now s c.args.t c.place_of-place.result c.requires.order c.place_of-place.ensures le
    (λ k j e at. subst (λ (y : Jump). y.after < s) (front_is c.args.jumps.now c.place_of-place.result k j e at) late)
