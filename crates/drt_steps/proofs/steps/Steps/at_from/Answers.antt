use Rattle.std.proofs.Common.{◌≡◌, ◌≤◌, ◌∙◌, arith}
use Rattle.drt_steps.specs.Values.{value_at}
use Rattle.drt_steps.proofs.Places.{place_within, value_seen, value_small, value_rises}
use Rattle.drt_steps.proofs.steps.Steps.at_from.Goals as goal

pub level_after-requires : goal.level_after-requires
level_after-requires c =
    place_within c.self.inside.bound c.self.inside.base c.self.inside.rises.value.jumps.items c.self.inside.rises.value.levels.items c.jumps_of-jumps.result.now
    c.levels_of-levels.result.now c.args.t c.place_from.result c.self.invariant.0 c.jumps_of-jumps.ensures c.levels_of-levels.ensures c.place_from.ensures

pub returns-clause-value : goal.returns-clause-value
returns-clause-value c =
    c.level_after.ensures ∙ value_seen c.self.inside.bound c.self.inside.base c.self.inside.rises.value.jumps.items c.self.inside.rises.value.levels.items c.args.self.now
    c.jumps_of-jumps.result.now c.levels_of-levels.result.now c.args.t c.place_from.result c.self.view_is c.self.invariant.0 c.requires.from c.requires.to
    c.jumps_of-jumps.ensures c.levels_of-levels.ensures c.place_from.ensures

pub returns-clause-small : goal.returns-clause-small
returns-clause-small c =
    let e : c.level_after.result ≡ value_at c.args.self.now c.args.t = returns-clause-value c in
    let small : value_at c.args.self.now c.args.t ≤ 1000000000000 = value_small c.self.inside.bound c.self.inside.base c.self.inside.rises.value.jumps.items
    c.args.self.now c.args.t c.self.view_is c.self.invariant.0.kept c.requires.from c.requires.to in
    omega arith

pub returns-clause-rises : goal.returns-clause-rises
returns-clause-rises c s le to =
    let e : c.level_after.result ≡ value_at c.args.self.now c.args.t = returns-clause-value c in
    let up : value_at c.args.self.now c.args.t ≤ value_at c.args.self.now s = value_rises c.self.inside.bound c.self.inside.base c.self.inside.rises.value.jumps.items
    c.args.self.now c.args.t s c.self.view_is c.requires.from le to in
    omega arith
