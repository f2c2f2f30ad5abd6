use Rattle.std.proofs.Common.{◌≡◌, ◌++◌, ◌∷◌, [], ap, ◌∙◌, arith}
use Rattle.drt_wave.specs.Dense.{work_at}
use Rattle.drt_wave.proofs.Walks.{greatest_at, has_bounds}
use Rattle.drt_wave.proofs.Tails.{IsAtCell, tail_first, tail_more, tail_whole, step_cell, step_earlier}
use Rattle.drt_wave.proofs.dense.DenseFront.walk.Goals as goal

pub steps-init : goal.steps-init
steps-init c =
    let d = c.args.self.now in let plan = c.keeps_best.ensures.planned in let best = c.keeps_best.ensures.best in
    let h = c.requires.some in
    let le = (greatest_at d.plan d.columns plan best c.args.vertex c.args.offset c.requires.vertex c.requires.offset).1 h.0 h.1 in
    let some = (has_bounds d.plan plan c.args.vertex c.args.offset h.0 h.1).2 in
    let cell : IsAtCell d c.args.vertex c.args.offset = record { vertex = c.requires.vertex; offset = c.requires.offset; some = omega (arith, le, some) } in (
      cell,
      tail_first d plan best c.args.vertex c.args.offset c.push.new.self.items cell (c.in_ok-push.ensures.items ∙ ap (λ xs. xs ++ c.args.vertex ∷ []) c.new-walk.ensures.items),
    )

pub steps-preserved : goal.steps-preserved
steps-preserved c =
    let d = c.args.self.now in let plan = c.keeps_best.ensures.planned in let best = c.keeps_best.ensures.best in
    let inv = c.steps.invariant in let step = c.step_back.ensures in (
      step_cell d plan best _ _ c.steps.at c.steps.left inv.0.offset step,
      tail_more d plan best c.args.vertex c.args.offset c.steps.at c.steps.left _ _ c.steps.walk.items c.push-in-steps.new.self.items inv.0.offset step inv.1 c.in_ok-push-2.ensures.items,
    )

pub steps-smaller : goal.steps-smaller
steps-smaller c = step_earlier c.args.self.now c.keeps_best.ensures.planned c.keeps_best.ensures.best _ _ c.steps.at c.steps.left c.step_back.ensures

pub returns : goal.returns
returns c =
    let d = c.args.self.now in let plan = c.keeps_best.ensures.planned in let best = c.keeps_best.ensures.best in
    let inv = c.steps.invariant in
    let none : c.steps.left ≡ 0 = omega (arith, c.steps-test.false) in (
      work_at d c.args.vertex c.args.offset,
      greatest_at d.plan d.columns plan best c.args.vertex c.args.offset c.requires.vertex c.requires.offset,
      tail_whole d plan best c.args.vertex c.args.offset c.steps.at c.steps.left c.steps.walk.items c.from_vec.result none inv.0 inv.1 (c.from_vec.ensures ∙ c.reverse.ensures.items),
    )
