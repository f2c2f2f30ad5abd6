use Rattle.std.proofs.Common.{◌≤◌, ◌<◌, ◌++◌, ◌∷◌, [], ap, ◌∙◌, arith}
use Rattle.drt_wave.specs.Dense.{work_at}
use Rattle.drt_wave.proofs.Kept.{gathered_same, gathered_more}
use Rattle.drt_wave.proofs.dense.DenseFront.add_label.Goals as goal

pub returns-then-work-most-clause-gathered : goal.returns-then-work-most-clause-gathered
returns-then-work-most-clause-gathered c =
    let d = c.args.self.now in
    let le : work_at d c.args.vertex c.args.offset ≤ c.args.most = omega (arith, c.cell-work.ensures, c.if-work-most.true) in
    gathered_same d c.args.vertex c.args.offset c.args.most _ le c.requires.most c.requires.gathered

pub returns-clause-gathered : goal.returns-clause-gathered
returns-clause-gathered c =
    let d = c.args.self.now in
    let lt : c.args.most < work_at d c.args.vertex c.args.offset = omega (arith, c.cell-work.ensures, c.if-work-most.false) in
    gathered_more d c.args.vertex c.args.offset c.args.most c.args.front.now.items _ c.requires.vertex c.requires.offset lt c.requires.most c.requires.gathered
    (c.in_ok-push.ensures.items ∙ ap (λ x. c.args.front.now.items ++ record { vertex = c.args.vertex; offset = c.args.offset; work = x } ∷ []) c.cell-work.ensures)
