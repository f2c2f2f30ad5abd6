use Rattle.std.proofs.Common.{sym, subst}
use Rattle.drt_wave.specs.Greatest.{IsGreatestWork}
use Rattle.drt_wave.proofs.Walks.{greatest_at}
use Rattle.drt_wave.proofs.dense.DenseFront.work.Goals as goal

pub returns : goal.returns
returns c =
    let p = c.args.self.now.plan in
    subst (IsGreatestWork p.graph p.bound c.args.vertex c.args.offset) (sym c.cell.ensures)
    (greatest_at p c.args.self.now.columns c.keeps_best.ensures.planned c.keeps_best.ensures.best c.args.vertex c.args.offset c.requires.vertex c.requires.offset)
