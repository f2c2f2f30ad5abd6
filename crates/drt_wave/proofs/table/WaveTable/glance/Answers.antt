use Rattle.std.proofs.Common.{◌≤◌, subst}
use Rattle.std.proofs.lemmas.Nat.{div-add-mod'}
use Rattle.drt_wave.specs.Net.{IsGreatestReaching}
use Rattle.drt_wave.specs.Cells.{net_of, width}
use Rattle.drt_wave.proofs.table.WaveTable.glance.Goals as goal

pub returns-clause-opened : goal.returns-clause-opened
returns-clause-opened c =
    let p = c.args.self.now.plan in
    subst (λ cell. (net_of p).opens cell ≤ c.glance_at.result) (div-add-mod' c.args.cell (width p)) c.glance_at.ensures.opened

pub returns-clause-best : goal.returns-clause-best
returns-clause-best c = λ k knows low.
    let p = c.args.self.now.plan in
    subst (λ cell. IsGreatestReaching (net_of p) cell c.glance_at.result) (div-add-mod' c.args.cell (width p)) (c.glance_at.ensures.best k knows low)
