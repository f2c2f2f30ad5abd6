use Rattle.std.proofs.Common.{◌∷◌, ap, subst, ◌∙◌, sym, rules}
use Rattle.atomic_table.specs.Table.{rest}
use Rattle.drt_lock.proofs.Steps.{held_is}
use Rattle.drt_table.specs.View.{setting_of}
use Rattle.drt_shared.specs.TableBoard.{CanMove, IsCall}
use Rattle.drt_shared.proofs.shared.SharedTable.act.Goals as goal

pub slot_mut-board-requires : goal.slot_mut-board-requires
slot_mut-board-requires g c = let t = c.requires.machine in (search rules, (t.0, t.1 ∙ ap (λ l. (0, t.0) ∷ rest l) (sym t.1)))

pub returns-clause-machine : goal.returns-clause-machine
returns-clause-machine g c m held =
    let same = held_is _ _ _ held c.slot_mut-board.ensures.value in
    let n = c.call.new.self in
    (n, ap (λ l. (0, n) ∷ rest l) held, subst (λ v. IsCall g.L.Label.algebra v n c.args.holding.now c.args.wanted c.call.result.0 c.call.result.1) same c.call.ensures.call)

pub call-requires-clause-can : goal.call-requires-clause-can
call-requires-clause-can g c κs within =
    let t = c.requires.machine in
    let same = held_is _ _ _ t.1 c.slot_mut-board.ensures.value in
    subst (λ x. CanMove g.L.Label.algebra x c.args.holding.now c.args.wanted) (sym (ap (λ v. setting_of v) same ∙ t.2)) c.requires.can
