use Rattle.std.proofs.Common.{◌≡◌, ℕ, ◌≤◌, ap, sym, subst, ◌∙◌, arith}
use Rattle.std.specs.Prelude.{IfSome}
use Rattle.drt_wave.specs.Cells.{net_of}
use Rattle.drt_wave.specs.Seats.{KnowsTo, IsOfTable}
use Rattle.drt_wave.specs.declared.plan.Plan.{Plan}
use Rattle.drt_wave.proofs.Going.{all_none}
use Rattle.drt_wave.proofs.filling.fill.Goals as goal

some_workers : (count workers : ℕ) → count ≡ workers → (1 ≤ workers) × (workers ≤ 16) → (1 ≤ count) × (count ≤ 16)
some_workers count workers same some = (subst (λ n. 1 ≤ n) (sym same) some.0, subst (λ n. n ≤ 16) (sym same) some.1)

pub open_lanes-requires-clause-crew : goal.open_lanes-requires-clause-crew
open_lanes-requires-clause-crew g c κs within = some_workers _ _ c.new-crew.ensures c.requires.workers

pub share_table-requires-clause-owner : goal.share_table-requires-clause-owner
share_table-requires-clause-owner g c κs within =
    let e = c.in_ok-table.ensures in
    record { of = e.seat; parts = e.parts; known = e.known; all = all_none c.in_ok-table.table.plan c.in_ok-table.owner e.draws }

pub share_table-requires-clause-crew : goal.share_table-requires-clause-crew
share_table-requires-clause-crew g c κs within = some_workers _ _ c.new-crew.ensures c.requires.workers

pub close-requires-clause-seat : goal.close-requires-clause-seat
close-requires-clause-seat g c = subst (λ o. IfSome o (λ seat. IsOfTable c.in_ok-table.table seat)) c.in-Some.is c.in_ok-seat.ensures.seat

pub close-requires-clause-known : goal.close-requires-clause-known
close-requires-clause-known g c =
    let net = net_of c.in_ok-table.table.plan in
    (net.waves, subst (λ o. IfSome o (λ seat. KnowsTo net.waves seat)) c.in-Some.is c.in_ok-seat.ensures.known, omega arith)

pub returns-in-Some-clause-graph : goal.returns-in-Some-clause-graph
returns-in-Some-clause-graph g c = ap (λ (p : Plan). p.graph) (c.close.ensures ∙ c.in_ok-table.ensures.plan) ∙ c.in_ok-plan.ensures.graph

pub returns-in-Some-clause-bound : goal.returns-in-Some-clause-bound
returns-in-Some-clause-bound g c = ap (λ (p : Plan). p.bound) (c.close.ensures ∙ c.in_ok-table.ensures.plan) ∙ c.in_ok-plan.ensures.bound
