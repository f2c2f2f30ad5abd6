use Rattle.std.proofs.Common.{◌≡◌, ◌∙◌, sym, ap, subst, arith}
use Rattle.drt_model.specs.declared.tasks.Vertex.{Vertex}
use Rattle.drt_model.specs.Walk.{wcet, deadline}
use Rattle.drt_wave.specs.Fronts.{IsWalkEntry}
use Rattle.drt_merge.specs.Marks.{row, entry_of, IsCovered}
use Rattle.drt_merge.specs.Offers.{IsOffered}
use Rattle.drt_merge.proofs.Walks.{opening_walk}
use Rattle.drt_merge.proofs.Rows.{opened_grown, opened_more}
use Rattle.drt_merge.proofs.opening.open_vertex.Goals as goal

pub offer-requires-clause-walk : goal.offer-requires-clause-walk
offer-requires-clause-walk c =
    let g = c.args.graph.now in let b = c.args.bound in let v = c.args.vertex in
    let e : wcet g v ≡ c.from-2.result = sym (c.from-2.ensures ∙ ap (λ (x : Vertex). x.wcet) c.vertex-2.ensures) in
    let d : c.from.result ≡ deadline g v = c.from.ensures ∙ ap (λ (x : Vertex). x.deadline) c.vertex.ensures in
    subst (λ w. IsWalkEntry g b (entry_of v (record { offset = 0; work = w }))) e (opening_walk g b v c.requires.vertex (omega (arith, d)))

pub returns-in-Covered-clause-opened : goal.returns-in-Covered-clause-opened
returns-in-Covered-clause-opened c =
    let g = c.args.graph.now in let b = c.args.bound in let v = c.args.vertex in let new = c.offer.new.lists in
    let e : c.from-2.result ≡ wcet g v = c.from-2.ensures ∙ ap (λ (x : Vertex). x.wcet) c.vertex-2.ensures in
    let is : IsCovered (row new v) (record { offset = 0; work = c.from-2.result }) = subst (λ o. IsOffered (row new v) (record { offset = 0; work = c.from-2.result }) o)
    c.in-Covered.is c.in_ok-offer.ensures.offered in
    opened_more g b v new (opened_grown g b v c.args.lists.now new c.in_ok-offer.ensures.grown c.requires.opened) (subst (λ w. IsCovered (row new v) (record { offset = 0; work = w })) e is)

pub returns-in-Kept-clause-opened : goal.returns-in-Kept-clause-opened
returns-in-Kept-clause-opened c =
    let g = c.args.graph.now in let b = c.args.bound in let v = c.args.vertex in let new = c.offer.new.lists in
    let e : c.from-2.result ≡ wcet g v = c.from-2.ensures ∙ ap (λ (x : Vertex). x.wcet) c.vertex-2.ensures in
    let is : IsCovered (row new v) (record { offset = 0; work = c.from-2.result }) = subst (λ o. IsOffered (row new v) (record { offset = 0; work = c.from-2.result }) o)
    c.in-Kept.is c.in_ok-offer.ensures.offered in
    opened_more g b v new (opened_grown g b v c.args.lists.now new c.in_ok-offer.ensures.grown c.requires.opened) (subst (λ w. IsCovered (row new v) (record { offset = 0; work = w })) e is)
