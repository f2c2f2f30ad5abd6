use Rattle.std.proofs.Common.{◌≡◌, ◌<◌, sym, subst}
use Rattle.drt_model.specs.Constrained.{AreConstrained}
use Rattle.drt_model.specs.Contents.{Contents}
use Rattle.drt_margin.specs.Margin.{IsVertexOf, plus_set, wcet_at}
use Rattle.drt_margin.proofs.Rooms.{asked_subject}
use Rattle.drt_margin.proofs.Within.{plus_above, plus_constrained, plus_vertex}
use Rattle.drt_margin.proofs.asking.ask.Goals as goal

pub analyse-requires-after_bounds : goal.analyse-requires-after_bounds
analyse-requires-after_bounds g c =
    let q = c.args.question in
    λ κs bounds. subst (λ (s : Contents). AreConstrained s.tasks) (sym c.with_more-more.ensures) (plus_constrained c.args.set q.task q.vertex (asked_subject c.args.set q c.requires.asked) c.args.add)

pub with_less-set-requires-clause-vertex : goal.with_less-set-requires-clause-vertex
with_less-set-requires-clause-vertex g c =
    let q = c.args.question in
    let same : c.with_more-more.result ≡ plus_set c.args.set q.task q.vertex c.args.add = c.with_more-more.ensures in
    subst (λ (s : Contents). IsVertexOf s.tasks q.task q.vertex) (sym same) (plus_vertex c.args.set q.task q.vertex (asked_subject c.args.set q c.requires.asked) c.args.add)

pub with_less-set-requires-clause-some : goal.with_less-set-requires-clause-some
with_less-set-requires-clause-some g c =
    let q = c.args.question in
    let same : c.with_more-more.result ≡ plus_set c.args.set q.task q.vertex c.args.add = c.with_more-more.ensures in
    subst (λ (s : Contents). c.args.add < wcet_at s.tasks q.task q.vertex) (sym same) (plus_above c.args.set q.task q.vertex (asked_subject c.args.set q c.requires.asked) c.args.add)
