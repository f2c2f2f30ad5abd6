-- The vertex is still there, and its own execution time again makes the set as it was.
use Rattle.std.proofs.Common.{ℕ, ap, sym, subst, ◌∙◌}
use Rattle.drt_model.specs.Contents.{Contents}
use Rattle.drt_margin.specs.Margin.{IsVertexOf, plus_set, timed_set}
use Rattle.drt_command_margin.proofs.Spots.{more_there, time_again}
use Rattle.drt_command_margin.proofs.text.push_dossier.Goals as goal

pub with_wcet-requires-clause-vertex : goal.with_wcet-requires-clause-vertex
with_wcet-requires-clause-vertex c =
    let s = c.args.spot in
    subst (λ (x : Contents). IsVertexOf x.tasks s.task s.vertex) (sym c.with_more.ensures) (more_there c.args.set s.task s.vertex c.args.add c.requires.vertex)

pub returns-clause-same : goal.returns-clause-same
returns-clause-same c =
    let s = c.args.spot in
    c.with_wcet.ensures
    ∙ ap (λ (x : Contents). timed_set x s.task s.vertex c.wcet_of-wcet.result) c.with_more.ensures
    ∙ ap (λ (n : ℕ). timed_set (plus_set c.args.set s.task s.vertex c.args.add) s.task s.vertex n) c.wcet_of-wcet.ensures.value
    ∙ time_again c.args.set s.task s.vertex c.args.add c.requires.vertex
