use Rattle.std.proofs.Common.{ℕ, List, map, ap, ◌∙◌, subst}
use Rattle.std.specs.Prelude.{IfSome}
use Rattle.std.specs.List.{range_with_len}
use Rattle.drt_graph.specs.declared.front.FrontEntry.{FrontEntry}
use Rattle.drt_merge.specs.Gathered.{IsMergedFront}
use Rattle.drt_tails.specs.Cut.{jumps_at}
use Rattle.drt_tails.specs.Turned.{AreTurnedGraphs}
use Rattle.drt_tails.proofs.TailFronts.{found}
use Rattle.drt_tails.proofs.tails.find_tail.Goals as goal

pub returns : goal.returns
returns c =
    let turned = subst (λ r. IfSome r (AreTurnedGraphs c.args.graph.now)) c.in-Some.is c.in_ok-turned.ensures in
    let merged = subst (λ r. IfSome r (IsMergedFront c.graph.result.now c.args.bound)) c.in-Some-2.is c.in_ok-front.ensures in
    let cut = c.from_vec.ensures ∙ c.in_ok-curves.ensures
    ∙ ap (λ (xs : List FrontEntry). map (jumps_at xs) (range_with_len 0 c.vertex_count-count.result)) c.as_slice.ensures
    ∙ ap (λ (n : ℕ). map (jumps_at c.in-Some-2.front) (range_with_len 0 n)) c.vertex_count-count.ensures.count in
    let is = found c.args.graph.now c.graph.result.now c.in-Some.turned c.args.bound c.in-Some-2.front (record { curves = c.from_vec.result })
    c.vertex_count-count.ensures.sound turned c.graph.ensures.graph c.graph.ensures.sound
    c.requires.some merged cut in
    record { tail = is.0; bounds = is.1; attained = is.2 }
