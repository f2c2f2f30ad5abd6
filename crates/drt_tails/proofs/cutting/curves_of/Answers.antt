use Rattle.std.proofs.Common.{List, [], ◌∷◌, ◌++◌, map, sym, ap, ◌∙◌, arith}
use Rattle.std.specs.List.{range_with_len}
use Rattle.std.proofs.lemmas.List.FromFn.{map-range_with_len_more}
use Rattle.drt_states.specs.declared.claims.Jump.{Jump}
use Rattle.drt_tails.specs.Cut.{jumps_at}
use Rattle.drt_tails.proofs.cutting.curves_of.Goals as goal

pub vertices-preserved : goal.vertices-preserved
vertices-preserved c =
    c.in_ok-push.ensures.items
    ∙ ap (λ (xs : List (List Jump)). xs ++ c.from_vec.result ∷ []) c.vertices.invariant
    ∙ ap (λ (x : List Jump). map (jumps_at c.args.front.now) (range_with_len 0 c.vertices.vertex) ++ x ∷ []) (c.from_vec.ensures ∙ c.in_ok-curve_at.ensures)
    ∙ sym (map-range_with_len_more (jumps_at c.args.front.now) 0 c.vertices.vertex c.vertices.vertex (omega arith))
