use Rattle.std.proofs.Common.{◌≡◌, ◌/◌, ◌<◌, length, sym, ap, arith, rules, ◌∙◌}
use Rattle.std.proofs.lemmas.List.Elements.{same_from_all_zip}
use Rattle.drt_model.specs.Walk.{cycle_span}
use Rattle.drt_ratio.proofs.Optima.{cycle_sums}
use Rattle.drt_edf.proofs.Rounds.{turns_none, turns_are}
use Rattle.drt_edf.proofs.turns.turns_of.Goals as goal

pub returns-then-is_empty : goal.returns-then-is_empty
returns-then-is_empty c = c.from_vec.ensures ∙ (c.new.ensures.items ∙ sym (turns_none c.args.graph.now c.args.t c.args.cycle.now (grind arith)))

pub nonzero_div-count : goal.nonzero_div-count
nonzero_div-count c =
    let some : 0 < length c.args.cycle.now = search rules in
    let sums = cycle_sums c.args.graph.now c.keep_limits.ensures c.args.cycle.now (c.requires some) in
    omega (arith, c.cycle_sums-work.ensures.span, sums.span_some)

pub returns : goal.returns
returns c =
    let n : c.args.t / c.cycle_sums-work.result.1 ≡ c.args.t / cycle_span c.args.graph.now c.args.cycle.now = ap (λ s. c.args.t / s) c.cycle_sums-work.ensures.span in
    let items = same_from_all_zip _ _ _ c.in_ok-repeat.ensures.items (λ x y same. same) in
    c.from_vec-2.ensures ∙ turns_are c.args.graph.now c.args.t _ c.args.cycle.now c.in_ok-repeat.field-0.items n items
