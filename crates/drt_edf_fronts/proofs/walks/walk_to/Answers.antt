use Rattle.std.proofs.Common.{◌≡◌, ◌∷◌, ◌++◌, [], arith, ap, ◌∙◌}
use Rattle.drt_edf_fronts.proofs.Prefixes.{entry_vertex, entry_single, prefix_earlier, tail_first, tail_more, tail_whole}
use Rattle.drt_edf_fronts.proofs.walks.walk_to.Goals as goal

pub steps-init : goal.steps-init
steps-init c = record {
  there = c.requires.entry;
  tail = tail_first c.args.graph.now c.args.last c.push.new.self.items (c.in_ok-push.ensures.items ∙ ap (λ xs. xs ++ c.args.last.vertex ∷ []) c.new-walk.ensures.items);
}

pub steps-preserved : goal.steps-preserved
steps-preserved c = record {
  there = c.predecessor-entry.ensures.there;
  tail = tail_more c.args.graph.now c.predecessor-entry.result c.steps.entry c.args.last c.steps.walk.items c.push-in-steps.new.self.items c.predecessor-entry.ensures.before
      c.steps.invariant.tail c.in_ok-push-2.ensures.items;
}

pub steps-smaller : goal.steps-smaller
steps-smaller c = prefix_earlier c.args.graph.now c.keep_limits.ensures c.predecessor-entry.result c.steps.entry c.predecessor-entry.ensures.before

pub returns : goal.returns
returns c =
    let g = c.args.graph.now in
    let sound = c.keep_limits.ensures in
    let is = c.requires.front.1 in
    let none : c.steps.entry.offset ≡ 0 = omega (arith, c.steps-test.false) in
    let vertex = entry_vertex g sound c.requires.front.0 c.args.front.now is c.steps.entry c.steps.invariant.there in
    let single = entry_single g sound c.requires.front.0 c.args.front.now is c.steps.entry c.steps.invariant.there none in
    tail_whole g c.steps.entry c.args.last c.steps.walk.items c.from_vec.result vertex none single c.steps.invariant.tail (c.from_vec.ensures ∙ c.reverse.ensures.items)
