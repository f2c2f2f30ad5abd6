use Rattle.std.proofs.Common.{◌≡◌, ◌<◌, ◌≤◌, length, refl, sym, ap, ◌∙◌, arith}
use Rattle.std.proofs.lemmas.Option.{slice_get_read}
use Rattle.drt_request.specs.Request.{Request}
use Rattle.drt_tree.proofs.Labels.{goes_more, go_one_bound}
use Rattle.drt_test_tools.proofs.forests.go_to.Goals as goal

pub loop-i-preserved : goal.loop-i-preserved
loop-i-preserved c =
    let lt : c.loop-i.i < length c.args.labels.now = omega (arith, c.loop-i-test.true) in
    let long : length c.index-labels-i.result.value.values ≡ c.args.bound =
    sym (c.bound.ensures.value ∙ (ap length c.steps.ensures ∙ ap (λ (r : Request). length r.values) c.deref.ensures)) ∙ c.if-bound.false in
    goes_more c.args.bound c.args.labels.now c.loop-i.i c.index-labels-i.result c.loop-i.invariant
    (slice_get_read c.args.labels.now (length c.args.labels.now) c.loop-i.i c.index-labels-i.result refl lt c.index-labels-i.is) long

pub returns : goal.returns
returns c = λ _ walks. go_one_bound c.args.bound c.args.labels.now walks (λ k l lt at. c.loop-i.invariant k l (let h : length c.args.labels.now ≤ c.loop-i.i = c.loop-i-test.false in omega arith) at)
