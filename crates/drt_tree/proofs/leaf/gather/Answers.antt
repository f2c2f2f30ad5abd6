use Rattle.std.proofs.Common.{◌≡◌, ℕ, ◌+◌, ◌<◌, List, [], ◌∷◌, ◌++◌, length, take, refl, sym, ap, ◌∙◌, arith}
use Rattle.std.proofs.lemmas.Option.{slice_get_read}
use Rattle.drt_tree.specs.declared.leaf.Leaf.{Leaf}
use Rattle.drt_request.specs.Request.{Request}
use Rattle.drt_tree.specs.Leaf.{leaves_of}
use Rattle.drt_tree.proofs.Leaves.{leaves_more}
use Rattle.drt_tree.proofs.leaf.gather.Goals as goal

pub loop-i-preserved : goal.loop-i-preserved
loop-i-preserved c =
    let i : ℕ = c.loop-i.i in
    let lt : i < length c.args.labels.now = omega (arith, c.loop-i-test.true) in
    let lt2 : i < length c.args.walks.now = omega (arith, c.requires) in
    let more : leaves_of (take (i + 1) c.args.labels.now) (take (i + 1) c.args.walks.now) ≡ leaves_of (take i c.args.labels.now) (take i c.args.walks.now) ++ record
    { steps = c.index-labels-i.result.value.values; walk = c.index-walks-i.result } ∷ [] =
    leaves_more c.args.labels.now c.args.walks.now i c.index-labels-i.result c.index-walks-i.result
    (slice_get_read c.args.labels.now (length c.args.labels.now) i c.index-labels-i.result refl lt c.index-labels-i.is)
    (slice_get_read c.args.walks.now (length c.args.walks.now) i c.index-walks-i.result refl lt2 c.index-walks-i.is) in
    let steps : c.in_ok-steps.steps ≡ c.index-labels-i.result.value.values = c.in_ok-steps.ensures ∙ (c.steps.ensures ∙ ap (λ (r : Request). r.values) c.deref.ensures) in
    let walk : c.from_vec-walk.result ≡ c.index-walks-i.result = c.from_vec-walk.ensures ∙ (c.in_ok-from_slice.ensures.items ∙ c.as_slice.ensures) in
    let front : List Leaf = leaves_of (take i c.args.labels.now) (take i c.args.walks.now) in
    c.in_ok-push.ensures.items
    ∙ (ap (λ ls. ls ++ record { steps = c.in_ok-steps.steps; walk = c.from_vec-walk.result } ∷ []) c.loop-i.invariant
    ∙ (ap (λ z. front ++ record { steps = z; walk = c.from_vec-walk.result } ∷ []) steps
    ∙ (ap (λ z. front ++ record { steps = c.index-labels-i.result.value.values; walk = z } ∷ []) walk ∙ sym more)))
