use Rattle.std.proofs.Common.{◌≡◌, length, sym, ap, ◌∙◌}
use Rattle.std.specs.Ordering.{nat_cmp, ordering_then}
use Rattle.std.specs.Cmp.Lexicographic.{slice_cmp}
use Rattle.drt_tree.specs.declared.leaf.Leaf.{Leaf}
use Rattle.drt_tree.proofs.Leaves.{key_cmp, then_at}
use Rattle.drt_tree.proofs.leaf.Leaf.compare.Goals as goal

pub returns-in-Equal : goal.returns-in-Equal
returns-in-Equal c =
    let x : Leaf = c.args.self.now in
    let y : Leaf = c.args.other.now in
    let e : length x.steps ≡ length y.steps = sym c.bound.ensures.value ∙ (c.if-bound.false ∙ c.bound-2.ensures.value) in
    let w : c.cmp-in-Equal.result ≡ slice_cmp nat_cmp x.walk y.walk = c.cmp-in-Equal.ensures
    ∙ (ap (λ z. slice_cmp nat_cmp z c.as_slice-in-Equal.result.now) c.as_slice.ensures ∙ ap (λ z. slice_cmp nat_cmp x.walk z) c.as_slice-in-Equal.ensures) in
    w ∙ (ap (λ r. ordering_then r (slice_cmp nat_cmp x.walk y.walk)) c.in-Equal.ensures ∙ sym (key_cmp x y e))

pub returns-in_default : goal.returns-in_default
returns-in_default c =
    let x : Leaf = c.args.self.now in
    let y : Leaf = c.args.other.now in
    let e : length x.steps ≡ length y.steps = sym c.bound.ensures.value ∙ (c.if-bound.false ∙ c.bound-2.ensures.value) in
    sym (then_at c.compare_from_end.result (slice_cmp nat_cmp x.walk y.walk) c.in_default.not-Equal)
    ∙ (ap (λ r. ordering_then r (slice_cmp nat_cmp x.walk y.walk)) c.compare_from_end.ensures ∙ sym (key_cmp x y e))
