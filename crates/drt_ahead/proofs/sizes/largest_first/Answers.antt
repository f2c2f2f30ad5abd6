-- The sort keeps the places.
use Rattle.std.proofs.Common.{◌≡◌, ◌<◌, ℕ, List, length, sym, subst, arith}
use Rattle.std.specs.List.{All}
use Rattle.std.proofs.lemmas.List.Sorted.{All-permutation, length_permutation}
use Rattle.drt_ahead.proofs.sizes.largest_first.Goals as goal

pub returns-clause-places : goal.returns-clause-places
returns-clause-places c =
    let items : List ℕ = c.sort_by_key.new.self.items in
    let same = length_permutation c.loop-place.places.items items c.in_ok-sort_by_key.ensures.permutation in
    let count : length items ≡ length c.args.sizes.now = omega (arith, same, c.loop-place.invariant.0, c.loop-place-test.false, c.loop-place.auto.place-end) in
    let each = All-permutation (λ i. i < length c.args.sizes.now) c.loop-place.places.items items c.in_ok-sort_by_key.ensures.permutation c.loop-place.invariant.1 in
    subst (λ (n : ℕ). All (λ i. i < n) items) (sym count) each

pub returns-clause-most : goal.returns-clause-most
returns-clause-most c =
    let items : List ℕ = c.sort_by_key.new.self.items in
    let same = length_permutation c.loop-place.places.items items c.in_ok-sort_by_key.ensures.permutation in
    omega (arith, same, c.loop-place.invariant.0, c.loop-place-test.false, c.loop-place.auto.place-end)
