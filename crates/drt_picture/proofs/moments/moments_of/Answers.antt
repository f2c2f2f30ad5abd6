use Rattle.std.proofs.Common.{rules, List, IsPermutation, subst}
use Rattle.std.specs.List.Sorted.{IsNonDecreasingBy}
use Rattle.std.proofs.lemmas.List.Sorted.{IsNonDecreasingBy-from_sort_by_key}
use Rattle.drt_picture.specs.declared.moments.Moment.{Moment}
use Rattle.drt_picture.proofs.moments.moments_of.Goals as goal

pub returns : goal.returns
returns c =
    let items : List Moment = c.sort_by_key.new.self.items in
    let sorted : IsNonDecreasingBy (λ m. m.start) items
    = IsNonDecreasingBy-from_sort_by_key (λ (m : Moment). m.start) items c.in_ok-sort_by_key.ensures.sorted (λ a r q k. search rules) in
    (subst (λ (xs : List Moment). IsPermutation xs items) c.in_ok-moments.ensures c.in_ok-sort_by_key.ensures.permutation, sorted)
