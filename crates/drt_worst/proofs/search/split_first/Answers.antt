use Rattle.std.proofs.Common.{rules, ◌≡◌, ℕ, List, Some, sym, subst}
use Rattle.std.specs.Prelude.{slice_get}
use Rattle.std.proofs.lemmas.Option.{slice_get-get_or}
use Rattle.drt_worst.specs.Splitting.{IsSplit, search_for}
use Rattle.drt_worst.specs.Runs.{AreDealt}
use Rattle.drt_worst.proofs.Ends.{dealt_put}
use Rattle.drt_worst.proofs.search.split_first.Goals as goal

pub choose_place-requires-clause-few : goal.choose_place-requires-clause-few
choose_place-requires-clause-few c =
    let at : slice_get c.args.dealt.now.items c.loop-i.i ≡ Some c.as_slice-combination.result.now = search (rules, slice_get-get_or) in
    (c.requires.nodes c.loop-i.i c.as_slice-combination.result.now at).1

pub choose_place-requires-clause-nodes : goal.choose_place-requires-clause-nodes
choose_place-requires-clause-nodes c =
    let at : slice_get c.args.dealt.now.items c.loop-i.i ≡ Some c.as_slice-combination.result.now = search (rules, slice_get-get_or) in
    (c.requires.nodes c.loop-i.i c.as_slice-combination.result.now at).0

pub halves-requires-clause-nodes : goal.halves-requires-clause-nodes
halves-requires-clause-nodes c =
    let at : slice_get c.args.dealt.now.items c.loop-i.i ≡ Some c.as_slice-combination.result.now = search (rules, slice_get-get_or) in
    (c.requires.nodes c.loop-i.i c.as_slice-combination.result.now at).0

pub returns-in-Some-clause-dealt : goal.returns-in-Some-clause-dealt
returns-in-Some-clause-dealt c roots d =
    let f = c.args.forest.now in
    let xs : List (List ℕ) = c.loop-i.dealt.items in
    let combination : List ℕ = c.as_slice-combination.result.now in
    let at : slice_get xs c.loop-i.i ≡ Some combination = search (rules, slice_get-get_or) in
    let split : IsSplit f combination c.in_ok-left-in-Some.left c.in_ok-left-in-Some.right = c.in_ok-left-in-Some.ensures in
    subst (λ (z : List (List ℕ)). AreDealt f roots z) (sym c.in_ok-push-in-Some.ensures.items)
    (dealt_put (search_for f 0 0) roots xs c.loop-i.i combination c.in_ok-left-in-Some.left c.in_ok-left-in-Some.right at split
    (subst (λ (z : List (List ℕ)). AreDealt f roots z) (sym c.loop-i.invariant) d))
