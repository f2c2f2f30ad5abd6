use Rattle.std.proofs.Common.{◌+◌, map, drop, ◌++◌, ◌∷◌, []}
use Rattle.drt_check_proofs.specs.Passing.{blank, passing_times}
use Rattle.drt_check_proofs.proofs.Rest.{added_all, added_more, times_ended, times_turned}
use Rattle.drt_check_proofs.proofs.Turns.{item_at}
use Rattle.drt_check_proofs.proofs.queries.add_blanks.Goals as goal

pub items-preserved : goal.items-preserved
items-preserved c =
    let items = c.args.items.now in
    added_more c.items.queries.items c.add_blank.new.queries.items (map blank (passing_times (item_at items c.items.item-index ∷ []))) (map blank (passing_times (drop (c.items.item-index + 1) items)))
    (map blank (passing_times (drop c.items.item-index items))) (c.args.queries.now.items ++ map blank (passing_times items))
    (times_turned blank items c.items.item-index c.items-test.true) c.in_ok-add_blank.ensures c.items.invariant

pub returns : goal.returns
returns c =
    let items = c.args.items.now in
    added_all c.items.queries.items (map blank (passing_times (drop c.items.item-index items))) (c.args.queries.now.items ++ map blank (passing_times items))
    (times_ended blank items c.items.item-index c.items-test.false) c.items.invariant
