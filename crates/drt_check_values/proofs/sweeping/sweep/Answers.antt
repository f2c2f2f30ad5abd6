use Rattle.std.proofs.Common.{rules, ◌<◌, ℕ, List, length, get_or, map, take, drop, ap, refl, arith, ◌∙◌}
use Rattle.std.proofs.lemmas.Bool.{both_ways, false≢true}
use Rattle.drt_check_values.specs.Greatest.{greatest}
use Rattle.drt_check_values.specs.Sweeps.{answer}
use Rattle.drt_check_values.proofs.Taking.{answer_found, run_sized, swept_all, swept_first, swept_next, swept_stops, turn, turn_run, turn_within, within_left}
use Rattle.drt_check_values.proofs.sweeping.sweep.Goals as goal

pub turns-init : goal.turns-init
turns-init c =
    swept_first c.args.queries.now c.args.order.now c.args.places.now.firsts.items c.args.places.now.sizes.items c.args.count c.args.rises.now c.args.rooms.now c.in_ok-reached.reached
    c.in_ok-reached.ensures

pub bounds-queries-index : goal.bounds-queries-index
bounds-queries-index c = turn_within c.args.queries.now c.args.order.now c.requires.order c.turns.k c.turns-test.true

pub offset_bounds-queries-index : goal.offset_bounds-queries-index
offset_bounds-queries-index c =
    let within : get_or c.args.order.now c.turns.k 0 < length c.args.queries.now = turn_within c.args.queries.now c.args.order.now c.requires.order c.turns.k c.turns-test.true in
    search rules

pub greatest_below-value-requires-clause-firsts : goal.greatest_below-value-requires-clause-firsts
greatest_below-value-requires-clause-firsts c =
    (turn_run c.args.queries.now c.args.order.now c.args.places.now.firsts.items c.args.places.now.sizes.items c.args.count c.turns.k c.requires.order c.turns-test.true c.requires.runs).first

pub greatest_below-value-requires-clause-sizes : goal.greatest_below-value-requires-clause-sizes
greatest_below-value-requires-clause-sizes c =
    (turn_run c.args.queries.now c.args.order.now c.args.places.now.firsts.items c.args.places.now.sizes.items c.args.count c.turns.k c.requires.order c.turns-test.true c.requires.runs).size

pub greatest_below-value-requires-clause-within : goal.greatest_below-value-requires-clause-within
greatest_below-value-requires-clause-within c =
    let run = turn_run c.args.queries.now c.args.order.now c.args.places.now.firsts.items c.args.places.now.sizes.items c.args.count c.turns.k c.requires.order c.turns-test.true c.requires.runs in
    omega (arith, run.within, c.take_in-taken.ensures.count, c.turns.invariant.width)

pub bounds-rooms-index : goal.bounds-rooms-index
bounds-rooms-index c =
    let within = turn_within c.args.queries.now c.args.order.now c.requires.order c.turns.k c.turns-test.true in
    omega (arith, within, c.turns.invariant.many, c.requires.rooms)

pub returns-then-not-take_value-clause-fits : goal.returns-then-not-take_value-clause-fits
returns-then-not-take_value-clause-fits c =
    let firsts = c.args.places.now.firsts.items in
    let sizes = c.args.places.now.sizes.items in
    let q = turn c.args.queries.now c.args.order.now c.turns.k in
    let greatest_is = c.greatest_below-value.ensures ∙ ap greatest (run_sized c.take_in-taken.new.reached (get_or firsts q.node 0) (get_or sizes q.node 0)) in
    let found =
    answer_found c.args.queries.now c.args.order.now firsts sizes c.args.count c.args.rises.now c.args.rooms.now c.turns.k c.turns.taken c.take_in-taken.result c.greatest_below-value.result
    c.turns.reached c.take_in-taken.new.reached c.turns.rooms c.requires.rises c.turns.invariant c.take_in-taken.ensures.taken c.take_in-taken.ensures.count c.take_in-taken.ensures.late
    (λ same. greatest_is ∙ ap (λ (vs : List ℕ). greatest (take (get_or sizes q.node 0) (drop (get_or firsts q.node 0) vs))) same) in
    let fits =
    swept_stops c.args.queries.now c.args.order.now firsts sizes c.args.count c.args.rises.now c.args.rooms.now c.turns.k c.turns.taken c.greatest_below-value.result c.turns.reached c.turns.rooms
    c.requires.order c.turns-test.true c.turns.invariant found in
    (λ e. absurd (false≢true e), λ within. absurd (both_ways c.take_value.result c.if-not-take_value.true (c.take_value.ensures.fits.1 (fits within))))

pub turns-preserved : goal.turns-preserved
turns-preserved c =
    let firsts = c.args.places.now.firsts.items in
    let sizes = c.args.places.now.sizes.items in
    let q = turn c.args.queries.now c.args.order.now c.turns.k in
    let greatest_is = c.greatest_below-value.ensures ∙ ap greatest (run_sized c.take_in-taken.new.reached (get_or firsts q.node 0) (get_or sizes q.node 0)) in
    let found =
    answer_found c.args.queries.now c.args.order.now firsts sizes c.args.count c.args.rises.now c.args.rooms.now c.turns.k c.turns.taken c.take_in-taken.result c.greatest_below-value.result
    c.turns.reached c.take_in-taken.new.reached c.turns.rooms c.requires.rises c.turns.invariant c.take_in-taken.ensures.taken c.take_in-taken.ensures.count c.take_in-taken.ensures.late
    (λ same. greatest_is ∙ ap (λ (vs : List ℕ). greatest (take (get_or sizes q.node 0) (drop (get_or firsts q.node 0) vs))) same) in
    swept_next c.args.queries.now c.args.order.now firsts sizes c.args.count c.args.rises.now c.args.rooms.now c.turns.k c.turns.taken c.take_in-taken.result c.greatest_below-value.result
    c.take_value.new.room c.turns.reached c.take_in-taken.new.reached c.turns.rooms c.requires.order c.requires.rooms c.turns-test.true c.turns.invariant c.take_in-taken.ensures.taken
    c.take_in-taken.ensures.count found (c.take_value.ensures.left c.if-not-take_value.false)

pub returns-clause-fits : goal.returns-clause-fits
returns-clause-fits c =
    let firsts = c.args.places.now.firsts.items in
    let sizes = c.args.places.now.sizes.items in
    let left =
    swept_all c.args.queries.now c.args.order.now firsts sizes c.args.count c.args.rises.now c.args.rooms.now c.turns.k c.turns.taken c.turns.reached c.turns.rooms c.requires.order
    c.turns-test.false c.turns.invariant in
    (λ e. within_left (map (answer firsts sizes c.args.count c.args.rises.now) c.args.queries.now) c.args.rooms.now c.turns.rooms left, λ within. refl)

pub returns-clause-left : goal.returns-clause-left
returns-clause-left c e =
    swept_all c.args.queries.now c.args.order.now c.args.places.now.firsts.items c.args.places.now.sizes.items c.args.count c.args.rises.now c.args.rooms.now c.turns.k c.turns.taken c.turns.reached
    c.turns.rooms c.requires.order c.turns-test.false c.turns.invariant
