use Rattle.std.proofs.Common.{length, sym, arith, ◌∙◌}
use Rattle.std.proofs.lemmas.List.{length-set}
use Rattle.drt_check_values.proofs.Taking.{rise_fits, rise_taken, rise_of}
use Rattle.drt_check_values.proofs.sweeping.take_in.Goals as goal

pub raise-requires-clause-fits : goal.raise-requires-clause-fits
raise-requires-clause-fits c =
    let f = rise_fits c.args.rises.now c.rises.taken c.args.time (length c.args.reached.now) c.rises.reached c.rises-test.true c.requires.rises (sym c.rises.invariant.count) c.rises.invariant.taken in
    omega (arith, f.1, c.from.ensures)

pub rises-preserved : goal.rises-preserved
rises-preserved c =
    let f = rise_fits c.args.rises.now c.rises.taken c.args.time (length c.args.reached.now) c.rises.reached c.rises-test.true c.requires.rises (sym c.rises.invariant.count) c.rises.invariant.taken in
    let next = rise_taken c.args.rises.now c.rises.taken c.args.time c.rises.reached c.rises-test.true c.if-rises-taken.true f.0 c.rises.invariant.taken in
    rw (c.raise.ensures, c.from.ensures) (record { taken = next; count = length-set c.rises.reached (rise_of c.args.rises.now c.rises.taken).place _ ∙ c.rises.invariant.count })
