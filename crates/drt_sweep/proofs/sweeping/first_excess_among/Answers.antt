use Rattle.std.proofs.Common.{◌<◌, ◌≤◌, length, get_or, arith, rules}
use Rattle.std.proofs.lemmas.List.{get_or_default}
use Rattle.drt_sweep.proofs.Sweeps.{no_work, row_first, row_step, clear_first, clear_next, clear_last, excess_next}
use Rattle.drt_sweep.proofs.sweeping.first_excess_among.Goals as goal

pub works-init : goal.works-init
works-init c = record { row = row_first; clear = clear_first c.args.works.now; small = omega arith }

pub returns-then-total-next : goal.returns-then-total-next
returns-then-total-next c =
    let l : c.works.i < length c.args.works.now = omega (arith, c.works-test.true) in
    let over = rw c.saturating_sub.ensures at c.if-total-next.true in
    let is = get_or_default c.args.works.now c.works.i no_work (get_or c.args.works.now c.works.i no_work) l in
    let few = c.requires.tasks c.works.i no_work l in
    excess_next c.args.works.now c.works.most c.works.total c.works.i (get_or c.args.works.now c.works.i no_work) c.requires.order l is few c.works.invariant.row over c.works.invariant.clear

pub works-preserved : goal.works-preserved
works-preserved c =
    let l : c.works.i < length c.args.works.now = omega (arith, c.works-test.true) in
    let is = get_or_default c.args.works.now c.works.i no_work (get_or c.args.works.now c.works.i no_work) l in
    let row = row_step c.args.works.now c.works.most c.works.total c.works.i (get_or c.args.works.now c.works.i no_work) l is (c.requires.tasks c.works.i no_work l) c.works.invariant.row in
    let fits = rw c.saturating_sub.ensures at c.if-total-next.false in
    let most : c.saturating_sub.result ≤ 18446744073709551616 = search rules in
    let small = rw c.saturating_sub.ensures at most in
    rw (c.max.ensures, c.saturating_sub.ensures) (record {
      row = row;
      clear = clear_next c.args.works.now _ _ c.works.i (get_or c.args.works.now c.works.i no_work) l is row fits c.works.invariant.clear;
      small = omega (arith, small, c.works.invariant.small);
    })

pub returns : goal.returns
returns c = clear_last c.args.works.now c.works.i (omega (arith, c.works-test.false)) c.works.invariant.clear
