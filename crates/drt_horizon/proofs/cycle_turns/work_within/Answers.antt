use Rattle.std.proofs.Common.{◌<◌, ◌/◌, length, get_or, arith}
use Rattle.std.proofs.lemmas.List.{drop_more, drop_all}
use Rattle.std.proofs.lemmas.Nat.{mul-le}
use Rattle.std.proofs.Math.Nat.{div-le_self}
use Rattle.drt_horizon.specs.CycleTurns.{no_cycle_turn}
use Rattle.drt_horizon.proofs.Multiples.{turned_cons, turned_none}
use Rattle.drt_horizon.proofs.cycle_turns.work_within.Goals as goal

pub cycle_turns-preserved : goal.cycle_turns-preserved
cycle_turns-preserved c =
    let l : c.cycle_turns.i < length c.args.cycle_turns.now = omega arith in
    let f = drop_more c.args.cycle_turns.now c.cycle_turns.i no_cycle_turn l in
    let cycle_turns = rw f at c.cycle_turns.invariant.cycle_turns in
    let total = rw (f, turned_cons) at c.cycle_turns.invariant.total in
    let term = mul-le (c.args.t / (get_or c.args.cycle_turns.now c.cycle_turns.i no_cycle_turn).span) (get_or c.args.cycle_turns.now c.cycle_turns.i no_cycle_turn).work
    2000000000000000 100000000 (omega (arith, div-le_self c.args.t (get_or c.args.cycle_turns.now c.cycle_turns.i no_cycle_turn).span)) cycle_turns.2 in
    record { cycle_turns = cycle_turns.3; total = omega arith; most = omega arith }

pub returns : goal.returns
returns c =
    let e = drop_all c.cycle_turns.i c.args.cycle_turns.now (omega arith) in
    let total = rw (e, turned_none) at c.cycle_turns.invariant.total in
    omega arith
