use Rattle.std.proofs.Common.{◌≡◌, get_or}
use Rattle.std.proofs.lemmas.List.{get_or_default}
use Rattle.drt_states.specs.Tails.{no_jump}
use Rattle.drt_states.specs.declared.claims.Jump.{Jump}
use Rattle.drt_check_states.proofs.Joins.{joining_first, joining_second}
use Rattle.drt_check_states.proofs.crests.join.Goals as goal

pub jumps-preserved-then-takes_first : goal.jumps-preserved-then-takes_first
jumps-preserved-then-takes_first c =
    let next = c.takes_first.ensures.first c.if-takes_first.true in
    let x : Jump = get_or c.args.a.now c.jumps.i no_jump in
    let at : x ≡ get_or c.args.a.now c.jumps.i x = get_or_default c.args.a.now c.jumps.i no_jump x next.0 in
    joining_first c.args.a.now c.args.b.now c.jumps.joined.items c.add_jump.new.joined.items c.jumps.i c.jumps.j x c.requires.first c.jumps.invariant next.0 at next.1 c.in_ok-add_jump.ensures

pub jumps-preserved : goal.jumps-preserved
jumps-preserved c =
    let next = c.takes_first.ensures.second c.if-takes_first.false in
    let x : Jump = get_or c.args.b.now c.jumps.j no_jump in
    let at : x ≡ get_or c.args.b.now c.jumps.j x = get_or_default c.args.b.now c.jumps.j no_jump x next.0 in
    joining_second c.args.a.now c.args.b.now c.jumps.joined.items c.add_jump-in-jumps.new.joined.items c.jumps.i c.jumps.j x c.requires.second c.jumps.invariant next.0 at next.1
    c.in_ok-add_jump-2.ensures
