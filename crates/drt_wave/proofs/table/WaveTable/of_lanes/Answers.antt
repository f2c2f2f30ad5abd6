use Rattle.std.proofs.Common.{◌≡◌, ◌+◌, List, length, sym, ap, ◌∙◌, subst, arith}
use mathlib.Core.Option.{some}
use lib.ListN.{get_elem?}
use Rattle.drt_wave.specs.declared.lane.Lane.{Lane}
use Rattle.drt_wave.specs.Lane.{IsLane}
use Rattle.drt_wave.specs.Net.{Among}
use Rattle.drt_wave.proofs.Sums.{at_inside, at_there}
use Rattle.drt_wave.proofs.table.WaveTable.of_lanes.Goals as goal

pub invariant_of-table-clause-laned : goal.invariant_of-table-clause-laned
invariant_of-table-clause-laned c =
    let e = c.from_vec.ensures in
    record {
      count = ap length e ∙ c.requires.count;
      each = λ v l el. subst (λ w. IsLane c.args.plan w l) (let same : 0 + v ≡ v = omega arith in same)
          (c.requires.opened.lane v l (sym (ap (λ (xs : List Lane). get_elem? xs v) e) ∙ el));
    }

pub returns-clause-seat : goal.returns-clause-seat
returns-clause-seat c =
    let o = c.requires.opened in let e = c.from_vec.ensures in let len = ap length e in let f = c.in_ok-claims.ensures in
    record {
      claims = f.seat;
      count = o.count ∙ sym len;
      room = omega (arith, o.count, len, c.args.seats.ok.0, c.args.seats.ok.1);
      lane = λ v l y el ey.
          let el' : get_elem? c.args.lanes.items v ≡ some l = sym (ap (λ (xs : List Lane). get_elem? xs v) e) ∙ el in
          let s = o.seat v l y el' ey in (s.0, ap (λ m. m.parts) s.1 ∙ sym (ap (λ m. m.parts) f.fresh));
    }

pub returns-clause-raised : goal.returns-clause-raised
returns-clause-raised c = λ v off x has.
    let o = c.requires.opened in
    let l = at_there c.args.lanes.items v (omega (arith, o.count, at_inside c.args.seats.items v has.0 has.1)) in
    subst (Among (off, x)) (ap (λ m. m.raised) (o.seat v l.0 has.0 l.1 has.1).1) has.2

pub returns-clause-known : goal.returns-clause-known
returns-clause-known c = λ v y at. omega arith
