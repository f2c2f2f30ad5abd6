use Rattle.std.proofs.Common.{◌≡◌, ◌+◌, ◌≤◌, Some, List, take, refl, arith, slice_index_or}
use Rattle.std.specs.Prelude.{slice_get}
use Rattle.std.proofs.lemmas.Option.{slice_get-get_or}
use Rattle.drt_steps.specs.declared.jump.Jump.{Jump}
use Rattle.drt_steps.specs.Jumps.{total_rise, IsNextJump}
use Rattle.drt_steps.proofs.Jumps.{total_more, total_within}
use Rattle.drt_steps.proofs.Merging.{covering_own, covering_other, covering_fails, base_fails}
use Rattle.drt_steps.proofs.merge.stays_above.Goals as goal

pub returns-then-high-low-clause-below : goal.returns-then-high-low-clause-below
returns-then-high-low-clause-below c = λ _. (0, base_fails c.args.own_base c.args.other_base c.args.own.now c.args.other.now c.requires.own_order c.if-high-low.true)

pub overflow_add-high : goal.overflow_add-high
overflow_add-high c =
    let own : List Jump = c.args.own.now in
    let n : IsNextJump 0 own c.loop-j.i c.args.other.now c.loop-j.j = c.if-is_own_next.ensures.own refl in
    let at : slice_get own c.loop-j.i ≡ Some (slice_index_or own c.loop-j.i (record { after = 0; rise = 0 })) = slice_get-get_or own c.loop-j.i (record { after = 0; rise = 0 }) n.within in
    let a : total_rise (take (c.loop-j.i + 1) own) ≡ total_rise (take c.loop-j.i own) + (slice_index_or own c.loop-j.i (record { after = 0; rise = 0 })).rise = total_more
    own c.loop-j.i (slice_index_or own c.loop-j.i (record { after = 0; rise = 0 })) at in
    let b : total_rise (take (c.loop-j.i + 1) own) ≤ total_rise own = total_within own (c.loop-j.i + 1) in
    let e : c.loop-j.high ≡ c.args.own_base + total_rise (take c.loop-j.i own) = c.loop-j.invariant.own_is in
    omega (arith, c.requires.own_small)

pub loop-j-preserved-then-is_own_next : goal.loop-j-preserved-then-is_own_next
loop-j-preserved-then-is_own_next c =
    let own : List Jump = c.args.own.now in
    let other : List Jump = c.args.other.now in
    let m : Jump = slice_index_or own c.loop-j.i (record { after = 0; rise = 0 }) in
    let k : Jump = slice_index_or other c.loop-j.j (record { after = 0; rise = 0 }) in
    let n : IsNextJump 0 own c.loop-j.i other c.loop-j.j = c.if-is_own_next.ensures.own refl in
    let next : slice_get other c.loop-j.j ≡ Some k = slice_get-get_or other c.loop-j.j (record { after = 0; rise = 0 }) c.loop-j-test.true in
    covering_own c.args.own_base c.args.other_base own other c.loop-j.i c.loop-j.j c.loop-j.high c.loop-j.low m k c.loop-j.invariant c.requires.own_order
    (slice_get-get_or own c.loop-j.i (record { after = 0; rise = 0 }) n.within) next (let l : m.after + 0 ≤ k.after = n.first k next in omega arith)

pub overflow_add-low : goal.overflow_add-low
overflow_add-low c =
    let other : List Jump = c.args.other.now in
    let k : Jump = slice_index_or other c.loop-j.j (record { after = 0; rise = 0 }) in
    let at : slice_get other c.loop-j.j ≡ Some k = slice_get-get_or other c.loop-j.j (record { after = 0; rise = 0 }) c.loop-j-test.true in
    let a : total_rise (take (c.loop-j.j + 1) other) ≡ total_rise (take c.loop-j.j other) +
    (slice_index_or other c.loop-j.j (record { after = 0; rise = 0 })).rise = total_more other c.loop-j.j k at in
    let b : total_rise (take (c.loop-j.j + 1) other) ≤ total_rise other = total_within other (c.loop-j.j + 1) in
    let e : c.loop-j.low ≡ c.args.other_base + total_rise (take c.loop-j.j other) = c.loop-j.invariant.other_is in
    omega (arith, c.requires.other_small)

pub returns-then-high-low-2-clause-below : goal.returns-then-high-low-2-clause-below
returns-then-high-low-2-clause-below c = λ _.
    let own : List Jump = c.args.own.now in
    let other : List Jump = c.args.other.now in
    let k : Jump = slice_index_or other c.loop-j.j (record { after = 0; rise = 0 }) in
    let n : IsNextJump 1 other c.loop-j.j own c.loop-j.i = c.if-is_own_next.ensures.other refl in (
      k.after,
      covering_fails c.args.own_base c.args.other_base own other c.loop-j.i c.loop-j.j c.loop-j.high c.loop-j.low k c.loop-j.invariant c.requires.own_order
          c.requires.other_order (slice_get-get_or other c.loop-j.j (record { after = 0; rise = 0 }) c.loop-j-test.true)
          (λ m at. let l : k.after + 1 ≤ m.after = n.first m at in omega arith) c.if-high-low-2.true,
    )

pub loop-j-preserved : goal.loop-j-preserved
loop-j-preserved c =
    let own : List Jump = c.args.own.now in
    let other : List Jump = c.args.other.now in
    let k : Jump = slice_index_or other c.loop-j.j (record { after = 0; rise = 0 }) in
    covering_other c.args.own_base c.args.other_base own other c.loop-j.i c.loop-j.j c.loop-j.high c.loop-j.low k c.loop-j.invariant c.requires.other_order
    (slice_get-get_or other c.loop-j.j (record { after = 0; rise = 0 }) c.loop-j-test.true) c.if-high-low-2.false
