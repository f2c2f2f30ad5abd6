use Rattle.std.proofs.Common.{◌≡◌, ℕ, ◌+◌, ◌≤◌, Some, List, take, refl, sym, ap, ◌∙◌, subst, arith, slice_index_or, max}
use Rattle.std.specs.Prelude.{slice_get}
use Rattle.std.proofs.lemmas.Option.{slice_get-get_or}
use Rattle.drt_steps.specs.declared.jump.Jump.{Jump}
use Rattle.drt_steps.specs.Jumps.{total_rise, IsNextJump, grown_jumps}
use Rattle.drt_steps.proofs.Jumps.{total_more, total_within}
use Rattle.drt_steps.proofs.Merging.{Merging, merging_own, merging_other}
use Rattle.drt_steps.proofs.merge.merged.Goals as goal

pub overflow_add-first : goal.overflow_add-first
overflow_add-first c =
    let own : List Jump = c.args.own.now in
    let n : IsNextJump 0 own c.loop-i.i c.args.other.now c.loop-i.j = c.if-is_own_next.ensures.own refl in
    let at : slice_get own c.loop-i.i ≡ Some (slice_index_or own c.loop-i.i (record { after = 0; rise = 0 })) = slice_get-get_or own c.loop-i.i (record { after = 0; rise = 0 }) n.within in
    let a : total_rise (take (c.loop-i.i + 1) own) ≡ total_rise (take c.loop-i.i own) + (slice_index_or own c.loop-i.i (record { after = 0; rise = 0 })).rise = total_more
    own c.loop-i.i (slice_index_or own c.loop-i.i (record { after = 0; rise = 0 })) at in
    let b : total_rise (take (c.loop-i.i + 1) own) ≤ total_rise own = total_within own (c.loop-i.i + 1) in
    let e : c.loop-i.first ≡ c.args.own_base + total_rise (take c.loop-i.i own) = c.loop-i.invariant.own_is in
    omega (arith, c.requires.own_small)

pub loop-i-preserved-then-is_own_next : goal.loop-i-preserved-then-is_own_next
loop-i-preserved-then-is_own_next c =
    let own : List Jump = c.args.own.now in
    let other : List Jump = c.args.other.now in
    let p : ℕ = c.args.own_base in
    let q : ℕ = c.args.other_base in
    let x : ℕ = c.loop-i.first in
    let y : ℕ = c.loop-i.second in
    let k : Jump = slice_index_or own c.loop-i.i (record { after = 0; rise = 0 }) in
    let n : IsNextJump 0 own c.loop-i.i other c.loop-i.j = c.if-is_own_next.ensures.own refl in
    let r : Merging p q own other (c.loop-i.i + 1) c.loop-i.j (x + k.rise) y (grown_jumps k.after (max x y) (max (x + k.rise) y) c.loop-i.jumps.items) =
    merging_own p q own other c.loop-i.i c.loop-i.j x y c.loop-i.jumps.items k c.loop-i.invariant c.requires.own_order
    (slice_get-get_or own c.loop-i.i (record { after = 0; rise = 0 }) n.within) (λ o at. let l : k.after + 0 ≤ o.after = n.first o at in omega arith) in
    let e : grown_jumps k.after (max x y) (max (x + k.rise) y) c.loop-i.jumps.items ≡ c.grow.new.jumps.items =
    ap (λ z. grown_jumps k.after z (max (x + k.rise) y) c.loop-i.jumps.items) (sym c.max-before.ensures)
    ∙ (ap (λ z. grown_jumps k.after c.max-before.result z c.loop-i.jumps.items) (sym c.max.ensures) ∙ sym c.in_ok-grow.ensures) in
    subst (λ (js : List Jump). Merging p q own other (c.loop-i.i + 1) c.loop-i.j (x + k.rise) y js) e r

pub overflow_add-second : goal.overflow_add-second
overflow_add-second c =
    let other : List Jump = c.args.other.now in
    let n : IsNextJump 1 other c.loop-i.j c.args.own.now c.loop-i.i = c.if-is_own_next.ensures.other refl in
    let at : slice_get other c.loop-i.j ≡ Some (slice_index_or other c.loop-i.j (record { after = 0; rise = 0 })) = slice_get-get_or other c.loop-i.j (record { after = 0; rise = 0 }) n.within in
    let a : total_rise (take (c.loop-i.j + 1) other) ≡ total_rise (take c.loop-i.j other) +
    (slice_index_or other c.loop-i.j (record { after = 0; rise = 0 })).rise = total_more other c.loop-i.j (slice_index_or other c.loop-i.j (record { after = 0; rise = 0 })) at in
    let b : total_rise (take (c.loop-i.j + 1) other) ≤ total_rise other = total_within other (c.loop-i.j + 1) in
    let e : c.loop-i.second ≡ c.args.other_base + total_rise (take c.loop-i.j other) = c.loop-i.invariant.other_is in
    omega (arith, c.requires.other_small)

pub loop-i-preserved : goal.loop-i-preserved
loop-i-preserved c =
    let own : List Jump = c.args.own.now in
    let other : List Jump = c.args.other.now in
    let p : ℕ = c.args.own_base in
    let q : ℕ = c.args.other_base in
    let x : ℕ = c.loop-i.first in
    let y : ℕ = c.loop-i.second in
    let k : Jump = slice_index_or other c.loop-i.j (record { after = 0; rise = 0 }) in
    let n : IsNextJump 1 other c.loop-i.j own c.loop-i.i = c.if-is_own_next.ensures.other refl in
    let r : Merging p q own other c.loop-i.i (c.loop-i.j + 1) x (y + k.rise) (grown_jumps k.after (max x y) (max x (y + k.rise)) c.loop-i.jumps.items) =
    merging_other p q own other c.loop-i.i c.loop-i.j x y c.loop-i.jumps.items k c.loop-i.invariant c.requires.other_order
    (slice_get-get_or other c.loop-i.j (record { after = 0; rise = 0 }) n.within) (λ o at. let l : k.after + 1 ≤ o.after = n.first o at in omega arith) in
    let e : grown_jumps k.after (max x y) (max x (y + k.rise)) c.loop-i.jumps.items ≡ c.grow-else-is_own_next.new.jumps.items =
    ap (λ z. grown_jumps k.after z (max x (y + k.rise)) c.loop-i.jumps.items) (sym c.max-before.ensures)
    ∙ (ap (λ z. grown_jumps k.after c.max-before.result z c.loop-i.jumps.items) (sym c.max-else-is_own_next.ensures) ∙ sym c.in_ok-grow-2.ensures) in
    subst (λ (js : List Jump). Merging p q own other c.loop-i.i (c.loop-i.j + 1) x (y + k.rise) js) e r
