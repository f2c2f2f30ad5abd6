use Rattle.std.proofs.Common.{◌≡◌, ◌<◌, ◌≤◌, ◌+◌, ℕ, ap, sym, subst, ◌∙◌, length, length-append, arith}
use Rattle.drt_pool.specs.Turns.{EachPlace}
use Rattle.drt_pool.proofs.Places.{places_push}
use Rattle.drt_wave.specs.Openers.{IsOpener}
use Rattle.drt_wave.proofs.opening.start_openers.Goals as goal

pub workers-init : goal.workers-init
workers-init c =
    let e = c.in_ok-openers.ensures in record {
      count = ap length e.items;
      room = e.capacity;
      each = subst (EachPlace (λ place opener. IsOpener c.args.plan.now opener)) (sym e.items) (λ i d lt. absurd (omega arith));
    }

room_left : (len n most cap : ℕ) → len ≡ n → n < most → most ≤ cap → len < cap
room_left len n most cap is lt le = omega arith

pub push_reserved-requires : goal.push_reserved-requires
push_reserved-requires c =
    let inv = c.workers.invariant in room_left _ c.workers._worker c.args.workers _ (c.workers.openers.ok.0 ∙ inv.count) c.workers-test.true inv.room

pub workers-preserved : goal.workers-preserved
workers-preserved c =
    let inv = c.workers.invariant in let old = c.workers.openers.items in record {
      count = ap length c.push_reserved.ensures.items ∙ (length-append old _ ∙ ap (λ n. n + 1) inv.count);
      room = subst (λ cap. c.args.workers ≤ cap) (sym c.push_reserved.ensures.capacity) inv.room;
      each = places_push (λ opener. IsOpener c.args.plan.now opener) old _ _ c.push_reserved.ensures.items inv.each c.in_ok-opener.ensures;
    }

at_the_end : (n most : ℕ) → n ≤ most → most ≤ n → n ≡ most
at_the_end n most le ge = omega arith

pub returns-clause-count : goal.returns-clause-count
returns-clause-count c = c.workers.invariant.count ∙ at_the_end c.workers._worker c.args.workers c.workers.auto._worker-end c.workers-test.false

pub returns-clause-each : goal.returns-clause-each
returns-clause-each c = c.workers.invariant.each
