use Rattle.std.proofs.Common.{◌≡◌, ◌-◌, sym, ap, ◌∙◌, arith, Some}
use Rattle.drt_model.specs.Trace.{better}
use Rattle.drt_model.proofs.PickLemmas.{best_from, best_from-past, best_from-all, best_down-pending, best_down-other}
use Rattle.drt_model.proofs.plain.best_pending.Goals as goal

pub loop-j-init : goal.loop-j-init
loop-j-init c = record {
  best = sym (best_from-past c.args.policy c.args.jobs.now c.args.picks.now);
  in_range = λ x e. cc;
}

pub loop-j-preserved-then-is_pending : goal.loop-j-preserved-then-is_pending
loop-j-preserved-then-is_pending c = record {
  best =
      ap Some (c.better.ensures.value ∙ ap (better c.args.policy c.args.jobs.now (c.loop-j.j - 1)) c.loop-j.invariant.best)
      ∙ sym (best_down-pending c.args.policy c.args.jobs.now c.args.picks.now c.loop-j.j (omega arith) (omega arith) (sym c.is_pending.ensures ∙ c.if-is_pending.true));
  in_range = λ x e. (let f : c.better.result ≡ x = cc in rw (← f) c.better.ensures.in_range);
}

pub loop-j-preserved : goal.loop-j-preserved
loop-j-preserved c = record {
  best = c.loop-j.invariant.best ∙ sym (best_down-other c.args.policy c.args.jobs.now c.args.picks.now c.loop-j.j (omega arith) (omega arith) (sym c.is_pending.ensures ∙ c.if-is_pending.false));
  in_range = c.loop-j.invariant.in_range;
}

pub returns : goal.returns
returns c =
    let none_left : c.loop-j.j ≡ 0 = omega arith in
    c.loop-j.invariant.best ∙ ap (best_from c.args.policy c.args.jobs.now c.args.picks.now) none_left ∙ best_from-all c.args.policy c.args.jobs.now c.args.picks.now
