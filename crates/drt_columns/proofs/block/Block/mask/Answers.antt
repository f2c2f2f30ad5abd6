use Rattle.drt_columns.proofs.Masks.{mask_first, mask_next}
use Rattle.drt_columns.proofs.block.Block.mask.Goals as goal
use Rattle.drt_columns.proofs.block.Block.mask.Goals.{After-rule_out}
use Rattle.drt_columns.specs.Slots.{IsMask}

narrowed : (c : After-rule_out) → IsMask c.args.self.now c.args.samples.now c.rule_out.new.mask
narrowed c =
    rw (← c.self.view_is)
    (mask_next c.self.inside.numbers c.self.inside.columns c.self.inside.count c.args.samples.now c.loop-k.mask c.rule_out.new.mask c.loop-k.k
    (rw c.self.view_is c.loop-k.invariant) c.rule_out.ensures)

pub loop-k-init : goal.loop-k-init
loop-k-init c = rw (← c.self.view_is)
    (mask_first c.self.inside.numbers c.self.inside.columns c.self.inside.count c.args.samples.now c.used_slots-mask.result c.used_slots-mask.ensures.used c.used_slots-mask.ensures.all)

pub returns-then-rule_out-eq0 : goal.returns-then-rule_out-eq0
returns-then-rule_out-eq0 c = narrowed (goal.at.returns-then-rule_out-eq0 c).After-rule_out

pub loop-k-preserved : goal.loop-k-preserved
loop-k-preserved c = narrowed (goal.at.loop-k-preserved c).After-rule_out
