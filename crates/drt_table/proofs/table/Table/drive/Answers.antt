use Rattle.std.proofs.Common.{◌≡◌, ℕ, ◌+◌, ◌-◌, ◌<◌, sym, ◌∙◌, arith}
use Rattle.drt_table.proofs.Driving.{drives_start, drives_more, drives_stop, turn_less}
use Rattle.drt_table.proofs.table.Table.drive.Goals as goal

pub loop-self-preserved : goal.loop-self-preserved
loop-self-preserved g c =
    drives_more g.L.Label.algebra c.args.worker c.args.self c.loop-self.self c.turn.new.self c.in_ok-reply.reply c.loop-self.invariant
    (c.in_ok-reply.ensures.turn.went_on (sym c.ends.ensures ∙ c.if-ends.false))

less_left : (new old after before : ℕ) → new ≡ old → after ≡ before + 1 → before < old → new - after < old - before
less_left new old after before same more lt = omega arith

pub loop-self-init : goal.loop-self-init
loop-self-init g c = drives_start g.L.Label.algebra c.args.worker c.args.self

pub loop-self-smaller : goal.loop-self-smaller
loop-self-smaller g c =
    let less = turn_less g.L.Label.algebra c.args.worker c.loop-self.self c.turn.new.self c.in_ok-reply.reply (c.in_ok-reply.ensures.turn.went_on (sym c.ends.ensures ∙ c.if-ends.false)) in
    less_left _ _ _ _ less.0 less.1 less.2

pub returns-then-ends-clause-drives : goal.returns-then-ends-clause-drives
returns-then-ends-clause-drives g c =
    drives_stop g.L.Label.algebra c.args.worker c.args.self c.loop-self.self c.turn.new.self c.in_ok-reply.reply c.loop-self.invariant
    (c.in_ok-reply.ensures.turn.stopped (sym c.ends.ensures ∙ c.if-ends.true))

pub returns-then-ends-clause-stops : goal.returns-then-ends-clause-stops
returns-then-ends-clause-stops g c = (c.in_ok-reply.ensures.turn.stopped (sym c.ends.ensures ∙ c.if-ends.true)).stops
