use Rattle.std.proofs.Common.{subst, sym, ap, ◌∙◌, ℕ, ◌+◌, ◌<◌, ◌≤◌}
use Rattle.drt_wave.specs.Keys.{lane_net, lane_first, lane_count}
use Rattle.drt_wave.proofs.LaneSteps.{glances}
use Rattle.drt_wave.proofs.lane.Lane.glance.Goals as goal

pub load-requires : goal.load-requires
load-requires c =
    let t = c.args.self.now.table in
    (c.requires.seat.id, c.requires.offset, glances lane_net lane_first lane_count t.shared.key _ _ _ _ (subst (λ n. c.args.offset < n) c.args.self.now.counted c.requires.offset))

pub returns-clause-seat : goal.returns-clause-seat
returns-clause-seat c =
    let s = c.load.ensures.2 in let old = c.requires.seat in record {
      id = c.load.ensures.0 ∙ old.id;
      fixed = ap (λ m. m.0.fixed) s.1 ∙ old.fixed;
      slots = ap (λ m. m.1) s.1 ∙ old.slots;
    }

pub returns-clause-learned : goal.returns-clause-learned
returns-clause-learned c = let s = c.load.ensures.2 in (s.0, ap (λ m. m.0) s.1, s.2)

pub returns-clause-read : goal.returns-clause-read
returns-clause-read c = let s = c.load.ensures.2 in (s.3 c.args.self.now.table.shared.key c.requires.seat.fixed).0

pub returns-clause-settled : goal.returns-clause-settled
returns-clause-settled c =
    let s = c.load.ensures.2 in let key = c.args.self.now.table.shared.key in let next : ℕ = (lane_net key).wave (lane_first key + c.args.offset) + 1 in
    λ settled. subst (λ k. next ≤ k) (sym (ap (λ m. m.0.known) s.1)) ((s.3 key c.requires.seat.fixed).1 settled)
