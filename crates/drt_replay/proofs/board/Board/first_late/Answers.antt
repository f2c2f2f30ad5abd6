use Rattle.std.proofs.Common.{◌≡◌, ℕ, ◌+◌, ◌<◌, ◌↔◌, IsTrue, MatchOption, length, sym, ◌∙◌, subst, arith}
use Rattle.std.proofs.lemmas.Option.{same_Some}
use Rattle.std.proofs.lemmas.Bool.{both_ways}
use Rattle.drt_replay.specs.Board.{Shown, IsFinishSoFar, IsLateBy, IsLate, IsFirstLate}
use Rattle.drt_replay.proofs.LateLemmas.{FirstBelow, below-more, below-late, below-all}
use Rattle.drt_replay.proofs.board.Board.first_late.Goals as goal
use Rattle.drt_replay.proofs.board.Board.first_late.Goals.{then-is_late, else-is_late}

pub loop-j-preserved : goal.loop-j-preserved
loop-j-preserved c =
    let b = c.self.inside in
    let shown : Shown = record { policy = b.policy; jobs = b.jobs; ticks = b.ticks } in
    let is : shown ≡ c.args.self.now = c.self.view_is in
    let j = c.loop-j.j in
    let below : j < length b.jobs = omega (arith, c.count-j-end.ensures) in
    let so_far = subst (λ s. FirstBelow s j c.loop-j.first) (sym is) c.loop-j.invariant.first in
    let finish = c.finish_at.result in
    let finished : IsFinishSoFar b.policy b.jobs b.ticks j finish = subst (λ s. IsFinishSoFar s.policy s.jobs s.ticks j finish) (sym is) c.finish_at.ensures in
    let late = subst (λ x. IsTrue c.is_late.result ↔ IsLateBy x finish b.ticks) c.job.ensures c.is_late.ensures in
    elim c.if-is_late.branch [
      | then-is_late w ↦
          (let cases = w.earlier.ensures.cases in
          let more = below-late shown j below finish finished c.loop-j.first w.earlier.result so_far (late.0 w.if-is_late.true) cases in
          record {
            first = subst (λ s. FirstBelow s (j + 1) c.if-is_late.first) is (subst (FirstBelow shown (j + 1)) (sym w.first-is) more);
            before = λ x e. (let f : w.earlier.result ≡ x = same_Some w.earlier.result x (sym w.first-is ∙ e) in omega (arith, w.earlier.ensures.in_range));
          })
      | else-is_late w ↦
          (let more = below-more shown j below finish finished c.loop-j.first so_far (λ l. both_ways c.is_late.result w.if-is_late.false (late.1 l)) in
          record {
            first = subst (λ s. FirstBelow s (j + 1) c.if-is_late.first) is (subst (FirstBelow shown (j + 1)) (sym w.first-is) more);
            before = λ x e. (let f = c.loop-j.invariant.before x (sym w.first-is ∙ e) in omega arith);
          })
    ]

pub returns : goal.returns
returns c =
    let b = c.self.inside in
    let shown : Shown = record { policy = b.policy; jobs = b.jobs; ticks = b.ticks } in
    let is : shown ≡ c.args.self.now = c.self.view_is in
    let end : c.loop-j.j ≡ length b.jobs = omega (arith, c.count-j-end.ensures) in
    let so_far = subst (λ s. FirstBelow s c.loop-j.j c.loop-j.first) (sym is) c.loop-j.invariant.first in
    subst (λ s. MatchOption c.loop-j.first ((j : ℕ) → IsLate s j → ⊥) (IsFirstLate s)) is
    (below-all shown c.loop-j.first (subst (λ j. FirstBelow shown j c.loop-j.first) end so_far))
