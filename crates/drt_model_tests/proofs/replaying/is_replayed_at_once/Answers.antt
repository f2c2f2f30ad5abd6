use Rattle.std.proofs.Common.{ℕ, refl, sym, ap, ◌∙◌, subst, arith}
use Rattle.drt_model.specs.Misses.{IsJob}
use Rattle.drt_replay.specs.Board.{Shown}
use Rattle.drt_model_tests.proofs.replaying.is_replayed_at_once.Goals as goal

pub finish_time-near_end-requires : goal.finish_time-near_end-requires
finish_time-near_end-requires c =
    let e = ap (λ (s : Shown). s.jobs) c.run_until-2.ensures ∙ ap (λ (s : Shown). s.jobs) c.run_until.ensures ∙ ap (λ (s : Shown). s.jobs) c.in_ok-board.ensures in
    subst (λ js. (x : ℕ) × IsJob js 0 0 x) (sym e) (0, record { here = omega arith; task_is = refl; index_is = refl })

pub finish_time-far_end-requires : goal.finish_time-far_end-requires
finish_time-far_end-requires c =
    let e = ap (λ (s : Shown). s.jobs) c.run_until-2.ensures ∙ ap (λ (s : Shown). s.jobs) c.run_until.ensures ∙ ap (λ (s : Shown). s.jobs) c.in_ok-board.ensures in
    subst (λ js. (x : ℕ) × IsJob js 0 1 x) (sym e) (1, record { here = omega arith; task_is = refl; index_is = refl })
