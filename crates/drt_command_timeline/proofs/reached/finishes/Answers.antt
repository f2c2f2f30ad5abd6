use Rattle.std.proofs.Common.{ℕ, ap, sym, subst, ◌∙◌}
use Rattle.drt_model.specs.Misses.{IsJob}
use Rattle.drt_replay.specs.Board.{Shown}
use Rattle.drt_command_timeline.proofs.ReachedLemmas.{finish_missing, finish_shown, start_job}
use Rattle.drt_command_timeline.proofs.reached.finishes.Goals as goal

pub finish_time-requires : goal.finish_time-requires
finish_time-requires c =
    let s = c.requires.start in
    let e = ap (λ (b : Shown). b.jobs) c.run_until.ensures ∙ ap (λ (b : Shown). b.jobs) c.in_ok-board.ensures in
    subst (λ js. (x : ℕ) × IsJob js c.args.task 0 x) (sym e) (s.1, start_job c.args.set.now.tasks c.args.releases.now c.args.task s.0 s.1 s.2)

pub returns-in-Some : goal.returns-in-Some
returns-in-Some c =
    finish_shown c.args.set.now.tasks c.args.releases.now c.args.task c.args.ticks c.in-Some.time
    (c.run_until.ensures ∙ ap (λ (b : Shown). record { policy = b.policy; jobs = b.jobs; ticks = c.args.ticks }) c.in_ok-board.ensures) c.in-Some.ensures

pub returns : goal.returns
returns c =
    finish_missing c.args.set.now.tasks c.args.releases.now c.args.task c.args.ticks
    (c.run_until.ensures ∙ ap (λ (b : Shown). record { policy = b.policy; jobs = b.jobs; ticks = c.args.ticks }) c.in_ok-board.ensures) c.in-None.ensures
