use Rattle.std.proofs.Common.{inl, inr, ◌<◌, ◌≤◌, sym, subst, arith}
use Rattle.std.proofs.lemmas.Bool.{cases_eq}
use Rattle.std.proofs.lemmas.List.Elements.{All-from_get_or, All-get_or}
use Rattle.drt_model.specs.Trace.{job_at}
use Rattle.drt_replay.specs.Events.{IsStretchFrom, IsLater, stretch_at}
use Rattle.drt_replay.proofs.Stretches.{no_stretch}
use Rattle.drt_replay.proofs.events.next_release.Goals as goal
use Rattle.drt_replay.proofs.events.next_release.Goals.{then-stretch, else-stretch}

pub loop-stretch-preserved : goal.loop-stretch-preserved
loop-stretch-preserved c =
    let jobs = c.args.jobs.now in
    let waiting = c.args.waiting.now in
    let i = c.loop-stretch.stretch-index in
    elim c.if-stretch.branch [
      | then-stretch w ↦ record {
        ahead = (let later = All-get_or (IsLater jobs c.args.now) waiting i no_stretch c.loop-stretch-test.true c.requires.later w.if-stretch.true in
            omega (arith, later, w.next-is, w.min-next.ensures, w.time.ensures, c.loop-stretch.invariant.ahead));
        in_time = omega (arith, w.next-is, w.min-next.ensures, c.loop-stretch.invariant.in_time);
        calm = λ k h lt. elim (cases_eq k i) [
          | inl e ↦ subst (λ x. c.if-stretch.next ≤ (job_at jobs (stretch_at waiting x).next).time) (sym e) (omega (arith, w.next-is, w.min-next.ensures, w.time.ensures))
          | inr ne ↦ omega (arith, w.next-is, w.min-next.ensures, c.loop-stretch.invariant.calm k (omega arith) lt)
        ];
      }
      | else-stretch w ↦ record {
        ahead = omega (arith, w.next-is, c.loop-stretch.invariant.ahead);
        in_time = omega (arith, w.next-is, c.loop-stretch.invariant.in_time);
        calm = λ k h lt. elim (cases_eq k i) [
          | inl e ↦ absurd (let some = subst (λ x. (stretch_at waiting x).next < (stretch_at waiting x).end) e lt in omega (arith, some, w.if-stretch.false))
          | inr ne ↦ omega (arith, w.next-is, c.loop-stretch.invariant.calm k (omega arith) lt)
        ];
      }
    ]

pub returns-clause-calm : goal.returns-clause-calm
returns-clause-calm c = All-from_get_or (IsStretchFrom c.args.jobs.now c.loop-stretch.next) c.args.waiting.now no_stretch (λ k h. c.loop-stretch.invariant.calm k (omega arith))
