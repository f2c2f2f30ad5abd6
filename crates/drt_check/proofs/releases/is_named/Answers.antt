use Rattle.std.proofs.Common.{◌≡◌, eqb-true, eq-eqb, ◌∙◌, sym}
use Rattle.drt_check.proofs.Naming.{due_at, place_named, named_due, named_job, job_place}
use Rattle.drt_model.specs.Schedulable.{jobs_of}
use Rattle.drt_check.proofs.releases.is_named.Goals as goal

pub returns-in-Some : goal.returns-in-Some
returns-in-Some c =
    let due : c.due.result ≡ due_at c.args.tasks.now c.args.releases.now c.in-Some.j = c.due.ensures in (
      λ h. place_named c.args.tasks.now c.args.releases.now c.args.miss c.in-Some.j c.in-Some.ensures (sym due ∙ eqb-true c.due.result c.args.miss.deadline h),
      λ named. eq-eqb c.due.result c.args.miss.deadline (due ∙ named_due c.args.tasks.now c.args.releases.now c.args.miss c.in-Some.j c.in-Some.ensures named),
    )

pub returns-in-None : goal.returns-in-None
returns-in-None c = (
  λ h. absurd (cc),
  λ named. absurd (c.in-None.ensures named.0
      (job_place c.args.tasks.now c.args.releases.now c.args.miss.task c.args.miss.index named.0 (named_job (jobs_of c.args.tasks.now c.args.releases.now) c.args.miss named))),
)
