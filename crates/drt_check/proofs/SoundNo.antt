-- A no: a job that misses.
use Rattle.std.proofs.Common.{◌<◌, List, length, arith}
use Rattle.drt_model.proofs.JobLemmas.{length-jobs_of}
use Rattle.drt_model.specs.Legal.{IsLegal}
use Rattle.drt_model.specs.Misses.{IsLeastMiss}
use Rattle.drt_model.specs.Schedulable.{Schedulable, jobs_of}
use Rattle.drt_model.specs.declared.jobs.Miss.{Miss}
use Rattle.drt_model.specs.declared.jobs.Policy.{Policy}
use Rattle.drt_model.specs.declared.jobs.Release.{Release}
use Rattle.drt_model.specs.declared.tasks.Task.{Task}

-- Legal releases with a job that misses refute schedulability, under either policy.
pub no_is_sound : (policy : Policy) (tasks : List Task) (releases : List Release) (miss : Miss) → IsLegal tasks releases → IsLeastMiss policy (jobs_of tasks releases) miss
    → ¬ Schedulable tasks policy
no_is_sound policy tasks releases miss legal misses schedulable =
    let l : misses.job < length releases = omega (arith, misses.here, length-jobs_of tasks releases) in
    schedulable releases legal misses.job l misses.misses
