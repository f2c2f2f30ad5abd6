-- What a board keeps at its start, and what it says of the job that a tick runs.
use Rattle.std.proofs.Common.{◌≡◌, ℕ, ◌<◌, ◌≤◌, List, length, Some, arith}
use Rattle.std.proofs.lemmas.List.{get_or-map, length-map}
use Rattle.drt_model.specs.declared.jobs.Job.{Job}
use Rattle.drt_model.specs.declared.jobs.Policy.{Policy}
use Rattle.drt_model.specs.Trace.{job_at, pick}
use Rattle.drt_model.proofs.MachineLemmas.{pick_pending, in_range, done-zero}
use Rattle.drt_replay.specs.Board.{IsLeft, AreFinishes, needs_of}

module _ (policy : Policy) (jobs : List Job) (n : ℕ) (left : List ℕ) (shown : IsLeft policy jobs n left) where
  pub picked_in_range : (j : ℕ) → pick policy jobs n ≡ Some j → j < length left
  picked_in_range j e = omega (arith, shown.as_many, in_range policy jobs n j (pick_pending policy jobs n j e))

-- at the start
module _ (policy : Policy) (jobs : List Job) where
  pub left-start : IsLeft policy jobs 0 (needs_of jobs)
  left-start = record {
    as_many = length-map jobs (λ job. job.need);
    each = λ j h. omega (arith, done-zero policy jobs j, get_or-map (λ job. job.need) jobs j (record { task = 0; priority = 0; time = 0; deadline = 0; need = 0 }) 0 h);
  }

  pub finishes-start : ((j : ℕ) → j < length jobs → 1 ≤ (job_at jobs j).need) → (ends : List ℕ) → length ends ≡ length jobs → AreFinishes policy jobs 0 (needs_of jobs) ends
  finishes-start h ends many = record {
    as_many = many;
    each = λ j l z. absurd (omega (arith, z, h j l, get_or-map (λ job. job.need) jobs j (record { task = 0; priority = 0; time = 0; deadline = 0; need = 0 }) 0 l));
  }
