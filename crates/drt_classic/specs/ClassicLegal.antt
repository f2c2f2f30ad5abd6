-- Which lists of releases a classic set may release.
use Rattle.std.specs.Prelude.{◌≡◌, ℕ, ◌+◌, ◌<◌, ◌≤◌, ◌==◌, if◌then◌else◌, List, length, All, Some, IsSomeAnd, slice_get}
use Rattle.drt_model.specs.declared.jobs.Release.{Release}
use Rattle.drt_model.specs.Legal.{AllNeighbours, part_of, IsLegal}
use Rattle.drt_classic.specs.declared.classic.Frame.{Frame}
use Rattle.drt_classic.specs.declared.classic.Classic.{Classic}
use Rattle.drt_classic.specs.declared.classic.Classic.TheVariants.{Sporadic, Multiframe, Cyclic, Free}
use Rattle.drt_classic.specs.Classics.{frames_of}

-- Among so many frames that go round in order, the one after frame i: the next, and the first after the last.
abbrev pub next_frame : ℕ → ℕ → ℕ
next_frame count i = if i + 1 == count then 0 else i + 1

-- After a release of one of these frames at least its separation passes.
abbrev pub IsApart : List Frame → Release → Release → Type 0
IsApart frames r s = IsSomeAnd (slice_get frames r.vertex) (λ f. r.time + f.sep ≤ s.time)

-- The second release may come next after the first. Of a sporadic task they are at least its period apart; of a multiframe task the frames
-- go round, at least the period apart; of a cyclic one they go round, and after each at least its separation passes; of a free one any
-- frame follows, after at least the separation of the first.
abbrev pub MayFollow : Classic → Release → Release → Type 0
MayFollow (Sporadic name frame) r s = r.time + frame.sep ≤ s.time
MayFollow (Multiframe name deadline period wcets) r s = (s.vertex ≡ next_frame (length wcets) r.vertex) × (r.time + period ≤ s.time)
MayFollow (Cyclic name frames) r s = (s.vertex ≡ next_frame (length frames) r.vertex) × IsApart frames r s
MayFollow (Free name frames) r s = IsApart frames r s

-- The release is of a frame of the task, with a need of 1 to the frame's execution time.
abbrev pub IsFrameRelease : Classic → Release → Type 0
IsFrameRelease t r = IsSomeAnd (slice_get (frames_of t) r.vertex) (λ f. (1 ≤ r.need) × (r.need ≤ f.wcet))

-- A classic list of a task: each release is of one of its frames, and each next one may come after its neighbour.
pub record IsClassicPart (t : Classic) (releases : List Release) : Type 0 where
  pub each : All (IsFrameRelease t) releases
  pub steps : AllNeighbours (MayFollow t) releases

-- A classic list of a set: it stands in order of tasks, and each task's part is a classic list of that task.
pub record IsClassicList (tasks : List Classic) (releases : List Release) : Type 0 where
  pub of_tasks : All (λ r. r.task < length tasks) releases
  pub in_order : AllNeighbours (λ r s. r.task ≤ s.task) releases
  pub parts : (k : ℕ) (t : Classic) → slice_get tasks k ≡ Some t → IsClassicPart t (part_of k releases)
