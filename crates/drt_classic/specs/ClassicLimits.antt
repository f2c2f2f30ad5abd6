-- The limits of classic tasks.
use Rattle.std.specs.Prelude.{◌≢◌, ℕ, ◌≤◌, List, length, All, AllPairs}
use Rattle.drt_model.specs.Limits.{IsName, IsTime}
use Rattle.drt_classic.specs.declared.classic.Frame.{Frame}
use Rattle.drt_classic.specs.declared.classic.Classic.{Classic}
use Rattle.drt_classic.specs.declared.classic.Classic.TheVariants.{Sporadic, Multiframe, Cyclic, Free}
use Rattle.drt_classic.specs.Classics.{name_of, frames_of}

-- The times of a frame are in range, and its deadline is at most its separation.
pub record IsFrame (f : Frame) : Type 0 where
  pub wcet : IsTime f.wcet
  pub deadline : IsTime f.deadline
  pub sep : IsTime f.sep
  pub constrained : f.deadline ≤ f.sep

-- A task whose frames go round has at most 48 of them, one whose frames come in any order at most 16.
abbrev pub most_frames : Classic → ℕ
most_frames (Sporadic name frame) = 48
most_frames (Multiframe name deadline period wcets) = 48
most_frames (Cyclic name frames) = 48
most_frames (Free name frames) = 16

-- A task has a name and at least one frame, not too many, each of them in range.
pub record IsClassic (t : Classic) : Type 0 where
  pub name : IsName (name_of t)
  pub has_frame : 1 ≤ length (frames_of t)
  pub few_frames : length (frames_of t) ≤ most_frames t
  pub frames : All IsFrame (frames_of t)

-- A set has 1 to 16 tasks with distinct names.
pub record IsClassicSet (tasks : List Classic) : Type 0 where
  pub has_task : 1 ≤ length tasks
  pub few_tasks : length tasks ≤ 16
  pub each : All IsClassic tasks
  pub distinct_names : AllPairs (λ s t. name_of s ≢ name_of t) tasks
